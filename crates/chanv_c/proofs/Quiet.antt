-- Over quiet storage a copy of what a program was found to keep holds what storage holds, and over it
-- the program keeps just that.
use Rattle.std.proofs.Common.{◌∙◌, ◌≡◌, ◌≢◌, ◌<◌, ◌≤◌, ◌+◌, ◌++◌, ◌⊎◌, ◌∷◌, [], ℕ, List, true, ap, arith, drop, inl, inr, length, refl, subst, sym, take}
use Rattle.std.proofs.lemmas.Bool.{both_ways, cases_lt, le-leb}
use Rattle.std.proofs.lemmas.Grind.{common_steps}
use Rattle.std.proofs.lemmas.List.Elements.{All-head, All-tail}
use Rattle.std.specs.List.{All}
use Rattle.ccw_core.specs.declared.areas.Area.{Area}
use Rattle.ccw_core.specs.Areas.{lies_in}
use Rattle.ccw_core.specs.Ccw.{byte}
use Rattle.ccw_core.proofs.Covering.{lies_in-nil}
use Rattle.chan_areas.specs.Merged.{AreExactly, IsByteOf}
use Rattle.chan_walk.specs.Verdict.{IsVerdict}
use Rattle.chan_areas.proofs.Merging.{exactly_one, lies_in-cases}
use Rattle.chan_walk.specs.Job.{storage_of}
use Rattle.chan_walk.specs.declared.job.Job.{Job}
use Rattle.chan_walk.specs.declared.reason.Reason.{Reason}
use Rattle.chan_walk.specs.declared.verdict.Verdict.TheVariants.{Yes, No}
use Rattle.chan_walk.specs.Answers.{HasAtMost}
use Rattle.chan_walk.specs.OpenJob.{open_job}
use Rattle.chan_walk.proofs.Algorithms.Counting.{few_among}
use Rattle.chan_walk.proofs.Algorithms.OneVerdict.{one_verdict}
use Rattle.chan_walk.proofs.Algorithms.Opened.{open_job_is_open}
use Rattle.chan_needs.specs.Needs.{IsKept, KeepsProgram}
use Rattle.chan_needs.specs.Remembered.{HoldsAreas, IsInside}
use Rattle.chan_needs.proofs.Inside.{kept_inside}
use Rattle.chan_needs.proofs.Remembering.{kept_same, same_device, yes_open}
use Rattle.chan_needs.proofs.Staying.{holds_over, reached_same}
use Rattle.chanv_c.specs.declared.c_job.CJob.{CJob}
use Rattle.chanv_c.specs.declared.refusal.Refusal.{Refusal}
use Rattle.chanv_c.specs.declared.refusal.Refusal.TheVariants.{Memory, TooManyPlaces, Wrong}
use Rattle.chanv_c.specs.Answers.{IsRefusal}
use Rattle.chanv_c.specs.declared.refusal.JobFault.{JobFault}
use Rattle.chanv_c.specs.declared.refusal.JobFault.TheVariants.{StorageTooLarge, NotADevice, NotAMask, NoExtent, ExtentBackwards, ExtentPastDevice, NotALimit}
use Rattle.chanv_c.specs.Faults.{HasJobFault, HasNoFault}
use Rattle.chanv_c.specs.Job.{IsAskedJob, extents_asked}
use Rattle.chanv_c.specs.Needs.{AreKeptOf, AsksOverCopy, HasTooManyOpenly, KeepsOtherAreas, with_area, with_areas}

-- areas of storage s
module _ (s : List ℕ) where
  long_one : (a : Area) (copy : List ℕ) → length copy ≡ length s → IsInside s a → length (with_area s a copy) ≡ length s
  long_one a copy long inside =
      rw (le-leb (a.start + a.len) (length s) inside, le-leb (a.start + a.len) (length copy) (omega (arith, inside, long))) (grind (arith, common_steps))

  -- a byte of the area, or one that the copy holds as storage does
  held_one : (a : Area) (copy : List ℕ) (b : ℕ) → length copy ≡ length s → IsInside s a → IsByteOf a b ⊎ (byte copy b ≡ byte s b)
      → byte (with_area s a copy) b ≡ byte s b
  held_one a copy b long inside h =
      rw (le-leb (a.start + a.len) (length s) inside, le-leb (a.start + a.len) (length copy) (omega (arith, inside, long)))
      (go (cases_lt b a.start) (cases_lt b (a.start + a.len)) h)
    where
      go : (b < a.start) ⊎ (a.start ≤ b) → (b < a.start + a.len) ⊎ (a.start + a.len ≤ b) → IsByteOf a b ⊎ (byte copy b ≡ byte s b)
          → byte ((take a.start copy ++ take a.len (drop a.start s)) ++ drop (a.start + a.len) copy) b ≡ byte s b
      go (inr from) (inl below) h = grind (arith, common_steps)
      go (inl before) past (inr same) = grind (arith, common_steps)
      go (inr from) (inr past) (inr same) = grind (arith, common_steps)
      go (inl before) past (inl of) = absurd (omega (arith, before, of.0))
      go (inr from) (inr past) (inl of) = absurd (omega (arith, past, of.1))

  -- what is copied is held, and what is held stays
  held_all : (areas : List Area) (copy : List ℕ) (b : ℕ) → length copy ≡ length s → All (IsInside s) areas
      → (lies_in areas b ≡ true) ⊎ (byte copy b ≡ byte s b) → byte (with_areas s areas copy) b ≡ byte s b
  held_all [] copy b long inside (inl h) = absurd (both_ways _ (lies_in-nil b) h)
  held_all [] copy b long inside (inr same) = same
  held_all (a ∷ areas) copy b long inside h =
      let first = All-head (IsInside s) a areas inside in
      held_all areas (with_area s a copy) b (long_one a copy long first) (All-tail (IsInside s) a areas inside) (go first h)
    where
      go : IsInside s a → (lies_in (a ∷ areas) b ≡ true) ⊎ (byte copy b ≡ byte s b) → (lies_in areas b ≡ true) ⊎ (byte (with_area s a copy) b ≡ byte s b)
      go first (inr same) = inr (held_one a copy b long first (inr same))
      go first (inl h) = or_held first (lies_in-cases a areas b h)
        where
          or_held : IsInside s a → IsByteOf a b ⊎ (lies_in areas b ≡ true) → (lies_in areas b ≡ true) ⊎ (byte (with_area s a copy) b ≡ byte s b)
          or_held first (inl of) = inr (held_one a copy b long first (inl of))
          or_held first (inr later) = inl later

-- the program of c was found to keep these areas, and what it keeps is copied
module _ (c : CJob) (areas : List Area) (old copy : List ℕ) (found : AreKeptOf c areas)
    (long : (length old ≡ length c.storage.now) × (length copy ≡ length old)) (copied : copy ≡ with_areas c.storage.now areas old) where
  abbrev j : Job
  j = found.judged.is_open.job

  copy_held : (b : ℕ) → lies_in areas b ≡ true → byte copy b ≡ byte c.storage.now b
  copy_held b h =
      let there = subst (λ (s : List ℕ). All (IsInside s) areas) found.judged.is_open.asked.storage (kept_inside j areas found.keep) in
      ap (λ (s : List ℕ). byte s b) copied
      ∙ held_all c.storage.now areas old b long.0 there (inl h)

  -- storage holds what the copy holds
  pub copy_agrees : (kept : List ℕ) → HoldsAreas copy areas kept → HoldsAreas c.storage.now areas kept
  copy_agrees kept held = holds_over copy c.storage.now (sym (long.1 ∙ long.0)) areas kept (λ b m. sym (copy_held b m)) held

  -- a job d asks about the same program over the copy
  module _ (d : CJob) (over : AsksOverCopy c copy d) where
    module _ (k : Job) (asked : IsAskedJob d k) where
      -- the bytes of j's storage and of k's
      here : storage_of j ≡ c.storage.now
      here = found.judged.is_open.asked.storage

      there : storage_of k ≡ copy
      there = asked.storage ∙ over.storage

      keeps : KeepsProgram j k
      keeps = record {
        storage = record {
          same_length = ap (λ (s : List ℕ). length s) there ∙ over.same_length ∙ sym (ap (λ (s : List ℕ). length s) here);
          same = λ b is_kept. ap (λ (s : List ℕ). byte s b) there
              ∙ copy_held b ((found.keep.bytes b).1 is_kept)
              ∙ sym (ap (λ (s : List ℕ). byte s b) here);
        };
        start = found.judged.is_open.asked.start ∙ sym (asked.start ∙ over.start);
        device = same_device j.device k.device (found.judged.is_open.asked.device ∙ sym (asked.device ∙ over.device));
      }

      stays_yes : IsVerdict (open_job k) Yes
      stays_yes = yes_open j k keeps found.judged.verdict

      stay : AreExactly (IsKept k) areas
      stay =
          let same = kept_same j k keeps found.judged.verdict in
          record { merged = found.keep.merged; bytes = λ b. ((λ l. (same b).0 ((found.keep.bytes b).0 l)), λ g. (found.keep.bytes b).1 ((same b).1 g)) }

    no_refusal : (e : Refusal) → HasNoFault d → e ≢ Memory → IsRefusal (HasTooManyOpenly d) d e → ⊥
    no_refusal Memory right not is = not refl
    no_refusal (Wrong f) right not is = right f is.applies
    no_refusal TooManyPlaces right not is = go is.0
      where
        go : HasTooManyOpenly d → ⊥
        go many =
            let k = many.is_open.job in
            let there = (open_job_is_open k many.opened many.is_open.is_open).0 in
            let here = (open_job_is_open j found.judged.opened found.judged.is_open.is_open).0 in
            let same = reached_same j k (keeps k many.is_open.asked) found.judged.verdict in
            let limit : found.judged.opened.limit ≡ d.limit = found.judged.is_open.is_open.limit ∙ found.judged.is_open.asked.limit ∙ sym over.limit in
            few_among found.judged.opened many.opened d.limit (λ p r. (here p).1 ((same p).1 ((there p).0 r)))
            (subst (HasAtMost found.judged.opened) limit found.judged.answer.few) many.many

    yes_is_no : {a : ℕ} {r : Reason} → Yes ≡ No a r → ⊥
    yes_is_no e = cc

    keeps_these : HasNoFault d → KeepsOtherAreas d areas → ⊥
    keeps_these right (inl h) = no_refusal h.0 right h.1 h.2
    keeps_these right (inr (inl h)) =
        let k = h.2.is_open.job in
        yes_is_no (one_verdict (open_job k) Yes (No h.0 h.1) (stays_yes k h.2.is_open.asked) h.2.verdict)
    keeps_these right (inr (inr h)) =
        let k = h.2.judged.is_open.job in
        h.3 (exactly_one (IsKept k) h.0.keep areas h.2.needs.keep (stay k h.2.judged.is_open.asked))

-- a job over a copy that is as long has no fault either
right_over : (c d : CJob) → length d.storage.now ≡ length c.storage.now → d.device ≡ c.device → d.mask ≡ c.mask
    → extents_asked d ≡ extents_asked c → d.limit ≡ c.limit → HasNoFault c → HasNoFault d
right_over c d long device mask extents limit right f h = right f (there f h)
  where
    there : (f : JobFault) → HasJobFault d f → HasJobFault c f
    there StorageTooLarge h = rw long at h
    there NotADevice h = rw device at h
    there NotAMask h = rw mask at h
    there NoExtent h = rw extents at h
    there (ExtentBackwards i) h = rw extents at h
    there (ExtentPastDevice i) h = rw extents at h
    there NotALimit h = rw limit at h

-- so over quiet storage the program keeps no other areas
pub nothing_changed : (c : CJob) (areas : List Area) (old copy : List ℕ) {d : CJob} → AreKeptOf c areas
    → (length old ≡ length c.storage.now) × (length copy ≡ length old) → copy ≡ with_areas c.storage.now areas old → KeepsOtherAreas d areas
    → AsksOverCopy c copy d → HasNoFault c → d.mask ≡ c.mask → extents_asked d ≡ extents_asked c → ⊥
nothing_changed c areas old copy {d = d} found long copied others over right mask extents =
    keeps_these c areas old copy found long copied d over
    (right_over c d (ap (λ (s : List ℕ). length s) over.storage ∙ over.same_length) over.device mask extents over.limit right) others
