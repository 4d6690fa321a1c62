-- What was found of a program over one storage is true over each other that is the same in the kept
-- bytes.
use Rattle.chan_needs.proofs.Names.{[], Area, argument_unique, arith, begins, begins_recalibrate, begins_seek, begins_set_mask, byte, bytes_held, ccw_of, check_stands, clear_check, data_under_yes, drop, false, fetch_of, fetches, Fields, GrantsListed, HasArgument, HoldsAreas, HoldsByte, inhibits, inl, inr, is_at_least, IsFirstChanged, IsFirstChangedIn, IsLeastOf, IsNeededCylinder, IsReachable, IsSameIn, IsVerdict, Job, KeepsProgram, length, lies_in, lies_in-first, lies_in-rest, List, Listed, listed_in, MaskServes, MaskServesAt, open_job, Option, Place, refl, Remembered, same_data, same_under_yes, SeeksTo, Some, Stands, storage_of, store_of, subst, sym, true, with_storage, Yes, yes_clear, ℕ, ◌+◌, ◌<◌, ◌↔◌, ◌∙◌, ◌∷◌, ◌≡◌}
use Rattle.chan_walk.proofs.Algorithms.VerdictBytes.{argument_to, ccw_same, mask_byte_same}
use Rattle.chan_walk.proofs.Theory.Chains.{argument_exists}
use Rattle.chan_walk.proofs.Theory.Transport.{same_reached}
use Rattle.chan_needs.specs.Needs.{IsNeededForFetching}
use Rattle.ccw_core.specs.declared.storage.Storage.{Storage}
use Rattle.chan_needs.specs.declared.start.Start.TheVariants as answer
use Rattle.chan_needs.specs.declared.start.StartRefusal.{StartRefusal}
use Rattle.chan_needs.specs.declared.start.StartRefusal.TheVariants as why
use Rattle.chan_needs.specs.Remembered.{HoldsKept}
use Rattle.chan_needs.specs.Start.{HasChanged, IsLent, IsNotGranted, IsOfAnother, IsOfProgram, IsStartRefusal, LacksByte}
use Rattle.chan_needs.specs.Staying.{AnswerStays, HeldStaysTrue, NeedsStay}
use Rattle.chan_needs.proofs.Masking.{strictest_same}
use Rattle.chan_needs.proofs.Needed.{store_and_keep}
use Rattle.chan_needs.proofs.Remembering.{carry, counted, open_there, lists_stay, same_device, same_held, there, yes_open, yes_there}

module _ (j k : Job) (keeps : KeepsProgram j k) (v : IsVerdict (open_job j) Yes) where
  abbrev mid : Job
  mid = there j k keeps v

  both : {A B C : Type 0} → A ↔ B → B ↔ C → A ↔ C
  both f g = ((λ a. g.0 (f.0 a)), λ c. f.1 (g.1 c))

  -- the same places are reachable
  pub reached_same : (p : Place) → IsReachable (open_job j) p ↔ IsReachable (open_job k) p
  reached_same p =
      both (same_reached (open_job j) mid refl (carry j k keeps v) p)
      ((same_under_yes mid (open_job k) (open_there j k keeps v) (yes_there j k keeps v) (yes_open j k keeps v)).0 p)

  -- and fetched from
  fetched_same : (b : ℕ) → IsNeededForFetching j b ↔ IsNeededForFetching k b
  fetched_same b =
      both (same_data (open_job j) mid refl (carry j k keeps v) (yes_clear (open_job j) v) (yes_clear mid (yes_there j k keeps v)) fetches b)
      (data_under_yes mid (open_job k) (open_there j k keeps v) (yes_there j k keeps v) (yes_open j k keeps v) fetches b)

  module _ (p : Place) (r : IsReachable (open_job j) p) where
    stands : Stands (storage_of j) p.address
    stands = check_stands (storage_of j) p (clear_check (open_job j) p (yes_clear (open_job j) v p r))

    same : ccw_of j p ≡ ccw_of k p
    same = ccw_same (open_job j) k.storage (counted j k keeps v) p r stands

    admits_same : (b : begins_set_mask p (ccw_of j p) ≡ true) → byte (storage_of j) (ccw_of j p).address ≡ byte (storage_of k) (ccw_of k p).address
    admits_same b =
        subst (λ (c : Fields). byte (storage_of j) (ccw_of j p).address ≡ byte (storage_of k) c.address) same
        (mask_byte_same (open_job j) k.storage (counted j k keeps v) p r b)

    serves_to : (m : ℕ) → MaskServesAt j p m → MaskServesAt k p m
    serves_to m h = record {
      permits = subst (λ (c : Fields). begins p c ≡ true → inhibits m c.command ≡ false) same h.permits;
      admits = λ b. let c = subst (λ (c : Fields). begins_set_mask p c ≡ true) (sym same) b in subst (λ x. is_at_least x m ≡ true) (admits_same c) (h.admits c);
    }

    serves_from : (m : ℕ) → MaskServesAt k p m → MaskServesAt j p m
    serves_from m h = record {
      permits = subst (λ (c : Fields). begins p c ≡ true → inhibits m c.command ≡ false) (sym same) h.permits;
      admits = λ b. let c = subst (λ (c : Fields). begins_set_mask p c ≡ true) same b in subst (λ x. is_at_least x m ≡ true) (sym (admits_same b)) (h.admits c);
    }

    argument_there : (x : Option (List ℕ)) → begins_seek p (ccw_of j p) ≡ true → HasArgument (storage_of j) p.address x → HasArgument (storage_of k) p.address x
    argument_there x b a = argument_to (open_job j) k.storage (counted j k keeps v) p r b x a

    seeks_to : (x : List ℕ) → SeeksTo j p x → SeeksTo k p x
    seeks_to x (inl h) = inl (subst (λ (c : Fields). begins_seek p c ≡ true) same h.0, argument_there (Some x) h.0 h.1)
    seeks_to x (inr h) = inr (subst (λ (c : Fields). begins_recalibrate p c ≡ true) same h.0, h.1)

    seeks_from : (x : List ℕ) → SeeksTo k p x → SeeksTo j p x
    seeks_from x (inr h) = inr (subst (λ (c : Fields). begins_recalibrate p c ≡ true) (sym same) h.0, h.1)
    seeks_from x (inl h) =
        let b : begins_seek p (ccw_of j p) ≡ true = subst (λ (c : Fields). begins_seek p c ≡ true) (sym same) h.0 in
        let y = argument_exists (storage_of j) p.address in
        let e : y.0 ≡ Some x = argument_unique (storage_of k) p.address y.0 (Some x) (argument_there y.0 b y.1) h.1 in
        inl (b, subst (λ (o : Option (List ℕ)). HasArgument (storage_of j) p.address o) e y.1)

  serves_same : (m : ℕ) → MaskServes j m ↔ MaskServes k m
  serves_same m = (
    (λ f p r. let q = (reached_same p).1 r in serves_to p q m (f p q)),
    λ f p r. serves_from p r m (f p ((reached_same p).0 r)),
  )

  sought_same : (c : ℕ) → IsNeededCylinder j c ↔ IsNeededCylinder k c
  sought_same c = (
    (λ h. record {
      place = h.place;
      reached = (reached_same h.place).0 h.reached;
      argument = h.argument;
      seeks = seeks_to h.place h.reached h.argument h.seeks;
      at = h.at;
    }),
    λ h.
        let r = (reached_same h.place).1 h.reached in
        record { place = h.place; reached = r; argument = h.argument; seeks = seeks_from h.place r h.argument h.seeks; at = h.at },
  )

pub needs_stay : NeedsStay
needs_stay j k n keeps h =
    let v = h.verdict in
    let lists = lists_stay j k keeps v n (store_and_keep j n h) in
    record {
      verdict = yes_open j k keeps v;
      storage_len = h.storage_len ∙ sym keeps.storage.same_length;
      mask = strictest_same (MaskServes j) (MaskServes k) n.mask (serves_same j k keeps v) h.mask;
      extents = record { rising = h.extents.rising; cylinders = λ c. both j k keeps v (h.extents.cylinders c) (sought_same j k keeps v c) };
      fetch = record { merged = h.fetch.merged; bytes = λ b. both j k keeps v (h.fetch.bytes b) (fetched_same j k keeps v b) };
      store = lists.store;
      keep = lists.keep;
    }

-- a job's storage that holds what is remembered is the same in the kept bytes
pub held_stays_true : HeldStaysTrue
held_stays_true j k p h start device len held =
    let keeps : KeepsProgram j k = record {
      storage = record {
        same_length = len;
        same = λ b kept. same_held (storage_of j) (storage_of k) p.needs.keep.now p.kept.now b h.kept held ((h.needs.keep.bytes b).1 kept);
      };
      start = h.start ∙ sym start;
      device = same_device j.device k.device (h.device ∙ sym device);
    } in
    record { needs = needs_stay j k (listed_in p.needs) keeps h.needs; start = start; device = device; kept = held }

-- ---- between a question and the start

-- storages s and u are as long, and the same in the bytes of some areas
module _ (s u : List ℕ) (len : length u ≡ length s) where
  same_holds : (a : Area) (kept : List ℕ) (i : ℕ) → byte u (a.start + i) ≡ byte s (a.start + i) → HoldsByte s a kept i ↔ HoldsByte u a kept i
  same_holds a kept i same = (
    (λ h. (subst (λ n. a.start + i < n) (sym len) h.0, h.1, same ∙ h.2)),
    λ h. (subst (λ n. a.start + i < n) len h.0, h.1, sym same ∙ h.2),
  )

  same_changed_in : (a : Area) (kept : List ℕ) (b : ℕ) → ((i : ℕ) → i < a.len → byte u (a.start + i) ≡ byte s (a.start + i))
      → IsFirstChangedIn s a kept b → IsFirstChangedIn u a kept b
  same_changed_in a kept b same c = record {
    number = c.number;
    within = c.within;
    at = c.at;
    before = λ i l. let w = c.within in (same_holds a kept i (same i (omega (arith, l, w)))).0 (c.before i l);
    changed = λ h. c.changed ((same_holds a kept c.number (same c.number c.within)).1 h);
  }

  pub holds_over : (areas : List Area) (kept : List ℕ) → ((b : ℕ) → lies_in areas b ≡ true → byte u b ≡ byte s b)
      → HoldsAreas s areas kept → HoldsAreas u areas kept
  holds_over [] kept same h = tt
  holds_over (a ∷ areas) kept same h = (
    (λ i l. (same_holds a kept i (same (a.start + i) (lies_in-first a areas (a.start + i) (omega arith, omega (arith, l))))).0 (h.0 i l)),
    holds_over areas (drop a.len kept) (λ b m. same b (lies_in-rest a areas b m)) h.1,
  )

  changed_over : (areas : List Area) (kept : List ℕ) (b : ℕ) → ((b : ℕ) → lies_in areas b ≡ true → byte u b ≡ byte s b)
      → IsFirstChanged s areas kept b → IsFirstChanged u areas kept b
  changed_over [] kept b same c = absurd c
  changed_over (a ∷ areas) kept b same (inl c) =
      inl (same_changed_in a kept b (λ i l. same (a.start + i) (lies_in-first a areas (a.start + i) (omega arith, omega (arith, l)))) c)
  changed_over (a ∷ areas) kept b same (inr c) = inr (
    (λ i l. (same_holds a kept i (same (a.start + i) (lies_in-first a areas (a.start + i) (omega arith, omega (arith, l))))).0 (c.0 i l)),
    changed_over areas (drop a.len kept) b (λ b m. same b (lies_in-rest a areas b m)) c.1,
  )

module _ (j : Job) (t : Storage) (p : Remembered) (same : IsSameIn (λ b. lies_in p.needs.keep.now b ≡ true) (storage_of j) (bytes_held t)) where
  abbrev over : Job
  over = with_storage j t

  len : length (bytes_held t) ≡ length (storage_of j)
  len = same.same_length

  held_over : HoldsKept j p → HoldsKept over p
  held_over h = holds_over (storage_of j) (bytes_held t) len p.needs.keep.now p.kept.now same.same h

  of_program : IsOfProgram j p → IsOfProgram over p
  of_program h = record { start = h.start; device = h.device; storage_len = len ∙ h.storage_len }

  lent : (areas : List Area) (b : ℕ) → IsLent j areas b ↔ IsLent over areas b
  lent areas b = ((λ h. (subst (λ n. b < n) (sym len) h.0, h.1)), λ h. (subst (λ n. b < n) len h.0, h.1))

  granted : (n : Listed) → GrantsListed j n → GrantsListed over n
  granted n h = record {
    mask = h.mask;
    extents = h.extents;
    fetch = λ b m. (lent (fetch_of j) b).0 (h.fetch b m);
    store = λ b m. (lent (store_of j) b).0 (h.store b m);
  }

  lacks : (listed areas : List Area) (b : ℕ) → LacksByte j listed areas b ↔ LacksByte over listed areas b
  lacks listed areas b = ((λ h. (h.0, λ l. h.1 ((lent areas b).1 l))), λ h. (h.0, λ l. h.1 ((lent areas b).0 l)))

  least_lacking : (listed areas : List Area) (b : ℕ) → IsLeastOf (LacksByte j listed areas) b → IsLeastOf (LacksByte over listed areas) b
  least_lacking listed areas b h = ((lacks listed areas b).0 h.0, λ c l. h.1 c ((lacks listed areas c).1 l))

  another : (r : StartRefusal) → IsOfAnother j p r → IsOfAnother over p r
  another why.OtherStart h = h
  another why.OtherDevice h = h
  another why.OtherLength h = (h.0, h.1, λ e. h.2 (sym len ∙ e))
  another (why.Changed b) h = absurd h
  another why.Mask h = absurd h
  another (why.Cylinder c) h = absurd h
  another (why.Fetch b) h = absurd h
  another (why.Store b) h = absurd h
  another (why.Conflict i c) h = absurd h

  changed : (r : StartRefusal) → HasChanged j p r → HasChanged over p r
  changed (why.Changed b) h = changed_over (storage_of j) (bytes_held t) len p.needs.keep.now p.kept.now b same.same h
  changed why.OtherStart h = absurd h
  changed why.OtherDevice h = absurd h
  changed why.OtherLength h = absurd h
  changed why.Mask h = absurd h
  changed (why.Cylinder c) h = absurd h
  changed (why.Fetch b) h = absurd h
  changed (why.Store b) h = absurd h
  changed (why.Conflict i c) h = absurd h

  not_granted : (n : Listed) (r : StartRefusal) → IsNotGranted j n r → IsNotGranted over n r
  not_granted n why.Mask h = h
  not_granted n (why.Cylinder c) h = h
  not_granted n (why.Fetch b) h = (h.0, h.1, least_lacking n.fetch (fetch_of j) b h.2)
  not_granted n (why.Store b) h = (h.0, h.1, (λ b l. h.2 b ((lacks n.fetch (fetch_of j) b).1 l)), least_lacking n.store (store_of j) b h.3)
  not_granted n why.OtherStart h = absurd h
  not_granted n why.OtherDevice h = absurd h
  not_granted n why.OtherLength h = absurd h
  not_granted n (why.Changed b) h = absurd h
  not_granted n (why.Conflict i c) h = absurd h

  refusal_over : (fs : List Remembered) (r : StartRefusal) → IsStartRefusal j p fs r → IsStartRefusal over p fs r
  refusal_over fs r (inl h) = inl (another r h)
  refusal_over fs r (inr (inl h)) = inr (inl (of_program h.0, changed r h.1))
  refusal_over fs r (inr (inr (inl h))) = inr (inr (inl (of_program h.0, held_over h.1, not_granted (listed_in p.needs) r h.2)))
  refusal_over fs r (inr (inr (inr h))) = inr (inr (inr (of_program h.0, held_over h.1, granted (listed_in p.needs) h.2, h.3)))

pub answer_stays : AnswerStays
answer_stays j t p fs answer.Yes same h = record {
  program = of_program j t p same h.program;
  kept = held_over j t p same h.kept;
  granted = granted j t p same (listed_in p.needs) h.granted;
  compatible = h.compatible;
}
answer_stays j t p fs (answer.No r) same h = refusal_over j t p same fs r h
