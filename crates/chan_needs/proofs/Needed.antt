-- What was found under one job's yes is what each job of its program needs.
use Rattle.chan_needs.proofs.Names.{ap, Area, AreExactly, AreLooksOfYes, AreNeeds, AreOfOneProgram, AreProgramsCompatible, arith, begins, begins_recalibrate, begins_seek, begins_set_mask, Bool, byte, ccw_of, ccw_over, clear_check, data_in_storage, data_under_yes, extents_of, false, fetch_of, fetches, fetches_parts, Fields, Grants, GrantsListed, has_cylinder, HasArgument, home, inhibits, is_at_least, is_transfer, IsFetchedFrom, IsGuarded, IsKept, IsNeededCylinder, IsNeededForStoring, IsReachable, IsShared, IsSought, IsStoredInto, IsStrictest, IsVerdict, Job, length, lies_in, List, Listed, map, MaskServes, MaskServesAt, open_job, pair, Place, places_of_looks, refl, run_of, same_under_yes, SeeksTo, Seen, Some, storage_of, store_of, stores, stores_parts, subst, sym, to_open, true, Yes, yes_clear, ℕ, ◌<◌, ◌↔◌, ◌∙◌, ◌≡◌, ◌⊎◌}
use Rattle.ccw_core.specs.Ccw.{ccw}
use Rattle.chan_walk.specs.declared.verdict.Verdict.{Verdict}
use Rattle.chan_walk.specs.Moved.{IsDataOf}
use Rattle.chan_walk.specs.Offence.{FirstIsVerdict, first_verdict}
use Rattle.chan_needs.specs.Listed.{AreNeedsCompatible}
use Rattle.chan_needs.specs.Start.{ListedIsExact}
use Rattle.chan_walk.specs.JobSurvey.{IsSurvey, Surveyed}
use Rattle.chan_walk.proofs.Theory.Granting.{turned}
use Rattle.chan_needs.proofs.Needing.{needed_mask_is_enough, yes_opens}
use Rattle.chan_needs.proofs.Demanding.{ServesEach}
use Rattle.chan_walk.proofs.Algorithms.Walking.{reached_looks}
use Rattle.chan_needs.proofs.Seeking.{runs_of}
use Rattle.chan_needs.proofs.Masking.{strictest_same}

-- ---- from one job to another of its program

module _ (j k : Job) (one : AreOfOneProgram j k) where
  serves_over : (p : Place) (m : ℕ) → MaskServesAt j p m → MaskServesAt k p m
  serves_over p m h = record {
    permits = subst (λ c. begins p c ≡ true → inhibits m c.command ≡ false) (ccw_over j k one p) h.permits;
    admits = subst (λ s. begins_set_mask p (ccw s p.address) ≡ true → is_at_least (byte s (ccw s p.address).address) m ≡ true) one.storage h.admits;
  }

  seeks_over : (p : Place) (x : List ℕ) → SeeksTo j p x → SeeksTo k p x
  seeks_over p x h =
      subst
      (λ s. ((begins_seek p (ccw s p.address) ≡ true) × HasArgument s p.address (Some x)) ⊎ ((begins_recalibrate p (ccw s p.address) ≡ true) × (x ≡ home)))
      one.storage h

-- ---- what was found

-- what was found under a job with a yes, where these are its places
pub record AreFound (k : Job) (ps : List Place) (n : Listed) (cylinders : List Area) : Type 0 where
  pub storage_len : n.storage_len ≡ length (storage_of k)
  pub mask : IsStrictest (ServesEach k ps) n.mask
  pub sought : AreExactly (IsSought k) cylinders
  pub runs : n.extents ≡ map pair (map run_of cylinders)
  pub fetch : AreExactly (IsFetchedFrom k) n.fetch
  pub store : AreExactly (IsStoredInto k) n.store
  pub keep : AreExactly (IsGuarded k) n.keep

pub are_needs : (j k : Job) (ls : List Seen) (n : Listed) (cylinders : List Area) → AreOfOneProgram j k
    → AreLooksOfYes k ls → AreFound k (places_of_looks ls) n cylinders → AreNeeds j n
are_needs j k ls n cylinders one are found = record {
  verdict = granted;
  storage_len = found.storage_len ∙ ap length (sym one.storage);
  mask = strictest_same (ServesEach k ps) (MaskServes j) n.mask served found.mask;
  extents = runs_of (IsSought k) (IsNeededCylinder j) cylinders n.extents sought found.sought found.runs;
  fetch = record { merged = found.fetch.merged; bytes = λ b. both (found.fetch.bytes b) (moved fetches b) };
  store = record { merged = found.store.merged; bytes = λ b. both (found.store.bytes b) (moved stores b) };
  keep = record { merged = found.keep.merged; bytes = λ b. both (found.keep.bytes b) (same.1 b) };
}
  where
    ps : List Place
    ps = places_of_looks ls

    granted : IsVerdict (open_job j) Yes
    granted = yes_opens j k one are.proper are.verdict

    there : AreOfOneProgram k (open_job j)
    there = to_open j k one

    same : ((p : Place) → IsReachable k p ↔ IsReachable (open_job j) p) × ((b : ℕ) → IsGuarded k b ↔ IsGuarded (open_job j) b)
    same = same_under_yes k (open_job j) there are.verdict granted

    both : {A B C : Type 0} → A ↔ B → B ↔ C → A ↔ C
    both f g = ((λ a. g.0 (f.0 a)), λ c. f.1 (g.1 c))

    moved : (test : Place → Fields → Bool) (b : ℕ) → IsDataOf test k b ↔ IsDataOf test (open_job j) b
    moved = data_under_yes k (open_job j) there are.verdict granted

    served : (m : ℕ) → ServesEach k ps m ↔ MaskServes j m
    served m = (
      (λ f p r.
          let h = f p (are.reached.0 p ((same.0 p).1 r)) in
          let t = serves_over k (open_job j) there p m h in
          record { permits = t.permits; admits = t.admits }),
      λ f p h. let t = f p ((same.0 p).0 (are.reached.1 p h)) in serves_over j k one p m t,
    )

    sought : (c : ℕ) → IsSought k c ↔ IsNeededCylinder j c
    sought c = (
      (λ h. record { place = h.0; reached = (same.0 h.0).0 h.1; argument = h.2.0; seeks = seeks_over k j (turned j k one) h.0 h.2.0 h.2.1; at = h.2.2 }),
      λ h. (h.place, (same.0 h.place).1 h.reached, (h.argument, seeks_over j k one h.place h.argument h.seeks, h.at)),
    )

-- the looks of a survey, where the first offence is none
pub survey_looks : (k : Job) (s : Surveyed) (ls : List Seen) → IsSurvey k s
    → first_verdict s.offences ≡ Yes → FirstIsVerdict → ls ≡ s.looks → AreLooksOfYes k ls
survey_looks k s ls is none law e =
    let r = reached_looks k s.looks ls s.found_from is.found e in
    record { proper = is.proper; verdict = subst (λ (v : Verdict). IsVerdict k v) none (law k s.offences is.offences); looks = r.0; reached = r.1 }

-- ---- what lists of needs say of a job

module _ (j : Job) (n : Listed) (h : AreNeeds j n) where
  -- each byte that is needed is one of storage
  inside : (test : Place → Fields → Bool) → ((p : Place) (c : Fields) → test p c ≡ true → is_transfer c ≡ false) → (areas : List Area)
      → AreExactly (IsDataOf test (open_job j)) areas → (b : ℕ) → lies_in areas b ≡ true → b < length (storage_of j)
  inside test moves areas are b m =
      let d = (are.bytes b).0 m in
      let c = clear_check (open_job j) d.place (yes_clear (open_job j) h.verdict d.place d.reached) in
      let fits = data_in_storage (storage_of j) d.place (ccw_of j d.place) c refl (moves d.place (ccw_of j d.place) d.passes.1) in
      omega (arith, d.below)

  fetch_inside : (b : ℕ) → lies_in n.fetch b ≡ true → b < length (storage_of j)
  fetch_inside = inside fetches (λ p c m. (fetches_parts p c m).0) n.fetch h.fetch

  store_inside : (b : ℕ) → lies_in n.store b ≡ true → b < length (storage_of j)
  store_inside = inside stores (λ p c m. (stores_parts p c m).0) n.store h.store

  module _ (k : Job) where
    -- the areas lent have all bytes of a listed one
    abbrev pub LieWithin : List Area → List Area → Type 0
    LieWithin areas lent = (b : ℕ) → lies_in areas b ≡ true → lies_in lent b ≡ true

    pub grants_from : is_at_least n.mask k.mask ≡ true → ((c : ℕ) → has_cylinder n.extents c ≡ true → has_cylinder (extents_of k) c ≡ true)
        → LieWithin n.fetch (fetch_of k) → LieWithin n.store (store_of k) → Grants j k
    grants_from mask extents fetch store = record {
      mask = (needed_mask_is_enough j n.mask k.mask h.mask).1 mask;
      extents = λ c m. extents c ((h.extents.cylinders c).1 m);
      fetch = λ b m. fetch b ((h.fetch.bytes b).1 m);
      store = λ b m. store b ((h.store.bytes b).1 m);
    }

    pub granted : length (storage_of k) ≡ n.storage_len → GrantsListed k n ↔ Grants j k
    granted e = (
      (λ g. grants_from g.mask g.extents (λ b m. (g.fetch b m).1) (λ b m. (g.store b m).1)),
      λ g. record {
        mask = (needed_mask_is_enough j n.mask k.mask h.mask).0 g.mask;
        extents = λ c m. g.extents c ((h.extents.cylinders c).0 m);
        fetch = λ b m. (here b (fetch_inside b m), g.fetch b ((h.fetch.bytes b).0 m));
        store = λ b m. (here b (store_inside b m), g.store b ((h.store.bytes b).0 m));
      },
    )
      where
        here : (b : ℕ) → b < length (storage_of j) → b < length (storage_of k)
        here b l = subst (λ z. b < z) (sym h.storage_len ∙ sym e) l

-- ---- side by side

-- what the program of j stores into, and what it keeps, is listed exactly: all that counts beside
-- another program
pub record HasStoreAndKeep (j : Job) (n : Listed) : Type 0 where
  pub store : AreExactly (IsNeededForStoring j) n.store
  pub keep : AreExactly (IsKept j) n.keep

pub store_and_keep : (j : Job) (n : Listed) → AreNeeds j n → HasStoreAndKeep j n
store_and_keep j n h = record { store = h.store; keep = h.keep }

-- no byte that one program needs for storing is kept by the other, where their lists share none
spares : (j k : Job) (n m : Listed) → HasStoreAndKeep j n → HasStoreAndKeep k m
    → ((b : ℕ) → IsShared n.store m.keep b → ⊥) → (b : ℕ) → IsNeededForStoring j b → IsKept k b → ⊥
spares j k n m f g never b s t = never b ((f.store.bytes b).1 s, (g.keep.bytes b).1 t)

shared : (j k : Job) (n m : Listed) → HasStoreAndKeep j n → HasStoreAndKeep k m
    → ((b : ℕ) → IsNeededForStoring j b → IsKept k b → ⊥) → (b : ℕ) → IsShared n.store m.keep b → ⊥
shared j k n m f g never b s = never b ((f.store.bytes b).0 s.0) ((g.keep.bytes b).0 s.1)

-- where lists are true, two programs that share nothing are compatible
pub are_compatible : (j k : Job) (n m : Listed) → HasStoreAndKeep j n → HasStoreAndKeep k m
    → ((b : ℕ) → IsShared n.store m.keep b → ⊥) → ((b : ℕ) → IsShared m.store n.keep b → ⊥) → AreProgramsCompatible j k
are_compatible j k n m f g one other = record { one_spares = spares j k n m f g one; other_spares = spares k j m n g f other }

exactly : (j k : Job) (n m : Listed) → HasStoreAndKeep j n → HasStoreAndKeep k m → AreNeedsCompatible n m ↔ AreProgramsCompatible j k
exactly j k n m f g = (
  (λ are. are_compatible j k n m f g are.one_spares are.other_spares),
  λ may. record { one_spares = shared j k n m f g may.one_spares; other_spares = shared k j m n g f may.other_spares },
)

pub listed_is_exact : ListedIsExact
listed_is_exact = record {
  grants = λ j k n h e. granted j n h k e;
  compatible = λ j k n m f g. exactly j k n m (store_and_keep j n f) (store_and_keep k m g);
}
