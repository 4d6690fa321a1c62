-- What is remembered of a program stays true while what is kept does, and is enough for a start.
use Rattle.chan_needs.proofs.Names.{[], All, ap, Area, AreInFlight, AreOfOneProgram, AreProgramsCompatible, arith, both_ways, byte, data_under_yes, drop, Flight, Grants, HoldsAreas, inl, inr, IsByteOf, IsCompatibleWith, IsFit, IsGuarded, IsInFlight, IsInFlightAt, IsKept, IsNeededForStoring, IsProper, IsReachable, IsSameIn, IsVerdict, Job, KeepsNone, KeepsProgram, length, lies_in, lies_in-cases, lies_in-nil, List, Listed, listed_in, open_job, Place, refl, Remembered, rules, same_data, same_under_yes, Situation, Some, storage_of, stores, subst, sym, to_open, true, with_storage, Yes, yes_by_guarded, yes_clear, ℕ, ◌+◌, ◌-◌, ◌<◌, ◌↔◌, ◌∙◌, ◌∷◌, ◌≡◌, ◌⊎◌}
use Rattle.ckd_core.specs.declared.device.Device.{Device}
use Rattle.ckd_core.specs.declared.device.Device.TheVariants.{D2311, D2314}
use Rattle.chan_walk.specs.VerdictBytes.{IsVerdictByte}
use Rattle.chan_needs.specs.Remembered.{IsRemembered, IsWritten, WritesWell, device_number}
use Rattle.chan_needs.specs.Start.{RememberedIsFit, StartsWell}
use Rattle.chan_needs.specs.Asked.{FitIsAsked, IsFlightOf}
use Rattle.chan_walk.proofs.Algorithms.VerdictBytes.{carries_at}
use Rattle.chan_needs.proofs.Needed.{are_compatible, grants_from, HasStoreAndKeep, listed_is_exact, store_and_keep}
use Rattle.chan_walk.proofs.Machine.Again.{verdict_byte_is_guarded}
use Rattle.chan_needs.proofs.Asking.{asked_once}
use Rattle.chan_needs.proofs.Beginning.{asked_may_start, others_may_change}
use Rattle.chan_walk.proofs.Theory.Transport.{CarriesOver, same_guarded}
use Rattle.chan_needs.proofs.Needing.{least_job, yes_is_open, yes_opens}

-- two devices with one number are the same
pub same_device : (d e : Device) → device_number d ≡ device_number e → d ≡ e
same_device D2311 D2311 same = refl
same_device D2311 D2314 same = let bad : 2311 ≡ 2314 = same in absurd (omega (arith, bad))
same_device D2314 D2311 same = let bad : 2314 ≡ 2311 = same in absurd (omega (arith, bad))
same_device D2314 D2314 same = refl

-- ---- over another storage that holds what is kept

module _ (j k : Job) (keeps : KeepsProgram j k) (v : IsVerdict (open_job j) Yes) where
  abbrev pub there : Job
  there = with_storage (open_job j) k.storage

  pub counted : IsSameIn (IsVerdictByte (open_job j)) (storage_of j) (storage_of k)
  counted = record { same_length = keeps.storage.same_length; same = λ b c. keeps.storage.same b (verdict_byte_is_guarded (open_job j) v b c) }

  pub yes_there : IsVerdict there Yes
  yes_there = yes_by_guarded (open_job j) k.storage v keeps.storage

  pub carry : (p : Place) → IsReachable (open_job j) p → IsReachable there p → CarriesOver (open_job j) there p × CarriesOver there (open_job j) p
  carry = carries_at (open_job j) k.storage counted

  of_one : AreOfOneProgram k there
  of_one = record { storage = refl; start = sym keeps.start; device = sym keeps.device }

  proper_there : IsProper there
  proper_there = (search rules, k.storage.fits, refl)

  pub yes_open : IsVerdict (open_job k) Yes
  yes_open = yes_opens k there of_one proper_there yes_there

  pub open_there : AreOfOneProgram there (open_job k)
  open_there = to_open k there of_one

  both : {A B C : Type 0} → A ↔ B → B ↔ C → A ↔ C
  both f g = ((λ a. g.0 (f.0 a)), λ c. f.1 (g.1 c))

  -- the same bytes are kept
  pub kept_same : (b : ℕ) → IsKept j b ↔ IsKept k b
  kept_same b = both (same_guarded (open_job j) there refl carry b) ((same_under_yes there (open_job k) open_there yes_there yes_open).1 b)

  -- and stored into
  pub stored_same : (b : ℕ) → IsNeededForStoring j b ↔ IsNeededForStoring k b
  stored_same b =
      both (same_data (open_job j) there refl carry (yes_clear (open_job j) v) (yes_clear there yes_there) stores b)
      (data_under_yes there (open_job k) open_there yes_there yes_open stores b)

  -- so what lists say of storing and keeping stays true
  pub lists_stay : (n : Listed) → HasStoreAndKeep j n → HasStoreAndKeep k n
  lists_stay n h = record {
    store = record { merged = h.store.merged; bytes = λ b. both (h.store.bytes b) (stored_same b) };
    keep = record { merged = h.keep.merged; bytes = λ b. both (h.keep.bytes b) (kept_same b) };
  }

-- ---- a program in flight

module _ (p : Remembered) (k : Job) (h : IsInFlight p k) where
  pub needs_in_flight : HasStoreAndKeep k (listed_in p.needs)
  needs_in_flight = lists_stay h.asked k h.program h.needs.verdict (listed_in p.needs) (store_and_keep h.asked (listed_in p.needs) h.needs)

  -- what it guards is listed
  pub guarded_listed : (b : ℕ) → IsGuarded k b → lies_in p.needs.keep.now b ≡ true
  guarded_listed b g = (needs_in_flight.keep.bytes b).1 (((yes_is_open k h.proper h.verdict).1 b).0 g)

-- what holds of all holds of number n
pub at_number : (P : Remembered → Type 0) (fs : List Remembered) (n : ℕ) (f : Remembered) → All P fs → IsInFlightAt fs n f → P f
at_number P fs n f all number = subst P (number.1 f) (all n f number.0)

-- ---- who may write

-- what is written where nobody keeps a byte spares all in flight
pub spared_by : (fs : List Remembered) (area : Area) → All (KeepsNone area) fs → (a : Situation) (t : List ℕ) → AreInFlight a fs
    → IsWritten area a.storage t → (i : ℕ) (g : Flight) → a.at i ≡ Some g → IsSameIn (IsGuarded g.job) a.storage t
spared_by fs area none a t flying written i g e = go (flying i g e)
  where
    go : (n : ℕ) × (f : Remembered) × IsInFlightAt fs n f × IsInFlight f g.job → IsSameIn (IsGuarded g.job) a.storage t
    go (n, f, number, flight) = record {
      same_length = written.same_length;
      same = λ b guarded. written.same b (λ within. at_number (KeepsNone area) fs n f none number b (guarded_listed f g.job flight b guarded, within));
    }

pub writes_well : (fs : List Remembered) (area : Area) → All (KeepsNone area) fs → WritesWell fs area
writes_well fs area none a before t history flying written = others_may_change a before t history (spared_by fs area none a t flying written)

-- ---- what may start

-- two storages that hold the same bytes are the same there
pub same_held : (s t : List ℕ) (areas : List Area) (kept : List ℕ) (b : ℕ)
    → HoldsAreas s areas kept → HoldsAreas t areas kept → lies_in areas b ≡ true → byte t b ≡ byte s b
same_held s t [] kept b h k m = absurd (both_ways (lies_in [] b) (lies_in-nil b) m)
same_held s t (a ∷ areas) kept b h k m = go (same_held s t areas (drop a.len kept) b h.1 k.1) (lies_in-cases a areas b m)
  where
    go : (lies_in areas b ≡ true → byte t b ≡ byte s b) → IsByteOf a b ⊎ (lies_in areas b ≡ true) → byte t b ≡ byte s b
    go f (inr x) = f x
    go f (inl x) =
        let l : b - a.start < a.len = omega (arith, x.0, x.1) in
        let e : a.start + (b - a.start) ≡ b = omega (arith, x.0) in
        subst (λ n. byte t n ≡ byte s n) e ((k.0 (b - a.start) l).2 ∙ sym (h.0 (b - a.start) l).2)

-- a job fits what is remembered of a program
module _ (j : Job) (p : Remembered) (fs : List Remembered) (proper : IsProper j) (fit : IsFit j p fs) (asked : Job) (remembered : IsRemembered asked p) where
  itself : AreOfOneProgram j j
  itself = record { storage = refl; start = refl; device = refl }

  keeps : KeepsProgram asked j
  keeps = record {
    storage = record {
      same_length = fit.program.storage_len ∙ remembered.needs.storage_len;
      same = λ b g. same_held (storage_of asked) (storage_of j) p.needs.keep.now p.kept.now b remembered.kept fit.kept ((remembered.needs.keep.bytes b).1 g);
    };
    start = remembered.start ∙ sym fit.program.start;
    device = same_device asked.device j.device (remembered.device ∙ sym fit.program.device);
  }

  grants : Grants asked j
  grants =
      grants_from asked (listed_in p.needs) remembered.needs j fit.granted.mask fit.granted.extents
      (λ b l. (fit.granted.fetch b l).1) (λ b l. (fit.granted.store b l).1)

  verdict : IsVerdict j Yes
  verdict = asked_once asked j keeps remembered.needs.verdict grants

  in_flight : IsInFlight p j
  in_flight = record { asked = asked; needs = remembered.needs; program = keeps; proper = proper; verdict = verdict }

  least : IsVerdict (open_job j) Yes × Grants j j
  least = (least_job j j itself proper).0 verdict

  compatible : (g : Flight) → (n : ℕ) × (f : Remembered) × IsInFlightAt fs n f × IsInFlight f g.job → (k : Job) × IsFlightOf k g × AreProgramsCompatible j k
  compatible g (n, f, number, flight) =
      let b : IsCompatibleWith p f = at_number (IsCompatibleWith p) fs n f fit.compatible number in (
        g.job,
        record { program = record { storage = refl; start = refl; device = refl }; proper = flight.proper; verdict = flight.verdict },
        are_compatible j g.job (listed_in p.needs) (listed_in f.needs) (needs_in_flight p j in_flight) (needs_in_flight f g.job flight)
            b.one_spares b.other_spares,
      )

pub fit_is_asked : FitIsAsked
fit_is_asked j a f p fs remembered flying proper fit start = record {
  opened = (least f.job p fs proper fit j remembered).0;
  program = itself f.job p fs proper fit j remembered;
  proper = proper;
  grants = (least f.job p fs proper fit j remembered).1;
  kept = record { same_length = ap length start.storage; same = λ b g. ap (λ s. byte s b) start.storage };
  arm = start.arm;
  mask = start.mask;
  stage = start.stage;
  events = start.events;
  compatible = λ i g e. compatible f.job p fs proper fit j remembered g (flying i g e);
}

pub remembered_is_fit : RememberedIsFit
remembered_is_fit j k p fs r keeps held grants compatible = record {
  program = record {
    start = sym keeps.start ∙ r.start;
    device = ap device_number (sym keeps.device) ∙ r.device;
    storage_len = keeps.storage.same_length ∙ sym r.needs.storage_len;
  };
  kept = held;
  granted = (listed_is_exact.grants j k (listed_in p.needs) r.needs (keeps.storage.same_length ∙ sym r.needs.storage_len)).1 grants;
  compatible = compatible;
}

pub starts_well : (j : Job) (p : Remembered) (fs : List Remembered) → IsProper j → IsFit j p fs → StartsWell j p fs
starts_well j p fs proper fit asked a m remembered flying start =
    let f : Flight = record { job = j; moment = m } in
    (asked_may_start a j f (fit_is_asked asked a f p fs remembered flying proper fit start), in_flight j p fs proper fit asked remembered)
