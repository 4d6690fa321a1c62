-- What is needed lies on the device.
use Rattle.std.proofs.Common.{◌≡◌, ℕ, ◌≤◌, ◌<◌, ◌||◌, nat_le, true, false, List, [], ◌∷◌, ◌⊎◌, inl, inr, refl, arith}
use Rattle.std.specs.List.{AllByRecursion}
use Rattle.std.proofs.lemmas.Bool.{both_ways, cases_lt, le-leb}
use Rattle.ckd_core.specs.Extents.{has_cylinder, all_cylinders, IsExtent}
use Rattle.ckd_core.proofs.CylinderLemmas.{has_cylinder-past}
use Rattle.chan_walk.specs.declared.job.Job.{Job}
use Rattle.chan_walk.specs.OpenJob.{AreOfOneProgram, open_job}
use Rattle.chan_needs.specs.Listed.{AreNeeds, AreRising, Listed}
use Rattle.chan_walk.proofs.Algorithms.Opened.{to_open}
use Rattle.chan_needs.proofs.Needing.{yes_grants}
use Rattle.ckd_core.specs.declared.device.TheConstants.{CYLINDERS, LAST_CYLINDER}

-- a cylinder in all of the device is on it
on_device : (n : ℕ) → has_cylinder all_cylinders n ≡ true → n ≤ LAST_CYLINDER
on_device n has = go (cases_lt n CYLINDERS)
  where
    go : (n < CYLINDERS) ⊎ (CYLINDERS ≤ n) → n ≤ LAST_CYLINDER
    go (inl low) = omega (arith, low)
    go (inr past) = absurd (both_ways _ (has_cylinder-past all_cylinders n ((omega arith, omega arith), tt) past) has)

-- the last cylinder of the first run is in the runs, and what is in the others is
has_last : (r : ℕ × ℕ) (runs : List (ℕ × ℕ)) → r.0 ≤ r.1 → has_cylinder (r ∷ runs) r.1 ≡ true
unfolding has_cylinder
has_last r runs le =
    let first : nat_le r.0 r.1 ≡ true = le-leb r.0 r.1 le in
    let last : nat_le r.1 r.1 ≡ true = le-leb r.1 r.1 (omega arith) in
    rw (first, last) refl

has_rest : (r : ℕ × ℕ) (runs : List (ℕ × ℕ)) (n : ℕ) → has_cylinder runs n ≡ true → has_cylinder (r ∷ runs) n ≡ true
unfolding has_cylinder
has_rest r runs n has = or_right _ _ has
  where
    or_right : (a b : _) → b ≡ true → (a || b) ≡ true
    or_right true b e = refl
    or_right false b e = e

-- runs of cylinders on the device are extents
on_device_all : (runs : List (ℕ × ℕ)) → AreRising runs → ((n : ℕ) → has_cylinder runs n ≡ true → n ≤ LAST_CYLINDER)
    → AllByRecursion IsExtent runs
on_device_all [] rising low = tt
on_device_all (r ∷ runs) rising low =
    ((rising.0, low r.1 (has_last r runs rising.0)), on_device_all runs rising.2 (λ n has. low n (has_rest r runs n has)))

-- so the needed runs are extents
pub needs_extents : (j : Job) (n : Listed) → AreNeeds j n → AllByRecursion IsExtent n.extents
needs_extents j n needs =
    let same : AreOfOneProgram j j = record { storage = refl; start = refl; device = refl } in
    let one : AreOfOneProgram j (open_job j) = to_open j j same in
    on_device_all n.extents needs.extents.rising
    (λ c has. on_device c ((yes_grants j (open_job j) one needs.verdict).extents c ((needs.extents.cylinders c).0 has)))
