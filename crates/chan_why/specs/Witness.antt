-- A verdict explained by its witness: the path to an offending place.
use Rattle.std.specs.Prelude.{◌≡◌, ◌==◌, ℕ, true, false, List, [], ◌∷◌, reverse, Option, None, Some}
use Rattle.std.specs.Prelude.{◌⊎◌, if◌then◌else◌}
use Rattle.ccw_core.specs.Storage.{Stands}
use Rattle.chan_walk.specs.declared.evidence.Evidence.{Evidence}
use Rattle.chan_walk.specs.declared.job.Job.{Job}
use Rattle.chan_walk.specs.declared.offence.Offence.{Offence}
use Rattle.chan_walk.specs.declared.place.Place.{Place}
use Rattle.chan_walk.specs.declared.reason.Reason.{Reason}
use Rattle.chan_walk.specs.declared.verdict.Verdict.{Verdict}
use Rattle.chan_walk.specs.declared.verdict.Verdict.TheVariants.{Yes, No}
use Rattle.chan_walk.specs.Alarm.{ShowsReason}
use Rattle.chan_walk.specs.Argument.{Has}
use Rattle.chan_why.specs.Evidence.{IsEvidence, IsSecondPath}
use Rattle.chan_walk.specs.Place.{data_at, ccw_of}
use Rattle.chan_why.specs.declared.witness.Witness.{Witness}
use Rattle.chan_why.specs.SecondPath.{HasByteOf}
use Rattle.chan_walk.specs.Fault.{stores}
use Rattle.chan_walk.specs.Job.{storage_of}
use Rattle.chan_why.specs.Path.{ArePathWhere, IsPathAt}
use Rattle.chan_walk.specs.Reason.{is_no_command}
use Rattle.chan_walk.specs.Verdict.{Offends}

-- p has this address and offends by this reason
abbrev pub OffendsAt : Job → ℕ → Reason → Place → Type 0
OffendsAt j a r p = (p.address ≡ a) × Offends j p r

-- with a no, these places are the path to a place with its address that offends by its reason; with
-- yes there are none
abbrev pub IsPathOf : Job → Verdict → List Place → Type 0
IsPathOf j Yes places = places ≡ []
IsPathOf j (No a r) places = ArePathWhere j (OffendsAt j a r) places

-- with a no, these places are those of a run, on which nothing changed, that shows its reason
abbrev pub IsWitness : Job → Verdict → List Place → Type 0
IsWitness j Yes places = Unit {0}
IsWitness j (No a r) places =
    (p : Place) × (before : List Place) × (places ≡ reverse (p ∷ before)) × (p.address ≡ a)
    × ShowsReason j p before r

-- with a no, the evidence is that of the last of these places
abbrev pub IsEvidenceOf : Job → Verdict → List Place → Option Evidence → Type 0
IsEvidenceOf j Yes places e = e ≡ None
IsEvidenceOf j (No a r) places None = ⊥
IsEvidenceOf j (No a r) places (Some e) =
    (p : Place) × (before : List Place) × (places ≡ reverse (p ∷ before))
    × IsEvidence j (record { place = p; reason = r }) e

-- the second path of the evidence, where there is one
abbrev pub IsSecondPathOf : Job → Option Evidence → List Place → Type 0
IsSecondPathOf j None places = places ≡ []
IsSecondPathOf j (Some e) places = IsSecondPath j e places

-- ---- what is stored over the CCW at a path's end

-- a CCW stands at q, and stores one of the eight bytes from a on
abbrev pub StoresAt : Job → ℕ → Place → Type 0
StoresAt j a q =
    Stands (storage_of j) q.address × (stores q (ccw_of j q) ≡ true) × HasByteOf (data_at j q) a

-- of some places the first that does so, or none
abbrev pub IsLastStore : Job → ℕ → List Place → Option Place → Type 0
IsLastStore j a [] o = o ≡ None
IsLastStore j a (q ∷ qs) o =
    (StoresAt j a q × (o ≡ Some q)) ⊎ ((StoresAt j a q → ⊥) × IsLastStore j a qs o)

-- of the places of a path, from its end back to the first place, the first behind the end that
-- stores one of the eight bytes from the end's address on
abbrev pub IsStoredBefore : Job → List Place → Option Place → Type 0
IsStoredBefore j [] o = ⊥
IsStoredBefore j (p ∷ before) o = IsLastStore j p.address before o

-- with a no because no command stands at a path's end, the last place before the end that stores
-- over what stands there; else none
abbrev pub IsStoredOver : Job → Verdict → List Place → Option Place → Type 0
IsStoredOver j Yes places o = o ≡ None
IsStoredOver j (No a r) places o =
    (is_no_command r ≡ true → IsStoredBefore j (reverse places) o)
    × (is_no_command r ≡ false → o ≡ None)

-- this shows the verdict, if it is a no: the path, its run, the evidence, and what changes what
pub record IsWitnessOf (j : Job) (v : Verdict) (w : Witness) : Type 0 where
  pub path : IsPathOf j v w.path.items
  pub shown : IsWitness j v w.path.items
  pub evidence : IsEvidenceOf j v w.path.items w.evidence
  pub stored : IsStoredOver j v w.path.items w.stored_over
  pub second : IsSecondPathOf j w.evidence w.second_path.items

-- the first of some offences at an address: in their order the one with the least reason
abbrev pub offence_at : ℕ → List Offence → Option Offence
offence_at a [] = None
offence_at a (o ∷ os) = if o.place.address == a then Some o else offence_at a os

-- ---- the first place found

-- the list has an offence at p with the address and the reason of o
abbrev pub HasLikeOffence : List Offence → Offence → Place → Type 0
HasLikeOffence os o p = (p.address ≡ o.place.address)
    × Has os (record { place = p; reason = o.reason })

-- the evidence is that of the last place of the path to a place that offends with the address and
-- the reason of this offence
abbrev pub IsOffenceEvidence : Job → Offence → Evidence → Type 0
IsOffenceEvidence j o e =
    (places : List Place) × IsPathOf j (No o.place.address o.reason) places
    × IsEvidenceOf j (No o.place.address o.reason) places (Some e)

-- the path to the place of this index is the one to a place that offends as the offence does, and
-- the evidence is that of its last place
pub record IsCaseOf (j : Job) (ps : List Place) (o : Offence) (at : ℕ) (e : Evidence) : Type 0 where
  pub path : (places : List Place) → IsPathAt j ps at places
      → IsPathOf j (No o.place.address o.reason) places
  pub evidence : (places : List Place) → IsPathAt j ps at places
      → IsEvidenceOf j (No o.place.address o.reason) places (Some e)
  pub shows : IsOffenceEvidence j o e
