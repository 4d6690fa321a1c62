-- What offends: own faults, and where there is none, changes.
use Rattle.chan_walk.proofs.Names.{Area, AreClear, ccw_of, ChangesGuarded, Fields, HasFault, HasOwnFault, inl, inr, IsClear, IsReachable, Job, lies_in, List, None, Offends, Option, Place, Reason, rules, Some, stores, StoresOver, true, ℕ, ◌↔◌, ◌≡◌}
use Rattle.chan_areas.specs.Merged.{Meets}
use Rattle.chan_walk.proofs.Theory.Faults.{fault_exists, fault_unique}

-- where no reachable place has an own fault, each is clear
pub clear_all : (j : Job) → ((p : Place) (t : Reason) → IsReachable j p → HasOwnFault j p t → ⊥) → AreClear j
clear_all j h p reached = go (fault_exists j p)
  where
    go : (r : Option Reason) × HasFault j p r → IsClear j p
    go (None, f) = f
    go (Some t, f) = absurd (h p t reached f)

pub not_clear : (j : Job) (p : Place) (r : Reason) → HasFault j p (Some r) → IsReachable j p → AreClear j → ⊥
not_clear j p r f reached clear = let d : ◌≡◌ {A = Option Reason} None (Some r) = fault_unique j p None (Some r) (clear p reached) f in cc

-- without own faults, only changes offend
pub change_of : (j : Job) → ((p : Place) (t : Reason) → IsReachable j p → HasOwnFault j p t → ⊥)
    → (p : Place) (t : Reason) → IsReachable j p → Offends j p t → ChangesGuarded j p t
change_of j none p t r (inl o) = absurd (none p t r o)
change_of j none p t r (inr o) = o.1

-- a store that meets an area of guarded bytes is a store over one
pub over_from_meets : (j : Job) (p : Place) (c : Fields) (areas : List Area) (P : ℕ → Type 0) (start len : ℕ)
    → ((b : ℕ) → (lies_in areas b ≡ true) ↔ P b) → c ≡ ccw_of j p → stores p c ≡ true → start ≡ c.address → len ≡ c.count
    → Meets areas start len → StoresOver j p P
over_from_meets j p c areas P start len same e st s l m = search rules

pub meets_from_over : (j : Job) (p : Place) (c : Fields) (areas : List Area) (P : ℕ → Type 0) (start len : ℕ)
    → ((b : ℕ) → (lies_in areas b ≡ true) ↔ P b) → c ≡ ccw_of j p → start ≡ c.address → len ≡ c.count
    → StoresOver j p P → Meets areas start len
meets_from_over j p c areas P start len same e s l o = search rules
