-- A walk from place to place: which places are found, and of how many the successors are found too.
use Rattle.std.specs.Prelude.{◌≡◌, ℕ, ◌<◌, ◌≤◌, List, [], ◌∷◌, ◌++◌, length, slice_get}
use Rattle.std.specs.Prelude.{slice_index, ◌⊎◌, ◌↔◌, Option, Some, None}
use Rattle.std.specs.BTreeMap.{BTreeMap}
use Rattle.chan_walk.specs.declared.job.Job.{Job}
use Rattle.chan_walk.specs.declared.place.Place.{Place}
use Rattle.chan_walk.specs.declared.successor.Next.{Next}
use Rattle.chan_walk.specs.Argument.{Has}
use Rattle.chan_walk.specs.Places.{AreDistinct}
use Rattle.chan_walk.specs.Fault.{IsClear}
use Rattle.chan_walk.specs.Look.{AreLooks, Seen, places_of_looks}
use Rattle.chan_walk.specs.Marks.{HasMark}
use Rattle.chan_walk.specs.Paths.{IsFirstOf, IsNext, IsSkip}
use Rattle.chan_walk.specs.Place.{first_place}
use Rattle.chan_walk.specs.Reachable.{IsPath, IsReachable}
use Rattle.chan_walk.specs.Successor.{Successor}

-- a path may go from p to q
abbrev pub Follows : Job → Place → Place → Type 0
Follows j p q = IsClear j p × Successor j p q

-- q is one of the two
abbrev pub IsAmong : Next → Place → Type 0
IsAmong n q = (n.next ≡ Some q) ⊎ (n.skip ≡ Some q)

-- exactly the places of the list are marked
abbrev pub MarksAgree : BTreeMap ℕ ℕ → List Place → Type 0
MarksAgree m ps = (p : Place) → HasMark m p ↔ Has ps p

-- one mark more
abbrev pub Marks : BTreeMap ℕ ℕ → BTreeMap ℕ ℕ → Place → Type 0
Marks m n q = (p : Place) → HasMark n p ↔ (HasMark m p ⊎ (q ≡ p))

-- qs is ps with the place o at its end, where there is one and ps has it not yet, and gs is then fs
-- with the index from at its end; qs has no more than n places then
abbrev pub AddsPlace : ℕ → Option Place → ℕ → List Place → List Place → List ℕ → List ℕ → Type 0
AddsPlace n None from ps qs fs gs = (qs ≡ ps) × (gs ≡ fs)
AddsPlace n (Some p) from ps qs fs gs =
    (Has ps p × (qs ≡ ps) × (gs ≡ fs))
    ⊎ ((Has ps p → ⊥) × (qs ≡ ps ++ p ∷ []) × (length ps < n) × (gs ≡ fs ++ from ∷ []))

-- there is a place, ps has it not yet, and there is no room for it
abbrev pub HasNoRoomFor : ℕ → Option Place → List Place → Type 0
HasNoRoomFor n None ps = ⊥
HasNoRoomFor n (Some p) ps = (Has ps p → ⊥) × (n ≤ length ps)

-- the places found are reachable, each is found once, no more than n, and the successors of the
-- first i are among them
pub record IsWalked (j : Job) (n : ℕ) (ps : List Place) (i : ℕ) : Type 0 where
  pub few : length ps ≤ n
  pub within : i ≤ length ps
  pub distinct : AreDistinct ps
  pub begins : Has ps (first_place j)
  pub only : (p : Place) → Has ps p → IsReachable j p
  pub closed : (k : ℕ) (p q : Place) → k < i → slice_get ps k ≡ Some p → Follows j p q → Has ps q

-- the place of index k, after the first, was found from an earlier one, which is among the first n
pub record IsFoundFrom (j : Job) (ps : List Place) (fs : List ℕ) (n k : ℕ) : Type 0 where
  pub parent : Place
  pub child : Place
  pub there : slice_get ps (slice_index fs k) ≡ Some parent
  pub here : slice_get ps k ≡ Some child
  pub follows : Follows j parent child
  pub earlier : slice_index fs k < k
  pub among : slice_index fs k < n

-- of two places found from one, the first is its next place and the second the one skipped to
pub record AreSiblings (j : Job) (ps : List Place) (from k l : ℕ) : Type 0 where
  pub parent : Place
  pub elder : Place
  pub younger : Place
  pub there : slice_get ps from ≡ Some parent
  pub one : slice_get ps k ≡ Some elder
  pub other : slice_get ps l ≡ Some younger
  pub next : IsNext j parent elder
  pub skip : IsSkip j parent younger

-- q was found from the place of index k, or from an earlier one, or it is the first place
abbrev pub IsFoundBy : List Place → List ℕ → ℕ → Place → Type 0
IsFoundBy ps fs k q = (l : ℕ) × (slice_get ps l ≡ Some q) × (0 < l → slice_index fs l ≤ k)

-- fs has for each place the index of the one that it was found from, which is among the first n;
-- the places are in the order in which those are, and the successors of the first i are found
pub record IsTraced (j : Job) (ps : List Place) (fs : List ℕ) (i n : ℕ) : Type 0 where
  pub each : length fs ≡ length ps
  pub begins : slice_get ps 0 ≡ Some (first_place j)
  pub from : (k : ℕ) → 0 < k → k < length ps → IsFoundFrom j ps fs n k
  pub rising : (k l : ℕ) → 0 < k → k ≤ l → l < length ps → slice_index fs k ≤ slice_index fs l
  pub siblings : (k l : ℕ) → 0 < k → k < l → l < length ps → slice_index fs k ≡ slice_index fs l
      → AreSiblings j ps (slice_index fs k) k l
  pub found : (k : ℕ) (p q : Place) → k < i → slice_get ps k ≡ Some p → Follows j p q
      → IsFoundBy ps fs k q

-- these are true looks at all reachable places, no more than the job's limit, and for each the
-- index of the place that it was found from
pub record HasFound (j : Job) (ls : List Seen) (fs : List ℕ) : Type 0 where
  pub looks : AreLooks j ls
  pub at : ℕ
  pub walked : IsWalked j j.limit (places_of_looks ls) at
  pub all : length (places_of_looks ls) ≤ at
  pub traced : IsTraced j (places_of_looks ls) fs at at

-- before lead to the place at k, and no place from there on has a path that comes before this one
pub record IsBestPath (j : Job) (ps : List Place) (k : ℕ) (p : Place) (before : List Place)
    : Type 0 where
  pub here : slice_get ps k ≡ Some p
  pub path : IsPath j (p ∷ before)
  pub first : (l : ℕ) (q : Place) (qs : List Place) → k ≤ l → slice_get ps l ≡ Some q
      → IsPath j (q ∷ qs) → IsFirstOf j (p ∷ before) (q ∷ qs)
