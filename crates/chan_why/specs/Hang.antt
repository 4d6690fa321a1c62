-- Where a program ends by itself, from where it can end, and where it may hang: from there on only
-- an error, an end of file, an incorrect length or a halt ends it. An end because a record has no
-- data, or another length than the CCWs, isn't counted: it depends on what the disk holds.
use Rattle.std.specs.Prelude.{◌≡◌, ℕ, ◌+◌, ◌<◌, ◌≤◌, Bool, true, false, not, List, [], ◌∷◌, ◌++◌}
use Rattle.std.specs.Prelude.{length, reverse, slice_get, slice_index_or, Option, None, Some, ◌⊎◌}
use Rattle.std.specs.Prelude.{◌↔◌, ◌&&◌, ◌/◌, ◌%◌, take, slice_index, is_none, option_map}
use Rattle.std.specs.Prelude.{if◌then◌else◌}
use Rattle.std.specs.List.{AllByRecursion, count_by}
use Rattle.ccw_core.specs.declared.storage.Storage.{Storage}
use Rattle.ccw_core.specs.Held.{bytes_held}
use Rattle.chan_walk.specs.declared.job.Job.{Job}
use Rattle.chan_walk.specs.declared.place.Place.{Place}
use Rattle.chan_walk.specs.declared.verdict.Verdict.TheVariants.{Yes}
use Rattle.chan_why.specs.declared.hang.FoundLooks.{FoundLooks}
use Rattle.chan_why.specs.declared.hang.Predecessor.{Predecessor}
use Rattle.chan_why.specs.declared.hang.Predecessors.{Predecessors}
use Rattle.chan_walk.specs.Alarm.{AreBytes, ArePlaces, IsProper}
use Rattle.chan_walk.specs.Argument.{Has}
use Rattle.chan_walk.specs.VerdictBytes.{with_storage}
use Rattle.chan_walk.specs.Fault.{IsClear}
use Rattle.chan_walk.specs.Guarded.{IsGuarded}
use Rattle.chan_walk.specs.Headline.{EachMomentOfYes, IsSpared}
use Rattle.chan_walk.specs.Look.{Seen}
use Rattle.chan_walk.specs.Machine.{Gathered, Stage, At, Ended, Checked}
use Rattle.chan_walk.specs.OpenJob.{AreOfOneProgram}
use Rattle.chan_walk.specs.Places.{place_number}
use Rattle.chan_walk.specs.Reachable.{IsReachable}
use Rattle.chan_walk.specs.Job.{storage_of}
use Rattle.chan_walk.specs.Runs.{IsSameIn, Moment, IsRun, Steps}
use Rattle.chan_walk.specs.Successor.{Successor}
use Rattle.chan_walk.specs.Verdict.{IsVerdict}
use Rattle.chan_walk.specs.Walk.{Follows}

-- the program ends at p by itself: p has no own fault and no successor
pub record EndsTheProgram (j : Job) (p : Place) : Type 0 where
  pub clear : IsClear j p
  pub last : (q : Place) → Successor j p q → ⊥

-- from p the program may go on over these places, in order, and ends at the last of them
abbrev pub EndsAfter : Job → Place → List Place → Type 0
EndsAfter j p [] = EndsTheProgram j p
EndsAfter j p (q ∷ qs) = Follows j p q × EndsAfter j q qs

-- p can end
abbrev pub CanEnd : Job → Place → Type 0
CanEnd j p = (places : List Place) × EndsAfter j p places

-- the program may hang at p: p is reachable and can't end
abbrev pub MayHang : Job → Place → Type 0
MayHang j p = IsReachable j p × (CanEnd j p → ⊥)

-- the first of the places for which P holds, or that it holds for none
abbrev pub IsFirstPlace : (Place → Type 0) → Option Place → Type 0
IsFirstPlace P None = (p : Place) → P p → ⊥
IsFirstPlace P (Some p) = P p × ((q : Place) → P q → place_number p ≤ place_number q)

-- a program has one first place at which it may hang, or none
abbrev pub OneFirstHang : Type 0
OneFirstHang =
    (j : Job) (one other : Option Place) → IsFirstPlace (MayHang j) one
    → IsFirstPlace (MayHang j) other → one ≡ other

-- ---- what runs show

-- a step of the program leads from m to a place
abbrev pub StepsOn : Moment → Type 0
StepsOn m = (n : Moment) × Steps m n × (q : Place) × (g : Gathered) × (n.stage ≡ At q g)

-- a stage at a place that can't end, or at none
abbrev pub CannotEndAt : Job → Stage → Type 0
CannotEndAt j (At p g) = CanEnd j p → ⊥
CannotEndAt j Ended = Unit {0}
CannotEndAt j (Checked r) = Unit {0}

-- where the verdict is yes, in each run among others that change no guarded byte: after a moment at
-- a place that can't end, no later place can end either
abbrev pub HangLasts : Type 0
HangLasts =
    (j : Job) → IsVerdict j Yes → (later earlier : List Moment) (m : Moment)
    → IsSpared j (later ++ m ∷ earlier) → CannotEndAt j m.stage
    → AllByRecursion (λ n. CannotEndAt j n.stage) later

-- where the verdict is yes, in each run among others: after a moment at a place that can't end,
-- from each later one at a place some step leads on
abbrev pub HangGoesOn : Type 0
HangGoesOn =
    (j : Job) → IsVerdict j Yes → (n : Moment) (later earlier : List Moment) (m : Moment)
    → IsSpared j (n ∷ (later ++ m ∷ earlier)) → CannotEndAt j m.stage → AreBytes n.storage
    → (p : Place) (g : Gathered) → n.stage ≡ At p g → StepsOn n

-- from each reachable place that can end some run of the machine comes to a place that ends the
-- program
abbrev pub SomeRunEnds : Type 0
SomeRunEnds =
    (j : Job) → IsProper j → (p : Place) → IsReachable j p → CanEnd j p
    → (on : List Place) × EndsAfter j p on × (before : List Place) × (run : List Moment)
    × IsRun j run × ArePlaces run (reverse on ++ p ∷ before)

-- where the verdict is yes, at each moment at a place, with bytes in storage: some step leads on to
-- a place exactly if this one doesn't end the program
abbrev pub StepsOnUnlessItEnds : Type 0
StepsOnUnlessItEnds = EachMomentOfYes (λ j m.
    AreBytes m.storage → (p : Place) (g : Gathered) → m.stage ≡ At p g
    → StepsOn m ↔ (EndsTheProgram j p → ⊥))

-- a reachable place that can't end is one at which the program may hang
abbrev pub EndlessMayHang : Type 0
EndlessMayHang =
    (j : Job) (p : Place) → IsReachable j p → (CanEnd j p → ⊥) → MayHang j p

-- a program may hang at the same places under each job with a yes
abbrev pub HangsAlike : Type 0
HangsAlike =
    (j k : Job) → AreOfOneProgram j k → IsVerdict j Yes → IsVerdict k Yes → (p : Place)
    → MayHang j p → MayHang k p

-- over another storage that is as long and the same in each guarded byte, a program with a yes may
-- hang at the same places
abbrev pub HangStays : Type 0
HangStays =
    (j : Job) (t : Storage) → IsVerdict j Yes
    → IsSameIn (IsGuarded j) (storage_of j) (bytes_held t)
    → (p : Place) → MayHang j p ↔ MayHang (with_storage j t) p

-- ---- how the code finds it, backwards from the places that end the program

-- what comes after a place that ends the program: 0, its end
abbrev pub end_after : Seen → Option ℕ
end_after l =
    if is_none l.fault && is_none l.next.next && is_none l.next.skip then Some 0 else None

-- what comes before a successor: one more than its number
abbrev pub one_after : Option Place → Option ℕ
one_after o = option_map (λ p. place_number p + 1) o

-- n comes after the place of a look
abbrev pub ComesAfter : Seen → ℕ → Type 0
ComesAfter l n =
    (end_after l ≡ Some n) ⊎ (one_after l.next.next ≡ Some n) ⊎ (one_after l.next.skip ≡ Some n)

-- the look of this index shows that n comes after its place
abbrev pub ComesBefore : List Seen → ℕ → ℕ → Type 0
ComesBefore ls at n = (l : Seen) × (slice_get ls at ≡ Some l) × ComesAfter l n

-- the list has the look at as one before this
abbrev pub HasBefore : List Predecessor → ℕ → ℕ → Type 0
HasBefore ps of at = (p : Predecessor) × Has ps p × (p.of ≡ of) × (p.at ≡ at)

-- the list has what looks show, and all that the first n looks do
pub record ArePredecessors (ls : List Seen) (n : ℕ) (ps : List Predecessor) : Type 0 where
  pub only : (at of : ℕ) → HasBefore ps of at → ComesBefore ls at of
  pub each : (at of : ℕ) → at < n → ComesBefore ls at of → HasBefore ps of at

-- of n buckets the one of what comes before this
abbrev pub bucket_of : ℕ → ℕ → ℕ
bucket_of n of = of / 64 % n

-- the bucket r of a list ends at m: the last one of the bucket is right before m, if there is one
pub record BucketEndsAt (n r : ℕ) (ps : List Predecessor) (m : ℕ) : Type 0 where
  pub last : (k : ℕ) → m ≡ k + 1
      → (p : Predecessor) × (slice_get ps k ≡ Some p) × (bucket_of n p.of ≡ r)
  pub none : (i : ℕ) (p : Predecessor) → m ≤ i → slice_get ps i ≡ Some p → bucket_of n p.of ≡ r → ⊥

-- it is told where each bucket ends, and for each predecessor where its bucket ends before it
pub record AreBuckets (p : Predecessors) : Type 0 where
  pub some : 0 < length p.ends.items
  pub ends : (r : ℕ) → r < length p.ends.items
      → BucketEndsAt (length p.ends.items) r p.list.items (slice_index p.ends.items r)
  pub before : (i : ℕ) (x : Predecessor) → slice_get p.list.items i ≡ Some x
      → BucketEndsAt (length p.ends.items) (bucket_of (length p.ends.items) x.of)
      (take i p.list.items) x.before

-- q is p with one more, where there is something
pub record AddsPredecessor (at : ℕ) (o : Option ℕ) (p q : Predecessors) : Type 0 where
  pub buckets : AreBuckets q
  pub has : (of k : ℕ) → HasBefore q.list.items of k
      ↔ (HasBefore p.list.items of k ⊎ ((o ≡ Some of) × (at ≡ k)))

-- of n looks exactly those found have a mark, and each was found once
pub record MarksFound (n : ℕ) (f : FoundLooks) : Type 0 where
  pub len : length f.marks.items ≡ n
  pub agrees : (k : ℕ) → (slice_index_or f.marks.items k false ≡ true) ↔ Has f.order.items k
  pub once : length f.order.items + count_by not f.marks.items ≡ n

-- g has what f has, and then looks for which P holds: all of these
pub record FindsMore (n : ℕ) (P : ℕ → Type 0) (f g : FoundLooks) : Type 0 where
  pub marked : MarksFound n g
  pub more : List ℕ
  pub order : g.order.items ≡ f.order.items ++ more
  pub found : (k : ℕ) → Has g.order.items k ↔ (Has f.order.items k ⊎ P k)

-- one of the first n looks is at this place and has no mark
abbrev pub IsLeftUnmarked : List Place → List Bool → ℕ → Place → Type 0
IsLeftUnmarked ps marks n p =
    (k : ℕ) × (k < n) × (slice_get ps k ≡ Some p) × (slice_index_or marks k false ≡ false)

-- of two places, of which the first may be missing, r is the one that comes first
abbrev pub IsEarlier : Option Place → Place → Place → Type 0
IsEarlier None q r = r ≡ q
IsEarlier (Some p) q r =
    ((r ≡ p) ⊎ (r ≡ q)) × (place_number r ≤ place_number p) × (place_number r ≤ place_number q)
