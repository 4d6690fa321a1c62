-- The question before a start has one answer at most.
use Rattle.chan_needs.proofs.Names.{[], All, AllWithin, ap, Area, arith, both_ways, cases_lt, drop, HoldsAreas, inl, inr, IsCompatibleWith, IsFirstChanged, IsFit, IsInFlightAt, Job, List, Listed, listed_in, refl, Remembered, rules, subst, sym, ℕ, ◌<◌, ◌∙◌, ◌∷◌, ◌≡◌, ◌≤◌, ◌⊎◌}
use Rattle.chan_needs.proofs.Naming.{least_is_one, one_changed, same_number, same_program}
use Rattle.chan_needs.proofs.Remembering.{at_number}
use Rattle.chan_needs.specs.Listed.{IsConflict}
use Rattle.chan_needs.specs.Remembered.{HoldsKept}
use Rattle.chan_needs.specs.Start.{GrantsListed, HasChanged, HasConflictInFlight, IsNotGranted, IsOfAnother, IsOfProgram, IsStartRefusal, OneAnswer}
use Rattle.chan_needs.specs.declared.conflict.Conflict.{Conflict}
use Rattle.chan_needs.specs.declared.conflict.Conflict.TheVariants as way
use Rattle.chan_needs.specs.declared.start.Start.TheVariants as answer
use Rattle.chan_needs.specs.declared.start.StartRefusal.{StartRefusal}
use Rattle.chan_needs.specs.declared.start.StartRefusal.TheVariants as why

-- ---- what is wrong is wrong

not_another : (j : Job) (p : Remembered) (r : StartRefusal) → IsOfAnother j p r → IsOfProgram j p → ⊥
not_another j p r h of = search rules

not_held : (s : List ℕ) (areas : List Area) (kept : List ℕ) (b : ℕ) → IsFirstChanged s areas kept b → HoldsAreas s areas kept → ⊥
not_held s [] kept b h holds = h
not_held s (a ∷ areas) kept b (inl h) holds = h.changed (holds.0 h.number h.within)
not_held s (a ∷ areas) kept b (inr h) holds = not_held s areas (drop a.len kept) b h.1 holds.1

not_changed : (j : Job) (p : Remembered) (r : StartRefusal) → HasChanged j p r → HoldsKept j p → ⊥
not_changed j p r h kept = search (rules, not_held)

not_granted : (j : Job) (n : Listed) (r : StartRefusal) → IsNotGranted j n r → GrantsListed j n → ⊥
not_granted j n r h g = search (rules, both_ways)

in_conflict : (p f : Remembered) (c : Conflict) → IsConflict (listed_in p.needs) (listed_in f.needs) c → IsCompatibleWith p f → ⊥
in_conflict p f (way.Stores b) h k = k.one_spares b h.0
in_conflict p f (way.Keeps b) h k = k.other_spares b h.1.0

-- ---- each of the four has one refusal

one_another : (j : Job) (p : Remembered) (r t : StartRefusal) → IsOfAnother j p r → IsOfAnother j p t → r ≡ t
one_another j p r t h k = search rules

one_change : (j : Job) (p : Remembered) (r t : StartRefusal) → HasChanged j p r → HasChanged j p t → r ≡ t
one_change j p r t h k = search (rules, one_changed)

one_grant : (j : Job) (n : Listed) (r t : StartRefusal) → IsNotGranted j n r → IsNotGranted j n t → r ≡ t
one_grant j n r t h k = search (rules, least_is_one, both_ways)

same_conflict : (n m : Listed) (c d : Conflict) → IsConflict n m c → IsConflict n m d → c ≡ d
same_conflict n m (way.Stores b) (way.Stores e) h k = ap way.Stores (least_is_one h k)
same_conflict n m (way.Stores b) (way.Keeps e) h k = absurd (k.0 b h.0)
same_conflict n m (way.Keeps b) (way.Stores e) h k = absurd (h.0 e k.0)
same_conflict n m (way.Keeps b) (way.Keeps e) h k = ap way.Keeps (least_is_one h.1 k.1)

-- the refusal of a conflict: the first program in conflict, and the conflict
record IsOfConflict (p : Remembered) (fs : List Remembered) (r : StartRefusal) : Type 0 where
  number : ℕ
  conflict : Conflict
  is : r ≡ why.Conflict number conflict
  there : HasConflictInFlight p fs (why.Conflict number conflict)

of_conflict : (p : Remembered) (fs : List Remembered) (r : StartRefusal) → HasConflictInFlight p fs r → IsOfConflict p fs r
of_conflict p fs (why.Conflict i c) h = record { number = i; conflict = c; is = refl; there = h }
of_conflict p fs r h = absurd (search (rules, h))

-- no program before number i is in conflict, so one that is has no smaller number
not_before : (p f : Remembered) (fs : List Remembered) (i k : ℕ) (c : Conflict) → AllWithin (IsCompatibleWith p) fs 0 i
    → IsInFlightAt fs k f → IsConflict (listed_in p.needs) (listed_in f.needs) c → i ≤ k
not_before p f fs i k c none at conflict = go (cases_lt k i)
  where
    go : (k < i) ⊎ (i ≤ k) → i ≤ k
    go (inl before) = absurd (in_conflict p f c conflict (subst (IsCompatibleWith p) (at.1 f) (none k f (omega arith) before)))
    go (inr after) = after

one_conflict : (p : Remembered) (fs : List Remembered) (r t : StartRefusal) → HasConflictInFlight p fs r → HasConflictInFlight p fs t → r ≡ t
one_conflict p fs r t h k =
    let one = of_conflict p fs r h in
    let other = of_conflict p fs t k in
    let same : one.number ≡ other.number = same_number one.number other.number
    (not_before p other.there.0 fs one.number other.number other.conflict one.there.2 other.there.1 other.there.3)
    (not_before p one.there.0 fs other.number one.number one.conflict other.there.2 one.there.1 one.there.3) in
    let program = same_program fs one.number other.number one.there.0 other.there.0 same one.there.1 other.there.1 in
    let conflict = same_conflict (listed_in p.needs) (listed_in other.there.0.needs) one.conflict other.conflict
    (subst (λ (f : Remembered). IsConflict (listed_in p.needs) (listed_in f.needs) one.conflict) program one.there.3) other.there.3 in
    one.is ∙ ap (λ i. why.Conflict i one.conflict) same ∙ ap (λ c. why.Conflict other.number c) conflict ∙ sym other.is

not_alone : (p : Remembered) (fs : List Remembered) (r : StartRefusal) → HasConflictInFlight p fs r → All (IsCompatibleWith p) fs → ⊥
not_alone p fs r h all =
    let c = of_conflict p fs r h in
    in_conflict p c.there.0 c.conflict c.there.3 (at_number (IsCompatibleWith p) fs c.number c.there.0 all c.there.1)

-- ---- all together

one_refusal : (j : Job) (p : Remembered) (fs : List Remembered) (r t : StartRefusal) → IsStartRefusal j p fs r → IsStartRefusal j p fs t → r ≡ t
one_refusal j p fs r t h k = search (rules, not_another, not_changed, not_granted, one_another, one_change, one_grant, one_conflict)

not_refused : (j : Job) (p : Remembered) (fs : List Remembered) (r : StartRefusal) → IsFit j p fs → IsStartRefusal j p fs r → ⊥
not_refused j p fs r fit h = search (rules, not_another, not_changed, not_granted, not_alone)

pub one_answer : OneAnswer
one_answer j p fs answer.Yes answer.Yes h k = refl
one_answer j p fs answer.Yes (answer.No t) h k = absurd (not_refused j p fs t h k)
one_answer j p fs (answer.No r) answer.Yes h k = absurd (not_refused j p fs r k h)
one_answer j p fs (answer.No r) (answer.No t) h k = ap answer.No (one_refusal j p fs r t h k)
