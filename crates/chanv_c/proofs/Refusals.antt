-- What the number of an answer says of the job.
use Rattle.std.proofs.Common.{◌≡◌, ◌≢◌, ◌<◌, ◌≤◌, ◌⊎◌, ◌∷◌, [], ℕ, zero, suc, List, Some, true, ap, length, refl, arith, inl, inr, rules, subst}
use Rattle.chanv_c.specs.declared.codes.TheConstants as codes
use Rattle.chanv_c.specs.declared.c_job.CJob.{CJob}
use Rattle.chanv_c.specs.declared.refusal.JobFault.{JobFault}
use Rattle.chanv_c.specs.declared.refusal.JobFault.TheVariants.{StorageTooLarge, NotADevice, NotAMask, NoExtent, ExtentBackwards, ExtentPastDevice, NotALimit}
use Rattle.chanv_c.specs.declared.refusal.Refusal.{Refusal}
use Rattle.chanv_c.specs.declared.refusal.Refusal.TheVariants.{TooManyPlaces, Memory, Wrong}
use Rattle.chanv_c.specs.Answers.{HasTooMany, IsAnswerCode, IsRefusal, refusal_after, refusal_code, refusal_extent}
use Rattle.chanv_c.specs.Faults.{HasJobFault, HasNoFault, RightHasNoFault, fault_code}
use Rattle.chanv_c.specs.Job.{IsAskedJob, extents_asked}
use Rattle.chan_walk.specs.declared.job.Job.{Job}
use Rattle.chan_walk.specs.Places.{HasMoreThan}
use Rattle.ckd_core.specs.Extents.{AreExtents, IsExtent}
use Rattle.ckd_core.specs.Mask.{is_mask}
use Rattle.std.specs.List.{AllByRecursion, slice_get}
use Rattle.std.proofs.lemmas.Bool.{both_ways}
use Rattle.chan_walk.specs.declared.walk_error.WalkError.{WalkError}
use Rattle.chan_walk.specs.declared.walk_error.WalkError.TheVariants as walk
use Rattle.std.proofs.lemmas.Result.{err_from_is_err_and}
use Rattle.std.specs.Result.{IfErr, IsErrAnd}
use Rattle.std.specs.declared.result.Result.{Result}
use Rattle.ccw_core.specs.declared.ccw.TheConstants.{STORAGE_LIMIT}

-- a fault's number is from 4 to 10, and not that of too little room
fault_numbers : (f : JobFault) → (4 ≤ fault_code f) × (fault_code f ≤ 10) × (fault_code f ≢ 11)
fault_numbers StorageTooLarge = (omega arith, omega arith, λ e. omega (arith, e))
fault_numbers NotADevice = (omega arith, omega arith, λ e. omega (arith, e))
fault_numbers NotAMask = (omega arith, omega arith, λ e. omega (arith, e))
fault_numbers NoExtent = (omega arith, omega arith, λ e. omega (arith, e))
fault_numbers (ExtentBackwards i) = (omega arith, omega arith, λ e. omega (arith, e))
fault_numbers (ExtentPastDevice i) = (omega arith, omega arith, λ e. omega (arith, e))
fault_numbers NotALimit = (omega arith, omega arith, λ e. omega (arith, e))

fault_accepts_none : (n : ℕ) {A : Type 0} → 4 ≤ n → n ≢ 11 → (n < 3) ⊎ (n ≡ 11) → A
fault_accepts_none n four not (inl few) = absurd (omega (arith, four, few))
fault_accepts_none n four not (inr room) = absurd (not room)

memory_accepts_none : {A : Type 0} (n : ℕ) → n ≡ 3 → (n < 3) ⊎ (n ≡ 11) → A
memory_accepts_none n three (inl few) = absurd (omega (arith, three, few))
memory_accepts_none n three (inr room) = absurd (omega (arith, three, room))

-- a walk that gave no answer to a job without a fault
walk_refusal : (crowded : Type 0) (c : CJob) (e : WalkError) → HasNoFault c → (e ≡ walk.TooManyPlaces → crowded)
    → IsRefusal crowded c (refusal_after e)
walk_refusal crowded c walk.TooManyPlaces right many = (many refl, right)
walk_refusal crowded c walk.Memory right many = λ f _. right f

pub walk_refused : {T : Type 0} (crowded : Type 0) (c : CJob) (e : WalkError) (r : Result T Refusal) → HasNoFault c
    → (e ≡ walk.TooManyPlaces → crowded) → IsErrAnd r (λ y. y ≡ refusal_after e) → IfErr r (IsRefusal crowded c)
walk_refused crowded c e r right many is = let p = err_from_is_err_and r is in rw (p.1, p.2) (walk_refusal crowded c e right many)

-- a walk over the job that C asks about
pub asked_refused : {T : Type 0} (c : CJob) (job : Job) (e : WalkError) (r : Result T Refusal) → IsAskedJob c job → HasNoFault c
    → (e ≡ walk.TooManyPlaces → HasMoreThan job job.limit) → IsErrAnd r (λ y. y ≡ refusal_after e) → IfErr r (IsRefusal (HasTooMany c) c)
asked_refused c job e r asked right many =
    walk_refused (HasTooMany c) c e r right (λ is. record { job = job; asked = asked; many = subst (HasMoreThan job) asked.limit (many is) })

-- a refusal's number says why there is no answer
pub refusal_number : (crowded : Type 0) (c : CJob) (r : Refusal) → IsRefusal crowded c r
    → IsAnswerCode crowded c (refusal_code r) (refusal_extent r)
refusal_number crowded c TooManyPlaces is = record {
  many = λ _. is.0;
  memory = λ three. absurd (omega (arith, three));
  refused = λ four _. absurd (omega (arith, four));
  accepted = λ _. is.1;
  last = omega arith;
}
refusal_number crowded c Memory is = record {
  many = λ two. absurd (omega (arith, two));
  memory = λ _. is;
  refused = λ four _. absurd (omega (arith, four));
  accepted = memory_accepts_none 3 refl;
  last = omega arith;
}
refusal_number crowded c (Wrong f) is =
    let (four, last, room) = fault_numbers f in
    record {
      many = λ two. absurd (omega (arith, four, two));
      memory = λ three. absurd (omega (arith, four, three));
      refused = λ _ _. record { fault = f; code_is = refl; extent_is = refl; first = is };
      accepted = fault_accepts_none (fault_code f) four room;
      last = omega (arith, last);
    }

-- what was found of a job without a fault is told, unless memory is refused
pub needs_number : (crowded : Type 0) (c : CJob) (n extent : ℕ) → HasNoFault c → n ≢ codes.CHANGED_MEANWHILE
    → (n ≡ codes.YES) ⊎ (n ≡ codes.NO) ⊎ (n ≡ codes.MEMORY) ⊎ (n ≡ codes.NO_ROOM) ⊎ (n ≡ codes.CHANGED_MEANWHILE) → IsAnswerCode crowded c n extent
needs_number crowded c n extent right quiet code = search (rules, right, quiet, code)

-- under a job without a fault only memory can be refused
pub only_memory : (c : CJob) (r : Refusal) → IsRefusal ⊥ c r → HasNoFault c → refusal_code r ≡ 3
only_memory c TooManyPlaces is right = absurd is.0
only_memory c Memory is right = refl
only_memory c (Wrong f) is right = absurd (right f is.applies)

-- ---- a job within all bounds

extent_at : (es : List (ℕ × ℕ)) (i : ℕ) (e : ℕ × ℕ) → AllByRecursion IsExtent es → slice_get es i ≡ Some e → IsExtent e
extent_at [] i e right is = absurd (let bad : ⊥ = cc in bad)
extent_at (x ∷ xs) zero e right is = let same : x ≡ e = cc in subst IsExtent same right.0
extent_at (x ∷ xs) (suc i) e right is = extent_at xs i e right.1 is

no_other_device : (n : ℕ) → (n ≡ 2311) ⊎ (n ≡ 2314) → (n ≢ 2311) × (n ≢ 2314) → ⊥
no_other_device n (inl is) neither = neither.0 is
no_other_device n (inr is) neither = neither.1 is

module _ (c : CJob) (small : length c.storage.now ≤ STORAGE_LIMIT) (device : (c.device ≡ 2311) ⊎ (c.device ≡ 2314))
    (mask : is_mask c.mask ≡ true) (extents : AreExtents (extents_asked c)) (low : 1 ≤ c.limit) (high : c.limit ≤ 65536) where
  no_fault : (f : JobFault) → HasJobFault c f → ⊥
  no_fault StorageTooLarge large = omega (arith, small, large)
  no_fault NotADevice neither = no_other_device c.device device neither
  no_fault NotAMask bad = both_ways _ bad mask
  no_fault NoExtent none = let some = extents.0 in let zero' = ap length none in omega (arith, some, zero')
  no_fault (ExtentBackwards i) w =
      let e = extent_at (extents_asked c) i w.pair extents.1 w.stands in
      let order = e.0 in let wrong = w.wrong in omega (arith, order, wrong)
  no_fault (ExtentPastDevice i) w =
      let e = extent_at (extents_asked c) i w.pair extents.1 w.stands in
      let there = e.1 in let past = w.wrong.1 in omega (arith, there, past)
  no_fault NotALimit bad = bad (low, high)

pub right_has_no_fault : RightHasNoFault
right_has_no_fault c small device mask extents low high = no_fault c small device mask extents low high
