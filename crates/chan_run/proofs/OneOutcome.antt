-- An action on a text has one outcome, where memory lasts.
use Rattle.std.proofs.Common.{◌≡◌, ◌↔◌, ◌∙◌, ◌∷◌, ◌⊎◌, [], ℕ, List, ap, inl, inr, length, refl, subst, sym, true}
use Rattle.ccw_core.specs.Areas.{lies_in}
use Rattle.ccw_core.specs.declared.areas.Area.{Area}
use Rattle.ckd_core.specs.Extents.{has_cylinder}
use Rattle.ckd_core.specs.Mask.{is_at_least, is_mask}
use Rattle.chan_walk.specs.declared.job.Job.{Job}
use Rattle.chan_walk.specs.Answers.{HasAtMost}
use Rattle.chan_walk.specs.declared.place.Place.{Place}
use Rattle.chan_walk.specs.declared.verdict.Verdict.{Verdict}
use Rattle.chan_walk.specs.Reachable.{IsReachable}
use Rattle.chan_walk.specs.Verdict.{IsVerdict}
use Rattle.chan_walk.specs.Job.{extents_of, fetch_of, store_of}
use Rattle.chan_walk.specs.OpenJob.{all_storage, AreOfOneProgram, GrantsMore, IsOpenJob}
use Rattle.chan_walk.proofs.Algorithms.Counting.{few_among}
use Rattle.chan_walk.proofs.Algorithms.Granted.{same_by_grants}
use Rattle.chan_walk.proofs.Algorithms.OneVerdict.{one_verdict}
use Rattle.chan_walk.proofs.Theory.Masks.{strict_as_itself}
use Rattle.chan_deck.specs.DeckValue.{DeckValue}
use Rattle.chan_deck.proofs.RefusalLemmas.{one_refusal, same_deck}
use Rattle.chan_args.specs.declared.action.Action.{Action}
use Rattle.chan_args.specs.declared.action.Action.TheVariants as actions
use Rattle.chan_run.specs.Output.{ActionJudges, HoldsOfDeckJob, IsDeckJob}
use Rattle.chan_run.specs.Response.{IsJobResponse, IsLimitResponse, IsRefusalResponse, IsVerdictResponse, OneOutcome, outcome_of}
use Rattle.chan_run.specs.declared.name.Naming.{Naming}
use Rattle.chan_run.specs.declared.outcome.Outcome.TheVariants.{Refused}
use Rattle.chan_run.specs.declared.response.Response.{Response}

-- ---- two jobs that grant the same

record AreAlike (k l : Job) : Type 0 where
  program : AreOfOneProgram k l
  more : GrantsMore k l
  less : GrantsMore l k
  limit : k.limit ≡ l.limit

grants : (k l : Job) → k.mask ≡ l.mask → is_mask k.mask ≡ true → extents_of k ≡ extents_of l → fetch_of k ≡ fetch_of l
    → store_of k ≡ store_of l → GrantsMore k l
grants k l mask right extents fetch store = record {
  mask = subst (λ m. is_at_least k.mask m ≡ true) mask (strict_as_itself k.mask right);
  extents = λ n h. subst (λ e. has_cylinder e n ≡ true) extents h;
  fetch = λ b lt h. subst (λ (a : List Area). lies_in a b ≡ true) fetch h;
  store = λ b lt h. subst (λ (a : List Area). lies_in a b ≡ true) store h;
}

are_alike : (k l : Job) → AreOfOneProgram k l → k.mask ≡ l.mask → is_mask k.mask ≡ true → extents_of k ≡ extents_of l
    → fetch_of k ≡ fetch_of l → store_of k ≡ store_of l → k.limit ≡ l.limit → AreAlike k l
are_alike k l one mask right extents fetch store limit = record {
  program = one;
  more = grants k l mask right extents fetch store;
  less = grants l k (sym mask) (subst (λ m. is_mask m ≡ true) mask right) (sym extents) (sym fetch) (sym store);
  limit = limit;
}

-- two jobs of one deck
module _ (d : DeckValue) (right : is_mask d.mask ≡ true) (j i : Job) (of : IsDeckJob d j) (too : IsDeckJob d i) where
  one_program : AreOfOneProgram j i
  one_program = record { storage = of.storage ∙ sym too.storage; start = of.start ∙ sym too.start; device = of.device ∙ sym too.device }

  same_limit : j.limit ≡ i.limit
  same_limit = of.limit ∙ sym too.limit

  of_deck : AreAlike j i
  of_deck = are_alike j i one_program (of.mask ∙ sym too.mask) (subst (λ m. is_mask m ≡ true) (sym of.mask) right)
      (of.extents ∙ sym too.extents) (of.fetch ∙ sym too.fetch) (of.store ∙ sym too.store) same_limit

  all_alike : all_storage j ≡ all_storage i
  all_alike = ap (λ (s : List ℕ). record { start = 0; len = length s } ∷ []) one_program.storage

  of_open : (k l : Job) → IsOpenJob j k → IsOpenJob i l → AreAlike k l
  of_open k l h m = are_alike k l
      (record {
        storage = sym h.program.storage ∙ one_program.storage ∙ m.program.storage;
        start = sym h.program.start ∙ one_program.start ∙ m.program.start;
        device = sym h.program.device ∙ one_program.device ∙ m.program.device;
      })
      (h.mask ∙ sym m.mask) (subst (λ n. is_mask n ≡ true) (sym h.mask) refl) (h.extents ∙ sym m.extents)
      (h.fetch ∙ all_alike ∙ sym m.fetch) (h.store ∙ all_alike ∙ sym m.store) (h.limit ∙ same_limit ∙ sym m.limit)

  -- what an action judges of them
  plain : (k l : Job) → k ≡ j → l ≡ i → AreAlike k l
  plain k l h m = subst (λ x. AreAlike x l) (sym h) (subst (λ x. AreAlike j x) (sym m) of_deck)

  judged : (a : Action) (k l : Job) → ActionJudges a j k → ActionJudges a i l → AreAlike k l
  judged (actions.Needs deck) k l h m = of_open k l h m
  judged a k l h m = plain k l h m

-- ---- their outcomes

module _ (n : Naming) (a : Action) (k l : Job) (alike : AreAlike k l) where
  same : ((p : Place) → IsReachable k p ↔ IsReachable l p) × ((v : Verdict) → IsVerdict k v ↔ IsVerdict l v)
  same = same_by_grants k l alike.program alike.more alike.less

  outcomes : (r q : Response) → IsVerdictResponse n a k r ⊎ IsLimitResponse n a k r → IsVerdictResponse n a l q ⊎ IsLimitResponse n a l q
      → r.outcome ≡ q.outcome
  outcomes r q (inl v) (inl w) =
      v.outcome ∙ ap outcome_of (one_verdict l v.verdict w.verdict ((same.1 v.verdict).0 v.is.verdict) w.is.verdict) ∙ sym w.outcome
  outcomes r q (inl v) (inr m) = absurd (few_among k l l.limit (λ p. (same.0 p).1) (subst (HasAtMost k) alike.limit v.is.few) m.many)
  outcomes r q (inr m) (inl w) = absurd (few_among l k k.limit (λ p. (same.0 p).0) (subst (HasAtMost l) (sym alike.limit) w.is.few) m.many)
  outcomes r q (inr m) (inr w) = m.outcome ∙ sym w.outcome

refusals : (n : Naming) (a : Action) (t : List ℕ) (r q : Response) → IsRefusalResponse n a t r → IsRefusalResponse n a t q → r.outcome ≡ q.outcome
refusals n a t r q h m =
    let one = one_refusal t h.line m.line h.cause m.cause h.refused m.refused in
    h.outcome ∙ ap (λ line. Refused line h.cause) one.0 ∙ ap (λ cause. Refused m.line cause) one.1 ∙ sym m.outcome

decks : (n : Naming) (a : Action) (t : List ℕ) (r q : Response) → HoldsOfDeckJob t (λ j. IsJobResponse n a j r)
    → HoldsOfDeckJob t (λ j. IsJobResponse n a j q) → r.outcome ≡ q.outcome
decks n a t r q h m =
    let deck : h.deck ≡ m.deck = same_deck t h.deck m.deck h.spelled m.spelled in
    let too : IsDeckJob h.deck m.job = subst (λ d. IsDeckJob d m.job) (sym deck) m.of_deck in
    outcomes n a h.holds.0 m.holds.0 (judged h.deck h.spelled.0.mask.1 h.job m.job h.of_deck too a h.holds.0 m.holds.0 h.holds.1 m.holds.1)
    r q h.holds.2 m.holds.2

pub one_outcome : OneOutcome
one_outcome n a t r q (inl h) (inl m) = refusals n a t r q h m
one_outcome n a t r q (inl h) (inr m) = absurd (h.refused.none m.deck m.spelled)
one_outcome n a t r q (inr h) (inl m) = absurd (m.refused.none h.deck h.spelled)
one_outcome n a t r q (inr h) (inr m) = decks n a t r q h m
