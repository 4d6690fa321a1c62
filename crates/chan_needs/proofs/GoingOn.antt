-- What the calls allow a supervisor may happen, and so may each step and each end.
use Rattle.chan_needs.proofs.Names.{ap, eq-eqb, eqb_tells, false, Flight, inl, inr, IsAllowed, IsSome, IsSupervised, List, None, Option, ProgramActs, ProgramStartsAt, ProgramWaits, ProgramWaitsAt, refl, Remembered, Some, subst, Supervision, sym, true, ℕ, ◌==◌, ◌∙◌, ◌∷◌, ◌≡◌, ◌≢◌, ◌⊎◌}
use Rattle.chan_needs.specs.Supervised.{SupervisedGoesOn}
use Rattle.chan_needs.proofs.Beginning.{after, here, moved_rests, others, picked, rewritten, shares_of}

module _ (v : Supervision) (i : ℕ) (x : Option Flight) (p : Option Remembered) (t : List ℕ) (shares : (f : Flight) → x ≡ Some f → f.moment.storage ≡ t) where
  abbrev next : Supervision
  next = record { situation = after v.situation i x t shares; programs = λ k. picked (k == i) p (v.programs k) }

  noted_here : next.programs i ≡ p
  noted_here = ap (λ z. picked z p (v.programs i)) (eq-eqb i i refl)

  rest_others : (k : ℕ) → (k ≡ i) ⊎ ProgramWaitsAt v next k
  rest_others k = go (eqb_tells k i) (others v.situation i x t shares k)
    where
      go : (((k == i) ≡ true) × (k ≡ i)) ⊎ (((k == i) ≡ false) × (k ≢ i))
          → (k ≡ i) ⊎ ProgramWaits (v.situation.at k) (next.situation.at k) → (k ≡ i) ⊎ ProgramWaitsAt v next k
      go (inl e) r = inl e.1
      go (inr e) (inl r) = inl r
      go (inr e) (inr r) = inr (r, ap (λ z. picked z p (v.programs k)) e.0)

  here_next : next.situation.at i ≡ x
  here_next = here v.situation i x t shares

-- a program in flight goes on, or leaves
acts_on : (v : Supervision) (before : List Supervision) (i : ℕ) (x : Option Flight) (p : Option Remembered) (t : List ℕ)
    (shares : (f : Flight) → x ≡ Some f → f.moment.storage ≡ t)
    → IsSupervised (v ∷ before) → IsSome (v.situation.at i) → ProgramActs v.situation (next v i x p t shares).situation (v.situation.at i) x
    → (IsSome x → p ≡ v.programs i) → IsSupervised (next v i x p t shares ∷ v ∷ before)
acts_on v before i x p t shares run there acts noted = (
  run,
  inl (
    i,
    inr (record {
      there = there;
      acts = subst (λ y. ProgramActs v.situation (next v i x p t shares).situation (v.situation.at i) y) (sym (here_next v i x p t shares)) acts;
      noted = λ some. noted_here v i x p t shares ∙ noted (subst IsSome (here_next v i x p t shares) some);
    }),
    rest_others v i x p t shares,
  ),
)

pub supervised_goes_on : SupervisedGoesOn
supervised_goes_on = record {
  starts = λ v before i run s.
      let shares = shares_of s.flight v.situation.storage s.storage in
      let x = Some s.flight in
      let p = Some s.program in (
        next v i x p v.situation.storage shares,
        here_next v i x p v.situation.storage shares,
        (run, inl (i, inl (starts_next v i s), rest_others v i x p v.situation.storage shares)),
      );
  steps = λ v before i f n run there step.
      let g : Flight = record f { moment = n } in
      let shares = shares_of g n.storage refl in (
        next v i (Some g) (v.programs i) n.storage shares,
        here_next v i (Some g) (v.programs i) n.storage shares,
        acts_on v before i (Some g) (v.programs i) n.storage shares run (subst IsSome (sym there) refl)
            (subst (λ y. ProgramActs v.situation (next v i (Some g) (v.programs i) n.storage shares).situation y (Some g)) (sym there) (refl, step))
            (λ some. refl),
      );
  leaves = λ v before i run there. (
    next v i None None v.situation.storage (none_shares v),
    here_next v i None None v.situation.storage (none_shares v),
    noted_here v i None None v.situation.storage (none_shares v),
    acts_on v before i None None v.situation.storage (none_shares v) run there (leaves v i (v.situation.at i) there) (λ some. absurd (none_some some)),
  );
  writes = λ v before t run m. (
    record { situation = rewritten v.situation t; programs = v.programs },
    refl,
    (run, inr (m, λ k. (moved_rests t (v.situation.at k), refl))),
  );
}
  where
    -- a program that may start is there, and remembered
    starts_next : (v : Supervision) (i : ℕ) (s : IsAllowed v i)
        → ProgramStartsAt v (next v i (Some s.flight) (Some s.program) v.situation.storage (shares_of s.flight v.situation.storage s.storage)) i
    starts_next v i s =
        let shares = shares_of s.flight v.situation.storage s.storage in
        record {
          allowed = s;
          there = here_next v i (Some s.flight) (Some s.program) v.situation.storage shares;
          noted = noted_here v i (Some s.flight) (Some s.program) v.situation.storage shares;
          storage = refl;
        }

    none_shares : (v : Supervision) (f : Flight) → None ≡ Some f → f.moment.storage ≡ v.situation.storage
    none_shares v f e = absurd cc

    none_some : IsSome {T = Flight} None → ⊥
    none_some e = absurd cc

    leaves : (v : Supervision) (i : ℕ) (y : Option Flight) → IsSome y
        → ProgramActs v.situation (next v i None None v.situation.storage (none_shares v)).situation y None
    leaves v i None some = absurd cc
    leaves v i (Some f) some = refl
