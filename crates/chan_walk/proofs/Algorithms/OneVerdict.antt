-- A job has one verdict at most.
use Rattle.chan_walk.proofs.Names.{arith, inl, inr, No, refl, subst, Yes, ◌≡◌}
use Rattle.chan_walk.specs.Reason.{number_of}
use Rattle.chan_walk.specs.Verdict.{ComesFirst, OneVerdict}
use Rattle.chan_walk.proofs.Algorithms.Listing.{same_reason}

pub one_verdict : OneVerdict
one_verdict j Yes Yes h k = refl
one_verdict j Yes (No a r) h k = absurd (h k.0.place r k.0.reached k.0.offends)
one_verdict j (No a r) Yes h k = absurd (k h.0.place r h.0.reached h.0.offends)
one_verdict j (No a r) (No b t) h k =
    go (subst (λ n. ComesFirst a r n t) k.0.address (h.1 k.0.place t k.0.reached k.0.offends))
    (subst (λ n. ComesFirst b t n r) h.0.address (k.1 h.0.place r h.0.reached h.0.offends))
  where
    go : ComesFirst a r b t → ComesFirst b t a r → No a r ≡ No b t
    go (inl l) (inl m) = absurd (omega arith)
    go (inl l) (inr m) = absurd (omega (arith, m.0))
    go (inr l) (inl m) = absurd (omega (arith, l.0))
    go (inr l) (inr m) =
        let number : number_of r ≡ number_of t = omega (arith, l.1, m.1) in
        let reason = same_reason r t number in
        rw (l.0, reason) refl
