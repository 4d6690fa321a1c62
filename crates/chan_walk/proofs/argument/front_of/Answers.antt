use Rattle.chan_walk.proofs.Names.{ap, arith, bytes_held, ccw, get_or, onward, subst, sym, ℕ, ◌+◌, ◌-◌, ◌<◌, ◌∙◌, ◌≡◌}
use Rattle.chan_walk.proofs.Algorithms.Following.{IsEnded, IsGiven, completes, ended_short, ends_before, ends_here, goes_further}
use Rattle.chan_walk.proofs.argument.front_of.Goals as goal

pub loop-part-preserved : goal.loop-part-preserved
loop-part-preserved c =
    let s = bytes_held c.args.storage.now in
    let a = c.args.address in
    let have = c.loop-part.have in
    let here = c.loop-part.here.address in
    let i = c.loop-part.invariant in
    let part = c.in-Some.ensures in
    let n = c.note.ensures in
    let f = i.few in
    let some = part.some in
    let count = part.count in
    let all : c.min-more.result ≡ (ccw s here).count = omega (arith, count) in
    let ad : (k : ℕ) → k < (ccw s here).count → get_or c.note.new.addresses (have + k) 0 ≡ (ccw s here).address + k =
    λ k l. n.added k (omega (arith, all)) ∙ ap (λ b. b + k) part.from in
    record {
      given = subst (λ b. IsGiven s a c.note.new.addresses (have + c.min-more.result) b) (sym c.in-Some-onward.ensures.found)
          (subst (λ m. IsGiven s a c.note.new.addresses (have + m) (onward s here)) (sym all)
          (goes_further s a c.loop-part.addresses have here i.given part.part c.note.new.addresses n.before ad c.in-Some-onward.ensures.chains));
      few = omega arith;
      size = n.size;
      zeros = λ k le lt. n.after k le ∙ i.zeros k (omega (arith, le)) lt;
      stands = c.in-Some-onward.ensures.stands;
    }

pub returns-in_default : goal.returns-in_default
returns-in_default c =
    let i = c.loop-part.invariant in
    let f = i.few in
    let e = ends_before _ _ _ _ _ i.given (omega (arith, i.size, f)) c.in_default.ensures.none in
    record { few = omega arith; whole = λ six. absurd (omega arith); short = λ lt. (ended_short _ _ _ _ f e, e.front, i.zeros) }

pub returns-then-have-eq6 : goal.returns-then-have-eq6
returns-then-have-eq6 c =
    let s = bytes_held c.args.storage.now in
    let have = c.loop-part.have in
    let here = c.loop-part.here.address in
    let i = c.loop-part.invariant in
    let part = c.in-Some.ensures in
    let n = c.note.ensures in
    let f = i.few in
    let count = part.count in
    let room : c.min-more.result ≡ 6 - have = omega arith in
    record {
      few = omega arith;
      whole =
          λ six.
          completes s c.args.address c.loop-part.addresses have here i.given part.part c.note.new.addresses n.before f (omega (arith, count, room)) n.size
          (λ k l. n.added k (omega (arith, room)) ∙ ap (λ b. b + k) part.from);
      short = λ lt. absurd (omega arith);
    }

pub returns-in-None : goal.returns-in-None
returns-in-None c =
    let s = bytes_held c.args.storage.now in
    let a = c.args.address in
    let have = c.loop-part.have in
    let here = c.loop-part.here.address in
    let i = c.loop-part.invariant in
    let part = c.in-Some.ensures in
    let n = c.note.ensures in
    let f = i.few in
    let count = part.count in
    let all : c.min-more.result ≡ (ccw s here).count = omega (arith, count) in
    let lt : have + c.min-more.result < 6 = omega arith in
    let ad : (k : ℕ) → k < (ccw s here).count → get_or c.note.new.addresses (have + k) 0 ≡ (ccw s here).address + k =
    λ k l. n.added k (omega (arith, all)) ∙ ap (λ b. b + k) part.from in
    let e : IsEnded s a (have + c.min-more.result) c.note.new.addresses =
    subst (λ m. IsEnded s a (have + m) c.note.new.addresses) (sym all)
    (ends_here s a c.loop-part.addresses have here i.given part.part c.note.new.addresses n.before ad (omega (arith, n.size, all, lt)) c.in-None.ensures.none)
    in
    record {
      few = omega arith;
      whole = λ six. absurd (omega arith);
      short = λ _. (ended_short s a _ _ lt e, e.front, λ k le l. n.after k le ∙ i.zeros k (omega (arith, le)) l);
    }
