use Rattle.chan_why.proofs.Names.{AddsPredecessor, one_after, Option, refl, rules, slice_get_read, subst, ℕ, ◌≡◌}
use Rattle.chan_why.proofs.Retracing.{before_more}
use Rattle.chan_why.proofs.hang.Predecessors.of_looks.Goals as goal

pub loop-at-preserved : goal.loop-at-preserved
loop-at-preserved c =
    let l = c.index-looks-at.result in
    let i = c.loop-at.at in
    let p = c.loop-at.predecessors in
    let q = c.add.new.self in
    let r = c.add-in-loop-at.new.self in
    let t = c.add-in-loop-at-2.new.self in
    let next : c.map.result ≡ one_after l.next.next = search rules in
    let skip : c.map-in-loop-at.result ≡ one_after l.next.skip = search rules in
    record {
      buckets = c.in_ok-add-3.ensures.buckets;
      are =
          before_more c.args.looks.now i l p q r t (slice_get_read c.args.looks.now _ i l refl c.loop-at-test.true c.index-looks-at.is) c.loop-at.invariant.are
          (subst (λ (o : Option ℕ). AddsPredecessor i o p q) c.end_after.ensures c.in_ok-add.ensures)
          (subst (λ (o : Option ℕ). AddsPredecessor i o q r) next c.in_ok-add-2.ensures)
          (subst (λ (o : Option ℕ). AddsPredecessor i o r t) skip c.in_ok-add-3.ensures);
    }
