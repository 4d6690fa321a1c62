use Rattle.chan_why.proofs.Names.{arith, FindsMore, has_at, length, refl, slice_get_read, subst, ◌-◌, ◌≡◌, ◌⊎◌}
use Rattle.chan_why.proofs.Retracing.{IsListed, all_listed, below_end, finds_as, finds_both, listed_more, row_before}
use Rattle.chan_why.proofs.hang.FoundLooks.add_before.Goals as goal

pub index-predecessor-requires : goal.index-predecessor-requires
index-predecessor-requires c =
    let p = c.args.predecessors.now in
    let low = below_end (length p.ends.items) _ c.loop-end.invariant.bucket.0 c.loop-end.end p.list.items c.loop-end.invariant.bucket.1 c.loop-end-test.true in
    omega (arith, low.1, p.list.ok.0)

pub add-requires-clause-within : goal.add-requires-clause-within
add-requires-clause-within c =
    let p = c.args.predecessors.now in
    let low = below_end (length p.ends.items) _ c.loop-end.invariant.bucket.0 c.loop-end.end p.list.items c.loop-end.invariant.bucket.1 c.loop-end-test.true in
    let here = slice_get_read p.list.items _ (c.loop-end.end - 1) c.index-predecessor.result.now refl low.1 c.index-predecessor.ensures in
    omega (arith, c.loop-end.invariant.more.marked.len, c.requires.within _ (has_at p.list.items (c.loop-end.end - 1) _ here))

pub loop-end-smaller : goal.loop-end-smaller
loop-end-smaller c =
    let p = c.args.predecessors.now in
    let bucket = c.loop-end.invariant.bucket in
    let low = below_end (length p.ends.items) _ bucket.0 c.loop-end.end p.list.items bucket.1 c.loop-end-test.true in
    let here = slice_get_read p.list.items _ (c.loop-end.end - 1) c.index-predecessor.result.now refl low.1 c.index-predecessor.ensures in
    (row_before p (length p.ends.items) c.args.of bucket.0 c.loop-end.end c.index-predecessor.result.now refl
    c.requires.buckets bucket.1 c.loop-end-test.true here).1

pub loop-end-preserved : goal.loop-end-preserved
loop-end-preserved c =
    let p = c.args.predecessors.now in
    let n = length c.args.self.now.marks.items in
    let x = c.index-predecessor.result.now in
    let bucket = c.loop-end.invariant.bucket in
    let more = c.loop-end.invariant.more in
    let low = below_end (length p.ends.items) _ bucket.0 c.loop-end.end p.list.items bucket.1 c.loop-end-test.true in
    let here = slice_get_read p.list.items _ (c.loop-end.end - 1) x refl low.1 c.index-predecessor.ensures in
    let before = row_before p (length p.ends.items) c.args.of bucket.0 c.loop-end.end x refl c.requires.buckets bucket.1 c.loop-end-test.true here in
    let one = subst (λ m. FindsMore m (λ k. (x.of ≡ c.args.of) × (x.at ≡ k)) c.loop-end.self c.add.new.self) more.marked.len c.in_ok-add.ensures in
    record {
      bucket = (c.loop-end.end - 1, before.0);
      more =
          finds_as n (λ k. IsListed p.list.items c.args.of c.loop-end.end k ⊎ ((x.of ≡ c.args.of) × (x.at ≡ k)))
          (IsListed p.list.items c.args.of x.before) c.args.self.now c.add.new.self
          (λ k. listed_more (length p.ends.items) p.list.items c.args.of c.loop-end.end k x c.loop-end-test.true here before.0 before.1)
          (finds_both n (IsListed p.list.items c.args.of c.loop-end.end)
          (λ k. (x.of ≡ c.args.of) × (x.at ≡ k)) c.args.self.now c.loop-end.self c.add.new.self more one);
    }

pub returns : goal.returns
returns c =
    let zero_left : c.loop-end.end ≡ 0 = omega arith in
    let more = subst
    (λ e. FindsMore (length c.args.self.now.marks.items) (IsListed c.args.predecessors.now.list.items c.args.of e) c.args.self.now c.loop-end.self)
    zero_left c.loop-end.invariant.more in
    finds_as (length c.args.self.now.marks.items) (IsListed c.args.predecessors.now.list.items c.args.of 0)
    _ c.args.self.now c.loop-end.self (all_listed c.args.predecessors.now.list.items c.args.of) more
