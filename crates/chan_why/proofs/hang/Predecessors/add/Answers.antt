use Rattle.chan_why.proofs.Names.{AddsPredecessor, ap, arith, bucket_of, get_or, get_or_read, length, Option, Predecessor, Predecessors, refl, set, subst, sym, ℕ, ◌+◌, ◌<◌, ◌∙◌, ◌≡◌}
use Rattle.std.specs.Vec.{with_item}
use Rattle.chan_why.proofs.Retracing.{one_added}
use Rattle.chan_why.proofs.hang.Predecessors.add.Goals as goal

pub returns-in_ok-push : goal.returns-in_ok-push
returns-in_ok-push c =
    let p = c.args.self.now in
    let n = length p.ends.items in
    let bucket = c.bucket-bucket.ensures in
    let low : bucket_of n c.in-Some.of < n = omega (arith, c.requires.some) in
    let within : c.bucket-bucket.result < n = omega (arith, low, bucket) in
    let before = get_or_read p.ends.items c.bucket-bucket.result c.index-before.result.now within c.index-before.ensures 0
    ∙ ap (λ r. get_or p.ends.items r 0) bucket in
    let len : c.len.result ≡ length p.list.items + 1 = omega (arith, c.len.ensures, c.in_ok-push.ensures.len, p.list.ok.0) in
    let q : Predecessors = record { list = c.push.new.self; ends = with_item p.ends c.bucket-bucket.result c.len.result } in
    let x : Predecessor = record { of = c.in-Some.of; at = c.args.at; before = c.index-before.result.now } in
    subst (λ (o : Option ℕ). AddsPredecessor c.args.at o p q) (sym c.in-Some.is)
    (one_added c.args.at c.in-Some.of p q x refl refl c.requires c.in_ok-push.ensures.items before
    (ap (λ r. set p.ends.items r c.len.result) bucket ∙ ap (set p.ends.items (bucket_of n c.in-Some.of)) len) low)
