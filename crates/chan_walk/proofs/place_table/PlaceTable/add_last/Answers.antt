use Rattle.chan_walk.proofs.Names.{ap, arith, length, ◌+◌, ◌<◌, ◌∙◌, ◌≡◌}
use Rattle.std.proofs.Common.{set}
use Rattle.std.proofs.lemmas.List.{get_or_read}
use Rattle.chan_walk.proofs.Algorithms.PlaceTable.{finds_more}
use Rattle.chan_walk.specs.PlaceTable.{list_of}
use Rattle.chan_walk.proofs.place_table.PlaceTable.add_last.Goals as goal

pub returns : goal.returns
returns c ps f =
    let last = c.args.self.now.last in
    let len : c.len.result ≡ length last.items = omega (arith, c.len.ensures, last.ok.0) in
    let low : c.list_of-list.result < length last.items = omega (arith, c.list_of-list.ensures.within, len) in
    let count : c.len-2.result ≡ length ps + 1 = omega (arith, c.len-2.ensures, c.in_ok-push.ensures.len, c.args.self.now.before.ok.0, f.each) in
    finds_more c.args.self.now _ ps c.args.place c.list_of-list.result c.index.result.now f
    (c.list_of-list.ensures.list ∙ ap (λ n. list_of n c.args.place.address) len) (get_or_read last.items _ _ low c.index.ensures 0)
    c.in_ok-push.ensures.items (ap (set last.items c.list_of-list.result) count)
