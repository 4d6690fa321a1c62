use Rattle.chan_why.proofs.Names.{argument_seen, arith, IsIndex, length, List, subst, TakesByte, TakesSoFar, ℕ, ◌+◌, ◌≤◌}
use Rattle.chan_why.proofs.Indexing.{byte_more, bytes_all, bytes_begin, note_more, same_keys}
use Rattle.chan_why.proofs.finder.note_bytes.Goals as goal

pub loop-byte-init : goal.loop-byte-init
loop-byte-init c = bytes_begin c.args.looks.now c.args.at c.argument-byte-items.result.now c.args.first.now c.requires.index

pub loop-byte-preserved : goal.loop-byte-preserved
loop-byte-preserved c =
    let ls = c.args.looks.now in
    let xs = c.argument-byte-items.result.now in
    let i = c.loop-byte.byte-index in
    note_more (TakesSoFar ls c.args.at xs i) (TakesSoFar ls c.args.at xs (i + 1)) c.from.result c.args.at c.loop-byte.first c.keep_first.new.first
    (byte_more ls c.args.at xs i c.from.result _ (omega arith) c.from.ensures) c.loop-byte.invariant c.in_ok-keep_first.ensures

pub returns : goal.returns
returns c =
    let ls = c.args.looks.now in
    let l = c.index-looks-at.result in
    let xs = c.argument-byte-items.result.now in
    let whole : length xs ≤ c.loop-byte.byte-index = omega arith in
    same_keys (TakesSoFar ls c.args.at (argument_seen l) c.loop-byte.byte-index) (TakesByte ls (c.args.at + 1)) c.loop-byte.first
    (bytes_all ls c.args.at l c.requires.within c.index-looks-at.is c.loop-byte.byte-index
    (subst (λ (ys : List ℕ). length ys ≤ c.loop-byte.byte-index) c.argument-byte-items.ensures whole))
    (subst (λ (ys : List ℕ). IsIndex (TakesSoFar ls c.args.at ys c.loop-byte.byte-index) c.loop-byte.first) c.argument-byte-items.ensures c.loop-byte.invariant)
