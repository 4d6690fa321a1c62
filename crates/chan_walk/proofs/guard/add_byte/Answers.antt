use Rattle.chan_walk.proofs.Names.{[], arith, byte_area, refl, sym, ◌++◌, ◌∙◌, ◌∷◌}
use Rattle.chan_areas.proofs.Merging.{run_ends, run_grows, same_before}
use Rattle.chan_walk.proofs.guard.add_byte.Goals as goal

pub returns-then-start-run-clause-bytes : goal.returns-then-start-run-clause-bytes
returns-then-start-run-clause-bytes c b =
    let old = c.args.areas.now.items in
    let run = c.args.run in
    let byte = byte_area c.args.start in
    run_grows old run byte _ refl (omega arith) (omega arith) (omega arith) b
    ∙ sym (run_ends old (old ++ run ∷ []) run byte refl b)

pub returns-clause-bytes : goal.returns-clause-bytes
returns-clause-bytes c b =
    same_before c.add_area.new.areas.items (c.args.areas.now.items ++ c.args.run ∷ []) (byte_area c.args.start ∷ []) b
    (c.in_ok-add_area.ensures.bytes b)
