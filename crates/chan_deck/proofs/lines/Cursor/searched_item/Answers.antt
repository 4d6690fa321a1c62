use Rattle.chan_deck.proofs.Names.{refl, ◌+◌}
use Rattle.chan_deck.proofs.RefusalLemmas.{reads_line, refuses_end}
use Rattle.chan_deck.proofs.lines.Cursor.searched_item.Goals as goal

pub returns-in_default-clause-next : goal.returns-in_default-clause-next
returns-in_default-clause-next c = record {
  takes = λ s next goes. absurd cc;
  refuses = λ s cause open_yet e t st. refuses_end t s (c.args.self.now.line + 1) c.args.self.now.rest.now st c.in_default.ensures.none open_yet;
}

pub returns-clause-next : goal.returns-clause-next
returns-clause-next c =
    let parts = rw (c.in-Some.line-is, c.in-Some.rest-is) at c.in-Some.ensures.some in
    reads_line c.args.self.now _ c.in-Some.line.now c.read.result refl parts c.read.ensures
