use Rattle.chan_deck.proofs.Names.{ap, arith, length, length-append, refl, ◌∷◌}
use Rattle.chan_deck.proofs.LineRefusals.{is_less}
use Rattle.chan_deck.proofs.RefusalLemmas.{ends_there, reads_line}
use Rattle.chan_deck.proofs.lines.Cursor.next_item.Goals as goal

pub returns-in_default-read : goal.returns-in_default-read
returns-in_default-read c =
    let text = c.args.self.now.rest.now in
    let line = c.in-Some.line.now in
    let rest = c.in-Some.rest.now in
    let whole = rw (c.in-Some.line-is, c.in-Some.rest-is) at c.in-Some.ensures in
    record {
      next = reads_line c.args.self.now _ line c.read.result refl
          (ends_there text line rest c.read.result whole c.read.ensures c.in_default-read.not-Formless) c.read.ensures;
      shorter = is_less (length text) (length rest) c.read.result (omega (arith, ap length whole, length-append line (10 ∷ rest)));
    }
