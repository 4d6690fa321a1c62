use Rattle.chan_deck.proofs.Names.{arith, sym, ◌∙◌}
use Rattle.chan_deck.proofs.WriteLemmas.{puts_more, no_puts_left}
use Rattle.chan_deck.proofs.writing.write_puts.Goals as goal

pub loop-rest-preserved : goal.loop-rest-preserved
loop-rest-preserved c =
    let l = c.loop-rest in
    let written = rw c.split_at.ensures.front at c.in_ok-write_word.ensures in
    record {
      told = rw c.split_at.ensures.back (puts_more l.address l.rest.now l.out.items _ _ c.loop-rest-test.true written l.invariant.told);
      fits = omega (arith, l.invariant.fits, c.split_at.ensures.back_len, c.loop-rest-test.true);
    }

pub returns : goal.returns
returns c = sym (no_puts_left c.loop-rest.address c.loop-rest.rest.now c.loop-rest.out.items c.loop-rest-test.false) ∙ c.loop-rest.invariant.told
