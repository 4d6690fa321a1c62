use Rattle.std.proofs.Common.{subst}
use Rattle.chan_deck.proofs.PartLemmas.{on_ok}
use Rattle.chan_run.specs.OneCcw.{SpellsCcw}
use Rattle.chan_run.proofs.one_ccw.show.Goals as goal

pub returns-clause-spelled : goal.returns-clause-spelled
returns-clause-spelled g c = on_ok c.map_err.result (subst SpellsCcw c.as_bytes.ensures.value c.in_ok-line.ensures.spelled)
