use Rattle.chan_deck.proofs.ExplanationLemmas.{path_more, path_whole}
use Rattle.chan_deck.proofs.explanation.push_path.Goals as goal

pub loop-at-preserved : goal.loop-at-preserved
loop-at-preserved c = path_more c.args.job.now c.args.path.now c.loop-at.at _ _ _ _ c.loop-at-test.true c.in_ok-push_path_row.ensures c.loop-at.invariant

pub returns : goal.returns
returns c = path_whole c.args.job.now c.args.path.now c.loop-at.at _ _ c.loop-at-test.false c.loop-at.invariant
