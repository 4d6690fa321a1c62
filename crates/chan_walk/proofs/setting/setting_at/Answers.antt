use Rattle.chan_walk.proofs.Names.{ccw_at-where, rules}
use Rattle.chan_walk.proofs.Theory.Checks.{check_stands}
use Rattle.chan_walk.proofs.setting.setting_at.Goals as goal

pub returns-in_default : goal.returns-in_default
returns-in_default c = search (rules, check_stands, ccw_at-where)
