-- How each action is answered. Tests hold the texts of advice.
use Rattle.std.specs.Prelude.{Bool, false, true}
use Rattle.chan_args.specs.declared.action.Action.{Action}
use Rattle.chan_args.specs.declared.action.Action.TheVariants as actions
use Rattle.chan_run.specs.declared.manner.Manner.{Manner}

-- whether the open job is judged, and whether the hint on a refused line and the limit on places
-- are told whether or not the input has a name
abbrev pub manner_with : Bool → Bool → Bool → Manner
manner_with of_open hints limit =
    record { judges_open = of_open; always_hints = hints; tells_limit = limit }

abbrev pub manner_of : Action → Manner
manner_of actions.Verify = manner_with false false false
manner_of (actions.List wide) = manner_with false false false
manner_of (actions.Range start len) = manner_with false false true
manner_of (actions.Why told) = manner_with false true true
manner_of (actions.Needs deck) = manner_with true false true
manner_of actions.Graph = manner_with false true true

-- there is advice on the verdict
abbrev pub is_advised : Action → Bool
is_advised (actions.Why told) = true
is_advised (actions.Needs deck) = true
is_advised _ = false
