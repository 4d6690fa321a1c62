-- Where seeks go.
use Rattle.std.specs.Prelude.{◌≡◌, ℕ, true, List, Some, ◌⊎◌}
use Rattle.chan_walk.specs.declared.job.Job.{Job}
use Rattle.chan_walk.specs.declared.place.Place.{Place}
use Rattle.chan_walk.specs.Argument.{HasArgument}
use Rattle.chan_walk.specs.Fault.{begins_recalibrate, begins_seek}
use Rattle.chan_walk.specs.Job.{storage_of}
use Rattle.chan_walk.specs.Machine.{home}
use Rattle.chan_walk.specs.Place.{ccw_of}

-- where the seek or the Recalibrate that begins at p goes
abbrev pub SeeksTo : Job → Place → List ℕ → Type 0
SeeksTo j p x =
    ((begins_seek p (ccw_of j p) ≡ true) × HasArgument (storage_of j) p.address (Some x))
    ⊎ ((begins_recalibrate p (ccw_of j p) ≡ true) × (x ≡ home))
