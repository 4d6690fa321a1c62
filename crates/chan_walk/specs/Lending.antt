-- How the areas lent to a job are asked.
use Rattle.chan_walk.specs.declared.job.Job.{Job}
use Rattle.chan_walk.specs.declared.lent.Lending.{Lending}
use Rattle.chan_walk.specs.declared.lent.Lending.TheVariants.{Given, Merged}
use Rattle.chan_walk.specs.Lent.{AreLent}

-- asked in this way, they are what the job was lent
abbrev pub Lends : Job → Lending → Type 0
Lends j Given = Unit {0}
Lends j (Merged l) = AreLent j l.now
