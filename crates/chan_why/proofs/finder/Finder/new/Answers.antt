use Rattle.chan_why.proofs.Names.{Has, List, Offence, subst}
use Rattle.chan_walk.proofs.Algorithms.Walking.{reached_all}
use Rattle.chan_why.proofs.finder.Finder.new.Goals as goal

pub offenders_of-requires-clause-seen : goal.offenders_of-requires-clause-seen
offenders_of-requires-clause-seen c o listed =
    let j = c.requires.0 in
    let s = c.requires.1 in
    let of_job = subst (λ (os : List Offence). Has os o) c.offences.ensures listed in
    (reached_all j c.args.survey.now.looks c.args.survey.now.found_from s.found).0 o.place (s.offences.only o of_job).0

pub offenders_of-requires-clause-distinct : goal.offenders_of-requires-clause-distinct
offenders_of-requires-clause-distinct c = c.requires.1.found.walked.distinct
