use Rattle.chan_why.proofs.Names.{Area, IsByteIn, IsLeastOrNone, List, refl, subst, ◌%◌, ◌-◌}
use Rattle.chan_why.proofs.Changing.{least_ccw, one_ccw}
use Rattle.chan_why.proofs.offence_evidence.changed_ccw.Goals as goal

pub unwrap-byte-requires : goal.unwrap-byte-requires
unwrap-byte-requires c =
    let found =
    subst (λ (xs : List Area). IsLeastOrNone (IsByteIn xs c.args.range.start c.args.range.len) c.first_in.result) c.ccws.ensures c.first_in.ensures in
    one_ccw c.requires.0 c.args.guard.now.ccws c.requires.1.ccws c.args.range c.first_in.result found c.requires.2

pub returns : goal.returns
returns c j g =
    let found =
    subst (λ (xs : List Area). IsLeastOrNone (IsByteIn xs c.args.range.start c.args.range.len) c.first_in.result) c.ccws.ensures c.first_in.ensures in
    let least = subst (IsLeastOrNone (IsByteIn c.args.guard.now.ccws c.args.range.start c.args.range.len)) c.unwrap-byte.ensures found in
    (c.unwrap-byte.result - c.unwrap-byte.result % 8, refl, least_ccw j c.args.guard.now.ccws g.ccws c.args.range c.unwrap-byte.result least)
