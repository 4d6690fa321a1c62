use Rattle.chan_needs.proofs.Names.{bytes_held, rules, ◌≡◌}
use Rattle.chan_needs.proofs.Copied.{area_read, range_read, same_bytes}
use Rattle.chan_needs.proofs.remembered.is_held.Goals as goal

pub returns-in-Some-Some : goal.returns-in-Some-Some
returns-in-Some-Some c =
    let s = bytes_held c.args.storage.now in
    let now = c.in-Some-Some.now.now in
    let was = c.in-Some-Some.then.now in
    let part = c.in-Some-Some.ensures'.lookup.0 in
    let read = range_read s c.args.area now c.in-Some-Some.ensures in (
      (λ h. let same : now ≡ was = search rules in area_read s c.args.area c.args.kept.now now was read part.1 part.2 same),
      λ held. let same : now ≡ was = same_bytes s c.args.area c.args.kept.now now was read part.1 part.2 held in search (rules, same),
    )
