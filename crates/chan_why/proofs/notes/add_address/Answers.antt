use Rattle.chan_why.proofs.Names.{ap, Place}
use Rattle.chan_why.proofs.Noted.{address_added}
use Rattle.chan_why.proofs.notes.add_address.Goals as goal

pub returns-in_ok-push : goal.returns-in_ok-push
returns-in_ok-push c =
    address_added c.args.counts c.place.result.address c.args.look.now.place.address c.args.addresses.now.items
    c.push.new.self.items c.if-counts.true (ap (λ (p : Place). p.address) c.place.ensures) c.in_ok-push.ensures.items
