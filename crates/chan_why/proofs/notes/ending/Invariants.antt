use Rattle.chan_why.proofs.Names.{AreLooks, ends_there, Has, Job, places_of_looks, take}
use Rattle.chan_why.proofs.Noted.{HasAddress, HoldAddresses}
use Rattle.chan_why.proofs.notes.ending.Given as goal

abbrev pub invariant-loop-look : goal.invariant-loop-look
invariant-loop-look l =
    (j : Job) → AreLooks j l.looks → HoldAddresses (Has l.addresses.items) (HasAddress ends_there j) (places_of_looks (take l.look-index l.looks))
