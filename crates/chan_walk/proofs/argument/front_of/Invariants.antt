use Rattle.chan_walk.proofs.Names.{AreZeroFrom, bytes_held, ccw_at, length, Some, ◌-◌, ◌<◌, ◌≡◌}
use Rattle.chan_walk.proofs.Algorithms.Following.{IsGiven}
use Rattle.chan_walk.proofs.argument.front_of.Given as goal

abbrev pub invariant-loop-part : goal.invariant-loop-part
invariant-loop-part l = record {
  given : IsGiven (bytes_held l.storage) l.address l.addresses l.have l.here.address;
  few : l.have < 6;
  size : length l.addresses ≡ 6;
  zeros : AreZeroFrom l.have l.addresses;
  stands : ccw_at (bytes_held l.storage) l.here.address ≡ Some l.here.ccw;
}

abbrev pub decreases-loop-part : goal.decreases-loop-part
decreases-loop-part l = 6 - l.have
