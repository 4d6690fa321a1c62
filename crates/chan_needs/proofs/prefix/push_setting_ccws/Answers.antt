-- One CCW after another.
use Rattle.std.proofs.Common.{◌≡◌, ◌==◌, false, append_assoc, rules}
use Rattle.chan_needs.proofs.prefix.push_setting_ccws.Goals as goal

pub returns : goal.returns
returns c =
    let mask : (c.args.job.now.mask == 0) ≡ false = search rules in
    rw (mask, c.in_ok-push_ccw-2.ensures, c.in_ok-push_ccw.ensures) (append_assoc c.args.bytes.now.items _ _)
