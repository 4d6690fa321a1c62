use Rattle.std.proofs.Common.{◌≡◌, ◌+◌, ◌*◌, get_or, arith, refl}
use Rattle.ccw_core.specs.Ccw.{ccw}
use Rattle.ccw_core.proofs.CcwLemmas.{bytes_of-ccw}
use Rattle.ccw_core.proofs.ccw.Ccw.from_bytes.Goals as goal

address_is : (c : goal.After-read_u16)
    → c.read_u24.result ≡ get_or c.args.bytes.now 1 0 * 65536 + get_or c.args.bytes.now 2 0 * 256 + get_or c.args.bytes.now 3 0
address_is c = grind arith

count_is : (c : goal.After-read_u16) → c.read_u16.result ≡ get_or c.args.bytes.now 6 0 * 256 + get_or c.args.bytes.now 7 0
count_is c = grind arith

pub returns-clause-fields : goal.returns-clause-fields
unfolding ccw
returns-clause-fields c = rw (address_is c, count_is c) refl

pub returns-clause-whole : goal.returns-clause-whole
unfolding ccw
returns-clause-whole c = rw (address_is c, count_is c) (bytes_of-ccw c.args.bytes.now c.told-bytes c.fits-bytes)
