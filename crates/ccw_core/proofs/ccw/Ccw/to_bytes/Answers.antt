use Rattle.std.proofs.Common.{arith}
use Rattle.ccw_core.proofs.CcwLemmas.{ccw-bytes_of}
use Rattle.ccw_core.proofs.ccw.Ccw.to_bytes.Goals as goal

pub returns-clause-whole : goal.returns-clause-whole
returns-clause-whole c =
    rw (c.write_u16.ensures, c.write_u24.ensures, ← c.self.view_is)
    (ccw-bytes_of _ c.self.invariant (omega arith))
