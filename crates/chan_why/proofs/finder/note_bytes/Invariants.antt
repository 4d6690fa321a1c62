use Rattle.chan_why.proofs.Names.{IsIndex, TakesSoFar}
use Rattle.chan_why.proofs.finder.note_bytes.Given as goal

abbrev pub invariant-loop-byte : goal.invariant-loop-byte
invariant-loop-byte l = IsIndex (TakesSoFar l.looks l.at l.byte-items l.byte-index) l.first
