use Rattle.chan_deck.proofs.Names.{subst, sym}
use Rattle.std.proofs.Common.{IsAscii}
use Rattle.ccw_core.proofs.UpperDigits.{ascii_digits}
use Rattle.chan_deck.proofs.explanation.push_setting.Goals as goal

pub push_ascii-requires : goal.push_ascii-requires
push_ascii-requires c = subst IsAscii (sym c.byte_digits.ensures) (ascii_digits _)
