use Rattle.std.proofs.Common.{ap, map, ◌∙◌}
use Rattle.std.specs.Char.{to_ascii_uppercase}
use Rattle.ccw_core.proofs.UpperDigits.{capitals, on_ok}
use Rattle.ccw_core.proofs.digits.write_digits.Goals as goal

pub returns-then-is_ok : goal.returns-then-is_ok
returns-then-is_ok c =
    let written = on_ok c.encode_to_slice.result _ c.if-is_ok.ensures.value c.encode_to_slice.ensures.written in
    c.make_ascii_uppercase.ensures.after ∙ ap (map to_ascii_uppercase) written ∙ capitals c.args.bytes.now
