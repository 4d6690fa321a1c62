use Rattle.std.proofs.Common.{[], IsOk, Ok, Err, Result, ap, arith, false, length, sym, true, ◌∙◌, ◌≡◌}
use Rattle.std.specs.Result.{is_err}
use Rattle.chan_run.proofs.Writing.{no_longer}
use Rattle.chan_run.proofs.texts.line_of.Goals as goal

never : {A E : Type 0} (r : Result A E) → IsOk r → is_err r ≡ true → false ≡ true
never (Ok x) ok err = err
never (Err e) ok err = ok

pub returns-then-is_err-clause-room : goal.returns-then-is_err-clause-room
returns-then-is_err-clause-room c = λ fits.
    let more = no_longer c.args.texts.now c.loop-text.text-index (record { ref_ptr = (0, 0); now = [] }) c.loop-text-test.true in
    let held = ap length c.loop-text.invariant in
    let room = c.try_push_str.ensures.variant.1 (omega (arith, more, held, fits)) in
    never c.try_push_str.result room (sym c.is_err.ensures.value ∙ c.if-is_err.true)
