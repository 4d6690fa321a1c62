use Rattle.chan_needs.proofs.Names.{false, lesser_of, None, Option, refl, Some, sym, ℕ, ◌∙◌, ◌≡◌}
use Rattle.std.specs.Prelude.{is_some}
use Rattle.chan_needs.proofs.Leasts.{least_area}
use Rattle.chan_needs.proofs.least_bytes.least_in.Goals.{then-is_some, else-is_some}
use Rattle.chan_needs.proofs.least_bytes.least_in.Goals as goal

-- nothing is no lesser
kept : (o p : Option ℕ) → is_some p ≡ false → o ≡ lesser_of o p
kept None None none = refl
kept (Some m) None none = refl
kept o (Some n) none = cc

pub loop-area-preserved : goal.loop-area-preserved
loop-area-preserved c =
    let byte = c.overlap-byte.result in
    let joined : c.if-is_some.least ≡ lesser_of c.loop-area.least byte =
    elim c.if-is_some.branch [
      | then-is_some w ↦ w.least-is ∙ w.lesser-least.ensures
      | else-is_some w ↦ w.least-is ∙ kept c.loop-area.least byte (sym c.is_some.ensures ∙ w.if-is_some.false)
    ] in
    least_area c.args.areas.now c.loop-area.area-index _ c.loop-area.least byte
    c.if-is_some.least c.loop-area-test.true joined c.loop-area.invariant c.overlap-byte.ensures
