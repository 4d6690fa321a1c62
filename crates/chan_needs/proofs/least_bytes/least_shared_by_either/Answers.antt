use Rattle.chan_needs.proofs.Names.{IsByteOf, lies_in, true, ◌≡◌}
use Rattle.chan_needs.proofs.Leasts.{least_besides, least_swapped}
use Rattle.chan_needs.specs.Row.{besides}
use Rattle.chan_needs.proofs.least_bytes.least_shared_by_either.Goals as goal

pub returns : goal.returns
returns c =
    let a = c.args.area in
    let one = c.args.one.now in
    let other = c.args.other.now in
    rw c.lesser.ensures
    (least_swapped (λ b. lies_in (besides a other) b ≡ true) (λ b. lies_in one b ≡ true) _
    (least_besides a other (λ b. lies_in one b ≡ true) c.least_in.result c.least_shared-shared.result c.if-area-eq0.false
    (least_swapped (λ b. lies_in one b ≡ true) (IsByteOf a) _ c.least_in.ensures)
    (least_swapped (λ b. lies_in one b ≡ true) (λ b. lies_in other b ≡ true) _ c.least_shared-shared.ensures)))
