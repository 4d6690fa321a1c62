use Rattle.std.proofs.Common.{◌++◌, ◌∙◌, ◌∷◌, ◌-◌, ◌^◌, [], ap, length, length-set, subst, sym}
use Rattle.std.specs.List.{All}
use Rattle.ccw_core.specs.Areas.{lies_in}
use Rattle.chan_areas.specs.Merged.{EndsBelow}
use Rattle.chan_areas.proofs.Merging.{last_grows, refilled}
use Rattle.chan_areas.proofs.merged.add_area.Goals as goal

pub returns-in-Some-join : goal.returns-in-Some-join
returns-in-Some-join c =
    let areas = c.as_mut_slice.result.now in
    let same = c.as_mut_slice.ensures.value in
    let run = c.in-Some-join.run' in
    let item = c.in-Some.ensures.item in
    let back = refilled c.args.areas.now.items _ (length-set areas (length areas - 1) run ∙ ap length same) in
    let grown =
    last_grows areas c.in-Some.last.now c.args.area run item.3.0 item.1 c.if-last-area.true (subst (All (EndsBelow (2 ^ 32))) (sym same) c.requires.low)
    c.requires.fits c.in-Some-join.ensures in
    record {
      low = subst (All (EndsBelow (2 ^ 32))) (sym back) grown.0;
      bytes = λ b. ap (λ z. lies_in z b) back ∙ grown.1 b ∙ ap (λ z. lies_in (z ++ c.args.area ∷ []) b) same;
    }
