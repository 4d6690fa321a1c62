use Rattle.std.proofs.Common.{arith, ◌∙◌, ◌≡◌, ◌<◌, ◌^◌, ap, length, subst, sym, true, [], get_or, List, rules, IsPermutation}
use Rattle.std.proofs.lemmas.List.Sorted.{IsNonDecreasingBy-from_sort_by_key, All-permutation}
use Rattle.ccw_core.specs.declared.areas.Area.{Area}
use Rattle.ccw_core.specs.Areas.{lies_in}
use Rattle.chan_areas.specs.Merged.{start_of, AreExactly, EndsBelow}
use Rattle.chan_areas.proofs.Merging.{all_left, AreLeftOf, exactly_low, none_left, refilled, runs_are, runs_left}
use Rattle.chan_areas.proofs.merged.Merged.new.Goals as goal
use Rattle.chan_areas.proofs.merged.Merged.new.Goals.{Joined-first, in-Some+then-run-eq0, in-Some+else-run-eq0, in_default}

exact : (c : Joined-first) → AreExactly (λ b. lies_in c.args.areas.items b ≡ true) c.match-first.areas.items
exact c =
    let sorted = c.sort_unstable_by_key.new.self in
    let runs = c.dedup_by.new.self.items in
    let moved = subst (λ xs. IsPermutation xs sorted) c.as_mut_slice.ensures.value c.sort_unstable_by_key.ensures.permutation in
    let left =
    subst (AreLeftOf sorted) (sym c.as_slice.ensures)
    (runs_left sorted c.dedup_by.new.self.items c.dedup_by.ensures.filtered
    (refilled c.args.areas.items sorted (c.sort_unstable_by_key.ensures.len ∙ ap length c.as_mut_slice.ensures.value))
    (IsNonDecreasingBy-from_sort_by_key start_of _ c.sort_unstable_by_key.ensures.sorted (λ a r q k. search rules))
    (All-permutation (EndsBelow (2 ^ 32)) c.args.areas.items sorted moved c.requires)
    (λ s area run b t kept r h. let met = h.called.met in let shown = h.shows in let left = h.leaves in search rules)) in
    let runs = c.as_slice.result.now in
    let P : List Area → Type 0 = AreExactly (λ b. lies_in c.args.areas.items b ≡ true) in
    let kept : (run : Area) → (0 < length runs → (run ≡ get_or runs 0 run) × (0 < run.len)) → P runs =
    λ run some. runs_are c.args.areas.items sorted runs moved left.0 (all_left sorted runs run some left) in
    elim c.match-first.branch [
      | in-Some+then-run-eq0 w ↦
          let first = w.in-Some.ensures.item in
          subst P (sym (ap (λ a. a.items) w.areas-is ∙ w.clear.ensures.items))
          (runs_are c.args.areas.items sorted [] moved (none_left sorted runs w.in-Some.run'.now first.3.0 first.1 w.if-run-eq0.true left) tt)
      | in-Some+else-run-eq0 w ↦
          subst P (c.as_slice.ensures ∙ sym (ap (λ a. a.items) w.areas-is)) (kept w.in-Some.run'.now (λ l. (w.in-Some.ensures.item.1, omega arith)))
      | in_default w ↦
          subst P (c.as_slice.ensures ∙ sym (ap (λ a. a.items) w.areas-is))
          (kept (record { start = 0; len = 0 }) (λ l. absurd (omega (arith, w.in_default.ensures.item.3))))
    ]

pub invariant_of-result : goal.invariant_of-result
invariant_of-result c = let is = exact c in (is.merged, exactly_low (2 ^ 32) c.args.areas.items c.match-first.areas.items is c.requires)

pub returns : goal.returns
returns c = exact c
