use Rattle.chan_why.proofs.Names.{ap, arith, FindsMore, get_or_read, HasBefore, length, MarksFound, Place, place_number, refl, rules, slice_get, slice_get_read, slice_get_within, subst, sym, ℕ, ◌+◌, ◌<◌, ◌∙◌, ◌≡◌}
use Rattle.chan_why.proofs.Retracing.{found_within, retraced, retraces_begin, retraces_on}
use Rattle.chan_why.proofs.hang.can_end.Goals as goal

pub add_before-requires-clause-within : goal.add_before-requires-clause-within
add_before-requires-clause-within c p h =
    let b = c.in_ok-predecessors.ensures.are.only p.at p.of (p, h, refl, refl) in
    omega (arith, c.in_ok-resize.ensures.len, c.resize.new.self.ok.0, slice_get_within c.args.looks.now p.at b.0 b.1)

pub loop-at-init : goal.loop-at-init
loop-at-init c =
    let ls = c.args.looks.now in
    let before = c.in_ok-predecessors.predecessors.list.items in
    let more = c.in_ok-add_before.ensures in
    let len : length c.resize.new.self.items ≡ length ls = omega (arith, c.in_ok-resize.ensures.len, c.resize.new.self.ok.0) in
    record {
      marked = subst (λ n. MarksFound n c.add_before.new.self) len more.marked;
      traced = λ j are. retraces_begin j ls are before c.in_ok-predecessors.ensures.are _ _ c.add_before.new.self c.new.ensures.items more;
    }

pub bounds-looks-index : goal.bounds-looks-index
bounds-looks-index c =
    let n = length c.args.looks.now in
    subst (λ (k : ℕ). k < n) (sym (get_or_read c.loop-at.found.order.items c.loop-at.at c.index.result.now (omega arith) c.index.ensures 0))
    (found_within n c.loop-at.found c.loop-at.at c.loop-at.invariant.marked (omega arith))

pub offset_bounds-looks-index : goal.offset_bounds-looks-index
offset_bounds-looks-index c = let l : c.index.result.now < length c.args.looks.now = bounds-looks-index c in search rules

pub add_before-requires-in-loop-at-clause-within : goal.add_before-requires-in-loop-at-clause-within
add_before-requires-in-loop-at-clause-within c p h =
    let b = c.in_ok-predecessors.ensures.are.only p.at p.of (p, h, refl, refl) in
    omega (arith, c.loop-at.invariant.marked.len, slice_get_within c.args.looks.now p.at b.0 b.1)

pub loop-at-preserved : goal.loop-at-preserved
loop-at-preserved c =
    let ls = c.args.looks.now in
    let before = c.in_ok-predecessors.predecessors.list.items in
    let i = c.loop-at.at in
    let l = c.index-looks-index.result in
    let is = get_or_read c.loop-at.found.order.items i c.index.result.now (omega arith) c.index.ensures 0 in
    let low : c.index.result.now < length ls =
    subst (λ (k : ℕ). k < length ls) (sym is) (found_within (length ls) c.loop-at.found i c.loop-at.invariant.marked (omega arith)) in
    let of : c.number.result + 1 ≡ place_number l.place + 1 = ap (λ n. n + 1) (c.number.ensures ∙ ap (λ (p : Place). place_number p) c.place-place.ensures) in
    let same : length c.loop-at.found.marks.items ≡ length ls = c.loop-at.invariant.marked.len in
    let more : FindsMore (length ls) (HasBefore before (place_number l.place + 1)) c.loop-at.found c.add_before-in-loop-at.new.self =
    subst (λ (n : ℕ). FindsMore n (HasBefore before (place_number l.place + 1)) c.loop-at.found c.add_before-in-loop-at.new.self) same
    (subst (λ (o : ℕ). FindsMore (length c.loop-at.found.marks.items) (HasBefore before o) c.loop-at.found c.add_before-in-loop-at.new.self)
    of c.in_ok-add_before-2.ensures) in
    record {
      marked = more.marked;
      traced = λ j are.
          retraces_on j ls are before c.in_ok-predecessors.ensures.are (length ls) c.loop-at.found c.add_before-in-loop-at.new.self i l (omega arith)
          (sym (ap (slice_get ls) is) ∙ slice_get_read ls _ c.index.result.now l refl low c.index-looks-index.is) more (c.loop-at.invariant.traced j are);
    }

pub returns-clause-each : goal.returns-clause-each
returns-clause-each c j are reached =
    retraced j c.args.looks.now are reached _ c.loop-at.found c.loop-at.at c.loop-at.invariant.marked (omega arith) (c.loop-at.invariant.traced j are)
