use Rattle.chan_walk.proofs.Names.{ap, data_of, false, Fields, has_count, has_data_in, is_formed, is_fresh, is_transfer, length, refl, storage_of, sym, true, ◌%◌, ◌&&◌, ◌∙◌, ◌≡◌}
use Rattle.ccw_core.specs.Ccw.{is_invalid}
use Rattle.chan_walk.proofs.Theory.CheckCases.{check-found}
use Rattle.chan_walk.proofs.Theory.Found.{found_here}
use Rattle.chan_walk.proofs.fault.program_check_at.Goals as goal

pub returns-then-begins_invalid : goal.returns-then-begins_invalid
returns-then-begins_invalid c =
    let p = c.args.visit.now.place in
    let f = c.args.visit.now.ccw in
    let t : is_transfer f ≡ false = sym c.is_transfer.ensures.value ∙ c.if-is_transfer.false in
    let i : (is_fresh p.entered && is_invalid f) ≡ true = sym c.begins_invalid.ensures ∙ c.if-begins_invalid.true in
    let here = found_here c.args.job.now p f c.requires.stands in
    (check-found _ p _ c.requires.stands ∙ rw (t, i) refl, c.command.ensures ∙ ap (λ (w : Fields). w.command) here)

pub returns-then-not-is_formed : goal.returns-then-not-is_formed
returns-then-not-is_formed c =
    let p = c.args.visit.now.place in
    let f = c.args.visit.now.ccw in
    let t : is_transfer f ≡ false = sym c.is_transfer.ensures.value ∙ c.if-is_transfer.false in
    let i : (is_fresh p.entered && is_invalid f) ≡ false = sym c.begins_invalid.ensures ∙ c.if-begins_invalid.false in
    let e : is_formed f ≡ false = sym c.is_formed.ensures ∙ c.if-not-is_formed.true in
    let here = found_here c.args.job.now p f c.requires.stands in
    (check-found _ p _ c.requires.stands ∙ rw (t, i, e) refl, ap (λ n. n % 8) c.flags.ensures ∙ ap (λ (w : Fields). w.flags % 8) here)

pub returns-then-not-has_count : goal.returns-then-not-has_count
returns-then-not-has_count c =
    let p = c.args.visit.now.place in
    let f = c.args.visit.now.ccw in
    let t : is_transfer f ≡ false = sym c.is_transfer.ensures.value ∙ c.if-is_transfer.false in
    let i : (is_fresh p.entered && is_invalid f) ≡ false = sym c.begins_invalid.ensures ∙ c.if-begins_invalid.false in
    let e : is_formed f ≡ true = sym c.is_formed.ensures ∙ c.if-not-is_formed.false in
    let n : has_count f ≡ false = sym c.has_count.ensures ∙ c.if-not-has_count.true in
    let here = found_here c.args.job.now p f c.requires.stands in
    (check-found _ p _ c.requires.stands ∙ rw (t, i, e, n) refl, tt)

pub returns-then-not-has_data_in : goal.returns-then-not-has_data_in
returns-then-not-has_data_in c =
    let p = c.args.visit.now.place in
    let f = c.args.visit.now.ccw in
    let t : is_transfer f ≡ false = sym c.is_transfer.ensures.value ∙ c.if-is_transfer.false in
    let i : (is_fresh p.entered && is_invalid f) ≡ false = sym c.begins_invalid.ensures ∙ c.if-begins_invalid.false in
    let e : is_formed f ≡ true = sym c.is_formed.ensures ∙ c.if-not-is_formed.false in
    let n : has_count f ≡ true = sym c.has_count.ensures ∙ c.if-not-has_count.false in
    let d : has_data_in (length (storage_of c.args.job.now)) f ≡ false = sym c.has_data_in.ensures ∙ c.if-not-has_data_in.true in
    let here = found_here c.args.job.now p f c.requires.stands in
    (check-found _ p _ c.requires.stands ∙ rw (t, i, e, n, d) refl, (c.data_of.ensures.range ∙ ap data_of here, c.len.ensures.value))

pub returns : goal.returns
returns c =
    let p = c.args.visit.now.place in
    let f = c.args.visit.now.ccw in
    let t : is_transfer f ≡ false = sym c.is_transfer.ensures.value ∙ c.if-is_transfer.false in
    let i : (is_fresh p.entered && is_invalid f) ≡ false = sym c.begins_invalid.ensures ∙ c.if-begins_invalid.false in
    let e : is_formed f ≡ true = sym c.is_formed.ensures ∙ c.if-not-is_formed.false in
    let n : has_count f ≡ true = sym c.has_count.ensures ∙ c.if-not-has_count.false in
    let d : has_data_in (length (storage_of c.args.job.now)) f ≡ true = sym c.has_data_in.ensures ∙ c.if-not-has_data_in.false in
    check-found _ p _ c.requires.stands ∙ rw (t, i, e, n, d) refl
