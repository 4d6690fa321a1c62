use Rattle.chan_deck.proofs.Names.{[], drop, err_from_is_err_and, Filling, value_of, length, Spells, subst, sym, take, take_at, ◌++◌, ◌∙◌, ◌≡◌}
use Rattle.chan_deck.specs.Reading.{HasReadTo}
use Rattle.chan_deck.proofs.reading.read_parts.Goals as goal
use Rattle.chan_deck.proofs.reading.read_parts.Goals.{After-fill}

-- the line of storage was read
filling : (c : After-fill) → HasReadTo c.args.text.now
    (Filling c.in_ok-heading.heading c.in_ok-lists.lists.extents.items c.in_ok-lists.lists.fetch.items
    c.in_ok-lists.lists.store.items (length c.as_mut_slice.result.now) [])
    c.read_lists.new.cursor
filling c =
    let h = c.in_ok-heading.heading in
    let t = c.args.text.now in
    let lists = c.in_ok-lists.lists in
    subst (λ k. HasReadTo t (Filling h lists.extents.items lists.fetch.items lists.store.items k []) c.read_lists.new.cursor)
    (sym (c.as_mut_slice.ensures.len ∙ c.in_ok-storage.ensures.len))
    (c.in_ok-lists.ensures h t (c.in_ok-heading.ensures t c.new-cursor.ensures))

pub returns-in_err-heading : goal.returns-in_err-heading
returns-in_err-heading c =
    let p = err_from_is_err_and c.from_residual.result c.from_residual.ensures.1 in
    rw (p.1, p.2) (c.in_err-heading.ensures c.args.text.now c.new-cursor.ensures)

pub returns-in_err-lists : goal.returns-in_err-lists
returns-in_err-lists c =
    let p = err_from_is_err_and c.from_residual-in_err-lists.result c.from_residual-in_err-lists.ensures.1 in
    let t = c.args.text.now in
    rw (p.1, p.2) (c.in_err-lists.ensures c.in_ok-heading.heading t (c.in_ok-heading.ensures t c.new-cursor.ensures))

pub returns-in_err-fill : goal.returns-in_err-fill
returns-in_err-fill c =
    let p = err_from_is_err_and c.from_residual-in_err-fill.result c.from_residual-in_err-fill.ensures.1 in
    let lists = c.in_ok-lists.lists in
    rw (p.1, p.2) (c.in_err-fill.ensures.filled c.in_ok-heading.heading lists.extents.items lists.fetch.items lists.store.items c.args.text.now
    (filling (goal.at.returns-in_err-fill c).After-fill))

pub returns : goal.returns
returns c =
    let h = c.in_ok-heading.heading in
    let t = c.args.text.now in
    let lists = c.in_ok-lists.lists in
    let spelled = c.in_ok-fill.ensures.filled h lists.extents.items lists.fetch.items lists.store.items t (filling (goal.at.returns c).After-fill) in
    let new = c.fill.new.storage in
    let same : take c.in_ok-storage.storage.len (new ++ drop (length new) c.in_ok-storage.storage.items) ≡ new =
    take_at new (drop (length new) c.in_ok-storage.storage.items) c.in_ok-storage.storage.len (c.fill.ensures.len ∙ c.as_mut_slice.ensures.len) in
    subst (λ x. Spells t (value_of h lists.extents.items lists.fetch.items lists.store.items x)) (sym same) spelled
