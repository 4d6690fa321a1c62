use Rattle.chan_deck.proofs.Names.{Err, err_from_is_err_and, value_of, inl, refl, rules, Spells, ◌≡◌}
use Rattle.chan_deck.specs.declared.deck_error.DeckError.TheVariants.{Memory}
use Rattle.chan_deck.proofs.RefusalLemmas.{refusal_only, same_deck}
use Rattle.chan_deck.proofs.reading.read_deck.Goals as goal

pub returns-in_err-heading-clause-named : goal.returns-in_err-heading-clause-named
returns-in_err-heading-clause-named c =
    let p = err_from_is_err_and c.from_residual.result c.from_residual.ensures.1 in
    rw (p.1, p.2) (λ line cause refused. refusal_only c.args.text.now c.in_err-heading.field-0.0 line cause c.in_err-heading.ensures refused)

-- where all is read, the text spells what was read
spelled : (c : goal.After-drop-extents-2)
    → Spells c.args.text.now
    (value_of c.in_ok-heading.heading c.in_ok-extents.extents c.in_ok-heading.lists.fetch.items c.in_ok-heading.lists.store.items
    c.in_ok-heading.storage.items)
spelled c = search rules

pub returns-clause-spelled : goal.returns-clause-spelled
returns-clause-spelled c = spelled c

pub returns-clause-accepted : goal.returns-clause-accepted
returns-clause-accepted c = λ d spells. same_deck c.args.text.now _ d (spelled c) spells

pub returns-clause-named : goal.returns-clause-named
returns-clause-named c = λ line cause refused. refused.none _ (spelled c)

-- where the extents were not taken, memory has run out
memory_only : (c : goal.After-drop-storage) → c.from_residual-in_err-extents.result ≡ Err Memory
memory_only c = search rules

pub returns-in_err-extents-clause-spelled : goal.returns-in_err-extents-clause-spelled
returns-in_err-extents-clause-spelled c = rw (memory_only c) tt

pub returns-in_err-extents-clause-refused : goal.returns-in_err-extents-clause-refused
returns-in_err-extents-clause-refused c = rw (memory_only c) tt

pub returns-in_err-extents-clause-accepted : goal.returns-in_err-extents-clause-accepted
returns-in_err-extents-clause-accepted c = rw (memory_only c) (λ d spells. refl)

pub returns-in_err-extents-clause-named : goal.returns-in_err-extents-clause-named
returns-in_err-extents-clause-named c = rw (memory_only c) (λ line cause refused. inl refl)
