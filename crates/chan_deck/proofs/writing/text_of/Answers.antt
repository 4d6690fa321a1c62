use Rattle.chan_deck.proofs.Names.{[], device, end, extent_of, fetch, header, header_of, length, limit_line, map, mask, puts, replicate, start, storage, store, ◌++◌, ◌/◌, ◌∷◌}
use Rattle.chan_deck.specs.PreambleValue.{value_of_preamble}
use Rattle.chan_deck.proofs.WriteLemmas.{length_behind, puts_behind, six_texts}
use Rattle.chan_deck.proofs.writing.text_of.Goals as goal

pub returns-clause-text : goal.returns-clause-text
returns-clause-text c =
    let it = value_of_preamble c.args.preamble.now (replicate c.args.at 0 ++ c.args.bytes.now) in
    rw (
      c.in_ok-push.ensures,
      c.in_ok-write_storage.ensures,
      c.in_ok-write_store.ensures,
      c.in_ok-write_fetch.ensures,
      c.in_ok-write_extents.ensures,
      c.in_ok-write_heading.ensures.text,
      c.new-out.ensures.items,
      c.pairs.ensures.value,
      ← length_behind c.args.at c.args.bytes.now,
      ← puts_behind c.args.at c.args.bytes.now c.requires.whole,
    ) (six_texts
    (header (header_of it.version) ∷ device it.device ∷ mask it.mask ∷ start it.start ∷ limit_line it.version)
    (map extent_of it.extents) (map fetch it.fetch) (map store it.store)
    (storage (length it.storage) ∷ puts (length it.storage / 8) 0 it.storage) (end ∷ []))
