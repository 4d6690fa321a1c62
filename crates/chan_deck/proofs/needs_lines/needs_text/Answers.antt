use Rattle.chan_deck.proofs.Names.{[], encode_with, extent_of, fetch, in_six_digits, keep_line, map, mask, store, ◌∷◌}
use Rattle.chan_needs.specs.Listed.{listed}
use Rattle.chan_deck.proofs.WriteLemmas.{needs_parts}
use Rattle.chan_deck.proofs.needs_lines.needs_text.Goals as goal

pub returns : goal.returns
unfolding encode_with
returns c =
    let n = listed c.args.needs.now in
    rw (
      c.in_ok-write_kept.ensures,
      c.in_ok-write_store.ensures,
      c.in_ok-write_fetch.ensures,
      c.in_ok-write_extents.ensures,
      c.in_ok-push.ensures,
      c.byte.ensures.value,
      c.new-text.ensures.items,
      c.deref-5.ensures.value,
      c.deref-6.ensures.value,
      c.deref-7.ensures.value,
      c.deref-8.ensures.value,
      c.in_ok-extents.ensures.pairs,
      c.deref.ensures.value,
      rw c.deref-2.ensures.value at c.in_ok-fetch.ensures,
      rw c.deref-3.ensures.value at c.in_ok-store.ensures,
      rw c.deref-4.ensures.value at c.in_ok-keep.ensures,
    ) (needs_parts (mask n.mask ∷ []) (map extent_of n.extents) (map fetch (in_six_digits n.fetch)) (map store (in_six_digits n.store))
    (map keep_line (in_six_digits n.keep)))
