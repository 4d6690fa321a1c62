use Rattle.chan_walk.proofs.Names.{[], ap, byte_area, lies_in, map, refl, rules, slice_index, subst, sym, take, ◌++◌, ◌∙◌, ◌∷◌}
use Rattle.std.proofs.Common.{append-nil}
use Rattle.std.proofs.lemmas.List.{take_more}
use Rattle.chan_areas.proofs.Merging.{bytes_empty}
use Rattle.chan_areas.specs.Merged.{HaveSameBytes}
use Rattle.chan_walk.proofs.Algorithms.Guarding.{adds_byte}
use Rattle.chan_walk.proofs.guard.add_bytes.Goals as goal

pub loop-address-init : goal.loop-address-init
loop-address-init c = record {
  low = c.requires.low;
  fits = search rules;
  bytes = λ b. sym (bytes_empty c.args.areas.now.items _ b refl) ∙ sym (ap (λ z. lies_in z b) (append-nil c.args.areas.now.items));
}

pub loop-address-preserved : goal.loop-address-preserved
loop-address-preserved c =
    let i = c.loop-address.address-index in
    let xs = c.args.addresses.now in
    let old = c.args.areas.now.items in
    let new = c.add_byte.new.areas.items ++ c.in_ok-run.run' ∷ [] in
    record {
      low = c.in_ok-run.ensures.low;
      fits = c.in_ok-run.ensures.run;
      bytes = subst (λ z. HaveSameBytes new (old ++ map byte_area z)) (sym (take_more xs i 0 c.loop-address-test.true))
          (adds_byte old (c.loop-address.areas.items ++ c.loop-address.run ∷ []) new (take i xs) (slice_index xs i)
          c.loop-address.invariant.bytes c.in_ok-run.ensures.bytes);
    }
