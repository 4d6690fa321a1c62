use Rattle.chan_deck.proofs.Names.{ap, arith, drop, length, List, next_multiple_of, replicate, rules, take, take_at, zeros, ℕ, ◌++◌, ◌+◌, ◌∙◌, ◌≡◌}
use Rattle.chan_deck.proofs.PartLemmas.{length_storage, storage_is}
use Rattle.chan_deck.proofs.parts.place_image.Goals as goal

pub returns-clause-bytes : goal.returns-clause-bytes
returns-clause-bytes c =
    let image = c.args.image.now in
    let at = c.args.at in
    let size = next_multiple_of (at + length image) 8 in
    let old = c.as_mut_slice.result.now in
    let new = c.write_at.new.room in
    let items = c.in_ok-storage.storage.items in
    let len : length old ≡ size = c.as_mut_slice.ensures.len ∙ c.in_ok-storage.ensures.len ∙ c.next_multiple_of-len.ensures.value in
    let zero : old ≡ replicate (length old) 0 = search rules in
    let empty : old ≡ zeros size = zero ∙ ap (λ (k : ℕ). zeros k) len in
    let put : new ≡ (take at (zeros size) ++ image) ++ drop (at + length image) (zeros size) =
    c.write_at.ensures ∙ ap (λ (t : List ℕ). (take at t ++ image) ++ drop (at + length image) t) empty in
    let same : take c.in_ok-storage.storage.len (new ++ drop (length new) items) ≡ new =
    take_at new (drop (length new) items) c.in_ok-storage.storage.len (c.write_at.auto.room ∙ c.as_mut_slice.ensures.len) in
    same ∙ storage_is at image new put

pub returns-clause-size : goal.returns-clause-size
returns-clause-size c = omega (arith, ap length (returns-clause-bytes c) ∙ length_storage c.args.at c.args.image.now, c.requires)
