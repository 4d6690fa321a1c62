use Rattle.chan_deck.proofs.Names.{[], arith, device, header, header_of, limit_line, line, map, mask, on_ok_weaker, start, text, ◌++◌, ◌∙◌, ◌∷◌}
use Rattle.chan_deck.proofs.WriteLemmas.{five_parts}
use Rattle.chan_deck.proofs.writing.write_heading.Goals as goal

pub returns-clause-text : goal.returns-clause-text
returns-clause-text c =
    let p = c.args.preamble.now in
    let feed = 10 ∷ [] in
    let parts =
    five_parts c.args.out.now.items (line (header (header_of p.version)) ++ feed) (line (device p.device) ++ feed) (line (mask p.mask) ++ feed)
    (line (start p.start) ++ feed) (text (map line (limit_line p.version))) in
    on_ok_weaker c.write_limit.result (λ limits. limits
    ∙ rw (c.in_ok-push-4.ensures, c.in_ok-push-3.ensures, c.in_ok-push-2.ensures, c.in_ok-push.ensures, c.byte.ensures.value, c.header.ensures) parts)
    c.write_limit.ensures.text

pub returns-clause-mask : goal.returns-clause-mask
returns-clause-mask c =
    let right = rw c.byte.ensures.value at c.byte.ensures.mask in
    on_ok_weaker c.write_limit.result (λ _. (omega (arith, c.byte.ensures.value, c.byte.type_inv), right)) c.write_limit.ensures.text
