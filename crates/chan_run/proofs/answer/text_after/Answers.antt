use Rattle.std.proofs.Common.{ap, append_assoc, codes, string_bytes, sym, vec_items, ◌∙◌}
use Rattle.chan_run.proofs.answer.text_after.Goals as goal

pub returns-in_ok-format-in-Some : goal.returns-in_ok-format-in-Some
returns-in_ok-format-in-Some c =
    rw c.in-Some.is (ap (λ v. vec_items v) c.into_bytes-in-Some.ensures.value ∙ c.in_ok-format-in-Some.ensures.ok
    ∙ sym (append_assoc c.in-Some.name.now (codes ": ") (string_bytes c.args.text)))

pub returns-in-None : goal.returns-in-None
returns-in-None c = rw c.in-None.is (ap (λ v. vec_items v) c.into_bytes.ensures.value)
