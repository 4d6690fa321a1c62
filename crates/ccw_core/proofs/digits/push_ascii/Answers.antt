use Rattle.std.proofs.Common.{ap, Bor, Result, Ok, Err, List, MatchResult, IsUtf8, string_bytes, ℕ, ◌++◌, ◌≡◌}
use Rattle.std.specs.Result.{result_unwrap_or}
use Rattle.std.proofs.lemmas.Str.{IsUtf8-from_ascii}
use Rattle.ccw_core.proofs.UpperDigits.{on_pushed}
use Rattle.ccw_core.proofs.digits.push_ascii.Goals as goal

unwrapped : {T E : Type 0} (r : Result T E) (d : T) (P : T → Type 0) (Q : E → Type 0)
    → MatchResult r P Q → ((e : E) → Q e → ⊥) → P (result_unwrap_or r d)
unwrapped (Ok x) d P Q h never = h
unwrapped (Err e) d P Q h never = absurd (never e h)

pub returns : goal.returns
returns c =
    let all = unwrapped c.from_utf8.result _ (λ (s : Bor (List ℕ)). (s.now ≡ c.args.characters.now) × IsUtf8 c.args.characters.now) _
    c.from_utf8.ensures.cases (λ e bad. bad.0 (IsUtf8-from_ascii c.args.characters.now c.requires)) in
    let same : c.unwrap_or.result.now ≡ c.args.characters.now = rw c.unwrap_or.ensures all.0 in
    on_pushed c.push_str.result _ _ _ _ c.push_str.ensures.bytes (ap (λ (t : List ℕ). string_bytes c.args.out.now ++ t) same)
