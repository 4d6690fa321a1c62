use Rattle.std.proofs.Common.{◌≢◌, ◌++◌, ◌∷◌, [], ◌∙◌, sym, List, ℕ}
use Rattle.chan_run.proofs.named_ccw.fault_line.Goals as goal

-- a text that ends with a byte isn't empty
ends : (t : List ℕ) (b : ℕ) → (t ++ b ∷ []) ≢ []
ends [] b h = absurd cc
ends (x ∷ t) b h = absurd cc

pub returns : goal.returns
returns c h = ends _ 10 (sym c.in_ok-push_str.ensures.bytes ∙ h)
