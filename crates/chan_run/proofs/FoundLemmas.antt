-- The lines of programs that are found, one after another.
use Rattle.std.proofs.Common.{◌≡◌, ◌∙◌, ◌<◌, ◌++◌, ◌∷◌, [], List, ap, arith, append_assoc, append-nil, length, refl, slice_index_or, subst, suc, sym, take, zero, ℕ}
use Rattle.chan_deck.specs.PartsValue.{storage_with}
use Rattle.chan_find.specs.Programs.{AreStarts}
use Rattle.chan_run.specs.Find.{AreLinesAt, AreStartsInImage, IsLineAt}
use Rattle.chan_args.specs.declared.image_options.ImageOptions.{ImageOptions}

-- a line more
pub lines_more : (o : ImageOptions) (image xs : List ℕ) (i d left before after : ℕ) (text line : List ℕ)
    → i < length xs → AreLinesAt o image left (take i xs) text before → IsLineAt o image (slice_index_or xs i d) before line after
    → AreLinesAt o image left (take (suc i) xs) (text ++ line) after
lines_more o image [] i d left before after text line lt lines at = absurd (omega (arith, lt))
lines_more o image (x ∷ xs) zero d left before after text line lt (none, same) at =
    (line, [], after, subst (λ n. IsLineAt o image x n line after) same at, (refl, refl), rw none (sym (append-nil line)))
lines_more o image (x ∷ xs) (suc i) d left before after text line lt (first, rest, between, is, are, joins) at = (
  first,
  rest ++ line,
  between,
  is,
  lines_more o image xs i d between before after rest line (omega (arith, lt)) are at,
  ap (λ t. t ++ line) joins ∙ append_assoc first rest line,
)

-- starts of programs over storage that holds an image are starts in the image
pub starts_over : (o : ImageOptions) (image held starts items : List ℕ)
    → held ≡ storage_with o.at image → items ≡ starts → AreStarts held starts → AreStartsInImage o image items
starts_over o image held starts items is same are = rw (same, sym is) are
