-- What a writer got, part by part, where the parts are known by equations.
use Rattle.std.proofs.Common.{◌≤◌, ◌<◌, ◌+◌, ◌-◌, ◌∷◌, List, [], ℕ, Bor, Option, arith, drop, ◌≡◌, ◌∙◌, ◌++◌, Bool, false, length, slice_index_or, suc, sym, take, true, zero}
use Rattle.std.proofs.KnownBytes.{Appends-trans}
use Rattle.std.specs.Io.KnownBytes.{Appends}
use Rattle.std.proofs.lemmas.List.{length-append, take_all}
use Rattle.ccw_core.specs.Written.{AppendsPrefix}
pub use Rattle.ccw_core.proofs.Prefixes.{prefix_after, prefix_of_more}
use Rattle.chan_run.specs.Texts.{concatenated, WriterGot}

-- some texts before one, and this one, are no longer than all of them
pub no_longer : (texts : List (Bor (List ℕ))) (i : ℕ) (d : Bor (List ℕ)) → i < length texts
    → length (concatenated (take i texts)) + length (slice_index_or texts i d).now ≤ length (concatenated texts)
no_longer [] i d lt = absurd (omega (arith, lt))
no_longer (text ∷ texts) zero d lt = rw (length-append text.now (concatenated texts)) (omega arith)
no_longer (text ∷ texts) (suc i) d lt =
    let more = no_longer texts i d (omega (arith, lt)) in
    rw (length-append text.now (concatenated (take i texts)), length-append text.now (concatenated texts)) (omega (arith, more))

-- the first of some texts was written, and then a prefix of the others
pub after_first : (texts : List (Bor (List ℕ))) (d : Bor (List ℕ)) (a b c : Option (List ℕ))
    → 1 ≤ length texts → Appends a b (slice_index_or texts 0 d).now
    → AppendsPrefix b c (concatenated (take (length texts - 1) (drop 1 texts)))
    → AppendsPrefix a c (concatenated texts)
after_first [] d a b c some h k = absurd (omega (arith, some))
after_first (text ∷ texts) d a b c some h k =
    prefix_after a b c text.now (concatenated texts) h (rw (take_all (length (text ∷ texts) - 1) texts (omega arith)) at k)

-- bytes were written, and then more
pub got_more : (a b c : Option (List ℕ)) (xs ys : List ℕ) (f g : Bool) → f ≡ false → WriterGot xs a b f
    → WriterGot ys b c g → WriterGot (xs ++ ys) a c g
got_more a b c xs ys f g sound first more =
    (λ s. Appends-trans a b c xs ys (first.0 sound) (more.0 s), prefix_after a b c xs ys (first.0 sound) more.1)

-- a write of the first of some bytes failed
pub got_front : (a b : Option (List ℕ)) (xs ys : List ℕ) (f : Bool) → f ≡ true → WriterGot xs a b f
    → WriterGot (xs ++ ys) a b f
got_front a b xs ys f broken first =
    (λ sound. let bad : true ≡ false = sym broken ∙ sound in absurd cc, prefix_of_more a b xs ys first.1)
