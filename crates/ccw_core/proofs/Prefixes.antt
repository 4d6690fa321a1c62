-- What a writer got, part by part.
use Rattle.std.proofs.Common.{ℕ, ◌+◌, List, ◌++◌, Option, length, take, arith}
use Rattle.std.proofs.lemmas.List.{length-append, take-append-le}
use Rattle.std.proofs.Math.Seq.{take-append-add}
use Rattle.std.proofs.KnownBytes.{Appends-trans}
use Rattle.std.specs.Io.KnownBytes.{Appends}
use Rattle.ccw_core.specs.Written.{AppendsPrefix}

-- a prefix of some bytes is one of more bytes
pub prefix_of_more : (a b : Option (List ℕ)) (xs ys : List ℕ) → AppendsPrefix a b xs → AppendsPrefix a b (xs ++ ys)
prefix_of_more a b xs ys h = record {
  count = h.count;
  within = omega (arith, length-append xs ys, h.within);
  grown = rw (take-append-le h.count xs ys h.within) h.grown;
}

-- all of some bytes, and then a prefix of more
pub prefix_after : (a b c : Option (List ℕ)) (xs ys : List ℕ) → Appends a b xs → AppendsPrefix b c ys → AppendsPrefix a c (xs ++ ys)
prefix_after a b c xs ys h k = record {
  count = length xs + k.count;
  within = omega (arith, length-append xs ys, k.within);
  grown = rw (take-append-add xs ys k.count) (Appends-trans a b c xs (take k.count ys) h k.grown);
}
