-- The first place at which a program may hang is the only one.
use Rattle.chan_why.proofs.Names.{arith, None, refl, Some, ◌≡◌}
use Rattle.chan_walk.proofs.Algorithms.Marks.{same_number}
use Rattle.chan_walk.specs.Places.{place_number}
use Rattle.chan_why.specs.Hang.{OneFirstHang}

pub one_first_hang : OneFirstHang
one_first_hang j None None h k = refl
one_first_hang j None (Some q) h k = absurd (h q k.0)
one_first_hang j (Some p) None h k = absurd (k p h.0)
one_first_hang j (Some p) (Some q) h k =
    let number : place_number p ≡ place_number q = omega (arith, h.1 q k.0, k.1 p h.0) in
    rw (same_number p q number) refl
