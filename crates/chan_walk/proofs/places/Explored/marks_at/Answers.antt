use Rattle.chan_walk.proofs.Names.{bit_at, HasWay, marks_of, subst, sym, ◌↔◌, ◌≡◌}
use Rattle.chan_walk.proofs.Algorithms.InOrder.{bit_is_way}
use Rattle.chan_walk.proofs.places.Explored.marks_at.Goals as goal

pub returns-clause-ways : goal.returns-clause-ways
returns-clause-ways c w h =
    let e = bit_is_way c.self.inside.marks c.self.inside.places.items c.args.address w c.self.invariant h in
    let f = subst (λ z. (bit_at (marks_of c.self.inside.marks c.args.address) w ≡ 1) ↔ HasWay z c.args.address w) c.self.view_is e in
    subst (λ z. (bit_at z w ≡ 1) ↔ HasWay c.args.self.now c.args.address w) (sym c.bits_at.ensures) f
