use Rattle.chan_why.proofs.Names.{ap, both_ways, inl, inr, None, Option, Place, refl, Some, StoresAt, subst, sym}
use Rattle.chan_why.proofs.StoredOver.{IsLater, last_more}
use Rattle.chan_why.proofs.path.first_store.Goals as goal

pub returns-in-Some : goal.returns-in-Some
returns-in-Some c j look qs h =
    let q = c.args.look.now.place in
    last_more j c.args.address qs q c.args.found (Some c.in-Some.place)
    (subst (λ (z : Option Place). IsLater j c.args.address q z (Some c.in-Some.place)) (sym c.in-Some.is) refl) h

pub returns-in-None : goal.returns-in-None
returns-in-None c j look qs h =
    let q = c.args.look.now.place in
    let stores = (c.stores_at.ensures j look).0 c.if-stores_at.true in
    last_more j c.args.address qs q c.args.found (Some c.place.result)
    (subst (λ (z : Option Place). IsLater j c.args.address q z (Some c.place.result)) (sym c.in-None.is) (inl (stores, ap Some c.place.ensures))) h

pub returns-in-None-2 : goal.returns-in-None-2
returns-in-None-2 c j look qs h =
    let q = c.args.look.now.place in
    let none : StoresAt j c.args.address q → ⊥ = λ s. both_ways c.stores_at.result c.if-stores_at.false ((c.stores_at.ensures j look).1 s) in
    last_more j c.args.address qs q c.args.found None
    (subst (λ (z : Option Place). IsLater j c.args.address q z None) (sym c.in-None-2.is) (inr (none, refl))) h
