use Rattle.chan_walk.proofs.Names.{[], ap, IsOwnFault, None, Place, Reason, reason_of, refl, subst, sym, ◌++◌, ◌∙◌, ◌∷◌}
use Rattle.chan_walk.proofs.Algorithms.Listing.{added_fault, offence, unadded_fault}
use Rattle.chan_walk.proofs.Algorithms.Looking.{none_shown, own_clear, own_faulty}
use Rattle.chan_walk.proofs.offence.add_fault.Goals as goal

pub returns-in_ok-push : goal.returns-in_ok-push
returns-in_ok-push c j look =
    let l = c.args.look.now in
    let old = c.args.faults.now.items in
    let own = subst (IsOwnFault j l.place) (sym c.fault.ensures ∙ c.in-Some.is) look.fault in
    added_fault j l.place (reason_of c.in-Some.evidence) old c.push.new.self.items
    (c.in_ok-push.ensures.items ∙ ap (λ (p : Place). old ++ offence p c.reason.result ∷ []) c.place.ensures
    ∙ ap (λ (r : Reason). old ++ offence l.place r ∷ []) c.reason.ensures)
    (own_faulty j l.place c.in-Some.evidence own).0

pub returns-in_default : goal.returns-in_default
returns-in_default c j look =
    let l = c.args.look.now in
    let none = none_shown c.fault.result c.in_default.not-Some in
    let clear = own_clear j l.place (subst (IsOwnFault j l.place) (sym c.fault.ensures ∙ none) look.fault) in
    unadded_fault j l.place c.args.faults.now.items c.args.faults.now.items refl None (λ r e. cc) clear
