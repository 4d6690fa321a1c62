use Rattle.chan_why.proofs.Names.{false, get_or, get_or_read, length, refl, subst, sym, true, ◌∙◌, ◌≡◌}
use Rattle.chan_why.proofs.Retracing.{find_one, finds_as, finds_known}
use Rattle.chan_why.proofs.hang.FoundLooks.add.Goals as goal
use Rattle.chan_why.proofs.hang.FoundLooks.add.Goals.{else-predecessor-of-via-then-predecessor-of+else-not-index, else-predecessor-of-via-else-predecessor-of}

pub returns-in_ok-push : goal.returns-in_ok-push
returns-in_ok-push c =
    let ms = c.args.self.now.marks.items in
    let off = sym (get_or_read ms c.args.predecessor.at c.index.result.now c.requires.within c.index.ensures false) ∙ c.if-not-index.true in
    finds_as (length ms) (λ k. c.args.predecessor.at ≡ k) _ c.args.self.now _ (λ k. ((λ e. (c.if-predecessor-of.true, e)), λ h. h.1))
    (find_one (length ms) c.args.self.now _ c.args.predecessor.at c.requires.marked c.requires.within off refl c.in_ok-push.ensures.items)

pub returns-else-predecessor-of : goal.returns-else-predecessor-of
returns-else-predecessor-of c = finds_known (length c.args.self.now.marks.items) _ c.args.self.now c.requires.marked (λ k h. elim c.else-predecessor-of.branch [
  | else-predecessor-of-via-then-predecessor-of+else-not-index w ↦
      (c.requires.marked.agrees k).0 (subst (λ k. get_or c.args.self.now.marks.items k false ≡ true) h.1
      (sym (get_or_read c.args.self.now.marks.items c.args.predecessor.at w.index.result.now c.requires.within w.index.ensures false) ∙ w.if-not-index.false))
  | else-predecessor-of-via-else-predecessor-of w ↦ absurd (w.if-predecessor-of.false h.0)
])
