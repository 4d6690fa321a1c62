use Rattle.chan_deck.proofs.Names.{[], ap, append-nil, append_assoc, false_from_ne_true, marked_row, storage_of, sym, ◌++◌, ◌∙◌, ◌∷◌}
use Rattle.chan_deck.proofs.ListingLemmas.{all_begun, row_added, row_begun}
use Rattle.chan_deck.proofs.listing.write_rows.Goals as goal

pub loop-place-preserved : goal.loop-place-preserved
loop-place-preserved g c =
    let ps = c.loop-place.yielded in
    record {
      all = append_assoc ps (c.in-Some.place ∷ []) c.next.new.self ∙ ap (λ z. ps ++ z) (sym c.in-Some.ensures.steps) ∙ c.loop-place.invariant.all;
      sound = false_from_ne_true _ (λ h. let never = c.in_ok-write_row.ensures.write.1 h in absurd cc);
      rows = row_added (marked_row (storage_of c.args.job.now) c.args.verdict) ps c.in-Some.place _ _ _
          c.loop-place.invariant.rows c.in_ok-write_row.ensures.ok;
    }

pub returns-in_err-write_row-clause-prefix : goal.returns-in_err-write_row-clause-prefix
returns-in_err-write_row-clause-prefix g c =
    let ps = c.loop-place.yielded in
    let all = ap (λ z. ps ++ z) (sym c.in-Some.ensures.steps) ∙ c.loop-place.invariant.all in
    rw (← all) (row_begun (marked_row (storage_of c.args.job.now) c.args.verdict) ps c.in-Some.place c.next.new.self _ _ _
    c.loop-place.invariant.rows c.write_row.ensures.prefix)

pub returns-clause-ok : goal.returns-clause-ok
returns-clause-ok g c =
    let all = sym (append-nil c.loop-place.yielded) ∙ ap (λ z. c.loop-place.yielded ++ z) (sym c.in-None.ensures.steps.0) ∙ c.loop-place.invariant.all in
    rw (← all) c.loop-place.invariant.rows

pub returns-clause-prefix : goal.returns-clause-prefix
returns-clause-prefix g c = all_begun _ _ _ (returns-clause-ok g c)
