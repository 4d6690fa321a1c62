use Rattle.std.proofs.Common.{◌∙◌, ◌≡◌, ap}
use Rattle.chan_needs.specs.Listed.{listed}
use Rattle.chan_deck.specs.Needs.{in_six_digits}
use Rattle.chan_run.proofs.LeastLemmas.{fetch_fits, six_are_areas, store_fits}
use Rattle.chan_run.proofs.NeedLemmas.{needs_extents}
use Rattle.chan_run.proofs.least_job.granting_text.Goals as goal

pub extents_over-requires : goal.extents_over-requires
extents_over-requires c =
    let (j, needs, short) = c.requires.needs in
    rw (c.deref-2.ensures.value, c.in_ok-runs.ensures.pairs, c.deref.ensures.value) (needs_extents j (listed c.args.needs.now) needs)

pub parts_text-requires-clause-addresses : goal.parts_text-requires-clause-addresses
parts_text-requires-clause-addresses c =
    let n = listed c.args.needs.now in
    let (j, needs, short) = c.requires.needs in
    let fetch : c.deref-5.result.now ≡ in_six_digits n.fetch = c.deref-5.ensures.value ∙ c.in_ok-fetch.ensures ∙ ap in_six_digits c.deref-3.ensures.value in
    let store : c.deref-6.result.now ≡ in_six_digits n.store = c.deref-6.ensures.value ∙ c.in_ok-store.ensures ∙ ap in_six_digits c.deref-4.ensures.value in
    (c.requires.start, rw fetch (six_are_areas n.fetch (fetch_fits j n needs short)), rw store (six_are_areas n.store (store_fits j n needs short)))
