use Rattle.chan_deck.proofs.Names.{storage_of, verdict_line}
use Rattle.ccw_core.proofs.Prefixes.{prefix_after}
use Rattle.chan_deck.specs.Listing.{rows}
use Rattle.chan_deck.proofs.listing.write_listing.Goals as goal

pub returns-in_err-write_out-clause-prefix : goal.returns-in_err-write_out-clause-prefix
returns-in_err-write_out-clause-prefix g c =
    prefix_after _ _ _ (rows (storage_of c.args.job.now) c.args.verdict c.args.explored.now) (verdict_line c.args.verdict) c.in_ok-write_rows.ensures.ok
    (rw (c.as_bytes.ensures.value, c.in_ok-line.ensures) at c.write_out.ensures.prefix)

pub returns-clause-prefix : goal.returns-clause-prefix
returns-clause-prefix g c =
    prefix_after _ _ _ (rows (storage_of c.args.job.now) c.args.verdict c.args.explored.now) (verdict_line c.args.verdict) c.in_ok-write_rows.ensures.ok
    (rw (c.as_bytes.ensures.value, c.in_ok-line.ensures) at c.write_out.ensures.prefix)
