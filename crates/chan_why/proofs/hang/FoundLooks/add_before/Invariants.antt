use Rattle.chan_why.proofs.Names.{bucket_of, BucketEndsAt, FindsMore, length, take, ℕ}
use Rattle.chan_why.proofs.Retracing.{IsListed}
use Rattle.chan_why.proofs.hang.FoundLooks.add_before.Given as goal

abbrev pub invariant-loop-end : goal.invariant-loop-end
invariant-loop-end l = record {
  bucket : (m : ℕ)
      × BucketEndsAt (length l.predecessors.ends.items) (bucket_of (length l.predecessors.ends.items) l.of) (take m l.predecessors.list.items) l.end;
  more : FindsMore (length l.fn.self.marks.items) (IsListed l.predecessors.list.items l.of l.end) l.fn.self l.self;
}

abbrev pub decreases-loop-end : goal.decreases-loop-end
decreases-loop-end l = l.end
