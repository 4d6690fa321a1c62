use Rattle.std.proofs.Common.{arith, inl, refl}
use Rattle.chan_areas.proofs.Merging.{run_begins, run_grows, run_stays}
use Rattle.chan_areas.proofs.merged.join.Goals as goal

pub returns-then-area-eq0 : goal.returns-then-area-eq0
returns-then-area-eq0 c given = record {
  later = omega (arith, given);
  order = given.0;
  low = given.1;
  bytes = λ xs. run_stays xs c.args.run c.args.area given.0 (inl c.if-area-eq0.true);
}

pub returns-then-run-eq0 : goal.returns-then-run-eq0
returns-then-run-eq0 c given = record {
  later = given.0;
  order = omega (arith, given);
  low = given.2;
  bytes = λ xs. run_begins xs c.args.run c.args.area c.if-run-eq0.true;
}

pub returns : goal.returns
returns c given = record {
  later = omega (arith, given);
  order = given.0;
  low = omega (arith, given);
  bytes = λ xs. run_grows xs c.args.run c.args.area _ refl (omega (arith, given)) given.0 (omega arith);
}
