use Rattle.std.proofs.Common.{◌≡◌, ◌++◌, take, length, arith, length-append}
use Rattle.std.proofs.KnownBytes.{Consumes-trans}
use Rattle.std.proofs.lemmas.List.{length-take-le}
use Rattle.chan_run.proofs.input.read_input.Goals as goal

pub returns-then-count-limit-clause-too_long : goal.returns-then-count-limit-clause-too_long
returns-then-count-limit-clause-too_long g c = λ named.
    let remaining = g.R.Read.remaining in
    let text = c.loop-count.text.items in
    let new = take c.in-Ok.count c.read.new.buffer in
    let count : length new ≡ c.in-Ok.count = length-take-le c.in-Ok.count c.read.new.buffer c.in-Ok.ensures.bound in
    let held : length text ≡ c.len.result = omega (arith, c.loop-count.text.ok.0, c.len.ensures) in
    record {
      text = text ++ new;
      taken = Consumes-trans (remaining c.args.from.now.device) (remaining c.loop-count.from.device)
          (remaining c.read.new.self.device) text new c.loop-count.invariant.taken c.in-Ok.ensures.bytes.0;
      many = omega (arith, length-append text new);
    }
