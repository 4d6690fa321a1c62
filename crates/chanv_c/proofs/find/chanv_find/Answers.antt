use Rattle.std.proofs.Common.{◌≡◌, rules, subst}
use Rattle.ccw_core.specs.Held.{bytes_held}
use Rattle.chan_find.specs.Programs.{AreStarts}
use Rattle.chanv_c.proofs.find.chanv_find.Goals as goal

pub returns-then-starts-len-clause-room : goal.returns-then-starts-len-clause-room
returns-then-starts-len-clause-room c = λ is.
    let held : bytes_held c.in-Ok.storage ≡ c.args.storage.now.bytes.now = search rules in
    let starts = c.in-Ok-program_starts.found.items in
    let are = subst (λ s. AreStarts s starts) held c.in-Ok-program_starts.ensures in
    ((starts, are, search rules), search rules)

pub returns-clause-found : goal.returns-clause-found
returns-clause-found c = λ is.
    let held : bytes_held c.in-Ok.storage ≡ c.args.storage.now.bytes.now = search rules in
    let starts = c.in-Ok-program_starts.found.items in
    let are = subst (λ s. AreStarts s starts) held c.in-Ok-program_starts.ensures in
    (starts, are, search rules, rw c.deref.ensures.value at c.write_list.ensures)
