-- Each of the four parts of the table is searched, in their order, up to the first that has the code.
use Rattle.std.specs.Prelude.{Some, None, ◌++◌, option_map}
use Rattle.ckd_core.specs.Entries.{entry_of}
use Rattle.ckd_core.specs.Command as table
use Rattle.ckd_core.proofs.TableLemmas.{found-append, missed-append}
use Rattle.ckd_core.proofs.command.lookup.Goals as goal

pub returns-in-Some : goal.returns-in-Some
unfolding table.lookup table.table
returns-in-Some c =
    let code = c.args.code in
    let e = entry_of c.in-Some.command in
    found-append code e (table.control_commands ++ table.search_commands ++ table.read_commands) table.write_commands
    (found-append code e (table.control_commands ++ table.search_commands) table.read_commands
    (found-append code e table.control_commands table.search_commands c.in-Some.ensures))

pub returns-in-Some-search : goal.returns-in-Some-search
unfolding table.lookup table.table
returns-in-Some-search c =
    let code = c.args.code in
    let e = entry_of c.in-Some-search.command in
    found-append code e (table.control_commands ++ table.search_commands ++ table.read_commands) table.write_commands
    (found-append code e (table.control_commands ++ table.search_commands) table.read_commands
    (missed-append code (Some e) table.control_commands table.search_commands c.in_default.ensures c.in-Some-search.ensures))

pub returns-in-Some-read : goal.returns-in-Some-read
unfolding table.lookup table.table
returns-in-Some-read c =
    let code = c.args.code in
    let e = entry_of c.in-Some-read.command in
    found-append code e (table.control_commands ++ table.search_commands ++ table.read_commands) table.write_commands
    (missed-append code (Some e) (table.control_commands ++ table.search_commands) table.read_commands
    (missed-append code None table.control_commands table.search_commands c.in_default.ensures c.in_default-search.ensures) c.in-Some-read.ensures)

pub returns : goal.returns
unfolding table.lookup table.table
returns c =
    let code = c.args.code in
    missed-append code (option_map entry_of c.write.result) (table.control_commands ++ table.search_commands ++ table.read_commands) table.write_commands
    (missed-append code None (table.control_commands ++ table.search_commands) table.read_commands
    (missed-append code None table.control_commands table.search_commands c.in_default.ensures c.in_default-search.ensures)
    c.in_default-read.ensures) c.write.ensures
