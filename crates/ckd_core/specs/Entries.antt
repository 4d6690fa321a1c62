-- A command of the code as an entry of the table.
use Rattle.ckd_core.specs.Command.{CommandEntry}
use Rattle.ckd_core.specs.declared.command.Command.{Command}

abbrev pub entry_of : Command → CommandEntry
entry_of c = record { code = c.code; name = c.name.now; kind = c.kind; class = c.class }
