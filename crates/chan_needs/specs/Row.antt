-- A row of the table of what is in flight.
use Rattle.std.specs.Prelude.{List, ◌∷◌, ◌==◌, if◌then◌else◌}
use Rattle.ccw_core.specs.declared.areas.Area.{Area}
use Rattle.chan_needs.specs.declared.layout.Remembered.{Remembered}
use Rattle.chan_needs.specs.declared.layout.Row.{Row}

-- the areas, and before them one more, unless it is empty
abbrev pub besides : Area → List Area → List Area
besides a areas = if a.len == 0 then areas else a ∷ areas

-- what a row stands for: its program, which also stores over the area that is stored over, and
-- keeps the area that is kept
abbrev pub in_row : Row → Remembered
in_row r = record r.program {
  needs = record r.program.needs {
    store = record r.program.needs.store { now = besides r.stores r.program.needs.store.now };
    keep = record r.program.needs.keep { now = besides r.keeps r.program.needs.keep.now };
  };
}
