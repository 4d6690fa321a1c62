-- Commands that move nothing are no transfers.
use Rattle.chan_why.proofs.Names.{Bool, false, Fields, Idle, is_idle, is_transfer, kind_of_command, lookup, moves_nothing, not, Option, refl, rules, true, ℕ, ◌%◌, ◌≡◌}
use Rattle.std.proofs.Common.{◌||◌, ◌==◌}
use Rattle.std.specs.List.{list_all}
use Rattle.ckd_core.specs.Command.{CommandEntry, table}
use Rattle.chan_walk.proofs.Theory.Commands.{CommandPasses, found_passes, found_code}

abbrev idle_are_no_transfers : CommandEntry → Bool
idle_are_no_transfers e = not (moves_nothing e.kind) || not (e.code % 16 == 8)

idle_apart : list_all idle_are_no_transfers table ≡ true
unfolding table
idle_apart = refl

idle_at : (code : ℕ) (o : Option CommandEntry) → CommandPasses idle_are_no_transfers o → CommandPasses (λ e. e.code == code) o
    → is_idle o ≡ true → (kind_of_command o ≡ Idle) × ((code % 16 == 8) ≡ false)
idle_at code o h same k = search rules

pub idle_is_no_transfer : (c : Fields) → is_idle (lookup c.command) ≡ true → (kind_of_command (lookup c.command) ≡ Idle) × (is_transfer c ≡ false)
unfolding lookup is_transfer
idle_is_no_transfer c h = idle_at c.command (lookup c.command) (found_passes idle_are_no_transfers c.command table idle_apart) (found_code c.command table) h
