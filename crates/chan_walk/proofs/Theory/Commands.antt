-- Rules that the whole command table keeps.
use Rattle.chan_walk.proofs.Names.{[], and_parts, Bool, class_is_seek, class_passes, class_recalibrates, class_sets_mask, false, Fields, Idle, Inward, is_seek, is_transfer, Kind, List, lookup, MaskClass, None, not, Option, Outward, recalibrates, refl, rules, Search, sets_mask, Some, true, ℕ, ◌%◌, ◌&&◌, ◌==◌, ◌||◌, ◌∷◌, ◌≡◌}
use Rattle.std.specs.List.{list_all}
use Rattle.std.proofs.lemmas.Bool.{cond_both}
use Rattle.ckd_core.specs.Command.{CommandEntry, table, find_code}
use Rattle.chan_walk.specs.Fault.{kind_of_command}

-- a command that was looked up passes a test; so does none
abbrev pub CommandPasses : (CommandEntry → Bool) → Option CommandEntry → Type 0
CommandPasses test None = Unit {0}
CommandPasses test (Some e) = test e ≡ true

pub found_passes : (test : CommandEntry → Bool) (code : ℕ) (es : List CommandEntry) → list_all test es ≡ true → CommandPasses test (find_code code es)
found_passes test code [] h = tt
found_passes test code (e ∷ es) h = search (rules, and_parts, cond_both, found_passes test code es)

abbrev is_outward : Kind → Bool
is_outward Outward = true
is_outward Idle = false
is_outward Inward = false
is_outward Search = false

abbrev seeks_go_out : CommandEntry → Bool
seeks_go_out e = not (class_is_seek e.class) || (is_outward e.kind && not (class_recalibrates e.class))

table_keeps : list_all seeks_go_out table ≡ true
unfolding table
table_keeps = refl

rule_at : (o : Option CommandEntry) → CommandPasses seeks_go_out o → class_passes class_is_seek o ≡ true
    → (kind_of_command o ≡ Outward) × (class_passes class_recalibrates o ≡ false)
rule_at o h k = search rules

abbrev masks_go_out : CommandEntry → Bool
masks_go_out e = not (class_sets_mask e.class) || is_outward e.kind

masks_keep : list_all masks_go_out table ≡ true
unfolding table
masks_keep = refl

mask_at : (o : Option CommandEntry) → CommandPasses masks_go_out o → class_passes class_sets_mask o ≡ true → kind_of_command o ≡ Outward
mask_at o h k = search rules

pub mask_is_outward : (code : ℕ) → sets_mask code ≡ true → kind_of_command (lookup code) ≡ Outward
unfolding sets_mask lookup
mask_is_outward code h = mask_at (lookup code) (found_passes masks_go_out code table masks_keep) h

-- what was looked up has the code
pub found_code : (code : ℕ) (es : List CommandEntry) → CommandPasses (λ e. e.code == code) (find_code code es)
found_code code [] = tt
found_code code (e ∷ es) = cond_both (e.code == code) (Some e) (find_code code es) (CommandPasses (λ x. x.code == code)) (λ h. h) (λ _. found_code code es)

abbrev masks_are_no_transfers : CommandEntry → Bool
masks_are_no_transfers e = not (class_sets_mask e.class) || not (e.code % 16 == 8)

masks_apart : list_all masks_are_no_transfers table ≡ true
unfolding table
masks_apart = refl

apart_at : (code : ℕ) (o : Option CommandEntry) → CommandPasses masks_are_no_transfers o
    → CommandPasses (λ e. e.code == code) o → class_passes class_sets_mask o ≡ true → (code % 16 == 8) ≡ false
apart_at code o h same k = search rules

pub mask_is_no_transfer : (c : Fields) → sets_mask c.command ≡ true → is_transfer c ≡ false
unfolding sets_mask lookup is_transfer
mask_is_no_transfer c h = apart_at c.command (lookup c.command) (found_passes masks_are_no_transfers c.command table masks_apart) (found_code c.command table) h

pub seek_is_outward : (code : ℕ) → is_seek code ≡ true → kind_of_command (lookup code) ≡ Outward
unfolding is_seek lookup
seek_is_outward code h = (rule_at (lookup code) (found_passes seeks_go_out code table table_keeps) h).0

pub seek_no_recalibrate : (code : ℕ) → is_seek code ≡ true → recalibrates code ≡ false
unfolding is_seek recalibrates lookup
seek_no_recalibrate code h = (rule_at (lookup code) (found_passes seeks_go_out code table table_keeps) h).1

abbrev seeks_set_no_mask : CommandEntry → Bool
seeks_set_no_mask e = not (class_is_seek e.class) || not (class_sets_mask e.class)

seeks_apart : list_all seeks_set_no_mask table ≡ true
unfolding table
seeks_apart = refl

unset_at : (o : Option CommandEntry) → CommandPasses seeks_set_no_mask o → class_passes class_is_seek o ≡ true → class_passes class_sets_mask o ≡ false
unset_at o h k = search rules

pub seek_sets_no_mask : (code : ℕ) → is_seek code ≡ true → sets_mask code ≡ false
unfolding is_seek sets_mask lookup
seek_sets_no_mask code h = unset_at (lookup code) (found_passes seeks_set_no_mask code table seeks_apart) h

one_class : (o : Option CommandEntry) → class_passes class_sets_mask o ≡ true → class_passes class_recalibrates o ≡ false
one_class o h = search rules

pub mask_no_recalibrate : (code : ℕ) → sets_mask code ≡ true → recalibrates code ≡ false
unfolding sets_mask recalibrates
mask_no_recalibrate code h = one_class (lookup code) h

-- no command of the table is a transfer
abbrev is_no_transfer : CommandEntry → Bool
is_no_transfer e = not (e.code % 16 == 8)

none_transfers : list_all is_no_transfer table ≡ true
unfolding table
none_transfers = refl

found_apart : (code : ℕ) (o : Option CommandEntry) (test : MaskClass → Bool) → CommandPasses is_no_transfer o
    → CommandPasses (λ e. e.code == code) o → class_passes test o ≡ true → (code % 16 == 8) ≡ false
found_apart code o test h same k = search rules

pub seek_is_no_transfer : (c : Fields) → is_seek c.command ≡ true → is_transfer c ≡ false
unfolding is_seek lookup is_transfer
seek_is_no_transfer c h =
    found_apart c.command (lookup c.command) class_is_seek (found_passes is_no_transfer c.command table none_transfers) (found_code c.command table) h

pub recalibrate_is_no_transfer : (c : Fields) → recalibrates c.command ≡ true → is_transfer c ≡ false
unfolding recalibrates lookup is_transfer
recalibrate_is_no_transfer c h =
    found_apart c.command (lookup c.command) class_recalibrates (found_passes is_no_transfer c.command table none_transfers) (found_code c.command table) h

pub known_is_no_transfer : (c : Fields) (k : CommandEntry) → lookup c.command ≡ Some k → is_transfer c ≡ false
unfolding lookup is_transfer
known_is_no_transfer c k e =
    found_apart c.command (lookup c.command) (λ _. true) (found_passes is_no_transfer c.command table none_transfers) (found_code c.command table) (rw e refl)
