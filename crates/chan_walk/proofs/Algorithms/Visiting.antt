-- What begins at a place, by the command that was looked up.
use Rattle.chan_walk.proofs.Names.{begins_recalibrate, begins_seek, begins_set_mask, begun, Bool, class_is_seek, class_passes, class_recalibrates, class_sets_mask, Fields, if◌then◌else◌, is_fresh, is_seek, lookup, MaskClass, None, Option, Place, recalibrates, refl, rules, sets_mask, true, ◌&&◌, ◌≡◌}
use Rattle.ckd_core.specs.Command.{CommandEntry}

-- a test that only a fresh place can pass
fresh_passes : (b : Bool) (test : MaskClass → Bool) (o : Option CommandEntry) → class_passes test (if b then o else None) ≡ (b && class_passes test o)
fresh_passes b test o = search rules

pub begins_seek-begun : (p : Place) (c : Fields) → class_passes class_is_seek (begun p c) ≡ begins_seek p c
unfolding is_seek
begins_seek-begun p c = fresh_passes (is_fresh p.entered) class_is_seek (lookup c.command)

pub begins_recalibrate-begun : (p : Place) (c : Fields) → class_passes class_recalibrates (begun p c) ≡ begins_recalibrate p c
unfolding recalibrates
begins_recalibrate-begun p c = fresh_passes (is_fresh p.entered) class_recalibrates (lookup c.command)

pub begins_set_mask-begun : (p : Place) (c : Fields) → class_passes class_sets_mask (begun p c) ≡ begins_set_mask p c
unfolding sets_mask
begins_set_mask-begun p c = fresh_passes (is_fresh p.entered) class_sets_mask (lookup c.command)

-- a fresh place's command is the one that the table has for its code
pub begun-fresh : (p : Place) (c : Fields) → is_fresh p.entered ≡ true → begun p c ≡ lookup c.command
begun-fresh p c e = rw e refl

-- what a command that begins tells of its place
pub ruleset begun_tells = (begins_seek-begun, begins_recalibrate-begun, begins_set_mask-begun)
