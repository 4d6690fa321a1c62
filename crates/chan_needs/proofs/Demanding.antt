-- What a place that was looked at asks of the mask, and the strictest mask that serves many.
use Rattle.chan_needs.proofs.Names.{[], and_from, and_parts, ap, AreBounds, AreLooksOfYes, begins, begins_set_mask, begun, both_ways, byte, ccw_of, ccw_seen, class_passes, clear_good, clear_stands, false, Fields, get_or, Has, has_at, inhibits, inl, is_at_least, is_fresh, IsClear, IsLook, Job, length, List, lookup, mask_is_no_transfer, MaskClass, MaskServesAt, min, None, not_from_false, Place, places_of_looks, refl, rules, seek_level, Seen, Some, storage_of, strict-levels, subst, sym, true, write_level, yes_clear, ℕ, ◌++◌, ◌<◌, ◌↔◌, ◌∙◌, ◌∷◌, ◌≡◌}
use Rattle.ckd_core.specs.declared.command.MaskClass.TheVariants.{SetMask}
use Rattle.ckd_core.specs.Mask.{inhibits_class}
use Rattle.ckd_core.specs.Command.{CommandEntry, class_sets_mask, sets_mask}
use Rattle.chan_walk.specs.Operand.{byte_of}
use Rattle.chan_walk.specs.Visit.{begun_at}
use Rattle.chan_walk.proofs.Theory.Commands.{known_is_no_transfer}
use Rattle.chan_walk.proofs.Theory.Lists.{has_cases, has_left, has_right}
use Rattle.chan_walk.proofs.Algorithms.Looking.{byte_read, place_at}
use Rattle.ckd_core.specs.Levels.{seeks_up_to, writes_up_to}
use Rattle.ckd_core.proofs.LevelLemmas.{permits_when, strict-permits}
use Rattle.chan_needs.proofs.Masking.{bounds_of_any, bounds_of_both, bounds_same}

-- ---- at one place

-- the command that begins at a clear place, as it was seen
pub command_at : (j : Job) (l : Seen) → IsLook j l → IsClear j l.place → l.command ≡ begun l.place (ccw_of j l.place)
command_at j l look f = look.command ∙ ap (begun_at l.place) (ccw_seen j l look (clear_stands j l.place f))

pub fresh_from : (p : Place) (c : Fields) (k : CommandEntry) → begun p c ≡ Some k → (is_fresh p.entered ≡ true) × (lookup c.command ≡ Some k)
fresh_from p c k h = search rules

pub none_from : (p : Place) (c : Fields) → begun p c ≡ None → is_fresh p.entered ≡ true → lookup c.command ≡ None
none_from p c h e = search rules

module _ (j : Job) (p : Place) (k : CommandEntry) (h : begun p (ccw_of j p) ≡ Some k) where
  abbrev c : Fields
  c = ccw_of j p

  abbrev found : (is_fresh p.entered ≡ true) × (lookup c.command ≡ Some k)
  found = fresh_from p c k h

  here : begins p c ≡ true
  here = and_from _ _ found.0 (not_from_false _ (known_is_no_transfer c k found.1))

  inhibits_it : (m : ℕ) → inhibits m c.command ≡ inhibits_class m k.class
  unfolding inhibits
  inhibits_it m = ap (class_passes (inhibits_class m)) found.1

  sets_it : begins_set_mask p c ≡ class_sets_mask k.class
  unfolding sets_mask
  sets_it = rw found.0 (ap (class_passes class_sets_mask) found.1)

  -- a command of another class than Set File Mask
  pub serves_command : class_sets_mask k.class ≡ false → (m : ℕ) → (inhibits_class m k.class ≡ false) ↔ MaskServesAt j p m
  serves_command other m = (
    (λ e. record { permits = λ _. inhibits_it m ∙ e; admits = λ s. absurd (both_ways _ other (sym sets_it ∙ s)) }),
    λ s. sym (inhibits_it m) ∙ s.permits here,
  )

  -- Set File Mask
  pub serves_byte : k.class ≡ SetMask → (m : ℕ) → (is_at_least (byte (storage_of j) c.address) m ≡ true) ↔ MaskServesAt j p m
  serves_byte same m = (
    (λ e. record { permits = λ _. inhibits_it m ∙ ap (inhibits_class m) same ∙ plain m; admits = λ _. e }),
    λ s. s.admits (sets_it ∙ ap class_sets_mask same),
  )
    where
      plain : (m : ℕ) → inhibits_class m SetMask ≡ false
      plain m = refl

  pub bounds_at_command : class_sets_mask k.class ≡ false → AreBounds (MaskServesAt j p) (writes_up_to k.class) (seeks_up_to k.class)
  bounds_at_command other = bounds_same _ (MaskServesAt j p) _ _ (serves_command other) (λ m. permits_when m k.class)

  pub bounds_at_byte : k.class ≡ SetMask → IsClear j p
      → AreBounds (MaskServesAt j p) (write_level (byte (storage_of j) c.address)) (seek_level (byte (storage_of j) c.address))
  bounds_at_byte same clear =
      let sets : begins_set_mask p c ≡ true = sets_it ∙ ap class_sets_mask same in
      let strict = (clear_good j p clear (mask_is_no_transfer c (and_parts _ _ sets).1)).strict sets in
      bounds_same _ (MaskServesAt j p) _ _ (serves_byte same) (λ m. strict-levels _ m ((strict-permits _ j.mask).0 strict).0)

-- no command of the table
pub serves_none : (j : Job) (p : Place) → begun p (ccw_of j p) ≡ None → (m : ℕ) → MaskServesAt j p m
unfolding inhibits sets_mask
serves_none j p h m = record {
  permits = λ b. ap (class_passes (inhibits_class m)) (none_from p (ccw_of j p) h (and_parts _ _ b).0);
  admits = λ b. let a = and_parts _ _ b in absurd (both_ways _ (ap (class_passes class_sets_mask) (none_from p (ccw_of j p) h a.0)) a.1);
}

-- ---- at one look

module _ (j : Job) (l : Seen) (look : IsLook j l) (clear : IsClear j l.place) where
  pub bounds_nothing : l.command ≡ None → AreBounds (MaskServesAt j l.place) 3 3
  bounds_nothing e = bounds_of_any (MaskServesAt j l.place) (serves_none j l.place (sym (command_at j l look clear) ∙ e))

  other_class : (k : MaskClass) → (k ≡ SetMask → ⊥) → class_sets_mask k ≡ false
  other_class k f = search rules

  pub bounds_class : (k : CommandEntry) → l.command ≡ Some k → (k.class ≡ SetMask → ⊥)
      → AreBounds (MaskServesAt j l.place) (writes_up_to k.class) (seeks_up_to k.class)
  bounds_class k e other = bounds_at_command j l.place k (sym (command_at j l look clear) ∙ e) (other_class k.class other)

  pub bounds_byte : (k : CommandEntry) → l.command ≡ Some k → k.class ≡ SetMask
      → AreBounds (MaskServesAt j l.place) (write_level (byte_of l.operand)) (seek_level (byte_of l.operand))
  bounds_byte k e same =
      let h = sym (command_at j l look clear) ∙ e in
      let sets : begins_set_mask l.place (ccw_of j l.place) ≡ true = sets_it j l.place k h ∙ ap class_sets_mask same in
      let ccw = ccw_seen j l look (clear_stands j l.place clear) in
      let is : byte_of l.operand ≡ byte (storage_of j) (ccw_of j l.place).address =
      byte_read (storage_of j) l.place (ccw_of j l.place) l.operand sets (look.operand clear (ccw_of j l.place) ccw) in
      subst (λ b. AreBounds (MaskServesAt j l.place) (write_level b) (seek_level b)) (sym is) (bounds_at_byte j l.place k h same clear)

-- ---- at many

-- the mask serves each of these places
abbrev pub ServesEach : Job → List Place → ℕ → Type 0
ServesEach j ps m = (p : Place) → Has ps p → MaskServesAt j p m

pub bounds_first : (j : Job) → AreBounds (ServesEach j []) 3 3
bounds_first j = bounds_of_any (ServesEach j []) (λ m p h. absurd h)

pub bounds_next : (j : Job) (ps : List Place) (p : Place) (w s v t : ℕ) → AreBounds (ServesEach j ps) w s
    → AreBounds (MaskServesAt j p) v t → AreBounds (ServesEach j (ps ++ p ∷ [])) (min w v) (min s t)
bounds_next j ps p w s v t f g =
    bounds_same (λ x. ServesEach j ps x × MaskServesAt j p x) (ServesEach j (ps ++ p ∷ [])) _ _
    (λ x. (both x, parts x)) (bounds_of_both (ServesEach j ps) (MaskServesAt j p) w s v t f g)
  where
    both : (x : ℕ) → ServesEach j ps x × MaskServesAt j p x → ServesEach j (ps ++ p ∷ []) x
    both x w q k = search (rules, has_cases)

    parts : (x : ℕ) → ServesEach j (ps ++ p ∷ []) x → ServesEach j ps x × MaskServesAt j p x
    parts x w = ((λ q k. w q (has_left ps (p ∷ []) q k)), w p (has_right ps (p ∷ []) p (inl refl)))

-- each place that was looked at under a yes is clear
look_clear : (j : Job) (ls : List Seen) (p : Place) → AreLooksOfYes j ls → Has (places_of_looks ls) p → IsClear j p
look_clear j ls p are h = yes_clear j are.verdict p (are.reached.1 p h)

pub clear_at : (j : Job) (ls : List Seen) (i : ℕ) (l : Seen) → AreLooksOfYes j ls → i < length ls → l ≡ get_or ls i l → IsClear j l.place
clear_at j ls i l are h e = look_clear j ls l.place are (has_at (places_of_looks ls) i l.place (place_at ls i l h e))
