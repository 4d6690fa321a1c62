-- The cylinders that seeks go to: at one look, and as runs.
use Rattle.chan_needs.proofs.Names.{[], and_from, and_parts, ap, Area, AreExactly, AreReached, argument_unique, arith, BeginAbove, begins_recalibrate, begins_seek, begun, both_ways, byte_area, ccw_of, ccw_seen, class_passes, clear_stands, cylinder_of, end_of, Extent, false, Fields, get_or, Has, has_cylinder, HasArgument, HoldBytes, home, inl, inr, is_fresh, IsByteOf, IsClear, IsLook, IsMerged, IsSought, Job, le-leb, leb-true, length, lies_in, lies_in-cases, lies_in-first, lies_in-nil, lies_in-rest, List, lookup, map, map-append, MaskClass, nat_le, None, Option, option_map, or_cases, or_left, or_right, pair, Place, Recalibrate, refl, rules, run_of, Seek, SeekCylinder, SeekHead, SeeksCylinder, Seen, Some, storage_of, subst, sym, take, true, ℕ, ◌&&◌, ◌++◌, ◌+◌, ◌-◌, ◌<◌, ◌↔◌, ◌∙◌, ◌∷◌, ◌≡◌, ◌⊎◌}
use Rattle.std.proofs.lemmas.Grind.{common_steps}
use Rattle.std.proofs.Math.Seq.{take-suc}
use Rattle.ckd_core.specs.Command.{CommandEntry, class_is_seek, class_recalibrates, is_seek, recalibrates}
use Rattle.chan_walk.specs.Guard.{AddsBytes}
use Rattle.chan_needs.specs.Listed.{AreRising, AreRunsOf, RunsAbove}
use Rattle.chan_needs.proofs.Demanding.{command_at, fresh_from, none_from}
use Rattle.chan_walk.proofs.Algorithms.Guarding.{adds_areas, lies_in-bytes}
use Rattle.chan_walk.proofs.Algorithms.Looking.{argument_of, argument_read}
use Rattle.chan_walk.proofs.Theory.Granting.{avoids}

-- ---- at one look

-- the seek that begins at p goes to the cylinder o, or none begins there
abbrev pub GoesTo : Job → Place → Option ℕ → Type 0
GoesTo j p o = (n : ℕ) → (o ≡ Some n) ↔ SeeksCylinder j p n

goes_nowhere : (j : Job) (p : Place) → ((n : ℕ) → SeeksCylinder j p n → ⊥) → GoesTo j p None
goes_nowhere j p f n = ((λ e. absurd cc), λ h. absurd (f n h))

no_seek : (j : Job) (p : Place) → begins_seek p (ccw_of j p) ≡ false → begins_recalibrate p (ccw_of j p) ≡ false → GoesTo j p None
no_seek j p e f = goes_nowhere j p none
  where
    none : (n : ℕ) → SeeksCylinder j p n → ⊥
    none n (x, inl s, at) = both_ways _ e s.0
    none n (x, inr s, at) = both_ways _ f s.0

module _ (j : Job) (l : Seen) (look : IsLook j l) (clear : IsClear j l.place) where
  abbrev p : Place
  p = l.place

  abbrev c : Fields
  c = ccw_of j l.place

  pub goes_by_none : l.command ≡ None → GoesTo j l.place None
  unfolding is_seek recalibrates
  goes_by_none e =
      let h : begun p c ≡ None = sym (command_at j l look clear) ∙ e in
      no_seek j p (avoids _ _ (λ f. ap (class_passes class_is_seek) (none_from p c h f)))
      (avoids _ _ (λ f. ap (class_passes class_recalibrates) (none_from p c h f)))

  module _ (k : CommandEntry) (e : l.command ≡ Some k) where
    abbrev found : (is_fresh p.entered ≡ true) × (lookup c.command ≡ Some k)
    found = fresh_from p c k (sym (command_at j l look clear) ∙ e)

    seeks_it : begins_seek p c ≡ class_is_seek k.class
    unfolding is_seek
    seeks_it = rw found.0 (ap (class_passes class_is_seek) found.1)

    homes_it : begins_recalibrate p c ≡ class_recalibrates k.class
    unfolding recalibrates
    homes_it = rw found.0 (ap (class_passes class_recalibrates) found.1)

    pub goes_by_other : class_is_seek k.class ≡ false → class_recalibrates k.class ≡ false → GoesTo j l.place None
    goes_by_other f g = no_seek j p (seeks_it ∙ f) (homes_it ∙ g)

    pub goes_home : k.class ≡ Recalibrate → GoesTo j l.place (Some 0)
    goes_home f n = (to, from)
      where
        to : Some 0 ≡ Some n → SeeksCylinder j p n
        to d = let is : 0 ≡ n = cc in (home, inr (homes_it ∙ ap class_recalibrates f, refl), is)

        from : SeeksCylinder j p n → Some 0 ≡ Some n
        from (x, inl s, at) = absurd (both_ways _ (seeks_it ∙ ap class_is_seek f) s.0)
        from (x, inr s, at) = ap Some (sym (ap cylinder_of s.1) ∙ at)

    pub goes_seeking : class_is_seek k.class ≡ true → class_recalibrates k.class ≡ false → GoesTo j l.place (option_map cylinder_of (argument_of l.operand))
    goes_seeking f g n = (to (argument_of l.operand) has, from)
      where
        has : HasArgument (storage_of j) p.address (argument_of l.operand)
        has = argument_read (storage_of j) p c l.operand (seeks_it ∙ f) (look.operand clear c (ccw_seen j l look (clear_stands j p clear)))

        to : (o : Option (List ℕ)) → HasArgument (storage_of j) p.address o → option_map cylinder_of o ≡ Some n → SeeksCylinder j p n
        to None h d = absurd cc
        to (Some x) h d = let is : cylinder_of x ≡ n = cc in (x, inl (seeks_it ∙ f, h), is)

        from : SeeksCylinder j p n → option_map cylinder_of (argument_of l.operand) ≡ Some n
        from (x, inl s, at) = ap (option_map cylinder_of) (argument_unique (storage_of j) p.address (argument_of l.operand) (Some x) has s.1) ∙ ap Some at
        from (x, inr s, at) = absurd (both_ways _ (homes_it ∙ g) s.0)

pub is_other : (k : MaskClass) → (k ≡ Seek → ⊥) → (k ≡ SeekCylinder → ⊥) → (k ≡ SeekHead → ⊥)
    → (k ≡ Recalibrate → ⊥) → (class_is_seek k ≡ false) × (class_recalibrates k ≡ false)
is_other k a b d e = search rules

pub is_seek_of : (k : MaskClass) → (k ≡ Seek) ⊎ ((k ≡ SeekCylinder) ⊎ (k ≡ SeekHead)) → (class_is_seek k ≡ true) × (class_recalibrates k ≡ false)
is_seek_of k h = search rules

-- the cylinder counts as an area of one byte
pub adds_cylinder : (j : Job) (p : Place) (o : Option ℕ) (m : ℕ) (old new : List Area)
    → GoesTo j p o → o ≡ Some m → new ≡ old ++ byte_area m ∷ [] → AddsBytes old new (SeeksCylinder j p)
adds_cylinder j p o m old new goes e is =
    adds_areas old (byte_area m ∷ []) new (SeeksCylinder j p) (λ b. ap (λ z. lies_in z b) is)
    (λ b. ((λ h. to b ((lies_in-bytes (m ∷ []) b).0 h)), λ h. (lies_in-bytes (m ∷ []) b).1 (from b h)))
  where
    to : (b : ℕ) → Has (m ∷ []) b → SeeksCylinder j p b
    to b (inl d) = (goes b).0 (e ∙ ap Some d)
    to b (inr h) = absurd h

    from : (b : ℕ) → SeeksCylinder j p b → Has (m ∷ []) b
    from b h = let s : Some m ≡ Some b = sym e ∙ (goes b).1 h in let d : m ≡ b = cc in inl d

pub adds_nothing : (j : Job) (p : Place) (o : Option ℕ) (areas : List Area) → GoesTo j p o → o ≡ None → AddsBytes areas areas (SeeksCylinder j p)
adds_nothing j p o areas goes e b = ((λ h. inl h), from)
  where
    from : (lies_in areas b ≡ true) ⊎ SeeksCylinder j p b → lies_in areas b ≡ true
    from (inl h) = h
    from (inr h) = let s : None ≡ Some b = sym e ∙ (goes b).1 h in absurd cc

-- ---- the runs of a merged list

-- the run of an area, as a pair
abbrev ends_of : Area → ℕ × ℕ
ends_of a = pair (run_of a)

pairs_of_runs : (areas : List Area) → map pair (map run_of areas) ≡ map ends_of areas
pairs_of_runs [] = refl
pairs_of_runs (a ∷ areas) = ap (λ rest. ends_of a ∷ rest) (pairs_of_runs areas)

above_runs : (n m : ℕ) (areas : List Area) → n ≡ m → BeginAbove m areas → RunsAbove n (map ends_of areas)
above_runs n m [] e h = tt
above_runs n m (a ∷ areas) e h = (omega (arith, h.0), above_runs n m areas e h.1)

rising_runs : (areas : List Area) → IsMerged areas → AreRising (map ends_of areas)
rising_runs [] m = tt
rising_runs (a ∷ areas) m = (omega (arith, m.0), above_runs (a.start + a.len - 1 + 1) (end_of a) areas (omega (arith, m.0)) m.1, rising_runs areas m.2)

-- a number is in the areas exactly where it is in their runs
abbrev InBoth : List Area → ℕ → Type 0
InBoth areas n = (has_cylinder (map ends_of areas) n ≡ true) ↔ (lies_in areas n ≡ true)

in_runs : (areas : List Area) (n : ℕ) → IsMerged areas → InBoth areas n
unfolding has_cylinder
in_runs [] n m = ((λ h. absurd cc), λ h. absurd (both_ways _ (lies_in-nil n) h))
in_runs (a ∷ areas) n m = (to (in_runs areas n m.2), from (in_runs areas n m.2))
  where
    to : InBoth areas n → has_cylinder (map ends_of (a ∷ areas)) n ≡ true → lies_in (a ∷ areas) n ≡ true
    to rest h = go (or_cases _ _ h)
      where
        go : ((nat_le a.start n && nat_le n (a.start + a.len - 1)) ≡ true) ⊎ (has_cylinder (map ends_of areas) n ≡ true) → lies_in (a ∷ areas) n ≡ true
        go (inl i) = let b = and_parts _ _ i in let f = leb-true _ _ b.0 in let g = leb-true _ _ b.1 in lies_in-first a areas n (f, omega (arith, m.0))
        go (inr r) = lies_in-rest a areas n (rest.0 r)

    from : InBoth areas n → lies_in (a ∷ areas) n ≡ true → has_cylinder (map ends_of (a ∷ areas)) n ≡ true
    from rest h = go (lies_in-cases a areas n h)
      where
        go : IsByteOf a n ⊎ (lies_in areas n ≡ true) → has_cylinder (map ends_of (a ∷ areas)) n ≡ true
        go (inl i) = or_left _ _ (and_from _ _ (le-leb _ _ i.0) (le-leb _ _ (omega (arith, i.1))))
        go (inr r) = or_right _ _ (rest.1 r)

pub runs_of : (P Q : ℕ → Type 0) (areas : List Area) (runs : List (ℕ × ℕ))
    → ((n : ℕ) → P n ↔ Q n) → AreExactly P areas → runs ≡ map pair (map run_of areas) → AreRunsOf Q runs
runs_of P Q areas runs f h e = subst (AreRunsOf Q) (sym (e ∙ pairs_of_runs areas)) (record {
  rising = rising_runs areas h.merged;
  cylinders = λ n. let r = in_runs areas n h.merged in let b = h.bytes n in ((λ t. (f n).0 (b.0 (r.0 t))), λ q. r.1 (b.1 ((f n).1 q)));
})

pub runs_next : (areas : List Area) (i : ℕ) (d : Area) (old new : List Extent) → i < length areas
    → old ≡ map run_of (take i areas) → new ≡ old ++ run_of (get_or areas i d) ∷ [] → new ≡ map run_of (take (i + 1) areas)
runs_next areas i d old new l e f = grind (arith, common_steps, take-suc, map-append)

pub sought_all : (j : Job) (ps : List Place) (areas : List Area) → AreReached j ps
    → HoldBytes (SeeksCylinder j) ps areas → (n : ℕ) → (lies_in areas n ≡ true) ↔ IsSought j n
sought_all j ps areas r f n = search rules
