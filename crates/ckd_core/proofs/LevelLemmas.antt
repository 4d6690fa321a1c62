-- Masks by their levels: what they permit, and which are at least as strict.
use Rattle.std.proofs.Common.{◌≡◌, ◌||◌, not, ℕ, zero, suc, ◌<◌, ◌≤◌, ◌==◌, nat_le, nat_lt, bit_and, Bool, true, false, ◌&&◌, get_or, refl, ◌∙◌, subst, ◌↔◌, arith, rules}
use Rattle.std.specs.Cmp.{first_so, second_so}
use Rattle.std.specs.Cmp.Derive.{one_truth}
use Rattle.std.specs.List.{list_all, range_with_len}
use Rattle.std.proofs.lemmas.Bool.{and_from, and_parts, both_ways, eqb-true, false_from_ne_true, le-leb, le-ltb, leb-true, ltb-false, ltb-true, or_from, or_parts, true_from_ne_false}
use Rattle.std.proofs.lemmas.List.FromFn.{get_or-range_with_len}
use Rattle.std.proofs.lemmas.List.Sums.{AllPass-from_list_all, list_all-from_AllPass}
use Rattle.ckd_core.specs.declared.command.MaskClass.{MaskClass}
use Rattle.ckd_core.specs.declared.command.MaskClass.TheVariants.{Plain, Seek, SeekCylinder, SeekHead, Recalibrate, WriteHome, WriteFormat, WriteUpdate, SetMask}
use Rattle.ckd_core.specs.Levels.{level_of_writes, level_of_seeks, write_level, seek_level, writes_up_to, seeks_up_to, mask_of}
use Rattle.ckd_core.specs.Mask.{is_mask, is_at_least, inhibits_class, inhibits_write, inhibits_seek, inhibits_too, inhibitable, StrictnessIsByClass}

pub write_level-le : (m : ℕ) → write_level m ≤ 3
write_level-le m = search rules

pub seek_level-le : (m : ℕ) → seek_level m ≤ 3
seek_level-le m = search rules

-- ---- a class is permitted up to its levels

by_writes : (w : ℕ) (c : MaskClass) → inhibits_write w c ≡ nat_lt (writes_up_to c) (level_of_writes w)
by_writes w c = search rules

by_seeks : (s : ℕ) (c : MaskClass) → inhibits_seek s c ≡ nat_lt (seeks_up_to c) (level_of_seeks s)
by_seeks s c = search rules

pub permits_when : (m : ℕ) (c : MaskClass) → (inhibits_class m c ≡ false) ↔ ((write_level m ≤ writes_up_to c) × (seek_level m ≤ seeks_up_to c))
permits_when m c = rw (by_writes (bit_and m 0xC0) c, by_seeks (bit_and m 0x18) c) (
  (λ h. let a = or_parts _ _ h in (ltb-false _ _ a.0, ltb-false _ _ a.1)),
  λ h. or_from _ _ (le-ltb _ _ h.0) (le-ltb _ _ h.1),
)

-- ---- which are at least as strict: by class, as they are defined, and by level

-- what b permits, m permits
abbrev pub PermitsToo : ℕ → ℕ → Type 0
PermitsToo b m = (c : MaskClass) → inhibits_class b c ≡ false → inhibits_class m c ≡ false

pub strict-permits : (b m : ℕ) → (is_at_least b m ≡ true) ↔ ((is_mask b ≡ true) × PermitsToo b m)
unfolding is_at_least
strict-permits b m = (
  λ h. (first_so (is_mask b) _ h, each (second_so (is_mask b) _ h)),
  λ h. and_from (is_mask b) _ h.0 (list_all-from_AllPass (inhibits_too b m) inhibitable (λ k d lt. asked (h.1 (get_or inhibitable k d)))),
)
  where
    implied : {x y : Bool} → (not x || y) ≡ true → y ≡ false → x ≡ false
    implied h e = search rules

    asked : {x y : Bool} → (y ≡ false → x ≡ false) → (not x || y) ≡ true
    asked h = search rules

    at : list_all (inhibits_too b m) inhibitable ≡ true → (i : ℕ) → i < 7
        → inhibits_class b (get_or inhibitable i Plain) ≡ false → inhibits_class m (get_or inhibitable i Plain) ≡ false
    at h i lt e = implied (AllPass-from_list_all (inhibits_too b m) inhibitable h i Plain lt) e

    -- no mask inhibits the others
    each : list_all (inhibits_too b m) inhibitable ≡ true → PermitsToo b m
    each h Plain e = refl
    each h SetMask e = refl
    each h Seek e = at h 0 (omega arith) e
    each h SeekCylinder e = at h 1 (omega arith) e
    each h SeekHead e = at h 2 (omega arith) e
    each h Recalibrate e = at h 3 (omega arith) e
    each h WriteHome e = at h 4 (omega arith) e
    each h WriteFormat e = at h 5 (omega arith) e
    each h WriteUpdate e = at h 6 (omega arith) e

pub strictness_is_by_class : StrictnessIsByClass
strictness_is_by_class b m = (
  λ h. let p = (strict-permits b m).0 h in (p.0, λ c e. true_from_ne_false _ (λ f. both_ways _ (p.1 c f) e)),
  λ h. (strict-permits b m).1 (h.0, λ c e. false_from_ne_true _ (λ t. both_ways _ e (h.1 c t))),
)

by_steps : (n k : ℕ) → n ≤ 3 → (k ≤ 0 → n ≤ 0) → (k ≤ 1 → n ≤ 1) → (k ≤ 2 → n ≤ 2) → n ≤ k
by_steps n k l a b c = grind arith

pub strict-levels : (b m : ℕ) → is_mask b ≡ true → (is_at_least b m ≡ true) ↔ ((write_level m ≤ write_level b) × (seek_level m ≤ seek_level b))
strict-levels b m mask = (λ h. to ((strict-permits b m).0 h).1, λ h. (strict-permits b m).1 (mask, from h))
  where
    to : PermitsToo b m → (write_level m ≤ write_level b) × (seek_level m ≤ seek_level b)
    to h = (
      by_steps _ _ (write_level-le m) (writes WriteHome refl) (writes WriteFormat refl) (writes WriteUpdate refl),
      by_steps _ _ (seek_level-le m) (seeks Seek refl) (seeks SeekCylinder refl) (seeks SeekHead refl),
    )
      where
        writes : (c : MaskClass) → seeks_up_to c ≡ 3 → write_level b ≤ writes_up_to c → write_level m ≤ writes_up_to c
        writes c e l = ((permits_when m c).0 (h c ((permits_when b c).1 (l, omega (arith, seek_level-le b, e))))).0

        seeks : (c : MaskClass) → writes_up_to c ≡ 3 → seek_level b ≤ seeks_up_to c → seek_level m ≤ seeks_up_to c
        seeks c e l = ((permits_when m c).0 (h c ((permits_when b c).1 (omega (arith, write_level-le b, e), l)))).1

    from : (write_level m ≤ write_level b) × (seek_level m ≤ seek_level b) → PermitsToo b m
    from h c e = let l = (permits_when b c).0 e in (permits_when m c).1 (omega (arith, h.0), omega (arith, h.1))

pub is_at_least-levels : (b m : ℕ) → is_mask b ≡ true → is_at_least b m ≡ (nat_le (write_level m) (write_level b) && nat_le (seek_level m) (seek_level b))
is_at_least-levels b m mask = one_truth _ _
    (λ h. let l = (strict-levels b m mask).0 h in and_from _ _ (le-leb _ _ l.0) (le-leb _ _ l.1))
    (λ h. let l = and_parts _ _ h in (strict-levels b m mask).1 (leb-true _ _ l.0, leb-true _ _ l.1))

-- ---- a mask has its levels, and is the only one that has them

abbrev pub is_of_levels : ℕ → ℕ → ℕ → Bool
is_of_levels w s m = is_mask m && nat_lt m 256 && write_level m == w && seek_level m == s

pub record IsOfLevels (w s m : ℕ) : Type 0 where
  pub right : is_mask m ≡ true
  pub small : m < 256
  pub writes : write_level m ≡ w
  pub seeks : seek_level m ≡ s

-- what passes for four numbers holds of each up to 3
four : (P : ℕ → Type 0) → P 0 → P 1 → P 2 → P 3 → (n : ℕ) → n ≤ 3 → P n
four P a b c d zero l = a
four P a b c d (suc zero) l = b
four P a b c d (suc (suc zero)) l = c
four P a b c d (suc (suc (suc n))) l = let e : 0 ≡ n = omega arith in subst (λ k. P (suc (suc (suc k)))) e d

pub mask_of-levels : (w s : ℕ) → w ≤ 3 → s ≤ 3 → IsOfLevels w s (mask_of w s)
mask_of-levels w s l k =
    let each = four (λ w. is_of_levels w s (mask_of w s) ≡ true)
    (on 0 refl refl refl refl) (on 1 refl refl refl refl) (on 2 refl refl refl refl) (on 3 refl refl refl refl) w l in
    search (rules, and_parts, ltb-true, eqb-true, each)
  where
    on : (w : ℕ) → is_of_levels w 0 (mask_of w 0) ≡ true → is_of_levels w 1 (mask_of w 1) ≡ true
        → is_of_levels w 2 (mask_of w 2) ≡ true → is_of_levels w 3 (mask_of w 3) ≡ true → is_of_levels w s (mask_of w s) ≡ true
    on w a b c d = four (λ s. is_of_levels w s (mask_of w s) ≡ true) a b c d s k

abbrev is_again : ℕ → Bool
is_again m = not (is_mask m) || mask_of (write_level m) (seek_level m) == m

all_again : list_all is_again (range_with_len 0 256) ≡ true
all_again = refl

pub levels-mask_of : (m : ℕ) → is_mask m ≡ true → m < 256 → mask_of (write_level m) (seek_level m) ≡ m
levels-mask_of m h l =
    let e : get_or (range_with_len 0 256) m 0 ≡ m = get_or-range_with_len 0 256 m 0 l ∙ (omega arith) in
    search (rules, eqb-true, subst (λ n. is_again n ≡ true) e (AllPass-from_list_all is_again (range_with_len 0 256) all_again m 0 l))
