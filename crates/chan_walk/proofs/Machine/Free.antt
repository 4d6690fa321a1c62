-- Each thing that the machine leaves free is done by some step.
use Rattle.chan_walk.proofs.Names.{[], AllByRecursion, ap, argument, arith, At, begins_recalibrate, begins_seek, begins_set_mask, BeginsAt, Bool, byte, carried, cases_Bool, cases_lt, ccw, ccw_of, chains_data, Checked, command_event, common_steps, Continues, cylinder_of, Ended, ends, Event, false, Fetch, Fields, Fresh, Gather, Gathered, has_count, home, home_stays, Idle, idle, if◌then◌else◌, inl, inr, Inward, is_mask, is_transfer, IsOperand, Job, joined, Kind, kind_of, length, length-map-range_with_len, List, map, mask_stays, MovesData, next_of, no_byte, no_home, no_mask, None, none, Operand, Option, Outward, part, Place, range_with_len, refl, rules, Search, searched, Seek, SetMask, skip_of, skipped, skips, Some, Stage, stays, storage_of, Store, stored, straight_to, subst, suc, sym, taken, Track, track_of, true, under_way, with_taken, written, zero, ℕ, ◌++◌, ◌+◌, ◌<◌, ◌==◌, ◌∙◌, ◌∷◌, ◌≡◌, ◌≤◌, ◌⊎◌}
use Rattle.std.specs.Option.{option_map}
use Rattle.std.specs.Prelude.{drop, take}
use Rattle.chan_walk.proofs.Machine.Yes.{fresh_out}
use Rattle.chan_walk.proofs.Theory.Commands.{mask_is_outward}
use Rattle.chan_walk.specs.Setting.{home_track, setting_by}
use Rattle.chan_walk.specs.declared.argument.Operand.TheVariants as operand
use Rattle.chan_walk.specs.declared.setting.Setting.TheVariants.{Arm, Mask}
use Rattle.chan_walk.proofs.Machine.Events.{in_six}
use Rattle.chan_walk.proofs.Machine.Quiet.{length-with_taken}
use Rattle.chan_walk.proofs.Theory.Checks.{data_fits, passed}
use Rattle.chan_walk.proofs.Theory.Follows.{by_command, by_data, by_skip, by_transfer, follows, FollowsBy}
use Rattle.ccw_core.specs.Ccw.{chains_command, chains_data, has_data_in, is_formed, is_invalid}
use Rattle.ccw_core.specs.Storage.{is_aligned, is_inside}
use Rattle.ckd_core.specs.Command.{is_seek, lookup, recalibrates, sets_mask, table}
use Rattle.chan_walk.specs.ProgramCheck.{program_check_of}
use Rattle.chan_walk.specs.Free.{CanSet, CarriesOutCcw, FetchesAhead, IsUnfinished, left_of, MachineIsFree, MayComeTo, MayMove, moved_into, one_seek, SeekIsFree, SettingCanBe, StoredIsThere}
use Rattle.chan_walk.specs.Machine.{goes, home_goes, IsStored, mask_set, on_command, on_data, on_skip, Recalibration, Seeks, SetsMask}

-- ---- the bytes

-- bytes that are put into storage are stored there
pub stored_over : (s bytes : List ℕ) (a : ℕ) → a + length bytes ≤ length s
    → IsStored s a bytes (take a s ++ (bytes ++ drop (a + length bytes) s))
stored_over s bytes a fits = record {
  same_length = grind (arith, common_steps);
  inside = λ i l. grind (arith, common_steps);
  others = λ b o. outside b o;
}
  where
    outside : (b : ℕ) → (b < a) ⊎ (a + length bytes ≤ b) → byte (take a s ++ (bytes ++ drop (a + length bytes) s)) b ≡ byte s b
    outside b (inl below) = grind (arith, common_steps)
    outside b (inr above) = grind (arith, common_steps)

record CanMove (s : List ℕ) (c : Fields) (k : Kind) (bytes : List ℕ) : Type 0 where
  es : List Event
  moves : MovesData c (length bytes) s k es (moved_into k c bytes s)
  ahead : FetchesAhead k c es

can_move : (s : List ℕ) (c : Fields) (k : Kind) (bytes : List ℕ) → AllByRecursion (λ b. b < 256) bytes
    → MayMove k c (length bytes) → c.address + c.count ≤ length s → CanMove s c k bytes
can_move s c Idle bytes small may fits = record { es = []; moves = idle (may.1 refl); ahead = tt }
can_move s c Outward bytes small may fits = record { es = _; moves = written; ahead = inl refl }
can_move s c Search bytes small may fits = record { es = _; moves = searched; ahead = inl refl }
can_move s c Inward bytes small may fits = go (cases_Bool (skips c))
  where
    is : IsStored s c.address bytes (take c.address s ++ (bytes ++ drop (c.address + length bytes) s))
    is = stored_over s bytes c.address (omega (arith, may.0))

    go : (skips c ≡ true) ⊎ (skips c ≡ false) → CanMove s c Inward bytes
    go (inl h) = record { es = []; moves = rw h (skipped h); ahead = tt }
    go (inr h) = record { es = Store c.address bytes ∷ []; moves = rw h (stored h refl small is); ahead = tt }

-- ---- the arm

some_is : {X : Type 0} {x y : X} → Some x ≡ Some y → x ≡ y
some_is e = cc

abbrev SeeksTo : List ℕ → Fields → ℕ → Gathered → ℕ → Type 0
SeeksTo s c m g z =
    (x : List ℕ) × (g ≡ Some x) × (length (with_taken s c m x) ≡ 6) × (z ≡ cylinder_of (with_taken s c m x))

abbrev CanSeek : List ℕ → Fields → ℕ → ℕ → Gathered → ℕ → Type 0
CanSeek s c m y g z = (es : List Event) × Seeks c m s y g es z (left_of s c m g)

few_or_six : (s : List ℕ) (c : Fields) (m : ℕ) (x : List ℕ) → length x < 6
    → (length (with_taken s c m x) < 6) ⊎ (length (with_taken s c m x) ≡ 6)
few_or_six s c m x h = go (cases_lt (length (with_taken s c m x)) 6)
  where
    go : (length (with_taken s c m x) < 6) ⊎ (6 ≤ length (with_taken s c m x))
        → (length (with_taken s c m x) < 6) ⊎ (length (with_taken s c m x) ≡ 6)
    go (inl l) = inl l
    go (inr g) = inr (omega (arith, length-with_taken s c m x))

not_six : (n : ℕ) → n < 6 → (n == 6) ≡ false
not_six n h = search (rules, h)

arm_stays : (s : List ℕ) (c : Fields) (m y : ℕ) (g : Gathered) → IsUnfinished g → CanSeek s c m y g y
arm_stays s c m y None h = ([], none)
arm_stays s c m y (Some x) h = go (few_or_six s c m x h)
  where
    go : (length (with_taken s c m x) < 6) ⊎ (length (with_taken s c m x) ≡ 6) → CanSeek s c m y (Some x) y
    go (inl l) = (Gather (taken c m x) ∷ [], rw (not_six (length (with_taken s c m x)) l) (part l))
    go (inr six) = (Gather (taken c m x) ∷ Seek (Some (with_taken s c m x)) ∷ [], rw six (stays six))

arm_goes : (s : List ℕ) (c : Fields) (m y : ℕ) (g : Gathered) (z : ℕ) → SeeksTo s c m g z → CanSeek s c m y g z
arm_goes s c m y None z h = let bad : None ≡ Some h.0 = h.1 in absurd (cc)
arm_goes s c m y (Some x) z h = go (let same : x ≡ h.0 = some_is h.1 in same) h.2 h.3
  where
    go : x ≡ h.0 → length (with_taken s c m h.0) ≡ 6 → z ≡ cylinder_of (with_taken s c m h.0) → CanSeek s c m y (Some x) z
    go same six at = subst (λ w. CanSeek s c m y (Some w) z) (sym same)
        (subst (λ n. CanSeek s c m y (Some h.0) n) (sym at) (Gather (taken c m h.0) ∷ Seek (Some (with_taken s c m h.0)) ∷ [], rw six (goes six)))

record CanArm (s : List ℕ) (c : Fields) (m y : ℕ) (g : Gathered) (home : Bool) (z : ℕ) : Type 0 where
  between : ℕ
  seek : CanSeek s c m y g between
  es : List Event
  homes : Recalibration between home es z

stays_home : (y : ℕ) (b : Bool) → (es : List Event) × Recalibration y b es y
stays_home y true = (_, home_stays)
stays_home y false = ([], no_home)

can_arm : (s : List ℕ) (p : Place) (c : Fields) (m y : ℕ) (g : Gathered) (z : ℕ) → IsUnfinished g
    → (z ≡ y) ⊎ SeeksTo s c m g z ⊎ ((begins_recalibrate p c ≡ true) × (z ≡ 0))
    → CanArm s c m y g (begins_recalibrate p c) z
can_arm s p c m y g z few (inl e) =
    let r = stays_home z (begins_recalibrate p c) in
    record { between = z; seek = subst (λ n. CanSeek s c m y g n) (sym e) (arm_stays s c m y g few); es = r.0; homes = r.1 }
can_arm s p c m y g z few (inr (inl h)) =
    let r = stays_home z (begins_recalibrate p c) in
    record { between = z; seek = arm_goes s c m y g z h; es = r.0; homes = r.1 }
can_arm s p c m y g z few (inr (inr h)) =
    record { between = y; seek = arm_stays s c m y g few; es = Seek (Some home) ∷ []; homes = rw (h.0, h.1) home_goes }

-- ---- the mask

can_mask : (s : List ℕ) (c : Fields) (m f : ℕ) (b : Bool) (h : ℕ)
    → (h ≡ f) ⊎ ((b ≡ true) × (0 < m) × (is_mask (byte s c.address) ≡ true) × (h ≡ byte s c.address))
    → (es : List Event) × SetsMask c m s f b es h
can_mask s c m f false h (inl e) = ([], subst (λ n. SetsMask c m s f false [] n) (sym e) no_mask)
can_mask s c zero f true h (inl e) = ([], subst (λ n. SetsMask c zero s f true [] n) (sym e) (no_byte refl))
can_mask s c (suc m) f true h (inl e) =
    (_, subst (λ n. SetsMask c (suc m) s f true (SetMask c.address (byte s c.address) ∷ []) n) (sym e) (mask_stays (omega arith)))
can_mask s c m f false h (inr w) = let bad : false ≡ true = w.0 in absurd (cc)
can_mask s c m f true h (inr w) =
    (_, subst (λ n. SetsMask c m s f true (SetMask c.address (byte s c.address) ∷ []) n) (sym w.3) (mask_set w.1 w.2))

-- ---- how it goes on

can_go_on : (s : List ℕ) (p : Place) (g : Gathered) (m : ℕ) (stage : Stage) → is_transfer (ccw s p.address) ≡ false
    → MayComeTo s p g m stage
    → Continues p (ccw s p.address) (kind_of p.entered (ccw s p.address)) m
    (left_of s (ccw s p.address) m (under_way p (ccw s p.address) g)) [] stage
can_go_on s p g m Ended t h = ends
can_go_on s p g m (Checked r) t h = absurd h
can_go_on s p g m (At q w) t h = go q h.3
  where
    c : Fields
    c = ccw s p.address

    k : Kind
    k = kind_of p.entered c

    left : Gathered
    left = left_of s c m (under_way p c g)

    none_left : chains_data c ≡ false → left ≡ None
    none_left d = sym h.0 ∙ h.2 d

    by : (q : Place) → FollowsBy p c k q → Continues p c k m left [] (At q w)
    by q (by_transfer b) = let bad : true ≡ false = sym b ∙ t in absurd (cc)
    by q (by_data a b e) = rw h.0 (on_data b e (h.1 b))
    by q (by_command a b d) = rw (h.0, none_left b) (on_command b d)
    by q (by_skip a b d e) = rw (h.0, none_left b) (on_skip b d e)

    go : (q : Place) → (next_of p c k ≡ Some q) ⊎ (skip_of p c k ≡ Some q) → Continues p c k m left [] (At q w)
    go q n = by q (follows p c k q n)

-- ---- the whole step

ahead_among : (k : Kind) (c : Fields) (begun moved sought homed set went : List Event) → FetchesAhead k c moved
    → FetchesAhead k c (begun ++ moved ++ sought ++ homed ++ set ++ went)
ahead_among Idle c begun moved sought homed set went h = tt
ahead_among Inward c begun moved sought homed set went h = tt
ahead_among Outward c begun moved sought homed set went h = in_six begun moved sought homed set went (Fetch c.address c.count) (inr (inl h))
ahead_among Search c begun moved sought homed set went h = in_six begun moved sought homed set went (Fetch c.address c.count) (inr (inl h))

pub machine_is_free : MachineIsFree
machine_is_free s y f p g is few bytes small may z arm h mask stage on =
    let c = ccw s p.address in
    let k = kind_of p.entered c in
    let mv = can_move s c k bytes small may (data_fits (length s) c (passed s p is.unchecked is.no_transfer).data_in) in
    let ar = can_arm s p c (length bytes) y (under_way p c g) z (begins p c g few) arm in
    let ma = can_mask s c (length bytes) f (begins_set_mask p c) h mask in
    record {
      events = command_event p c ++ mv.es ++ ar.seek.0 ++ ar.es ++ ma.0 ++ [];
      step = carried is.unchecked is.no_transfer is.known may.0 mv.moves ar.seek.1 ar.homes ma.1
          (can_go_on s p g (length bytes) stage is.no_transfer on);
      ahead = ahead_among k c (command_event p c) mv.es ar.seek.0 ar.es ma.0 [] mv.ahead;
    }
  where
    begins : (p : Place) (c : Fields) (g : Gathered) → IsUnfinished g → IsUnfinished (under_way p c g)
    begins p c g few = go (begins_seek p c)
      where
        go : (b : Bool) → IsUnfinished (if b then Some [] else g)
        go true = omega arith
        go false = few

-- ---- a seek that is carried out

seek_is_carried_out : CarriesOutCcw one_seek (straight_to 0 Fresh)
unfolding ccw program_check_of is_aligned is_inside is_transfer is_invalid is_formed has_count has_data_in table lookup
seek_is_carried_out = record { unchecked = refl; no_transfer = refl; known = λ e. refl }

pub seek_is_free : SeekIsFree
unfolding ccw is_transfer chains_data chains_command table lookup is_seek recalibrates sets_mask
seek_is_free = record {
  carried = seek_is_carried_out;
  unfinished = tt;
  moves = (omega arith, λ e. cc);
  arm = λ y. inr (inl ([], refl, refl, refl));
  mask = λ f. inl refl;
  goes_on = (refl, λ e. refl, λ e. refl, inl refl);
}

-- ---- what is stored

pub stored_is_there : StoredIsThere
stored_is_there c m s t k es (idle e) a bytes has i l = absurd has
stored_is_there c m s t k es (skipped e) a bytes has i l = absurd has
stored_is_there c m s t k es (stored {bytes = bs} e n small is) a bytes (inr has) i l = absurd has
stored_is_there c m s t k es (stored {bytes = bs} e n small is) a bytes (inl same) i l =
    let at : c.address ≡ a = cc in
    let them : bs ≡ bytes = cc in
    subst (λ n. byte t (n + i) ≡ byte bytes i) at (subst (λ (xs : List ℕ). byte t (c.address + i) ≡ byte xs i) them (is.inside i (rw them l)))
stored_is_there c m s t k es written a bytes has i l = absurd (search (rules, has))
stored_is_there c m s t k es searched a bytes has i l = absurd (search (rules, has))

-- ---- what is set

take_front : (a n k : ℕ) (ys : List ℕ) → k ≤ n → take k (range_with_len a n ++ ys) ≡ range_with_len a k
take_front a n zero ys h = refl
take_front a zero (suc k) ys h = absurd (omega arith)
take_front a (suc n) (suc k) ys h = ap (λ xs. a ∷ xs) (take_front (a + 1) n k ys (omega arith))

-- the argument of a seek whose own CCW gives it
own_argument : (s : List ℕ) (a : ℕ) (l : List ℕ) → BeginsAt a l → 6 ≤ (ccw s a).count
    → argument s l ≡ map (byte s) (range_with_len (ccw s a).address 6)
own_argument s a [] h six = absurd h
own_argument s a (b ∷ l) h six = rw h (ap (map (byte s)) (take_front (ccw s a).address (ccw s a).count 6 (joined s l) six))

mask_out : (p : Place) (c : Fields) → begins_set_mask p c ≡ true → kind_of p.entered c ≡ Outward
mask_out p c h = search (rules, mask_is_outward)

not_idle : (k : Kind) (m : ℕ) → k ≡ Outward → k ≡ Idle → m ≡ 0
not_idle k m e f = let bad : Outward ≡ Idle = sym e ∙ f in absurd (cc)

counted_one : (c : Fields) → has_count c ≡ true → 1 ≤ c.count
unfolding has_count
counted_one c h = search (rules, h)

module _ (j : Job) (p : Place) (y f : ℕ) (is : CarriesOutCcw (storage_of j) p) where
  abbrev s : List ℕ
  s = storage_of j

  abbrev c : Fields
  c = ccw_of j p

  can_home : begins_recalibrate p c ≡ true → CanSet (Arm home_track) s y f p
  can_home b = (_, f, machine_is_free s y f p None is tt [] tt (omega arith, λ e. refl) 0 (inr (inr (b, refl))) f (inl refl) Ended tt)

  can_take : (b : ℕ) → begins_set_mask p c ≡ true → b ≡ byte s c.address → is_mask b ≡ true → CanSet (Mask b) s y f p
  can_take b sets same mask =
      let counted = (passed s p is.unchecked is.no_transfer).counted in (
        _,
        y,
        machine_is_free s y f p None is tt (0 ∷ []) (omega arith, tt)
            (counted_one c counted, not_idle _ 1 (mask_out p c sets)) y (inl refl) b
            (inr (sets, omega arith, subst (λ n. is_mask n ≡ true) same mask, same)) Ended tt,
      )

  can_seek : (track : Track) (l : List ℕ) → begins_seek p c ≡ true → 6 ≤ c.count → BeginsAt p.address l
      → track_of (argument s l) ≡ Some track → CanSet (Arm track) s y f p
  can_seek track l seeks six begins at =
      let whole = own_argument s p.address l begins six in
      let there : track.cylinder ≡ cylinder_of (with_taken s c 6 []) = cylinder_there (argument s l) track at ∙ ap cylinder_of whole in
      let under : under_way p c None ≡ Some [] = rw seeks refl in (
        _,
        f,
        machine_is_free s y f p None is tt (0 ∷ 0 ∷ 0 ∷ 0 ∷ 0 ∷ 0 ∷ []) (search rules)
            (six, not_idle _ 6 (fresh_out p c seeks)) track.cylinder
            (inr (inl ([], under, length-map-range_with_len (byte s) c.address 6, there))) f (inl refl) Ended tt,
      )
    where
      cylinder_there : (x : List ℕ) (track : Track) → track_of x ≡ Some track → track.cylinder ≡ cylinder_of x
      cylinder_there x track h = search rules

pub setting_can_be : SettingCanBe
setting_can_be j p o y f is set wide mask = go w.0 w.1 w.2
  where
    w : (r : Operand) × IsOperand (storage_of j) p (ccw_of j p) r × (Some o ≡ setting_by p (ccw_of j p) r)
    w = set.unchecked is.unchecked

    tracked : (t : Option Track) → Some o ≡ option_map Arm t → (track : Track) × (t ≡ Some track) × (o ≡ Arm track)
    tracked None e = absurd (cc)
    tracked (Some track) e = (track, refl, some_is e)

    homed : (b : Bool) → begins_recalibrate p (ccw_of j p) ≡ b → Some o ≡ (if b then Some (Arm home_track) else None)
        → CanSet o (storage_of j) y f p
    homed true b e = subst (λ z. CanSet z (storage_of j) y f p) (sym (some_is e)) (can_home j p y f is b)
    homed false b e = absurd (cc)

    go : (r : Operand) → IsOperand (storage_of j) p (ccw_of j p) r → Some o ≡ setting_by p (ccw_of j p) r → CanSet o (storage_of j) y f p
    go (operand.Short g) h e = absurd (cc)
    go (operand.Mask at b) h e =
        subst (λ z. CanSet z (storage_of j) y f p) (sym (some_is e)) (can_take j p y f is b h.0 h.2 (mask b (some_is e)))
    go operand.Nothing h e = homed (begins_recalibrate p (ccw_of j p)) refl e
    go (operand.Whole g) h e =
        let t = tracked (track_of g.bytes) e in
        subst (λ z. CanSet z (storage_of j) y f p) (sym t.2)
        (can_seek j p y f is t.0 h.1.chain h.0 (wide h.0) h.1.is_chain.begins (subst (λ x. track_of x ≡ Some t.0) h.1.bytes t.1))
