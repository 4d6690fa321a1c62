-- A step that carries a CCW out with all its bytes, stores only what was there, and leaves the arm where it stands.
use Rattle.chan_walk.proofs.Names.{[], AllByRecursion, ap, AreBytes, arith, begins_recalibrate, begins_set_mask, Bool, both_ways, byte, carried, cases_Bool, cases_lt, ccw_of, Command, command_event, Continues, Event, false, Fetch, Fields, Gather, Gathered, goes_in, goes_out, Has, HasNoWholeArgument, home, home_stays, Idle, idle, if◌then◌else◌, inl, inr, Inward, is_fresh, is_known, is_transfer, IsQuietEvent, Job, Kind, kind_of, length, length-append, length-map, length-map-range_with_len, length-range_with_len, List, map, mask_stays, min, MovesData, no_byte, no_home, no_mask, None, none, Outward, part, Place, program_check, range_with_len, Recalibration, refl, rules, Search, searched, Seek, Seeks, SetMask, SetsMask, skipped, skips, Some, Stage, stays, Step, storage_of, Store, stored, suc, sym, taken, true, under_way, UsesIn, with_taken, written, zero, ℕ, ◌++◌, ◌+◌, ◌-◌, ◌<◌, ◌∙◌, ◌∷◌, ◌≡◌, ◌≤◌, ◌⊎◌}
use Rattle.chan_walk.proofs.Machine.Events.{uses_left, uses_right, no_seek_append, of_six, in_six}
use Rattle.chan_walk.proofs.Theory.Lists.{all_append, byte-map-range}

-- as many bytes as there are, in the kind's way
abbrev pub full_count : Kind → Fields → ℕ
full_count Idle c = 0
full_count Inward c = c.count
full_count Outward c = c.count
full_count Search c = c.count

full_le : (k : Kind) (c : Fields) → full_count k c ≤ c.count
full_le k c = search rules

pub inward_from : (k : Kind) → goes_in k ≡ true → k ≡ Inward
inward_from k h = search rules

-- a seek that has fewer than six bytes
abbrev pub IsFew : Gathered → Type 0
IsFew None = Unit {0}
IsFew (Some x) = length x < 6

small : (s xs : List ℕ) → AreBytes s → AllByRecursion (λ b. b < 256) (map (byte s) xs)
small s [] h = tt
small s (x ∷ xs) h = (h x, small s xs h)

pub length-with_taken : (s : List ℕ) (c : Fields) (m : ℕ) (x : List ℕ) → length (with_taken s c m x) ≡ length x + min m (6 - length x)
length-with_taken s c m x =
    length-append x (map (byte s) (taken c m x))
    ∙ ap (λ n. length x + n) (length-map (taken c m x) (byte s) ∙ length-range_with_len c.address (min m (6 - length x)))

module _ (j : Job) where
  abbrev pub kind_at : Place → Kind
  kind_at p = kind_of p.entered (ccw_of j p)

  -- how many bytes the CCW at p moves at most
  abbrev pub bytes_at : Place → ℕ
  bytes_at p = full_count (kind_at p) (ccw_of j p)

  -- what storage holds in the range of a CCW
  abbrev pub there : Fields → List ℕ
  there c = map (byte (storage_of j)) (range_with_len c.address c.count)

  abbrev pub Known : Place → Type 0
  Known p = is_fresh p.entered ≡ true → is_known (ccw_of j p).command ≡ true

  -- ---- the data

  pub record CanMove (c : Fields) (k : Kind) : Type 0 where
    pub es : List Event
    pub moves : MovesData c (full_count k c) (storage_of j) k es (storage_of j)
    pub quiet : AllByRecursion (IsQuietEvent j) es
    pub no_seek : HasNoWholeArgument es
    pub stores : k ≡ Inward → skips c ≡ false → Has es (Store c.address (there c))
    pub fetches : goes_out k ≡ true → Has es (Fetch c.address c.count)

  no_event : HasNoWholeArgument []
  no_event x h = h

  no_fetch : (a n : ℕ) → HasNoWholeArgument (Fetch a n ∷ [])
  no_fetch a n x h = search rules

  no_store : (a : ℕ) (bs : List ℕ) → HasNoWholeArgument (Store a bs ∷ [])
  no_store a bs x h = search rules

  pub can_move : AreBytes (storage_of j) → (c : Fields) (k : Kind) → CanMove c k
  can_move bytes c Idle = record { es = []; moves = idle refl; quiet = tt; no_seek = no_event; stores = λ e f. absurd (cc); fetches = λ e. absurd (cc) }
  can_move bytes c Outward = record {
    es = _;
    moves = written;
    quiet = (tt, tt);
    no_seek = no_fetch c.address c.count;
    stores = λ e f. absurd (cc);
    fetches = λ e. inl refl;
  }
  can_move bytes c Search = record {
    es = _;
    moves = searched;
    quiet = (tt, tt);
    no_seek = no_fetch c.address c.count;
    stores = λ e f. absurd (cc);
    fetches = λ e. inl refl;
  }
  can_move bytes c Inward = go (cases_Bool (skips c))
    where
      len : length (there c) ≡ c.count
      len = length-map-range_with_len (byte (storage_of j)) c.address c.count

      go : (skips c ≡ true) ⊎ (skips c ≡ false) → CanMove c Inward
      go (inl h) = record { es = []; moves = skipped h; quiet = tt; no_seek = no_event; stores = λ e f. absurd (both_ways _ f h); fetches = λ e. absurd (cc) }
      go (inr h) = record {
        es = Store c.address (there c) ∷ [];
        moves = stored h len (small (storage_of j) (range_with_len c.address c.count) bytes) (record {
          same_length = refl;
          inside = λ i l. sym (byte-map-range (byte (storage_of j)) c.address c.count i (omega (arith, len)));
          others = λ b o. refl;
        });
        quiet = (ap (λ n. map (byte (storage_of j)) (range_with_len c.address n)) (sym len), tt);
        no_seek = no_store c.address (there c);
        stores = λ e f. inl refl;
        fetches = λ e. absurd (cc);
      }

  -- ---- the seek under way

  -- what is left of a seek: part of its argument, or nothing once it is whole
  abbrev pub Left : Fields → ℕ → Gathered → List Event → Gathered → Type 0
  Left c m None es after = (after ≡ None) × HasNoWholeArgument es
  Left c m (Some x) es after =
      ((length (with_taken (storage_of j) c m x) < 6) × (after ≡ Some (with_taken (storage_of j) c m x)) × HasNoWholeArgument es)
      ⊎ ((length (with_taken (storage_of j) c m x) ≡ 6) × (after ≡ None) × Has es (Seek (Some (with_taken (storage_of j) c m x))))

  -- the bytes taken are used
  abbrev pub UsesTaken : Fields → ℕ → Gathered → List Event → Type 0
  UsesTaken c m None es = Unit {0}
  UsesTaken c m (Some x) es = (b : ℕ) → Has (taken c m x) b → UsesIn es b

  pub record CanSeek (c : Fields) (m y : ℕ) (g : Gathered) : Type 0 where
    pub es : List Event
    pub after : Gathered
    pub seeks : Seeks c m (storage_of j) y g es y after
    pub quiet : AllByRecursion (IsQuietEvent j) es
    pub left : Left c m g es after
    pub uses : UsesTaken c m g es

  no_gather : (from : List ℕ) → HasNoWholeArgument (Gather from ∷ [])
  no_gather from x h = search rules

  can_seek : (c : Fields) (m y : ℕ) (g : Gathered) → IsFew g → CanSeek c m y g
  can_seek c m y None h = record { es = []; after = None; seeks = none; quiet = tt; left = (refl, no_event); uses = tt }
  can_seek c m y (Some x) h = go (cases_lt (length all) 6)
    where
      all : List ℕ
      all = with_taken (storage_of j) c m x

      go : (length all < 6) ⊎ (6 ≤ length all) → CanSeek c m y (Some x)
      go (inl lt) = record { es = _; after = Some all; seeks = part lt; quiet = (tt, tt); left = inl (lt, refl, no_gather (taken c m x)); uses = λ b u. inl u }
      go (inr le) =
          let six : length all ≡ 6 = omega (arith, length-with_taken (storage_of j) c m x) in
          record { es = _; after = None; seeks = stays six; quiet = (tt, (tt, tt)); left = inr (six, refl, inr (inl refl)); uses = λ b u. inl u }

  -- ---- Recalibrate

  pub record CanHome (y : ℕ) (b : Bool) : Type 0 where
    pub es : List Event
    pub homes : Recalibration y b es y
    pub quiet : AllByRecursion (IsQuietEvent j) es
    pub home : b ≡ true → Has es (Seek (Some home))
    pub no_seek : b ≡ false → HasNoWholeArgument es

  pub can_home : (y : ℕ) (b : Bool) → CanHome y b
  can_home y true = record { es = _; homes = home_stays; quiet = (tt, tt); home = λ e. inl refl; no_seek = λ e. absurd (cc) }
  can_home y false = record { es = []; homes = no_home; quiet = tt; home = λ e. absurd (cc); no_seek = λ e. no_event }

  -- ---- Set File Mask

  pub record CanMask (c : Fields) (m f : ℕ) (b : Bool) : Type 0 where
    pub es : List Event
    pub sets : SetsMask c m (storage_of j) f b es f
    pub quiet : AllByRecursion (IsQuietEvent j) es
    pub takes : b ≡ true → 0 < m → Has es (SetMask c.address (byte (storage_of j) c.address))
    pub no_seek : HasNoWholeArgument es

  no_taken : (a x : ℕ) → HasNoWholeArgument (SetMask a x ∷ [])
  no_taken a x z h = search rules

  pub can_mask : (c : Fields) (m f : ℕ) (b : Bool) → CanMask c m f b
  can_mask c m f false = record { es = []; sets = no_mask; quiet = tt; takes = λ e. absurd (cc); no_seek = no_event }
  can_mask c zero f true = record { es = []; sets = no_byte refl; quiet = tt; takes = λ e l. absurd (omega arith); no_seek = no_event }
  can_mask c (suc m) f true = record {
    es = _;
    sets = mask_stays (omega arith);
    quiet = (tt, tt);
    takes = λ e l. inl refl;
    no_seek = no_taken c.address (byte (storage_of j) c.address);
  }

  -- ---- the whole step

  pub seek_at : (y : ℕ) (p : Place) (g : Gathered) → IsFew (under_way p (ccw_of j p) g) → CanSeek (ccw_of j p) (bytes_at p) y (under_way p (ccw_of j p) g)
  seek_at y p g few = can_seek (ccw_of j p) (bytes_at p) y (under_way p (ccw_of j p) g) few

  -- a step from p to st, at which sk is what becomes of the seek under way
  pub record Carried (y : ℕ) (p : Place) (g : Gathered) (sk went : List Event) (st : Stage) : Type 0 where
    pub es : List Event
    pub step : Step (storage_of j) y j.mask p g es (storage_of j) y j.mask st
    pub quiet : AllByRecursion (IsQuietEvent j) es
    pub begins : is_fresh p.entered ≡ true → Has es (Command (ccw_of j p).command)
    pub stores : goes_in (kind_at p) ≡ true → skips (ccw_of j p) ≡ false → Has es (Store (ccw_of j p).address (there (ccw_of j p)))
    pub fetches : goes_out (kind_at p) ≡ true → Has es (Fetch (ccw_of j p).address (ccw_of j p).count)
    pub sought : (e : Event) → Has sk e → Has es e
    pub uses : (b : ℕ) → UsesIn sk b → UsesIn es b
    pub home : begins_recalibrate p (ccw_of j p) ≡ true → Has es (Seek (Some home))
    pub masks : begins_set_mask p (ccw_of j p) ≡ true → 0 < bytes_at p → Has es (SetMask (ccw_of j p).address (byte (storage_of j) (ccw_of j p).address))
    pub last : (e : Event) → Has went e → Has es e
    pub no_seek : begins_recalibrate p (ccw_of j p) ≡ false → HasNoWholeArgument sk → HasNoWholeArgument went → HasNoWholeArgument es

  pub carry_out : AreBytes (storage_of j) → (y : ℕ) (p : Place) (g : Gathered) (few : IsFew (under_way p (ccw_of j p) g))
      → program_check (storage_of j) p ≡ None → is_transfer (ccw_of j p) ≡ false → Known p → {went : List Event} {st : Stage}
      → AllByRecursion (IsQuietEvent j) went
      → Continues p (ccw_of j p) (kind_at p) (bytes_at p) (seek_at y p g few).after went st → Carried y p g (seek_at y p g few).es went st
  carry_out bytes y p g few e t known {went = went} calm goes = record {
    es = command_event p c ++ mv.es ++ sk.es ++ hm.es ++ fm.es ++ went;
    step = carried e t known (full_le (kind_at p) c) mv.moves sk.seeks hm.homes fm.sets goes;
    quiet = of_six (AllByRecursion (IsQuietEvent j)) (all_append _) (command_event p c) mv.es sk.es hm.es fm.es went
        (calm_begun (is_fresh p.entered)) mv.quiet sk.quiet hm.quiet fm.quiet calm;
    begins = λ f. among _ (inl (has_begun (is_fresh p.entered) f));
    stores = λ f h. among _ (inr (inl (mv.stores (inward_from (kind_at p) f) h)));
    fetches = λ f. among _ (inr (inl (mv.fetches f)));
    sought = λ z h. among z (inr (inr (inl h)));
    uses = λ b u. uses_left (command_event p c ++ mv.es ++ sk.es ++ hm.es ++ fm.es) went b (uses_left (command_event p c ++ mv.es ++ sk.es ++ hm.es) fm.es b
        (uses_left (command_event p c ++ mv.es ++ sk.es) hm.es b (uses_right (command_event p c ++ mv.es) sk.es b u)));
    home = λ f. among _ (inr (inr (inr (inl (hm.home f)))));
    masks = λ f l. among _ (inr (inr (inr (inr (inl (fm.takes f l))))));
    last = λ z h. among z (inr (inr (inr (inr (inr h)))));
    no_seek = λ h a b. of_six HasNoWholeArgument no_seek_append (command_event p c) mv.es sk.es hm.es fm.es went
        (no_begun (is_fresh p.entered)) mv.no_seek a (hm.no_seek h) fm.no_seek b;
  }
    where
      c : Fields
      c = ccw_of j p

      mv : CanMove c (kind_at p)
      mv = can_move bytes c (kind_at p)

      sk : CanSeek c (bytes_at p) y (under_way p c g)
      sk = seek_at y p g few

      hm : CanHome y (begins_recalibrate p c)
      hm = can_home y (begins_recalibrate p c)

      fm : CanMask c (bytes_at p) j.mask (begins_set_mask p c)
      fm = can_mask c (bytes_at p) j.mask (begins_set_mask p c)

      among : (z : Event) → Has (command_event p c) z ⊎ Has mv.es z ⊎ Has sk.es z ⊎ Has hm.es z ⊎ Has fm.es z ⊎ Has went z
          → Has (command_event p c ++ mv.es ++ sk.es ++ hm.es ++ fm.es ++ went) z
      among = in_six (command_event p c) mv.es sk.es hm.es fm.es went

      calm_begun : (f : Bool) → AllByRecursion (IsQuietEvent j) (if f then Command c.command ∷ [] else [])
      calm_begun f = search rules

      has_begun : (f : Bool) → f ≡ true → Has (if f then Command c.command ∷ [] else []) (Command c.command)
      has_begun f e = search rules

      no_begun : (f : Bool) → HasNoWholeArgument (if f then Command c.command ∷ [] else [])
      no_begun f z h = search rules
