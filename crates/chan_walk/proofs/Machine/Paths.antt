-- Each path is the places of a run that changes nothing.
use Rattle.chan_walk.proofs.Names.{[], AllByRecursion, and_from, ap, AreBytes, AreExtents, ArePlaces, arith, At, begins_seek, Bool, both_ways, byte, ccw_of, chained, ChainOut, chains_data, Continues, Event, extents_of, false, first_cylinder, Fresh, Gathered, has_cylinder, HasArgument, Idle, if◌then◌else◌, Inward, is_none, is_transfer, IsClear, IsGathered, IsPath, IsQuietEvent, IsQuietMoment, IsRun, Job, Kind, kind_of, length, length-map, List, Moment, None, on_command, on_data, on_skip, Option, or_left, Outward, Place, refl, rules, Search, Some, Step, storage_of, straight_to, subst, sym, transferred, transferred_to, true, under_way, ℕ, ◌+◌, ◌<◌, ◌∙◌, ◌∷◌, ◌≡◌, ◌≤◌}
use Rattle.std.proofs.lemmas.Bool.{le-leb}
use Rattle.chan_walk.specs.Alarm.{EachPathIsRun}
use Rattle.chan_walk.proofs.Theory.Faults.{IsGood, clear_check, clear_good}
use Rattle.chan_walk.proofs.Theory.Follows.{FollowsBy, by_transfer, by_data, by_command, by_skip, follows}
use Rattle.chan_walk.proofs.Machine.Gathering.{Advance, advance, transfer_on, begin}
use Rattle.chan_walk.proofs.Machine.Invariant.{chained_out}
use Rattle.chan_walk.proofs.Machine.Quiet.{full_count, IsFew, kind_at, bytes_at, Left, seek_at, carry_out}
use Rattle.chan_walk.proofs.Machine.Yes.{fresh_out}

pub first_inside : (es : List (ℕ × ℕ)) → AreExtents es → has_cylinder es (first_cylinder es) ≡ true
unfolding has_cylinder
first_inside es h = search (rules, or_left, and_from, le-leb)

module _ (j : Job) where
  -- a seek came to p with these bytes, or none is under way
  abbrev pub Taking : Place → Gathered → Type 0
  Taking p None = Unit {0}
  Taking p (Some x) = (p.entered ≡ ChainOut) × (l : List ℕ) × IsGathered (storage_of j) l p x

  -- a seek under way at p, whose chain is known
  abbrev SeekIsUnderWay : Place → Gathered → Type 0
  SeekIsUnderWay p None = Unit {0}
  SeekIsUnderWay p (Some x) =
      (kind_at j p ≡ Outward) × (length x < 6) × (l : List ℕ) × (before : List ℕ)
      × ((m : ℕ) → m ≤ (ccw_of j p).count → Advance (storage_of j) l p (ccw_of j p) x m before)

  few_of : (p : Place) (g : Gathered) → SeekIsUnderWay p g → IsFew g
  few_of p g h = search rules

  few_read : (p : Place) (x : List ℕ) (l : List ℕ) → IsGathered (storage_of j) l p x → length x < 6
  few_read p x l w = let few = w.few in let len = ap length w.read ∙ length-map w.before (byte (storage_of j)) in subst (λ n. n < 6) (sym len) few

  pub few_at : (p : Place) (g : Gathered) → Taking p g → IsFew (under_way p (ccw_of j p) g)
  few_at p g tk = go (begins_seek p (ccw_of j p)) g tk
    where
      old : (g : Gathered) → Taking p g → IsFew g
      old None tk = tt
      old (Some x) tk = few_read p x tk.1 tk.2

      go : (b : Bool) (g : Gathered) → Taking p g → IsFew (if b then Some [] else g)
      go true g tk = omega arith
      go false g tk = old g tk

  comes_at : (p : Place) (g : Gathered) → Taking p g → IsClear j p → is_transfer (ccw_of j p) ≡ false → SeekIsUnderWay p (under_way p (ccw_of j p) g)
  comes_at p g tk f t = come (begins_seek p (ccw_of j p)) refl g tk
    where
      good : IsGood j p (ccw_of j p) f.0
      good = clear_good j p f t

      old : (g : Gathered) → Taking p g → SeekIsUnderWay p g
      old None u = tt
      old (Some x) u = (ap (λ e. kind_of e (ccw_of j p)) u.0, few_read p x u.1 u.2, u.1, u.2.before, λ m le. advance (storage_of j) u.1 p x m u.2 t le)

      new : begins_seek p (ccw_of j p) ≡ true → (x : Option (List ℕ)) → HasArgument (storage_of j) p.address x → is_none x ≡ false → SeekIsUnderWay p (Some [])
      new e None h miss = absurd (cc)
      new e (Some x) h miss = (
        fresh_out p (ccw_of j p) e,
        omega arith,
        h.0,
        [],
        λ m le. advance (storage_of j) h.0 p [] m (begin (storage_of j) h.0 p h.1) t le,
      )

      come : (b : Bool) → begins_seek p (ccw_of j p) ≡ b → (g : Gathered) → Taking p g → SeekIsUnderWay p (if b then Some [] else g)
      come true e g u = new e f.0 f.1 (good.argued e)
      come false e g u = old g u

  -- what a seek goes on with after p, if it does
  abbrev SeekGoesOn : Place → Gathered → Type 0
  SeekGoesOn p None = Unit {0}
  SeekGoesOn p (Some x) =
      (kind_at j p ≡ Outward) × (chains_data (ccw_of j p) ≡ true) × (l : List ℕ) × IsGathered (storage_of j) l (straight_to (p.address + 8) ChainOut) x

  onward_of : (p : Place) (g : Gathered) (es : List Event) (g' : Gathered) → SeekIsUnderWay p g → Left j (ccw_of j p) (bytes_at j p) g es g' → SeekGoesOn p g'
  onward_of p g es after h left = search (rules, bytes_at, full_count, Advance)

  -- where data chaining is off, no seek goes on
  none_left : (y : ℕ) (p : Place) (g : Gathered) (tk : Taking p g) (f : IsClear j p) (t : is_transfer (ccw_of j p) ≡ false)
      → chains_data (ccw_of j p) ≡ false → (seek_at j y p g (few_of p (under_way p (ccw_of j p) g) (comes_at p g tk f t))).after ≡ None
  none_left y p g tk f t cd = search (rules, comes_at, seek_at, few_of, onward_of, both_ways)

  record CanStep (y : ℕ) (p : Place) (g : Gathered) (q : Place) : Type 0 where
    es : List Event
    after : Gathered
    step : Step (storage_of j) y j.mask p g es (storage_of j) y j.mask (At q after)
    quiet : AllByRecursion (IsQuietEvent j) es
    taking : Taking q after

  can_step : AreBytes (storage_of j) → (y : ℕ) (p : Place) (g : Gathered) {q : Place}
      → Taking p g → IsClear j p → FollowsBy p (ccw_of j p) (kind_at j p) q → CanStep y p g q
  can_step bytes y p g tk f (by_transfer t) =
      record { es = []; after = g; step = transferred (clear_check j p f) t; quiet = tt; taking = carry g tk }
    where
      carry : (g : Gathered) → Taking p g → Taking (transferred_to (ccw_of j p).address p.entered) g
      carry None u = tt
      carry (Some x) u = (u.0, u.1, transfer_on (storage_of j) u.1 p x u.2 t)
  can_step bytes y p g tk f (by_data {e = e} t cd ch) =
      let come = comes_at p g tk f t in
      let few = few_of p (under_way p (ccw_of j p) g) come in
      let sk = seek_at j y p g few in
      let r = carry_out j bytes y p g few (clear_check j p f) t (clear_good j p f t).known tt (on_data cd ch (whole (kind_at j p) ch)) in
      record { es = r.es; after = sk.after; step = r.step; quiet = r.quiet; taking = carry sk.after (onward_of p _ sk.es sk.after come sk.left) }
    where
      whole : (k : Kind) → chained k ≡ Some e → full_count k (ccw_of j p) ≡ (ccw_of j p).count
      whole Idle h = absurd (cc)
      whole Inward h = refl
      whole Outward h = refl
      whole Search h = refl

      carry : (g : Gathered) → SeekGoesOn p g → Taking (straight_to (p.address + 8) e) g
      carry None u = tt
      carry (Some x) u =
          let same = chained_out (kind_at j p) u.0 ch in
          (same, u.2, subst (λ z. IsGathered (storage_of j) u.2 (straight_to (p.address + 8) z) x) (sym same) u.3)
  can_step bytes y p g tk f (by_command t cd cc') =
      let few = few_of p (under_way p (ccw_of j p) g) (comes_at p g tk f t) in
      let n = none_left y p g tk f t cd in
      let r = carry_out j bytes y p g few (clear_check j p f) t (clear_good j p f t).known tt
      (subst (λ z. Continues p (ccw_of j p) (kind_at j p) (bytes_at j p) z [] (At (straight_to (p.address + 8) Fresh) None)) (sym n) (on_command cd cc')) in
      record { es = r.es; after = None; step = r.step; quiet = r.quiet; taking = tt }
  can_step bytes y p g tk f (by_skip t cd cc' ks) =
      let few = few_of p (under_way p (ccw_of j p) g) (comes_at p g tk f t) in
      let n = none_left y p g tk f t cd in
      let r = carry_out j bytes y p g few (clear_check j p f) t (clear_good j p f t).known tt
      (subst (λ z. Continues p (ccw_of j p) (kind_at j p) (bytes_at j p) z [] (At (straight_to (p.address + 16) Fresh) None)) (sym n) (on_skip cd cc' ks)) in
      record { es = r.es; after = None; step = r.step; quiet = r.quiet; taking = tt }

  -- a path is a run
  pub record Runs (y : ℕ) (p : Place) (ps : List Place) : Type 0 where
    pub gathered : Gathered
    pub events : List Event
    pub run : List Moment
    pub is_run : IsRun j (record { storage = storage_of j; arm = y; mask = j.mask; stage = At p gathered; events = events } ∷ run)
    pub places : ArePlaces run ps
    pub quiet : AllByRecursion (IsQuietMoment j) (record { storage = storage_of j; arm = y; mask = j.mask; stage = At p gathered; events = events } ∷ run)
    pub taking : Taking p gathered

  pub path_runs : AreBytes (storage_of j) → AreExtents (extents_of j)
      → (p : Place) (ps : List Place) → IsPath j (p ∷ ps) → Runs (first_cylinder (extents_of j)) p ps
  path_runs bytes h p [] e = record {
    gathered = None;
    events = [];
    run = [];
    is_run = record { storage = refl; arm = first_inside (extents_of j) h; mask = refl; stage = ap (λ q. At q None) e; events = refl };
    places = tt;
    quiet = (record { storage = refl; arm = refl; mask = refl; events = tt }, tt);
    taking = tt;
  }
  path_runs bytes h q (p ∷ ps) e =
      let r = path_runs bytes h p ps e.0 in
      let s = can_step bytes (first_cylinder (extents_of j)) p r.gathered r.taking e.1 (follows p (ccw_of j p) (kind_at j p) q e.2) in
      record {
        gathered = s.after;
        events = s.es;
        run = record { storage = storage_of j; arm = first_cylinder (extents_of j); mask = j.mask; stage = At p r.gathered; events = r.events } ∷ r.run;
        is_run = (r.is_run, s.step);
        places = ((r.gathered, refl), r.places);
        quiet = (record { storage = refl; arm = refl; mask = refl; events = s.quiet }, r.quiet);
        taking = s.taking;
      }

pub each_path_is_run : EachPathIsRun
each_path_is_run j proper [] e = absurd e
each_path_is_run j proper (p ∷ ps) e =
    let r = path_runs j proper.1 proper.0 p ps e in (
      record { storage = storage_of j; arm = first_cylinder (extents_of j); mask = j.mask; stage = At p r.gathered; events = r.events } ∷ r.run,
      r.is_run,
      ((r.gathered, refl), r.places),
      r.quiet,
    )
