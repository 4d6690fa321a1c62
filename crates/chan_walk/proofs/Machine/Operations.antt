-- The operation of a seek, carried on to its end: to a whole argument, or to what stops it before.
use Rattle.chan_walk.proofs.Names.{[], AllByRecursion, and_parts, ap, AreBytes, ArePlaces, argument, argument_addresses, arith, At, begins_recalibrate, begins_seek, cases_Bool, cases_lt, ccw, ccw_of, ChainComesTo, chained, ChainLeads, ChainOut, chains_data, Checked, checked, Continues, Ended, ends, Event, false, Fields, Gathered, Has, HasNoWholeArgument, inl, inr, is_fresh, is_part, is_transfer, IsChain, IsGathered, IsQuietEvent, IsQuietMoment, IsRun, Job, length, List, min, Moment, None, on_data, on_short, Option, Outward, Place, program_check, Reason, refl, rules, Seek, ShowsInOperation, Some, Stage, Step, storage_of, straight_to, subst, suc, sym, taken, transferred, transferred_to, true, under_way, UsesIn, UsesInArgument, with_taken, zero, ℕ, ◌++◌, ◌+◌, ◌-◌, ◌<◌, ◌∷◌, ◌≡◌, ◌≤◌, ◌⊎◌}
use Rattle.chan_walk.specs.Alarm.{StaysInOperation}
use Rattle.chan_walk.proofs.Theory.Chains.{part_is_no_transfer, part_counts, chain_begins_with_part, chain_cons}
use Rattle.chan_walk.proofs.Theory.Checks.{check_stands, part_passes, passed_is_part, no_second_transfer, transfer_passes}
use Rattle.chan_walk.proofs.Theory.Commands.{seek_no_recalibrate}
use Rattle.chan_walk.proofs.Machine.Gathering.{Advance, advance, at_next, transfer_on}
use Rattle.chan_walk.proofs.Theory.Lists.{has_cases}
use Rattle.chan_walk.proofs.Machine.Quiet.{full_count, IsFew, length-with_taken, kind_at, bytes_at, Known, Left, UsesTaken, CanSeek, seek_at, Carried, carry_out}
use Rattle.chan_walk.proofs.Machine.Yes.{fresh_out}

module _ (j : Job) (bytes : AreBytes (storage_of j)) where
  -- a moment at which storage is what it was
  abbrev pub moment : ℕ → Stage → List Event → Moment
  moment y st es = record { storage = storage_of j; arm = y; mask = j.mask; stage = st; events = es }

  -- at q a seek is under way with the bytes x, and the CCW there is carried out
  pub record Ready (q : Place) (g : Gathered) (x : List ℕ) : Type 0 where
    pub under : under_way q (ccw_of j q) g ≡ Some x
    pub few : length x < 6
    pub pass : program_check (storage_of j) q ≡ None
    pub no_transfer : is_transfer (ccw_of j q) ≡ false
    pub known : Known j q
    pub outward : kind_at j q ≡ Outward
    pub no_home : begins_recalibrate q (ccw_of j q) ≡ false

  -- the bytes of the seek after q
  abbrev all_at : Place → List ℕ → List ℕ
  all_at q x = with_taken (storage_of j) (ccw_of j q) (bytes_at j q) x

  abbrev UsesAll : Place → List ℕ → List Event → Type 0
  UsesAll q x es = (b : ℕ) → Has (taken (ccw_of j q) (bytes_at j q) x) b → UsesIn es b

  record SeekStep (y : ℕ) (q : Place) (g : Gathered) (x : List ℕ) : Type 0 where
    full : length (all_at q x) ≡ 6
        → (es : List Event) × Step (storage_of j) y j.mask q g es (storage_of j) y j.mask Ended × Has es (Seek (Some (all_at q x))) × UsesAll q x es
    on : length (all_at q x) < 6 → chains_data (ccw_of j q) ≡ true
        → (es : List Event) × Step (storage_of j) y j.mask q g es (storage_of j) y j.mask (At (straight_to (q.address + 8) ChainOut) (Some (all_at q x)))
        × HasNoWholeArgument es × UsesAll q x es
    short : length (all_at q x) < 6 → chains_data (ccw_of j q) ≡ false
        → (es : List Event) × Step (storage_of j) y j.mask q g es (storage_of j) y j.mask Ended × Has es (Seek None) × HasNoWholeArgument es

  seek_step : (y : ℕ) (q : Place) (g : Gathered) (x : List ℕ) → Ready q g x → SeekStep y q g x
  seek_step y q g x r = go (subst (λ z. Left j c m z sk.es sk.after) r.under sk.left)
    where
      c : Fields
      c = ccw_of j q

      m : ℕ
      m = bytes_at j q

      few : IsFew (under_way q (ccw_of j q) g)
      few = subst (λ z. IsFew z) (sym r.under) r.few

      sk : CanSeek j (ccw_of j q) (bytes_at j q) y (under_way q (ccw_of j q) g)
      sk = seek_at j y q g few

      whole : m ≡ c.count
      whole = ap (λ k. full_count k c) r.outward

      uses : UsesAll q x sk.es
      uses = subst (λ z. UsesTaken j c m z sk.es) r.under sk.uses

      carry : {went : List Event} {st : Stage} → AllByRecursion (IsQuietEvent j) went
          → Continues q c (kind_at j q) m sk.after went st → Carried j y q g sk.es went st
      carry calm goes = carry_out j bytes y q g few r.pass r.no_transfer r.known calm goes

      no_event : HasNoWholeArgument []
      no_event z h = h

      no_none : HasNoWholeArgument (Seek None ∷ [])
      no_none z h = search rules

      go : Left j c m (Some x) sk.es sk.after → SeekStep y q g x
      go (inl left) = record {
        full = λ six. let lt = left.0 in absurd (omega (arith, six));
        on = λ lt cd.
            let w = carry tt (subst (λ z. Continues q c (kind_at j q) m z [] (At (straight_to (q.address + 8) ChainOut) (Some (all_at q x))))
            (sym left.1) (on_data cd (ap chained r.outward) whole)) in
            (w.es, w.step, w.no_seek r.no_home left.2 no_event, λ b h. w.uses b (uses b h));
        short = λ lt cd.
            let w = carry (tt, tt) (subst (λ z. Continues q c (kind_at j q) m z (Seek None ∷ []) Ended) (sym left.1) (on_short cd whole)) in
            (w.es, w.step, w.last (Seek None) (inl refl), w.no_seek r.no_home left.2 no_none);
      }
      go (inr left) = record {
        full = λ six. let w = carry tt ends in (w.es, w.step, w.sought _ left.2, λ b h. w.uses b (uses b h));
        on = λ lt cd. let six = left.0 in absurd (omega (arith, six));
        short = λ lt cd. let six = left.0 in absurd (omega (arith, six));
      }

  ready_out : (q : Place) (x : List ℕ) → length x < 6 → q.entered ≡ ChainOut
      → program_check (storage_of j) q ≡ None → is_transfer (ccw_of j q) ≡ false → Ready q (Some x) x
  ready_out q x few o e t = search rules

  pub ready_fresh : (p : Place) (g : Gathered) → begins_seek p (ccw_of j p) ≡ true
      → program_check (storage_of j) p ≡ None → is_transfer (ccw_of j p) ≡ false → Known j p → Ready p g []
  ready_fresh p g b e t known = search (rules, fresh_out, seek_no_recalibrate, and_parts)

  -- ---- from a moment at p on

  module _ (y : ℕ) (p : Place) (g₀ : Gathered) (ev : List Event) (run : List Moment) (ps : List Place)
      (over : ArePlaces run ps) (quiet : AllByRecursion (IsQuietMoment j) (moment y (At p g₀) ev ∷ run)) where
    -- the operation has come to q
    pub record Going (q : Place) (g : Gathered) : Type 0 where
      pub past : List Moment
      pub upto : List Moment
      pub events : List Event
      pub is_run : IsRun j (moment y (At q g) events ∷ past)
      pub split : moment y (At q g) events ∷ past ≡ upto ++ moment y (At p g₀) ev ∷ run
      pub goes_on : StaysInOperation upto

    close : {q : Place} {g : Gathered} {es : List Event} {st : Stage} {P : Moment → Moment → Type 0} → Going q g
        → Step (storage_of j) y j.mask q g es (storage_of j) y j.mask st → P (moment y (At p g₀) ev) (moment y st es) → ShowsInOperation j p ps P
    close {es = es} {st = st} go step shows = record {
      run = run;
      at = moment y (At p g₀) ev;
      more = go.upto;
      next = moment y st es;
      is_run = let R : List Moment → Type 0 = λ z. IsRun j (moment y st es ∷ z) in subst R go.split (go.is_run, step);
      over = ((g₀, refl), over);
      quiet = quiet;
      goes_on = go.goes_on;
      shows = shows;
    }

    abbrev push : {q : Place} {g : Gathered} {es : List Event} (q' : Place) (g' : Gathered) → Going q g
        → Step (storage_of j) y j.mask q g es (storage_of j) y j.mask (At q' g') → HasNoWholeArgument es → is_fresh q'.entered ≡ false → Going q' g'
    push {q = q} {g = g} {es = es} q' g' go step quiet f = record {
      past = moment y (At q g) go.events ∷ go.past;
      upto = moment y (At q' g') es ∷ go.upto;
      events = es;
      is_run = (go.is_run, step);
      split = ap (λ z. moment y (At q' g') es ∷ z) go.split;
      goes_on = ((q', g', refl, f), quiet, go.goes_on);
    }

    abbrev pub Gathers : {q : Place} {g : Gathered} → Going q g → ℕ → Type 0
    Gathers {q} {g} go b = UsesInArgument (moment y (At q g) go.events ∷ go.past) b

    -- ---- a chain that gives the six bytes

    pub record Finished (l : List ℕ) : Type 0 where
      pub later : ShowsInOperation j p ps (λ at m. Has m.events (Seek (Some (argument (storage_of j) l))))
      pub used : List Moment
      pub is_used : IsRun j used
      pub gathers : (b : ℕ) → Has (argument_addresses (storage_of j) l) b → UsesInArgument used b

    -- from each place that has gathered x the rest is gathered too
    abbrev FinishesFrom : List ℕ → List ℕ → Type 0
    FinishesFrom l x =
        (q : Place) (go : Going q (Some x)) (w : IsGathered (storage_of j) l q x) → Ready q (Some x) x
        → ((b : ℕ) → Has w.before b → Gathers go b) → Finished l

    pub finish : (fuel : ℕ) (l : List ℕ) (q : Place) (g : Gathered) (x : List ℕ) (go : Going q g) → Ready q g x
        → (w : IsGathered (storage_of j) l q x) → 6 - length x ≤ fuel → ((b : ℕ) → Has w.before b → Gathers go b) → Finished l
    finish zero l q g x go r w le old = let few = r.few in absurd (omega arith)
    finish (suc fuel) l q g x go r w le old =
        cases (cases_lt (length all) 6) (λ q' go' w' r' old'. finish fuel l q' (Some all) all go' r' w' (omega (arith, len, positive, whole, r.few)) old')
      where
        c : Fields
        c = ccw_of j q

        m : ℕ
        m = bytes_at j q

        all : List ℕ
        all = with_taken (storage_of j) (ccw_of j q) (bytes_at j q) x

        whole : m ≡ c.count
        whole = ap (λ k. full_count k c) r.outward

        len : length all ≡ length x + min m (6 - length x)
        len = length-with_taken (storage_of j) c m x

        positive : 0 < c.count
        positive =
            part_counts (storage_of j) q.address (subst (λ a. is_part (storage_of j) a ≡ true) (sym (at_next (storage_of j) l q x w r.no_transfer))
            (chain_begins_with_part (storage_of j) _ _ _ w.chain))

        adv : Advance (storage_of j) l q c x m w.before
        adv = advance (storage_of j) l q x m w r.no_transfer (omega (arith, whole))

        st : SeekStep y q g x
        st = seek_step y q g x r

        next : Place
        next = straight_to (q.address + 8) ChainOut

        -- a byte that was gathered up to here or is taken here
        pick : (es : List Event) (b : ℕ) → UsesAll q x es → Has w.before b ⊎ Has (taken c m x) b → UsesIn es b ⊎ Gathers go b
        pick es b f (inl h) = inr (old b h)
        pick es b f (inr h) = inl (f b h)

        done : length all ≡ 6 → Finished l
        done six =
            let s = st.full six in
            record {
              later = close go s.1 (subst (λ z. Has s.0 (Seek (Some z))) (adv.full six) s.2);
              used = moment y Ended s.0 ∷ moment y (At q g) go.events ∷ go.past;
              is_used = (go.is_run, s.1);
              gathers = λ b h. pick s.0 b s.3 (has_cases w.before (taken c m x) b (subst (λ z. Has z b) (adv.covers six) h));
            }

        further : length all < 6 → FinishesFrom l all → Finished l
        further lt rec =
            let a = adv.on lt whole in
            let s = st.on lt (adv.chains lt whole) in
            let go' = push next (Some all) go s.1 s.2 refl in
            lead a.0 go' (λ b h. pick s.0 b s.3 (has_cases w.before (taken c m x) b (subst (λ z. Has z b) a.1 h))) a.0.leads
          where
            lead : (w' : IsGathered (storage_of j) l next all) (go' : Going next (Some all))
                → ((b : ℕ) → Has w'.before b → Gathers go' b) → ChainComesTo (storage_of j) next w'.at → Finished l
            lead w' go' old' (inl e) =
                let part = subst (λ a. is_part (storage_of j) a ≡ true) (sym e) (chain_begins_with_part (storage_of j) _ _ _ w'.chain) in
                rec next go' w'
                (ready_out next all lt refl (part_passes (storage_of j) next part refl) (part_is_no_transfer (storage_of j) next.address part)) old'
            lead w' go' old' (inr e) =
                let q'' : Place = transferred_to (ccw_of j next).address ChainOut in
                let go'' = push q'' (Some all) go' (transferred (transfer_passes (storage_of j) next e.1 e.2 e.0) e.2) (λ z h. h) refl in
                let part = subst (λ a. is_part (storage_of j) a ≡ true) (sym e.3) (chain_begins_with_part (storage_of j) _ _ _ w'.chain) in
                rec q'' go'' (transfer_on (storage_of j) l next all w' e.2)
                (ready_out q'' all lt refl (part_passes (storage_of j) q'' part refl) (part_is_no_transfer (storage_of j) q''.address part))
                (λ b h. inr (old' b h))

        cases : (length all < 6) ⊎ (6 ≤ length all) → FinishesFrom l all → Finished l
        cases (inl lt) rec = further lt rec
        cases (inr ge) rec = done (omega (arith, len, r.few))

    -- ---- a chain that doesn't

    abbrev pub Stops : Moment → Moment → Type 0
    Stops at m =
        (program_check at.storage p ≡ None) × (begins_seek p (ccw at.storage p.address) ≡ true)
        × HasNoWholeArgument m.events × (Has m.events (Seek None) ⊎ ((r : Reason) × (m.stage ≡ Checked r)))

    -- where the bytes after a step are too few, and no chain gives the rest, the seek stops later
    abbrev StopsFrom : List ℕ → Type 0
    StopsFrom x =
        (q : Place) → Going q (Some x) → Ready q (Some x) x
        → ((l : List ℕ) → IsChain (storage_of j) (6 - length x) q.address l → ⊥) → ShowsInOperation j p ps Stops

    pub stop : program_check (storage_of j) p ≡ None → begins_seek p (ccw_of j p) ≡ true → (fuel : ℕ) (q : Place) (g : Gathered) (x : List ℕ) → Going q g
        → Ready q g x → 6 - length x ≤ fuel → ((l : List ℕ) → IsChain (storage_of j) (6 - length x) q.address l → ⊥) → ShowsInOperation j p ps Stops
    stop pass b zero q g x go r le no_chain = let few = r.few in absurd (omega arith)
    stop pass b (suc fuel) q g x go r le no_chain =
        cases (cases_lt (length all) 6) (cases_Bool (chains_data c))
        (λ lt q' go' r' n. stop pass b fuel q' (Some all) all go' r' (omega (arith, len, positive, whole, r.few)) n)
      where
        c : Fields
        c = ccw_of j q

        m : ℕ
        m = bytes_at j q

        all : List ℕ
        all = with_taken (storage_of j) (ccw_of j q) (bytes_at j q) x

        whole : m ≡ c.count
        whole = ap (λ k. full_count k c) r.outward

        len : length all ≡ length x + min m (6 - length x)
        len = length-with_taken (storage_of j) c m x

        part : is_part (storage_of j) q.address ≡ true
        part = passed_is_part (storage_of j) q r.pass r.no_transfer

        positive : 0 < c.count
        positive = part_counts (storage_of j) q.address part

        st : SeekStep y q g x
        st = seek_step y q g x r

        next : Place
        next = straight_to (q.address + 8) ChainOut

        -- no chain goes on from where this CCW leads
        none_from : length all < 6 → chains_data c ≡ true → (a : ℕ) → ChainLeads (storage_of j) q.address a
            → (l : List ℕ) → IsChain (storage_of j) (6 - length all) a l → ⊥
        none_from lt cd a to l k =
            no_chain (q.address ∷ l) (chain_cons (storage_of j) _ q.address a l part cd to (omega (arith, len, whole))
            (subst (λ n. IsChain (storage_of j) n a l) (omega (arith, len, whole)) k))

        at_next' : length all < 6 → chains_data c ≡ true → Going next (Some all) → StopsFrom all → (o : Option Reason) → program_check (storage_of j) next ≡ o
            → (is_transfer (ccw_of j next) ≡ true) ⊎ (is_transfer (ccw_of j next) ≡ false) → ShowsInOperation j p ps Stops
        at_next' lt cd go' rec (Some t) e z = close go' (checked e) (pass, b, (λ z h. h), inr (t, refl))
        at_next' lt cd go' rec None e (inr t) = rec next go' (ready_out next all lt refl e t) (none_from lt cd next.address (inl refl))
        at_next' lt cd go' rec None e (inl t) =
            let q'' : Place = transferred_to (ccw_of j next).address ChainOut in
            let go'' = push q'' (Some all) go' (transferred e t) (λ z h. h) refl in
            target go'' (program_check (storage_of j) q'') refl
          where
            target : Going (transferred_to (ccw_of j next).address ChainOut) (Some all) → (o : Option Reason)
                → program_check (storage_of j) (transferred_to (ccw_of j next).address ChainOut) ≡ o → ShowsInOperation j p ps Stops
            target go'' (Some u) f = close go'' (checked f) (pass, b, (λ z h. h), inr (u, refl))
            target go'' None f =
                rec _ go'' (ready_out _ all lt refl f (no_second_transfer (storage_of j) _ f refl))
                (none_from lt cd (ccw_of j next).address (inr (check_stands (storage_of j) next e, t, refl)))

        cases : (length all < 6) ⊎ (6 ≤ length all) → (chains_data c ≡ true) ⊎ (chains_data c ≡ false)
            → (length all < 6 → StopsFrom all) → ShowsInOperation j p ps Stops
        cases (inr ge) z rec =
            let chain : IsChain (storage_of j) (6 - length x) q.address (q.address ∷ []) =
            record { begins = refl; linked = part; short = omega (arith, r.few); enough = omega (arith, len, whole, r.few) } in
            absurd (no_chain (q.address ∷ []) chain)
        cases (inl lt) (inr cd) rec = let s = st.short lt cd in close go s.1 (pass, b, s.3, inl s.2)
        cases (inl lt) (inl cd) rec =
            let s = st.on lt cd in
            at_next' lt cd (push next (Some all) go s.1 s.2 refl) (rec lt) (program_check (storage_of j) next) refl (cases_Bool (is_transfer (ccw_of j next)))
