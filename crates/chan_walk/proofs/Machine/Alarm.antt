-- No false alarm: from each reason to a run that shows it.
use Rattle.chan_walk.proofs.Names.{[], allows, and_parts, ap, argument, arith, At, begins_recalibrate, begins_seek, begins_set_mask, byte, ccw_of, ChangesUsed, checked, covered, Ended, ends, Event, extents_of, false, fetch_of, fetches, FetchNotLent, Fields, first_cylinder, goes_out, has_count, has_cylinder, HasArgument, HasFault, home, inhibits, inl, inr, is_at_least, is_fresh, is_known, is_none, is_refused, is_transfer, IsArgumentByte, IsCcwByte, IsChain, IsClear, IsProper, IsReachable, IsRun, Job, kind_of, length, length-map-range_with_len, List, Moment, NoFalseAlarm, None, not, not-true, Offends, Option, or_cases, Outward, Place, program_check, Reason, refl, rules, SeekOutside, ShortSeek, ShowsInStep, ShowsReason, Some, Stage, Step, storage_of, store_of, StoreNotLent, stores, StoresOver, subst, sym, table_of_every_ccw, table_of_non_transfer, table_of_own, TakesArgumentByte, true, unknown, UsesIn, UsesInArgument, UsesInCcw, WeakensMask, ℕ, ◌&&◌, ◌+◌, ◌<◌, ◌∷◌, ◌≡◌, ◌⊎◌}
use Rattle.std.proofs.lemmas.Bool.{ltb-true}
use Rattle.chan_walk.specs.Alarm.{ShowsProgramCheck, EachPathShows}
use Rattle.chan_walk.specs.Guarded.{IsSeekByte, IsMaskByte}
use Rattle.chan_walk.proofs.Theory.Areas.{uncovered, home_refused}
use Rattle.chan_walk.proofs.Theory.Chains.{part_is_no_transfer, chain_begins_with_part}
use Rattle.chan_walk.proofs.Machine.Changed.{rewrite}
use Rattle.chan_walk.proofs.Theory.Checks.{passed, Cases, each_case, table_case, check_case}
use Rattle.chan_walk.proofs.Theory.Commands.{mask_is_outward, mask_is_no_transfer}
use Rattle.chan_walk.proofs.Machine.Events.{mask_is_used}
use Rattle.chan_walk.proofs.Theory.Faults.{clear_check, clear_good, then_true}
use Rattle.chan_walk.proofs.Machine.Gathering.{begin}
use Rattle.chan_walk.proofs.Machine.Operations.{moment, Finished, finish, stop, ready_fresh}
use Rattle.chan_walk.proofs.Machine.Paths.{few_at, Runs, path_runs}
use Rattle.chan_walk.proofs.Machine.Quiet.{full_count, bytes_at, there, Known, Carried, seek_at, carry_out}
use Rattle.chan_walk.proofs.Theory.Granting.{stores_parts}

show_next : {j : Job} {y : ℕ} {p : Place} {ps : List Place} {es : List Event} {t : List ℕ} {st : Stage} {P : Moment → Type 0} (r : Runs j y p ps)
    → Step (storage_of j) y j.mask p r.gathered es t y j.mask st
    → P (record { storage = t; arm = y; mask = j.mask; stage = st; events = es }) → ShowsInStep j p ps P
show_next {j = j} {y = y} {p = p} {es = es} {t = t} {st = st} r step shows = record {
  run = r.run;
  at = record { storage = storage_of j; arm = y; mask = j.mask; stage = At p r.gathered; events = r.events };
  next = record { storage = t; arm = y; mask = j.mask; stage = st; events = es };
  is_run = (r.is_run, step);
  over = ((r.gathered, refl), r.places);
  quiet = r.quiet;
  shows = shows;
}

missing : (s : List ℕ) (a : ℕ) (x : Option (List ℕ)) → HasArgument s a x → is_none x ≡ true → (l : List ℕ) → IsChain s 6 a l → ⊥
missing s a x h e = search rules

refused : (j : Job) (a : ℕ) (x : Option (List ℕ)) → HasArgument (storage_of j) a x → is_refused j x ≡ true
    → (l : List ℕ) × IsChain (storage_of j) 6 a l × (allows j (argument (storage_of j) l) ≡ false)
refused j a x h e = search (rules, not-true)

-- Set File Mask goes out, as its table entry says
mask_out : (p : Place) (c : Fields) → begins_set_mask p c ≡ true → kind_of p.entered c ≡ Outward
mask_out p c h = search (rules, mask_is_outward)

-- so that where it begins and no program check applies, it moves a byte
moves_byte : (j : Job) (p : Place) → program_check (storage_of j) p ≡ None → is_transfer (ccw_of j p) ≡ false → begins_set_mask p (ccw_of j p) ≡ true
    → 0 < bytes_at j p
unfolding has_count
moves_byte j p e t b =
    let whole : bytes_at j p ≡ (ccw_of j p).count = ap (λ k. full_count k (ccw_of j p)) (mask_out p (ccw_of j p) b) in
    let some : 0 < (ccw_of j p).count = ltb-true 0 _ (passed (storage_of j) p e t).counted in
    omega (arith, whole, some)

module _ (j : Job) (proper : IsProper j) where
  abbrev pub start : ℕ
  start = first_cylinder (extents_of j)

  pub run_to : (p : Place) (m : IsReachable j p) → Runs j start p m.0
  run_to p m = path_runs j proper.1 proper.0 p m.0 m.1

  -- at the last place of a path its CCW is carried out, and the program ends
  abbrev EndsAt : (p : Place) → IsReachable j p → Type 0
  EndsAt p m =
      Carried j start p (run_to p m).gathered (seek_at j start p (run_to p m).gathered (few_at j p (run_to p m).gathered (run_to p m).taking)).es [] Ended

  ends_at : (p : Place) (m : IsReachable j p) → program_check (storage_of j) p ≡ None → is_transfer (ccw_of j p) ≡ false → Known j p → EndsAt p m
  ends_at p m e t known = let r = run_to p m in carry_out j proper.1 start p r.gathered (few_at j p r.gathered r.taking) e t known tt ends

  -- the seek at p has the chain l
  to_the_end : (p : Place) (m : IsReachable j p) (l : List ℕ) → begins_seek p (ccw_of j p) ≡ true
      → program_check (storage_of j) p ≡ None → is_transfer (ccw_of j p) ≡ false → Known j p → IsChain (storage_of j) 6 p.address l
      → Finished j proper.1 start p (run_to p m).gathered (run_to p m).events (run_to p m).run m.0 (run_to p m).places (run_to p m).quiet l
  to_the_end p m l b e t known k =
      let r = run_to p m in
      finish j proper.1 start p r.gathered r.events r.run m.0 r.places r.quiet 6 l p r.gathered []
      (record { past = r.run; upto = []; events = r.events; is_run = r.is_run; split = refl; goes_on = tt })
      (ready_fresh j proper.1 p r.gathered b e t known) (begin (storage_of j) l p k) (omega arith) (λ b h. absurd h)

  shows_check : (p : Place) (m : IsReachable j p) (r : Reason) → program_check (storage_of j) p ≡ Some r → ShowsReason j p m.0 r
  shows_check p m r h =
      check_case P (storage_of j) p r (each_case P (table_of_every_ccw n p c) (go, (go, (go, tt))))
      (each_case P (table_of_non_transfer n p c) (go, (go, (go, (go, tt))))) h h
    where
      n : ℕ
      n = length (storage_of j)

      c : Fields
      c = ccw_of j p

      P : Reason → Type 0
      P t = program_check (storage_of j) p ≡ Some t → ShowsReason j p m.0 t

      go : {t : Reason} → program_check (storage_of j) p ≡ Some t → ShowsProgramCheck j p m.0 t
      go e = show_next (run_to p m) (checked e) refl

  -- an own fault is shown
  pub shows_fault : (p : Place) (m : IsReachable j p) (r : Reason) → HasFault j p (Some r) → ShowsReason j p m.0 r
  shows_fault p m r f =
      table_case (ShowsReason j p m.0) (program_check (storage_of j) p) (is_transfer (ccw_of j p)) (table_of_own j p (ccw_of j p) f.0) r
      (shows_check p m r) own f.2
    where
      c : Fields
      c = ccw_of j p

      R : Runs j start p m.0
      R = run_to p m

      store_at : EndsAt p m → (stores p c && not (covered (store_of j) c.address c.count)) ≡ true → ShowsReason j p m.0 StoreNotLent
      store_at en b =
          let a = and_parts (stores p c) (not (covered (store_of j) c.address c.count)) b in
          let s = stores_parts p c a.0 in
          let u = uncovered (store_of j) c.address c.count (not-true _ a.1) in
          let n : length (there j c) ≡ c.count = length-map-range_with_len (byte (storage_of j)) c.address c.count in
          let lt : u.0 < c.address + length (there j c) = omega (arith, u.2, n) in
          show_next R en.step (c.address, there j c, u.0, en.stores s.1 s.2, u.1, lt, u.3)

      fetch_at : EndsAt p m → (fetches p c && not (covered (fetch_of j) c.address c.count)) ≡ true → ShowsReason j p m.0 FetchNotLent
      fetch_at en b =
          let a = and_parts (fetches p c) (not (covered (fetch_of j) c.address c.count)) b in
          let a1 = and_parts (not (is_transfer c)) (goes_out (kind_of p.entered c)) a.0 in
          let u = uncovered (fetch_of j) c.address c.count (not-true _ a.1) in
          show_next R en.step (c.address, c.count, u.0, en.fetches a1.1, u.1, u.2, u.3)

      short_at : program_check (storage_of j) p ≡ None → is_transfer c ≡ false → Known j p → (begins_seek p c && is_none f.0) ≡ true
          → ShowsReason j p m.0 ShortSeek
      short_at e t known b =
          let a = and_parts (begins_seek p c) (is_none f.0) b in
          stop j proper.1 start p R.gathered R.events R.run m.0 R.places R.quiet e a.0 6 p R.gathered []
          (record { past = R.run; upto = []; events = R.events; is_run = R.is_run; split = refl; goes_on = tt })
          (ready_fresh j proper.1 p R.gathered a.0 e t known) (omega arith) (missing (storage_of j) p.address f.0 f.1 a.1)

      outside_at : program_check (storage_of j) p ≡ None → is_transfer c ≡ false → Known j p → EndsAt p m
          → ((begins_seek p c && is_refused j f.0) ≡ true) ⊎ ((begins_recalibrate p c && not (has_cylinder (extents_of j) 0)) ≡ true)
          → ShowsReason j p m.0 SeekOutside
      outside_at e t known en (inl b) =
          let a = and_parts (begins_seek p c) (is_refused j f.0) b in
          let k = refused j p.address f.0 f.1 a.1 in
          let z = (to_the_end p m k.0 a.0 e t known k.1).later in
          record {
            run = z.run;
            at = z.at;
            more = z.more;
            next = z.next;
            is_run = z.is_run;
            over = z.over;
            quiet = z.quiet;
            goes_on = z.goes_on;
            shows = ((and_parts (is_fresh p.entered) _ a.0).0, argument (storage_of j) k.0, z.shows, k.2);
          }
      outside_at e t known en (inr b) =
          let a = and_parts (begins_recalibrate p c) (not (has_cylinder (extents_of j) 0)) b in
          record {
            run = R.run;
            at = moment j proper.1 start (At p R.gathered) R.events;
            more = [];
            next = moment j proper.1 start Ended en.es;
            is_run = (R.is_run, en.step);
            over = ((R.gathered, refl), R.places);
            quiet = R.quiet;
            goes_on = tt;
            shows = ((and_parts (is_fresh p.entered) _ a.0).0, home, en.home a.0, home_refused j (not-true _ a.1));
          }

      weakens_at : program_check (storage_of j) p ≡ None → is_transfer c ≡ false → EndsAt p m
          → (begins_set_mask p c && not (is_at_least (byte (storage_of j) c.address) j.mask)) ≡ true → ShowsReason j p m.0 WeakensMask
      weakens_at e t en b =
          let a = and_parts (begins_set_mask p c) (not (is_at_least (byte (storage_of j) c.address) j.mask)) b in
          show_next R en.step
          ((and_parts (is_fresh p.entered) _ a.0).0, c.address, byte (storage_of j) c.address, en.masks a.0 (moves_byte j p e t a.0), not-true _ a.1)

      own : program_check (storage_of j) p ≡ None → is_transfer c ≡ false → Cases (ShowsReason j p m.0) (table_of_own j p c f.0)
      own e t = (
        (λ b.
            let a = and_parts (is_fresh p.entered) (not (is_known c.command)) b in
            let u = not-true (is_known c.command) a.1 in
            show_next R (unknown e t a.0 u) (c.command, inl refl, u)),
        (λ n. let known : Known j p = then_true _ _ n in
            let en = ends_at p m e t known in (
              (λ b. let a = and_parts (is_fresh p.entered) (inhibits j.mask c.command) b in show_next R en.step (c.command, en.begins a.0, a.1)),
              (λ _. (
                (λ b. store_at en b),
                (λ _. (
                  (λ b. fetch_at en b),
                  (λ _. (
                    (λ b. short_at e t known b),
                    (λ _. ((λ b. outside_at e t known en (or_cases _ _ b)), (λ _. ((λ b. weakens_at e t en b), (λ _. tt))))),
                  )),
                )),
              )),
            )),
      )

  -- a store that changes a byte which some run uses
  shows_change : (p : Place) (m : IsReachable j p) → IsClear j p → (P : ℕ → Type 0) (Q : List Moment → ℕ → Type 0)
      → ((b : ℕ) → P b → (used : List Moment) × IsRun j used × Q used b) → StoresOver j p P → ShowsInStep j p m.0 (ChangesUsed j Q)
  shows_change p m f P Q to o =
      let c = ccw_of j p in
      let r = run_to p m in
      let w = rewrite j start p r.gathered (few_at j p r.gathered r.taking) f o.stores in
      let n : length w.bytes ≡ c.count = w.whole in
      let below = o.below in
      let lt : o.at < c.address + length w.bytes = omega (arith, below, n) in
      let u = to o.at o.holds in
      show_next r w.step (c.address, w.bytes, o.at, w.stores, o.from, lt, (w.changes o.at o.from o.below, u.0, u.1, u.2))

  -- each guarded byte is used by some run
  pub ccw_used : (b : ℕ) → IsCcwByte j b → (used : List Moment) × IsRun j used × UsesInCcw used b
  ccw_used b u =
      let r = run_to u.place u.reached in
      (moment j proper.1 start (At u.place r.gathered) r.events ∷ r.run, r.is_run, inl (u.stands, u.from, u.below))

  pub argument_used : (b : ℕ) → IsArgumentByte j b → (used : List Moment) × IsRun j used × UsesInArgument used b
  argument_used b u = go u.takes
    where
      of_seek : IsSeekByte (storage_of j) u.place b → (used : List Moment) × IsRun j used × UsesInArgument used b
      of_seek s =
          let t = part_is_no_transfer (storage_of j) u.place.address (chain_begins_with_part (storage_of j) _ _ _ s.is_chain) in
          let z = to_the_end u.place u.reached s.chain s.seeks (clear_check j u.place u.clear) t (clear_good j u.place u.clear t).known s.is_chain in
          (z.used, z.is_used, z.gathers b s.has)

      of_mask : IsMaskByte (storage_of j) u.place b → (used : List Moment) × IsRun j used × UsesInArgument used b
      of_mask s =
          let e = clear_check j u.place u.clear in
          let t = mask_is_no_transfer (ccw_of j u.place) (and_parts (is_fresh u.place.entered) _ s.sets).1 in
          let R = run_to u.place u.reached in
          let en = ends_at u.place u.reached e t (clear_good j u.place u.clear t).known in (
            moment j proper.1 start Ended en.es ∷ moment j proper.1 start (At u.place R.gathered) R.events ∷ R.run,
            (R.is_run, en.step),
            inl (subst (UsesIn en.es) s.at (mask_is_used en.es _ _ (en.masks s.sets (moves_byte j u.place e t s.sets)))),
          )

      go : TakesArgumentByte (storage_of j) u.place b → (used : List Moment) × IsRun j used × UsesInArgument used b
      go (inl s) = of_seek s
      go (inr s) = of_mask s

  -- an offence is shown
  pub shows : (p : Place) (m : IsReachable j p) (r : Reason) → Offends j p r → ShowsReason j p m.0 r
  shows p m r (inl f) = shows_fault p m r f
  shows p m r (inr (clear, inl o)) = subst (ShowsReason j p m.0) (sym o.0) (shows_change p m (clear p m) _ UsesInCcw ccw_used o.1)
  shows p m r (inr (clear, inr o)) = subst (ShowsReason j p m.0) (sym o.0) (shows_change p m (clear p m) _ UsesInArgument argument_used o.1)

pub each_path_shows : EachPathShows
each_path_shows j p ps r proper path offends = shows j proper p (ps, path) r offends

pub no_false_alarm : NoFalseAlarm
no_false_alarm j a r proper v =
    let o = v.0 in
    (o.place, o.address, (o.reached.0, o.reached.1, each_path_shows j o.place o.reached.0 r proper o.reached.1 o.offends))
