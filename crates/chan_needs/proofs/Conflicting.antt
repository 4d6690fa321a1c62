-- A program that may store over what another guards does harm to it in some run of both.
use Rattle.chan_walk.proofs.Names.{[], ap, At, byte, Ended, extents_of, first_cylinder, first_place, inl, inr, IsGuarded, IsProper, IsRun, List, map, Moment, None, refl, storage_of, sym, ℕ, ◌∙◌, ◌∷◌, ◌≡◌}
use Rattle.chan_walk.specs.declared.job.Job.{Job}
use Rattle.chan_walk.specs.Alarm.{IsUsed}
use Rattle.chan_walk.proofs.Machine.Alarm.{argument_used, ccw_used, run_to, start}
use Rattle.chan_walk.proofs.Machine.Changed.{rewrite}
use Rattle.chan_walk.proofs.Machine.Paths.{few_at, first_inside}
use Rattle.chan_walk.proofs.Theory.Faults.{yes_clear}
use Rattle.chan_needs.specs.SideBySide.{AreRunning, ConflictIsHarm, TwoMoments}

guarded_used : (k : Job) → IsProper k → (b : ℕ) → IsGuarded k b → IsUsed k b
guarded_used k proper b (inl ccw) = let u = ccw_used k proper b ccw in (u.0, u.1, inl u.2)
guarded_used k proper b (inr argument) = let u = argument_used k proper b argument in (u.0, u.1, inr u.2)

-- a moment of one program, while another is at its start
abbrev beside : Job → Moment → TwoMoments
beside k m = record {
  one = m;
  other = record { storage = m.storage; arm = first_cylinder (extents_of k); mask = k.mask; stage = At (first_place k) None; events = [] };
  shared = refl;
}

runs_beside : (j k : Job) → IsProper k → storage_of j ≡ storage_of k → (run : List Moment) → IsRun j run → AreRunning j k (map (beside k) run)
runs_beside j k proper same [] r = absurd r
runs_beside j k proper same (m ∷ []) r = (
  r,
  record { storage = r.storage ∙ same; arm = first_inside (extents_of k) proper.0; mask = refl; stage = refl; events = refl },
)
runs_beside j k proper same (n ∷ m ∷ ms) r = (
  runs_beside j k proper same (m ∷ ms) r.0,
  inl (r.1, record { arm = refl; mask = refl; stage = refl; events = refl }),
)

pub conflict_is_harm : ConflictIsHarm
conflict_is_harm j k proper other same v (p, reached, over) =
    let r = run_to j proper p reached in
    let w = rewrite j (start j proper) p r.gathered (few_at j p r.gathered r.taking) (yes_clear j v p reached) over.stores in
    let at : Moment = record { storage = storage_of j; arm = start j proper; mask = j.mask; stage = At p r.gathered; events = r.events } in
    let next : Moment = record { storage = w.storage; arm = start j proper; mask = j.mask; stage = Ended; events = w.es } in (
      map (beside k) (at ∷ r.run),
      beside k next,
      over.at,
      runs_beside j k other same (next ∷ at ∷ r.run) (r.is_run, w.step),
      guarded_used k other over.at over.holds,
      λ held. w.changes over.at over.from over.below (held ∙ sym (ap (λ s. byte s over.at) same)),
    )
