-- What the laws say of a job's verdict.
use Rattle.chan_walk.proofs.Names.{arith, HasFound, map, place_number, HasMask, IsProper, IsVerdict, Job, List, No, NoFalseAlarm, NoIsHarm, places_of_looks, refl, Seen, subst, Verdict, Yes, YesIsSafe, YesIsSafeAmong, ℕ, ◌≡◌}
use Rattle.chan_walk.specs.Answers.{HasAtMost, HasWitness, IsSoundAmong}
use Rattle.chan_walk.specs.Headline.{IsSafe, IsSteady}
use Rattle.std.proofs.lemmas.Map.Keys.{IsStrictlyIncreasing-from_sorted}
use Rattle.chan_walk.proofs.Algorithms.InOrder.{as_many, in_order, ordered, same_places}
use Rattle.chan_walk.proofs.Algorithms.Walking.{all_found}

pub covers : (j : Job) (v : Verdict) → HasMask j → YesIsSafe → IsVerdict j v
    → v ≡ Yes → IsSafe j × IsSteady j
covers j v mask law h e = law j mask (subst (λ (w : Verdict). IsVerdict j w) e h)

pub covers_among : (j : Job) (v : Verdict) → HasMask j → YesIsSafeAmong → IsVerdict j v → IsSoundAmong j v
covers_among j v mask law h e = law j mask (subst (λ (w : Verdict). IsVerdict j w) e h)

pub shown : (j : Job) (v : Verdict) → IsProper j → NoFalseAlarm → NoIsHarm → IsVerdict j v → HasWitness j v
shown j Yes proper shows harms h = tt
shown j (No a r) proper shows harms h = let w = shows j a r proper h in (w.0, w.1, w.2, harms j a r proper h)

-- where one verdict is yes, so is every other
pub only_yes : (j : Job) (v : Verdict) → IsVerdict j v → IsVerdict j Yes → v ≡ Yes
only_yes j Yes h y = refl
only_yes j (No a r) h y = absurd (y h.0.place r h.0.reached h.0.offends)

-- a walk finds no more places than the job's limit
pub at_most : (j : Job) (ls : List Seen) (fs : List ℕ) → HasFound j ls fs → HasAtMost j j.limit
at_most j ls fs f =
    let ps = places_of_looks ls in
    record {
      places = in_order ps;
      are = record {
        ordered = IsStrictlyIncreasing-from_sorted (map place_number (in_order ps)) (ordered ps f.walked.distinct);
        each = λ p r. (same_places ps p).1 (all_found j j.limit ps f.at f.walked f.all p r);
        only = λ p h. f.walked.only p ((same_places ps p).0 h);
      };
      few = omega (arith, as_many ps, f.walked.few);
    }
