-- What the laws on histories and on supervision begin with can be had.
use Rattle.chan_needs.proofs.Names.{[], arith, Has, inl, inr, IsInFlightAt, List, None, refl, Remembered, Situation, suc, ℕ, ◌∷◌}
use Rattle.chan_needs.proofs.Supervising.{flying}
use Rattle.chan_needs.specs.Asked.{HistoryBegins}
use Rattle.chan_needs.specs.SideBySide.{MayRunTogether}
use Rattle.chan_needs.specs.Supervised.{CanBeSupervised}

-- nothing is in flight over a storage
abbrev over : List ℕ → Situation
over s = record { storage = s; at = λ i. None; shared = λ i f e. absurd cc }

pub history_begins : HistoryBegins
history_begins s = (over s, refl, λ i. refl)

pub may_run_together : MayRunTogether
may_run_together = record {
  begins = λ j k m one other. (one, other);
  one_steps = λ j k n m ms run one other. (run, inl (one, other));
  other_steps = λ j k n m ms run one other. (run, inr (one, other));
}

numbered : (fs : List Remembered) (p : Remembered) → Has fs p → (n : ℕ) × IsInFlightAt fs n p
numbered [] p h = absurd h
numbered (f ∷ fs) p (inl e) = (0, (omega arith, λ d. e))
numbered (f ∷ fs) p (inr h) = let r = numbered fs p h in (suc r.0, (omega (arith, r.1.0), r.1.1))

pub can_be_supervised : CanBeSupervised
can_be_supervised = record {
  begins = λ s. (record { situation = over s; programs = λ i. None }, refl, λ i. refl);
  row = λ r stores keeps. rw (stores, keeps) refl;
  remembered = λ j p needs start device kept. record { needs = needs; start = start; device = device; kept = kept };
  lists = λ programs fs listed i p e. numbered fs p (listed i p e);
  flying = flying;
  allowed = λ v i j p f fs remembered proper start storage lists answer free. (
    record {
      asked = j;
      program = p;
      remembered = remembered;
      flight = f;
      proper = proper;
      start = start;
      storage = storage;
      in_flight = fs;
      lists = lists;
      answer = answer;
      free = free;
    },
    refl,
    refl,
  );
  written = λ area s t len same. record { same_length = len; same = same };
  check_write = λ v t area fs lists answer written. record { area = area; in_flight = fs; lists = lists; answer = answer; written = written };
  starts_beside = λ f v w i s has waits. inl (i, inl (s, has), waits);
  goes_on_beside = λ f v w i goes waits. inl (i, inr goes, waits);
  writes_beside = λ f v w m has waits. inr (m, has, waits);
}
