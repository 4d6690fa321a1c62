-- What a witness shows does harm, and harm is the negation of what a yes promises.
use Rattle.chan_walk.proofs.Names.{[], AllByRecursion, At, BadFormat, Bool, both_ways, ChangesArgument, ChangesCcw, ChangesUsed, Checked, Command, DataOutside, Ended, Event, false, Fetch, FetchNotLent, Gather, Has, HoldsInitialByte, Inhibited, inl, inr, InvalidCode, IsSafeEvent, IsSafeMoment, Job, List, MeetsNoProgramCheck, Misaligned, Moment, NoIsHarm, None, NotInTable, OutsideStorage, Place, Reason, refl, Seek, SeekOutside, SetMask, ShortSeek, ShowsInOperation, ShowsInStep, ShowsReason, Some, Stage, Store, StoreNotLent, subst, TransferNotAllowed, true, Uses, UsesInArgument, UsesInCcw, WeakensMask, ZeroCount, ℕ, ◌++◌, ◌∷◌, ◌≡◌, ◌⊎◌}
use Rattle.std.proofs.lemmas.Bool.{cases_eq}
use Rattle.chan_walk.specs.Harm.{BreaksHeadline, BreaksAt, HarmlessIsSafe, IsUnsteady, HasUnsafeEvent, IsHarm, IsStopped, MayHarm, ShownBreaks}
use Rattle.chan_walk.specs.Headline.{IsSafe, IsSteady}
use Rattle.chan_walk.proofs.Machine.Alarm.{no_false_alarm}

-- ---- what breaks a promise does harm

event_safe : (j : Job) (es : List Event) (e : Event) → AllByRecursion (IsSafeEvent j) es → Has es e → IsSafeEvent j e
event_safe j [] e a h = elim h [ ]
event_safe j (x ∷ es) e a (inl h) = subst (IsSafeEvent j) h a.0
event_safe j (x ∷ es) e a (inr h) = event_safe j es e a.1 h

module _ (j : Job) (m : Moment) where
  by_stop : IsStopped m → IsHarm j m
  by_stop h = inl (λ s. h s.unchecked)

  by_event : HasUnsafeEvent j m → IsHarm j m
  by_event h = inl (λ s. h.2 (event_safe j m.events h.0 s.events h.1))

  by_short : HasUnsafeEvent j m ⊎ IsStopped m → IsHarm j m
  by_short (inl h) = by_event h
  by_short (inr h) = by_stop h

  is_harm : (r : Reason) → BreaksHeadline j r m → IsHarm j m
  is_harm Misaligned h = by_stop h
  is_harm OutsideStorage h = by_stop h
  is_harm TransferNotAllowed h = by_stop h
  is_harm InvalidCode h = by_stop h
  is_harm BadFormat h = by_stop h
  is_harm ZeroCount h = by_stop h
  is_harm DataOutside h = by_stop h
  is_harm NotInTable h = by_event h
  is_harm Inhibited h = by_event h
  is_harm StoreNotLent h = by_event h
  is_harm FetchNotLent h = by_event h
  is_harm ShortSeek h = by_short h
  is_harm SeekOutside h = by_event h
  is_harm ChangesCcw h = inr h
  is_harm ChangesArgument h = inr h
  is_harm WeakensMask h = by_event h

-- ---- each reason breaks a promise

module _ (j : Job) (p : Place) (ps : List Place) where
  in_step : {P : Moment → Type 0} (r : Reason) → ((m : Moment) → P m → BreaksHeadline j r m) → ShowsInStep j p ps P → BreaksAt j p ps r
  in_step r f s =
      let breaks = f s.next s.shows in
      record { run = s.at ∷ s.run; more = []; last = s.next; is_run = s.is_run; over = s.over; harm = is_harm j s.next r breaks; breaks = breaks }

  in_operation : {P : Moment → Moment → Type 0} (r : Reason) → ((at m : Moment) → P at m → BreaksHeadline j r m) → ShowsInOperation j p ps P → BreaksAt j p ps r
  in_operation r f s =
      let breaks = f s.at s.next s.shows in
      record { run = s.at ∷ s.run; more = s.more; last = s.next; is_run = s.is_run; over = s.over; harm = is_harm j s.next r breaks; breaks = breaks }

  stopped : (r : Reason) (m : Moment) → m.stage ≡ Checked r → IsStopped m
  stopped r m e u = subst MeetsNoProgramCheck e u

  changed : (Q : List Moment → ℕ → Type 0) → ((used : List Moment) (b : ℕ) → Q used b → Uses used b) → (m : Moment) → ChangesUsed j Q m → IsUnsteady j m
  changed Q to m w = let u = w.6 in (w.2, (u.1, u.2, to u.1 w.2 u.3), u.0)

  short : (m : Moment) → Has m.events (Seek None) ⊎ ((r : Reason) × (m.stage ≡ Checked r)) → BreaksHeadline j ShortSeek m
  short m (inl h) = inl (Seek None, h, λ s. s)
  short m (inr h) = inr (stopped h.0 m h.1)

  breaks : (r : Reason) → ShowsReason j p ps r → BreaksAt j p ps r
  breaks Misaligned = in_step _ (stopped _)
  breaks OutsideStorage = in_step _ (stopped _)
  breaks TransferNotAllowed = in_step _ (stopped _)
  breaks InvalidCode = in_step _ (stopped _)
  breaks BadFormat = in_step _ (stopped _)
  breaks ZeroCount = in_step _ (stopped _)
  breaks DataOutside = in_step _ (stopped _)
  breaks NotInTable = in_step _ (λ m w. (Command w.0, w.1, λ s. both_ways _ w.2 s.0))
  breaks Inhibited = in_step _ (λ m w. (Command w.0, w.1, λ s. both_ways _ s.1 w.2))
  breaks StoreNotLent = in_step _ (λ m w. (Store w.0 w.1, w.3, λ s. both_ways _ w.6 (s w.2 w.4 w.5)))
  breaks FetchNotLent = in_step _ (λ m w. (Fetch w.0 w.1, w.3, λ s. both_ways _ w.6 (s w.2 w.4 w.5)))
  breaks ShortSeek = in_operation _ (λ at m w. short m w.3)
  breaks SeekOutside = in_operation _ (λ at m w. (Seek (Some w.1), w.2, λ s. both_ways _ w.3 s))
  breaks ChangesCcw = in_step _ (changed UsesInCcw (λ used b h. inl h))
  breaks ChangesArgument = in_step _ (changed UsesInArgument (λ used b h. inr h))
  breaks WeakensMask = in_step _ (λ m w. (SetMask w.1 w.2, w.3, λ s. both_ways _ w.4 s))

pub shown_breaks : ShownBreaks
shown_breaks = breaks

-- ---- so that some run does harm

pub shown_harms : (j : Job) (p : Place) (ps : List Place) (r : Reason) → ShowsReason j p ps r → MayHarm j
shown_harms j p ps r s = let b = breaks j p ps r s in (b.last ∷ (b.more ++ b.run), b.is_run, (b.last, inl refl, b.harm))

pub no_is_harm : NoIsHarm
no_is_harm j a r proper v = let w = no_false_alarm j a r proper v in shown_harms j w.0 w.2.0 r w.2.2

-- ---- harm is the negation of the promise

at_has : (P : Moment → Type 0) (ms : List Moment) (m : Moment) → AllByRecursion P ms → Has ms m → P m
at_has P [] m a h = elim h [ ]
at_has P (n ∷ ms) m a (inl h) = subst P h a.0
at_has P (n ∷ ms) m a (inr h) = at_has P ms m a.1 h

all_has : (P : Moment → Type 0) (ms : List Moment) → ((m : Moment) → Has ms m → P m) → AllByRecursion P ms
all_has P [] f = tt
all_has P (n ∷ ms) f = (f n (inl refl), all_has P ms (λ m h. f m (inr h)))

pub harmless : (j : Job) → IsSafe j → IsSteady j → MayHarm j → ⊥
harmless j safe steady h = go h.2.2
  where
    go : IsHarm j h.2.0 → ⊥
    go (inl n) = n (at_has (IsSafeMoment j) h.0 h.2.0 (safe h.0 h.1) h.2.1)
    go (inr c) = c.2 (at_has (HoldsInitialByte j c.0) h.0 h.2.0 (steady c.1.0 h.0 c.0 c.1.1 c.1.2 h.1) h.2.1)

abbrev Stable : Type 0 → Type 0
Stable P = ((P → ⊥) → ⊥) → P

stable_bool : (a b : Bool) → Stable (a ≡ b)
stable_bool true true n = refl
stable_bool false false n = refl
stable_bool true false n = absurd (n (λ e. cc))
stable_bool false true n = absurd (n (λ e. cc))

stable_number : (a b : ℕ) → Stable (a ≡ b)
stable_number a b n = go (cases_eq a b)
  where
    go : (a ≡ b) ⊎ (a ≡ b → ⊥) → a ≡ b
    go (inl e) = e
    go (inr e) = absurd (n e)

stable_stage : (st : Stage) → Stable (MeetsNoProgramCheck st)
stable_stage (At p g) n = tt
stable_stage Ended n = tt
stable_stage (Checked r) n = n (λ h. h)

stable_event : (j : Job) (e : Event) → Stable (IsSafeEvent j e)
stable_event j (Command code) n = (stable_bool _ _ (λ k. n (λ s. k s.0)), stable_bool _ _ (λ k. n (λ s. k s.1)))
stable_event j (Store a bytes) n = λ b l u. stable_bool _ _ (λ k. n (λ s. k (s b l u)))
stable_event j (Fetch a c) n = λ b l u. stable_bool _ _ (λ k. n (λ s. k (s b l u)))
stable_event j (Gather addresses) n = tt
stable_event j (Seek (Some x)) n = stable_bool _ _ n
stable_event j (Seek None) n = n (λ s. s)
stable_event j (SetMask a x) n = stable_bool _ _ n

stable_events : (j : Job) (es : List Event) → Stable (AllByRecursion (IsSafeEvent j) es)
stable_events j [] n = tt
stable_events j (e ∷ es) n = (stable_event j e (λ k. n (λ s. k s.0)), stable_events j es (λ k. n (λ s. k s.1)))

stable_moment : (j : Job) (m : Moment) → Stable (IsSafeMoment j m)
stable_moment j m n = record {
  unchecked = stable_stage m.stage (λ k. n (λ s. k s.unchecked));
  inside = stable_bool _ _ (λ k. n (λ s. k s.inside));
  strict = stable_bool _ _ (λ k. n (λ s. k s.strict));
  events = stable_events j m.events (λ k. n (λ s. k s.events));
}

pub harmless_is_safe : HarmlessIsSafe
harmless_is_safe j = (
  (λ h. harmless j h.0 h.1),
  λ n. (
    (λ run is. all_has _ run (λ m has. stable_moment j m (λ k. n (run, is, (m, has, inl k))))),
    (λ used run b is_used uses is. all_has _ run (λ m has. stable_number _ _ (λ k. n (run, is, (m, has, inr (b, (used, is_used, uses), k)))))),
  ),
)
