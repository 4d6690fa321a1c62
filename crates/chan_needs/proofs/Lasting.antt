-- Rows that stay in the table. While a write that lasts is there, no program starts that keeps a byte of its area; while bytes that last
-- are there, none that stores over them, and no step changes them.
use Rattle.chan_needs.proofs.Names.{[], All, All-cons, All-head, All-nil, All-tail, Area, AreOfOneProgram, arith, both_ways, false, Flight, Has, inl, inr, IsByteOf, IsCompatibleWith, IsSameIn, IsSome, IsSupervised, KeepsNone, lies_in, lies_in-first, lies_in-nil, List, MayStoreOver, None, Option, ProgramStartsAt, ProgramWaits, ProgramWaitsAt, refl, Remembered, rules, Some, subst, Supervision, sym, true, ℕ, ◌∙◌, ◌∷◌, ◌≡◌, ◌⊎◌}
use Rattle.chan_needs.specs.Row.{besides}
use Rattle.std.proofs.lemmas.Bool.{ne_eqb}
use Rattle.chan_needs.specs.Supervised.{GoesOnBeside, IsLastingKeep, IsLastingWrite, IsSparedBy, IsUntouchedBy, LastingKeeps, LastingWrites}
use Rattle.chan_needs.proofs.Compatible.{needed_over}
use Rattle.chan_needs.proofs.History.{acts_apart, all_sound, stays}
use Rattle.chan_needs.proofs.Remembering.{at_number, needs_in_flight}
use Rattle.chan_needs.proofs.Supervising.{IsNoted, situations, supervised}

of_all : {X : Type 0} (P : X → Type 0) (xs : List X) (x : X) → All P xs → Has xs x → P x
of_all P [] x all h = absurd h
of_all P (y ∷ xs) x all (inl e) = subst P e (All-head P y xs all)
of_all P (y ∷ xs) x all (inr h) = of_all P xs x (All-tail P y xs all) h

to_all : {X : Type 0} (P : X → Type 0) (xs : List X) → ((x : X) → Has xs x → P x) → All P xs
to_all P [] f = All-nil P
to_all P (y ∷ xs) f = All-cons P y xs (f y (inl refl)) (to_all P xs (λ x h. f x (inr h)))

was_there : (a b : Option Flight) → ProgramWaits a b → IsSome b → IsSome a
was_there None None r some = absurd cc
was_there None (Some g) r some = absurd r
was_there (Some f) b r some = refl

-- what holds of each program in flight, and of each that may run beside f, goes on to hold while each question is about a list with f
module _ (P : Remembered → Type 0) (f : Remembered) (v w : Supervision) (beside : (p : Remembered) → IsCompatibleWith p f → P p)
    (before : (i : ℕ) (p : Remembered) → IsSome (v.situation.at i) → v.programs i ≡ Some p → P p) where
  rests : (i : ℕ) (p : Remembered) → ProgramWaitsAt v w i → IsSome (w.situation.at i) → w.programs i ≡ Some p → P p
  rests i p r some noted = before i p (was_there (v.situation.at i) (w.situation.at i) r.0 some) (sym r.1 ∙ noted)

  started : (i : ℕ) (p : Remembered) (s : ProgramStartsAt v w i) → Has s.allowed.in_flight f → w.programs i ≡ Some p → P p
  started i p s listed noted =
      let same : s.allowed.program ≡ p = cc in
      subst P same (beside s.allowed.program (of_all (IsCompatibleWith s.allowed.program) s.allowed.in_flight f s.allowed.answer.compatible listed))

  each : (i : ℕ) (p : Remembered) → w.programs i ≡ Some p → IsSome (w.situation.at i) → (k : ℕ)
      → (w.programs k ≡ Some p → IsSome (w.situation.at k) → P p) → (i ≡ k) ⊎ ProgramWaitsAt v w i → P p
  each i p noted some k here (inr r) = rests i p r some noted
  each i p noted some k here (inl e) = here (subst (λ n. w.programs n ≡ Some p) e noted) (subst (λ n. IsSome (w.situation.at n)) e some)

  stays_beside : GoesOnBeside f v w → (i : ℕ) (p : Remembered) → IsSome (w.situation.at i) → w.programs i ≡ Some p → P p
  stays_beside (inl (k, inl s, others)) i p some noted = each i p noted some k (λ e there. started k p s.0 s.1 e) (others i)
  stays_beside (inl (k, inr s, others)) i p some noted = each i p noted some k (λ e there. before k p s.there (sym (s.noted there) ∙ e)) (others i)
  stays_beside (inr r) i p some noted = rests i p (r.2 i) some noted

-- ---- the areas of a row

-- a byte of an area beside a list lies in both together: the area isn't empty
one_area : (area : Area) (xs : List Area) (b : ℕ) → IsByteOf area b → lies_in (besides area xs) b ≡ true
one_area area xs b h = rw (ne_eqb area.len 0 (λ e. omega (arith, e, h.0, h.1))) (lies_in-first area xs b h)

no_area : (area : Area) (xs : List Area) → xs ≡ [] → area.len ≡ 0 → (b : ℕ) → lies_in (besides area xs) b ≡ false
no_area area xs none empty b = rw (empty, none) (lies_in-nil b)

pub lasting_writes : LastingWrites
lasting_writes = record {
  stands = λ r none empty. record {
    stores = one_area r.stores r.program.needs.store.now;
    keeps = no_area r.keeps r.program.needs.keep.now none empty;
  };
  begins = λ area v fs lists none i p some noted. let n = lists i p noted in at_number (KeepsNone area) fs n.0 p none n.1;
  stays = λ f area v w write. stays_beside (KeepsNone area) f v w (λ p h b k. h.other_spares b (write.stores b k.1, k.0));
  check_write = λ f area v fs t write spared lists only written.
      let none : (g : Remembered) → Has fs g → KeepsNone area g = λ g h. spares f area v g write spared (only g h) in
      record { area = area; in_flight = fs; lists = lists; answer = to_all (KeepsNone area) fs none; written = written };
}
  where
    spares : (f : Remembered) (area : Area) (v : Supervision) (g : Remembered) → IsLastingWrite area f
        → IsSparedBy area v → (g ≡ f) ⊎ ((i : ℕ) × IsSome (v.situation.at i) × (v.programs i ≡ Some g)) → KeepsNone area g
    spares f area v g write spared (inl e) = subst (KeepsNone area) (sym e) (λ b k. both_ways _ (write.keeps b) k.0)
    spares f area v g write spared (inr at) = spared at.0 g at.1 at.2

-- ---- bytes that no step changes

-- the program stores over no byte of the area, by its list
abbrev StoresNone : Area → Remembered → Type 0
StoresNone area p = (b : ℕ) → lies_in p.needs.store.now b ≡ true → IsByteOf area b → ⊥

module _ (f : Remembered) (area : Area) (v w : Supervision) (keep : IsLastingKeep area f) (untouched : IsUntouchedBy area v) where
  -- a program in flight stores over no byte of the area
  never_over : (i : ℕ) (g : Flight) → v.situation.at i ≡ Some g → IsNoted v i g → MayStoreOver g.job (IsByteOf area) → ⊥
  never_over i g e (p, noted, flight) may =
      let itself : AreOfOneProgram g.job g.job = record { storage = refl; start = refl; device = refl } in
      let n = needed_over g.job g.job itself flight.proper flight.verdict (IsByteOf area) may in
      untouched i p (subst IsSome (sym e) refl) noted n.0 (((needs_in_flight p g.job flight).store.bytes n.0).1 n.1) n.2

  same : (before : List Supervision) → IsSupervised (v ∷ before) → GoesOnBeside f v w
      → IsSameIn (IsByteOf area) v.situation.storage w.situation.storage
  same before run (inl (i, s, others)) =
      let t = supervised v before run in
      let sound = (all_sound (v.situation ∷ situations before) t.0).0 in
      elim s [
        | inl starts ↦ stays v.situation w.situation sound starts.0.storage (IsByteOf area)
        | inr goes ↦ acts_apart v.situation w.situation sound i _ _ refl refl goes.acts (IsByteOf area) (λ g e. never_over i g e (t.1 i g e))
      ]
  same before run (inr r) = record {
    same_length = r.0.written.same_length;
    same = λ b within. r.0.written.same b (λ inside. of_all (KeepsNone r.0.area) r.0.in_flight f r.0.answer r.1 b (keep.keeps b within, inside));
  }

pub lasting_keeps : LastingKeeps
lasting_keeps = record {
  stands = λ r none empty. record {
    keeps = one_area r.keeps r.program.needs.keep.now;
    stores = no_area r.stores r.program.needs.store.now none empty;
  };
  begins = λ f area v fs keep lists all i p some noted b stored within.
      let n = lists i p noted in (at_number (IsCompatibleWith f) fs n.0 p all n.1).other_spares b (stored, keep.keeps b within);
  goes_on = λ f v w goes. search rules;
  stays = λ f area v w keep. stays_beside (StoresNone area) f v w (λ p h b stored within. h.one_spares b (stored, keep.keeps b within));
  same = λ f area v w before keep run untouched goes. same f area v w keep untouched before run goes;
}
