-- What one line more does to where reading stands: it goes on, or the text is refused there, or it has spelled a deck.
use Rattle.chan_deck.proofs.Names.{[], after_line, all_append, and_then, ap, append-nil, append_assoc, arith, Cause, drop, Err, false, FoundLine, HasForm, HasRead, DeckValue, inl, inr, is_whole, IsDeckCause, IsDeckError, IsRefusedAt, Item, items, length, length-append, length-map, line, LineReads, lines, LineSaysIfAny, List, map, map-append, MatchBool, nat_tests, None, Ok, Opening, Option, part, position, rank, refl, Result, run, said_by, Some, Spells, split, State, subst, sym, take, text, Whole, whole_line, ℕ, ◌++◌, ◌+◌, ◌-◌, ◌<◌, ◌==◌, ◌∙◌, ◌∷◌, ◌≡◌, ◌⊎◌}
use Rattle.std.proofs.Math.Seq.{take-append_seam, drop-append_seam}
use Rattle.chan_deck.specs.Refused.{found_in, found_behind, AreSaid, IsRefused}
use Rattle.chan_deck.specs.Reading.{IsNextLine, refusal}
use Rattle.chan_deck.specs.declared.deck_error.DeckError.{DeckError}
use Rattle.chan_deck.specs.declared.deck_error.DeckError.TheVariants as errors
use Rattle.chan_deck.specs.declared.item.Item as declared
use Rattle.chan_deck.specs.declared.item.Item.TheVariants as found
use Rattle.chan_deck.specs.declared.lines.Cursor.{Cursor}
use Rattle.chan_deck.proofs.ItemLemmas.{line_read, said_no_feed}
use Rattle.chan_deck.proofs.LineFeeds.{some_line, no_line}
use Rattle.chan_deck.proofs.StepLemmas.{said}
use Rattle.chan_deck.proofs.DeckRuns.{run-append, reads_deck}
use Rattle.chan_deck.proofs.FrontLemmas.{one_deck, is_state, says_said, refused_at_line, refused_at_end, whole_front, no_front, split_deck, split_line, items_form, said_once, join}
use Rattle.chan_deck.proofs.CauseLemmas.{one_rank, line_cause, all_refused, end_cause, after_cause}
use Rattle.chan_deck.specs.declared.cause.Cause.TheVariants as causes

-- nothing is read yet
pub starts : (t : List ℕ) → HasRead t Opening 1 t
starts t = record { said = []; forms = tt; runs = refl; parts = refl; number = refl }

-- a line that is taken
pub takes : (t : List ℕ) (s next : State) (n : ℕ) (rest l after : List ℕ) (o : Option Item)
    → HasRead t s n rest → split rest ≡ (l ∷ (split after).0, (split after).1) → LineSaysIfAny l o
    → after_line s o ≡ Ok next → HasRead t next (n + 1) after
takes t s next n rest l after None st e none goes = absurd cc
takes t s next n rest l after (Some i) st e says goes = record {
  said = st.said ++ i ∷ [];
  forms = all_append HasForm st.said (i ∷ []) st.forms (says.0, tt);
  runs = run-append Opening st.said (i ∷ []) ∙ ap (λ r. and_then r (λ q. run q (i ∷ []))) st.runs ∙ ap (λ r. and_then r (λ q. Ok q)) goes;
  parts = rw (map-append, append_assoc, ← says.1) (st.parts ∙ ap (λ (p : List (List ℕ) × List ℕ). (map line st.said ++ p.0, p.1)) e);
  number = omega (arith, st.number, length-append st.said (i ∷ []));
}

-- ---- refusals

behind_said : (t : List ℕ) (s : State) (n : ℕ) (rest : List ℕ) (st : HasRead t s n rest) → found_behind (n - 1) t ≡ found_in (split rest).0 (split rest).1
behind_said t s n rest st =
    let ls = map line st.said in
    let k : n - 1 ≡ length ls = omega (arith, length-map st.said line, st.number) in
    rw (k, st.parts, lines) (ap (λ x. found_in x (split rest).1) (drop-append_seam ls (split rest).0))

are_said : (t : List ℕ) (s : State) (n : ℕ) (rest : List ℕ) (st : HasRead t s n rest) → AreSaid (n - 1) t st.said
are_said t s n rest st =
    let ls = map line st.said in
    let k : n - 1 ≡ length ls = omega (arith, length-map st.said line, st.number) in
    (st.forms, rw (k, st.parts, lines) (sym (take-append_seam ls (split rest).0)))

with_cause : (t : List ℕ) (s : State) (n : ℕ) (rest : List ℕ) (found : FoundLine) (c : Cause)
    (st : HasRead t s n rest)
    → found_in (split rest).0 (split rest).1 ≡ found → IsDeckCause (said s) found c
    → (before : List Item) × AreSaid (n - 1) t before × IsDeckCause before (found_behind (n - 1) t) c
with_cause t s n rest found c st e h = (
  st.said,
  are_said t s n rest st,
  subst (λ f. IsDeckCause st.said f c) (sym (behind_said t s n rest st ∙ e)) (subst (λ b. IsDeckCause b found c) (says_said t s n rest st) h),
)

-- a line that is refused
pub refuses_line : (t : List ℕ) (s : State) (n : ℕ) (rest l after : List ℕ) (o : Option Item) (c : Cause)
    → HasRead t s n rest → split rest ≡ (l ∷ (split after).0, (split after).1) → LineSaysIfAny l o
    → after_line s o ≡ Err c → IsRefused t n c
refuses_line t s n rest l after o c st e said bad =
    let all = all_refused s l o c said bad in
    record {
      none = λ d spells. no_front t s n rest l after c st e all (whole_front t n d spells);
      at_line = refused_at_line t s n rest l after c st e all;
      for_cause = with_cause t s n rest (whole_line l) c st (ap (λ (p : List (List ℕ) × List ℕ). found_in p.0 p.1) e)
          (line_cause s l o c (is_state t s n rest st) said bad);
    }

not_whole : {A : Type 0} (s : State) (d : DeckValue) (r : Result State Cause) → is_whole s ≡ false → r ≡ Ok s → r ≡ Ok (Whole d) → A
not_whole s d r e f g =
    let same : s ≡ Whole d = cc in
    absurd (cc (ap is_whole same, e))

-- a deck whose lines these are has been read
deck_read : (t : List ℕ) (s : State) (n : ℕ) (rest : List ℕ) (d : DeckValue) (st : HasRead t s n rest) → Spells t d
    → (split rest).0 ≡ [] → (run Opening st.said ≡ Ok (Whole d)) × ((split rest).1 ≡ [])
deck_read t s n rest d st spells none =
    let same : (map line st.said ++ (split rest).0, (split rest).1) ≡ (map line (items d), []) =
    sym st.parts ∙ ap (λ x. split x) spells.1 ∙ split_deck d in
    let lines_same : map line st.said ≡ map line (items d) =
    sym (append-nil (map line st.said)) ∙ ap (λ x. map line st.said ++ x) (sym none) ∙ ap (λ (p : List (List ℕ) × List ℕ). p.0) same in
    let items_same = said_once st.said (items d) st.forms (items_form d spells.0) lines_same in
    (ap (λ x. run Opening x) items_same ∙ reads_deck d spells.0, ap (λ (p : List (List ℕ) × List ℕ). p.1) same)

-- the text ends before `end`
pub refuses_end : (t : List ℕ) (s : State) (n : ℕ) (rest : List ℕ) → HasRead t s n rest → split rest ≡ ([], rest)
    → is_whole s ≡ false → IsRefused t n causes.Ended
refuses_end t s n rest st e open_yet = record {
  none = λ d spells. not_whole s d (run Opening st.said) open_yet st.runs (deck_read t s n rest d st spells (ap (λ (p : List (List ℕ) × List ℕ). p.0) e)).0;
  at_line = refused_at_end t s n rest st e;
  for_cause = with_cause t s n rest (part rest) causes.Ended st (ap (λ (p : List (List ℕ) × List ℕ). found_in p.0 p.1) e)
      (end_cause s rest (is_state t s n rest st) open_yet);
}

-- what stands first in a text: a whole line, or all of it without a line feed
abbrev pub StandsFirst : List ℕ → Type 0
StandsFirst t = ((l : List ℕ) × (after : List ℕ) × (split t ≡ (l ∷ (split after).0, (split after).1))) ⊎ (split t ≡ ([], t))

first_by : (t : List ℕ) (o : Option ℕ) → o ≡ position (λ b. b == 10) t → StandsFirst t
first_by t (Some i) e = inl (take i t, drop (i + 1) t, some_line t i e)
first_by t None e = inr (no_line t (sym e))

pub stands_first : (t : List ℕ) → StandsFirst t
stands_first t = first_by t (position (λ b. b == 10) t) refl

none_more : (d : DeckValue) (o : Option Item) → after_line (Whole d) o ≡ Err causes.After
none_more d None = refl
none_more d (Some i) = refl

-- a byte follows `end`
pub refuses_more : (t : List ℕ) (d : DeckValue) (n b : ℕ) (rest : List ℕ) → HasRead t (Whole d) n (b ∷ rest) → IsRefused t n causes.After
refuses_more t d n b rest st =
    elim (stands_first (b ∷ rest)) [
      | inl x ↦
          let read = line_read x.0 in
          refuses_line t (Whole d) n (b ∷ rest) x.0 x.1 read.0 causes.After st x.2 read.1 (none_more d read.0)
      | inr e ↦
          let no_line : (split (b ∷ rest)).0 ≡ [] = ap (λ (p : List (List ℕ) × List ℕ). p.0) e in
          let all_left : (split (b ∷ rest)).1 ≡ b ∷ rest = ap (λ (p : List (List ℕ) × List ℕ). p.1) e in
          record {
            none = λ f spells. absurd (omega (arith, ap length (sym all_left ∙ (deck_read t (Whole d) n (b ∷ rest) f st spells no_line).1)));
            at_line = refused_at_end t (Whole d) n (b ∷ rest) st e;
            for_cause = with_cause t (Whole d) n (b ∷ rest) (part (b ∷ rest)) causes.After st
                (ap (λ (p : List (List ℕ) × List ℕ). found_in p.0 p.1) e) (after_cause d (part (b ∷ rest)) tt);
          }
    ]

-- ---- decks

-- the text has been read to its end
pub spells_deck : (t : List ℕ) (d : DeckValue) (n : ℕ) → HasRead t (Whole d) n [] → Spells t d
unfolding split
spells_deck t d n st =
    let parts : split t ≡ (map line st.said, []) = st.parts ∙ ap (λ x. (x, [])) (append-nil (map line st.said)) in
    let said_all : items d ≡ st.said = says_said t (Whole d) n [] st in (
      (is_state t (Whole d) n [] st).right,
      sym (join t) ∙ ap (λ (p : List (List ℕ) × List ℕ). text p.0 ++ p.1) parts ∙ append-nil (text (map line st.said))
          ∙ ap (λ x. text (map line x)) (sym said_all),
    )

-- the line `end` was read: a deck ends there, or a byte follows
pub ends : (t : List ℕ) (d : DeckValue) (n : ℕ) (rest : List ℕ) → HasRead t (Whole d) n rest
    → MatchBool (length rest == 0) (Spells t d) (IsRefused t n causes.After)
ends t d n [] st = spells_deck t d n st
ends t d n (b ∷ rest) st =
    let some : (length (b ∷ rest) == 0) ≡ false = grind (arith, nat_tests) in
    rw some (refuses_more t d n b rest st)

-- ---- one refusal

one_cause : (before : List Item) (found : FoundLine) (b c : Cause) → IsDeckCause before found b → IsDeckCause before found c → b ≡ c
one_cause before found b c hb hc =
    let no_less : rank b < rank c → ⊥ = λ lower. hc.first b lower hb.applies in
    let no_more : rank c < rank b → ⊥ = λ lower. hb.first c lower hc.applies in
    one_rank b c (omega arith)

not_later : (t : List ℕ) (n m : ℕ) → IsRefusedAt t n → IsRefusedAt t m → n < m → ⊥
not_later t n m hn hm lt = hn.here (omega (arith, hm.within)) (hm.least n lt)

one_line : (t : List ℕ) (n m : ℕ) → IsRefusedAt t n → IsRefusedAt t m → n ≡ m
one_line t n m hn hm = omega (arith, not_later t n m hn hm, not_later t m n hm hn)

for_cause_at : (t : List ℕ) (n : ℕ) (b c : Cause)
    → (before : List Item) × AreSaid (n - 1) t before × IsDeckCause before (found_behind (n - 1) t) b
    → (before : List Item) × AreSaid (n - 1) t before × IsDeckCause before (found_behind (n - 1) t) c
    → b ≡ c
for_cause_at t n b c hb hc =
    let same = said_once hb.0 hc.0 hb.1.0 hc.1.0 (hb.1.1 ∙ sym hc.1.1) in
    one_cause hc.0 (found_behind (n - 1) t) b c (subst (λ is. IsDeckCause is (found_behind (n - 1) t) b) same hb.2) hc.2

-- a text is refused at one line, and for one cause
pub one_refusal : (t : List ℕ) (n m : ℕ) (b c : Cause) → IsRefused t n b → IsRefused t m c → (n ≡ m) × (b ≡ c)
one_refusal t n m b c hn hm =
    let lines_same = one_line t n m hn.at_line hm.at_line in
    let at_one = subst (λ k. (before : List Item) × AreSaid (k - 1) t before × IsDeckCause before (found_behind (k - 1) t) b) lines_same hn.for_cause in
    (lines_same, for_cause_at t m b c at_one hm.for_cause)

-- ---- what an answer of reading tells

pub refusal_only : (t : List ℕ) (e : DeckError) (n : ℕ) (c : Cause) → IsDeckError t e → IsRefused t n c → (e ≡ errors.Memory) ⊎ (e ≡ errors.At n c)
refusal_only t (errors.At m b) n c h refused =
    let one = one_refusal t m n b c h refused in
    inr (ap (λ x. errors.At x b) one.0 ∙ ap (λ x. errors.At n x) one.1)
refusal_only t errors.Memory n c h refused = inl refl

pub same_deck : (t : List ℕ) (d e : DeckValue) → Spells t d → Spells t e → d ≡ e
same_deck t d e hd he = one_deck d e hd.0 he.0 (sym hd.1 ∙ he.1)

-- ---- a line that was read

-- what was read of a line is refused at that line
at_line : (n : ℕ) (l : List ℕ) (i : declared.Item) (cause : Cause) → LineReads l i → errors.At n cause ≡ refusal n i cause
at_line n l found.Missing cause reads = absurd (reads.0 refl)
at_line n l i cause reads = refl

pub reads_line : (c d : Cursor) (l : List ℕ) (i : declared.Item) → d.line ≡ c.line + 1
    → split c.rest.now ≡ (l ∷ (split d.rest.now).0, (split d.rest.now).1) → LineReads l i → IsNextLine c i d
reads_line c d l i e parts reads = record {
  takes = λ s next goes t st.
      subst (λ (n : ℕ). HasRead t next (n + 1) d.rest.now) (sym e)
      (takes t s next (c.line + 1) c.rest.now l d.rest.now (said_by i) st parts reads.1 goes);
  refuses = λ s cause open_yet bad t st.
      subst (λ (n : ℕ). IsDeckError t (refusal n i cause)) (sym e)
      (subst (λ e. IsDeckError t e) (at_line (c.line + 1) l i cause reads)
      (refuses_line t s (c.line + 1) c.rest.now l d.rest.now (said_by i) cause st parts reads.1 bad));
}

-- a line that says something ends at the first line feed
pub ends_there : (t l after : List ℕ) (i : declared.Item) → t ≡ l ++ 10 ∷ after → LineReads l i → (i ≡ found.Formless → ⊥)
    → split t ≡ (l ∷ (split after).0, (split after).1)
ends_there t l after found.Formless e reads some = absurd (some refl)
ends_there t l after found.Missing e reads some = absurd (reads.0 refl)
ends_there t l after i e reads some =
    ap (λ x. split x) e ∙ split_line l after (said_no_feed l (said_by i) reads.1 (λ none. absurd cc))
