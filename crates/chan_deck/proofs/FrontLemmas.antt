-- The lines of a text, and where it is refused.
use Rattle.chan_deck.proofs.Names.{[], all_append, AllByRecursion, and_then, ap, append-nil, append_assoc, arith, Cause, cond, cond_both, device, drop, end, eqb-true, Err, extent_of, false, fetch, flat_map-append, HasForm, HasLimit, HasRead, header, header_of, DeckValue, is_zero, IsArea, IsByte, IsDeck, IsExtent, IsRefusedAt, Item, items, length, length-append, length-drop, length-map, length-take, limit_line, line, lines, LineSays, List, map, map-append, mask, Ok, One, Opening, puts, refl, Result, run, spelling, Spells, split, start, State, step, storage, STORAGE_LIMIT, store, suc, sym, take, take-append-add, take-append-drop, take-append-le, text, Two, Version, Whole, zero, ℕ, ◌*◌, ◌++◌, ◌+◌, ◌/◌, ◌<◌, ◌==◌, ◌^◌, ◌∙◌, ◌∷◌, ◌≡◌, ◌≤◌}
use Rattle.chan_deck.proofs.Elements.{all_take, all_drop, all_map}
use Rattle.chan_deck.specs.Refused.{first_lines, onto_first, BeginsSomeDeck}
use Rattle.chan_deck.proofs.ItemLemmas.{HasNoFeed, line_no_feed, one_item}
use Rattle.chan_deck.proofs.StepLemmas.{said, IsState, at_front}
use Rattle.chan_deck.proofs.DeckRuns.{run-append, run-says, reads_deck, completes}

abbrev Line : Type 0
Line = List ℕ

-- ---- lines and text

-- a line without a line feed in it is the first
pub split_line : (l t : List ℕ) → HasNoFeed l → split (l ++ 10 ∷ t) ≡ (l ∷ (split t).0, (split t).1)
unfolding split
split_line [] t h = refl
split_line (b ∷ l) t h =
    let whole = split (l ++ 10 ∷ t) in
    ap (λ q. cond q ([] ∷ whole.0, whole.1) (onto_first b whole)) h.0 ∙ ap (λ p. onto_first b p) (split_line l t h.1)

-- whole lines at the front of a text are its first lines
pub split_text : (ls : List Line) (t : List ℕ) → AllByRecursion HasNoFeed ls → split (text ls ++ t) ≡ (ls ++ (split t).0, (split t).1)
split_text [] t h = refl
split_text (l ∷ ls) t h =
    let e : text (l ∷ ls) ++ t ≡ l ++ 10 ∷ (text ls ++ t) = append_assoc (l ++ 10 ∷ []) (text ls) t ∙ append_assoc l (10 ∷ []) (text ls ++ t) in
    ap (λ x. split x) e ∙ split_line l (text ls ++ t) h.0 ∙ ap (λ (p : List Line × List ℕ). (l ∷ p.0, p.1)) (split_text ls t h.1)

onto_no_feed : (b : ℕ) (p : List Line × List ℕ) → (b == 10) ≡ false → AllByRecursion HasNoFeed p.0 → AllByRecursion HasNoFeed (onto_first b p).0
onto_no_feed b ([], rest) h k = tt
onto_no_feed b (l ∷ ls, rest) h k = ((h, k.0), k.1)

-- no line has a line feed in it
pub lines_no_feed : (t : List ℕ) → AllByRecursion HasNoFeed (lines t)
unfolding split
lines_no_feed [] = tt
lines_no_feed (b ∷ t) =
    cond_both (b == 10) _ _ (λ (p : List Line × List ℕ). AllByRecursion HasNoFeed p.0)
    (λ _. (tt, lines_no_feed t)) (λ h. onto_no_feed b (split t) h (lines_no_feed t))

onto_join : (b : ℕ) (p : List Line × List ℕ) → text (onto_first b p).0 ++ (onto_first b p).1 ≡ b ∷ (text p.0 ++ p.1)
onto_join b ([], rest) = refl
onto_join b (l ∷ ls, rest) = refl

-- the lines and what is left are the text
pub join : (t : List ℕ) → text (split t).0 ++ (split t).1 ≡ t
unfolding split
join [] = refl
join (b ∷ t) =
    cond_both (b == 10) _ _ (λ (p : List Line × List ℕ). text p.0 ++ p.1 ≡ b ∷ t)
    (λ h. rw (join t, eqb-true b 10 h) refl)
    (λ _. onto_join b (split t) ∙ ap (λ (x : List ℕ). b ∷ x) (join t))

pub text-append : (a b : List Line) → text (a ++ b) ≡ text a ++ text b
text-append a b = flat_map-append (λ l. l ++ 10 ∷ []) a b

no_feeds_said : (is : List Item) → AllByRecursion HasNoFeed (map line is)
no_feeds_said [] = tt
no_feeds_said (i ∷ is) = (line_no_feed i, no_feeds_said is)

-- ---- the lines of a deck

puts_form : (n at : ℕ) (bytes : List ℕ) → length bytes ≡ 8 * n → at + 8 * n ≤ STORAGE_LIMIT
    → AllByRecursion IsByte bytes → AllByRecursion HasForm (puts n at bytes)
unfolding puts
puts_form zero at bytes len fits h = tt
puts_form (suc n) at bytes len fits h =
    let rest : length (drop 8 bytes) ≡ 8 * n = omega (arith, length-drop 8 bytes) in
    let eight : length (take 8 bytes) ≡ 8 = omega (arith, length-take 8 bytes) in
    let more = puts_form n (at + 8) (drop 8 bytes) rest (omega arith) (all_drop IsByte 8 bytes h) in
    cond_both (is_zero (take 8 bytes)) _ _ (AllByRecursion HasForm) (λ _. more) (λ _. ((omega arith, (eight, all_take IsByte 8 bytes h)), more))

limit_form : (x : Version) → HasLimit x → AllByRecursion HasForm (limit_line x)
limit_form One h = tt
limit_form (Two n) h = (omega (arith, h.1), tt)

-- each line of a deck has its form
pub items_form : (d : DeckValue) → IsDeck d → AllByRecursion HasForm (items d)
items_form d is =
    let n = length d.storage in
    let P = puts (n / 8) 0 d.storage in
    let H = header (header_of d.version) ∷ device d.device ∷ mask d.mask ∷ start d.start ∷ limit_line d.version in
    let E = map extent_of d.extents in
    let F = map fetch d.fetch in
    let S = map store d.store in
    let opened : AllByRecursion HasForm H = (tt, (tt, (is.mask.0, (is.start, limit_form d.version is.limit)))) in
    let size : n < 2 ^ 28 = omega (arith, is.size) in
    let filled : AllByRecursion HasForm (storage n ∷ P) =
    (size, puts_form (n / 8) 0 d.storage (omega (arith, is.whole)) (omega (arith, is.size, is.whole)) is.bytes) in
    let extents = all_map IsExtent HasForm extent_of (λ e h. (omega (arith, h.0, h.1), omega (arith, h.1))) d.extents is.extents.1 in
    let with_extents = all_append HasForm H E opened extents in
    let with_fetch = all_append HasForm (H ++ E) F with_extents (all_map IsArea HasForm fetch (λ a h. h) d.fetch is.fetch) in
    let with_store = all_append HasForm (H ++ E ++ F) S with_fetch (all_map IsArea HasForm store (λ a h. h) d.store is.store) in
    let with_puts = all_append HasForm (H ++ E ++ F ++ S) (storage n ∷ P) with_store filled in
    all_append HasForm (H ++ E ++ F ++ S ++ storage n ∷ P) (end ∷ []) with_puts (tt, tt)

pub split_deck : (d : DeckValue) → split (spelling d) ≡ (map line (items d), [])
unfolding split
split_deck d =
    ap (λ x. split x) (sym (append-nil (spelling d))) ∙ split_text (map line (items d)) [] (no_feeds_said (items d))
    ∙ ap (λ ls. (ls, [])) (append-nil (map line (items d)))

-- lines with which a deck's text begins are its first lines
pub front_lines : (ls : List Line) → AllByRecursion HasNoFeed ls → BeginsSomeDeck (text ls)
    → (d : DeckValue) × (more : List Line) × IsDeck d × (map line (items d) ≡ ls ++ more)
front_lines ls h f =
    (f.0, (split f.1).0, f.2.0, ap (λ (p : List Line × List ℕ). p.0) (sym (split_deck f.0) ∙ ap (λ x. split x) (sym f.2.1) ∙ split_text ls f.1 h))

-- what lines say, with one line more
pub same_front : (is js : List Item) (l : Line) (more : List Line) → AllByRecursion HasForm is
    → AllByRecursion HasForm js → map line js ≡ map line is ++ l ∷ more
    → (i : Item) × (rest : List Item) × LineSays l i × (js ≡ is ++ i ∷ rest)
same_front [] [] l more hi hj e = absurd (omega (arith, ap length e))
same_front [] (j ∷ js) l more hi hj e =
    let first : line j ≡ l = cc in
    (j, js, (hj.0, sym first), refl)
same_front (i ∷ is) [] l more hi hj e = absurd (omega (arith, ap length e))
same_front (i ∷ is) (j ∷ js) l more hi hj e =
    let first : line j ≡ line i = cc in
    let others : map line js ≡ map line is ++ l ∷ more = cc in
    let same = one_item j i hj.0 hi.0 first in
    let r = same_front is js l more hi.1 hj.1 others in
    (r.0, r.1, r.2, ap (λ x. x ∷ js) same ∙ ap (λ (t : List Item). i ∷ t) r.3)

-- lines say one thing
pub said_once : (is js : List Item) → AllByRecursion HasForm is → AllByRecursion HasForm js → map line is ≡ map line js → is ≡ js
said_once [] [] hi hj e = refl
said_once [] (j ∷ js) hi hj e = absurd (omega (arith, ap length e))
said_once (i ∷ is) [] hi hj e = absurd (omega (arith, ap length e))
said_once (i ∷ is) (j ∷ js) hi hj e =
    let first : line i ≡ line j = cc in
    let others : map line is ≡ map line js = cc in
    ap (λ x. x ∷ is) (one_item i j hi.0 hj.0 first) ∙ ap (λ (t : List Item). j ∷ t) (said_once is js hi.1 hj.1 others)

-- no text spells two decks
pub one_deck : (d e : DeckValue) → IsDeck d → IsDeck e → spelling d ≡ spelling e → d ≡ e
one_deck d e is js same =
    let lines_same : map line (items d) ≡ map line (items e) =
    ap (λ (p : List Line × List ℕ). p.0) (sym (split_deck d) ∙ ap (λ x. split x) same ∙ split_deck e) in
    let items_same = said_once (items d) (items e) (items_form d is) (items_form e js) lines_same in
    cc (reads_deck d is, ap (λ x. run Opening x) items_same ∙ reads_deck e js)

-- ---- where reading stands

state_of : (t : List ℕ) (s : State) (n : ℕ) (rest : List ℕ) (st : HasRead t s n rest) → IsState s × (said s ≡ st.said)
state_of t s n rest st = run-says Opening s st.said (record { right = tt; ends = at_front }) st.forms st.runs

pub is_state : (t : List ℕ) (s : State) (n : ℕ) (rest : List ℕ) (st : HasRead t s n rest) → IsState s
is_state t s n rest st = (state_of t s n rest st).0

pub says_said : (t : List ℕ) (s : State) (n : ℕ) (rest : List ℕ) (st : HasRead t s n rest) → said s ≡ st.said
says_said t s n rest st = (state_of t s n rest st).1

-- the text of what has been read, of fewer lines too, is a front of a deck's
pub fronts : (t : List ℕ) (s : State) (n : ℕ) (rest : List ℕ) → HasRead t s n rest → (m : ℕ) → m < n → BeginsSomeDeck (first_lines m t)
fronts t s n rest st m h =
    let ls = map line st.said in
    let c = completes s (is_state t s n rest st) in
    let full = run-says s (Whole c.1) c.0 (is_state t s n rest st) c.2 c.3 in
    let its : items c.1 ≡ st.said ++ c.0 = full.1 ∙ ap (λ x. x ++ c.0) (says_said t s n rest st) in
    let short : m ≤ length ls = omega (arith, length-map st.said line, st.number) in
    let front : take m (lines t) ≡ take m ls = ap (λ (p : List Line × List ℕ). take m p.0) st.parts ∙ take-append-le m ls (split rest).0 short in
    let whole : text ls ≡ text (take m ls) ++ text (drop m ls) = ap text (sym (take-append-drop m ls)) ∙ text-append (take m ls) (drop m ls) in
    let spelled : spelling c.1 ≡ text ls ++ text (map line c.0) =
    ap (λ x. text (map line x)) its ∙ ap text (map-append line st.said c.0) ∙ text-append ls (map line c.0) in (
      c.1,
      text (drop m ls) ++ text (map line c.0),
      (
        full.0.right,
        ap (λ x. text x ++ (text (drop m ls) ++ text (map line c.0))) front ∙ sym (append_assoc (text (take m ls)) (text (drop m ls)) (text (map line c.0)))
            ∙ ap (λ x. x ++ text (map line c.0)) (sym whole) ∙ sym spelled,
      ),
    )

not_ok : {A : Type 0} (r : Result State Cause) (s : State) (c : Cause) (f : State → Result State Cause) → r ≡ Err c → and_then r f ≡ Ok s → A
not_ok r s c f e g = absurd cc

-- what comes first of what is left, where a line is
pub lines_left : (t : List ℕ) (s : State) (n : ℕ) (rest l after : List ℕ) (st : HasRead t s n rest)
    → split rest ≡ (l ∷ (split after).0, (split after).1)
    → lines t ≡ map line st.said ++ l ∷ (split after).0
lines_left t s n rest l after st e = ap (λ (p : List Line × List ℕ). p.0) st.parts ∙ ap (λ (p : List Line × List ℕ). map line st.said ++ p.0) e

-- a line that the state refuses, whatever it says, is on no front of a deck's text
pub no_front : (t : List ℕ) (s : State) (n : ℕ) (rest l after : List ℕ) (c : Cause)
    → HasRead t s n rest → split rest ≡ (l ∷ (split after).0, (split after).1)
    → ((i : Item) → LineSays l i → step s i ≡ Err c) → BeginsSomeDeck (first_lines n t) → ⊥
no_front t s n rest l after c st e all f =
    let ls = map line st.said in
    let n-is : n ≡ length ls + 1 = omega (arith, length-map st.said line, st.number) in
    let first : take n (lines t) ≡ ls ++ l ∷ [] = rw (n-is, lines_left t s n rest l after st e) (take-append-add ls (l ∷ (split after).0) 1) in
    let d = front_lines (take n (lines t)) (all_take HasNoFeed n (lines t) (lines_no_feed t)) f in
    let deck : map line (items d.0) ≡ ls ++ l ∷ d.1 = d.3 ∙ ap (λ x. x ++ d.1) first ∙ append_assoc ls (l ∷ []) d.1 in
    let same = same_front st.said (items d.0) l d.1 st.forms (items_form d.0 d.2) deck in
    let runs : and_then (run Opening st.said) (λ q. run q (same.0 ∷ same.1)) ≡ Ok (Whole d.0) =
    sym (run-append Opening st.said (same.0 ∷ same.1)) ∙ ap (λ x. run Opening x) (sym same.3) ∙ reads_deck d.0 d.2 in
    let goes : and_then (step s same.0) (λ q. run q same.1) ≡ Ok (Whole d.0) = ap (λ r. and_then r (λ q. run q (same.0 ∷ same.1))) (sym st.runs) ∙ runs in
    not_ok (step s same.0) (Whole d.0) c (λ q. run q same.1) (all same.0 same.2) goes

-- the first lines of a deck's text are a front
pub whole_front : (t : List ℕ) (n : ℕ) (d : DeckValue) → Spells t d → BeginsSomeDeck (first_lines n t)
whole_front t n d sp = (
  d,
  text (drop n (lines t)) ++ (split t).1,
  (
    sp.0,
    sym (append_assoc (text (take n (lines t))) (text (drop n (lines t))) (split t).1)
        ∙ ap (λ x. x ++ (split t).1) (sym (text-append (take n (lines t)) (drop n (lines t))) ∙ ap text (take-append-drop n (lines t)))
        ∙ join t ∙ sp.1,
  ),
)

-- ---- the line where a text is refused

pub refused_at_line : (t : List ℕ) (s : State) (n : ℕ) (rest l after : List ℕ) (c : Cause)
    → HasRead t s n rest → split rest ≡ (l ∷ (split after).0, (split after).1)
    → ((i : Item) → LineSays l i → step s i ≡ Err c) → IsRefusedAt t n
refused_at_line t s n rest l after c st e all = record {
  least = fronts t s n rest st;
  here = λ le f. no_front t s n rest l after c st e all f;
  within =
      let len : length (lines t) ≡ length (map line st.said) + suc (length (split after).0) =
      ap length (lines_left t s n rest l after st e) ∙ length-append (map line st.said) (l ∷ (split after).0) in
      omega (arith, len, length-map st.said line, st.number);
}

pub refused_at_end : (t : List ℕ) (s : State) (n : ℕ) (rest : List ℕ) → HasRead t s n rest → split rest ≡ ([], rest) → IsRefusedAt t n
refused_at_end t s n rest st e =
    let len : length (lines t) ≡ length (map line st.said) = rw (st.parts, lines, e) (ap length (append-nil (map line st.said))) in
    record {
      least = fronts t s n rest st;
      here = λ le f. absurd (omega (arith, len, length-map st.said line, st.number));
      within = omega (arith, len, length-map st.said line, st.number);
    }
