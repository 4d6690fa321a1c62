-- The cause for which a line is refused is the first of the table that applies.
use Rattle.chan_deck.proofs.Names.{[], after_item, after_line, ap, append_assoc, Area, arith, Bool, Cause, cond, cond_both, device, end, Err, extent, extent_of, false, fetch, Filling, FoundLine, header, Heading, DeckValue, is_empty, is_limit, is_mask, is_second, is_size, is_whole, is_zero, IsDeckCause, Item, items, LAST_CYLINDER, last_of, le-leb, length, limit, limit_line, line, LineSays, LineSaysIfAny, List, Listing, lit<, ltb, ltb-false, ltb-true, map, mask, Masked, MatchBool, Named, nat_le, nat_lt, nat_tests, None, on_extent, on_put, OnDevice, One, Opening, Option, part, put, puts, rank, refl, Result, Some, stands, start, Started, State, step, storage, store, subst, sym, true, Two, Version, VersionNumber, Whole, whole_line, ℕ, ◌%◌, ◌++◌, ◌+◌, ◌/◌, ◌<◌, ◌==◌, ◌∙◌, ◌∷◌, ◌≡◌, ◌≤◌}
use Rattle.std.specs.Prelude.{◌≢◌, ◌&&◌}
use Rattle.std.specs.Result.{IfErr}
use Rattle.std.proofs.lemmas.Result.{IfErr-at_err}
use Rattle.chan_deck.specs.Refused.{is_end, has_ended, may_stand, may_follow, size_said, is_above, is_place, Applies, AppliesBehindEnd}
use Rattle.chan_deck.specs.Reading.{no_form}
use Rattle.chan_deck.proofs.StepLemmas.{heading, lists, said, IsState, Ends, at_front, at_store, at_storage, at_put, at_end, last_of-push}
use Rattle.chan_deck.proofs.ItemLemmas.{says_one}
use Rattle.chan_deck.specs.declared.cause.Cause.TheVariants as causes

-- ---- what may stand where a reading ends

ended_at : (s : State) (o : Option Item) → Ends s o → is_end o ≡ is_whole s
ended_at _ _ (at_end d) = refl
ended_at _ _ _ = refl

-- `end` has come where a deck is whole
pub ended_said : (s : State) → IsState s → has_ended (said s) ≡ is_whole s
ended_said s is = ended_at s (last_of (said s)) is.ends

never : (b : Bool) → (b && false) ≡ false
never true = refl
never false = refl

stands_at : (s : State) (o : Option Item) (i : Item) → Ends s o → may_stand (is_second (said s)) o i ≡ stands s i
stands_at _ _ (extent a b) (at_store h e es fs s ss x) = sym (never (is_empty fs))
stands_at _ _ (header h) at_front = refl
stands_at _ _ i at_front = refl
stands_at _ _ _ _ = refl

-- the forms that may stand behind what was said are those that may stand where reading stands
stands_said : (s : State) (i : Item) → IsState s → may_follow (said s) i ≡ stands s i
stands_said s i is = stands_at s (last_of (said s)) i is.ends

-- ---- ranks

abbrev ranked : ℕ → Cause
ranked n =
    cond (n == 1) causes.Ended (cond (n == 2) causes.Header (cond (n == 3) causes.Form (cond (n == 4) causes.Mask
    (cond (n == 5) causes.ExtentBackwards (cond (n == 6) causes.ExtentPastDevice (cond (n == 7) causes.Size
    (cond (n == 8) causes.PutAddress (cond (n == 9) causes.PutZero (cond (n == 10) causes.After causes.Limit)))))))))

ranked-rank : (c : Cause) → ranked (rank c) ≡ c
ranked-rank causes.Ended = refl
ranked-rank c = refl

pub one_rank : (b c : Cause) → rank b ≡ rank c → b ≡ c
one_rank b c e = sym (ranked-rank b) ∙ ap ranked e ∙ ranked-rank c

-- ---- the first cause that applies

is_cause : (before : List Item) (found : FoundLine) (c : Cause) → has_ended before ≡ false → Applies before found c
    → ((other : Cause) → rank other < rank c → Applies before found other → ⊥) → IsDeckCause before found c
is_cause before found c e h earlier = record { applies = rw e h; first = λ other lt k. earlier other lt (rw e at k) }

-- a line that may stand behind some others, and what it says
record StandsAndSays (before : List Item) (l : List ℕ) (i : Item) : Type 0 where
  says : LineSays l i
  stands : may_follow before i ≡ true

-- what the causes say of a line that may stand
abbrev Wrong : List Item → Item → Cause → Type 0
Wrong before (mask m) causes.Mask = is_mask m ≡ false
Wrong before (extent a b) causes.ExtentBackwards = b < a
Wrong before (extent a b) causes.ExtentPastDevice = LAST_CYLINDER < b
Wrong before (storage n) causes.Size = is_size n ≡ false
Wrong before (put a w) causes.PutAddress = is_place before a ≡ false
Wrong before (put a w) causes.PutZero = is_zero w ≡ true
Wrong before (limit n) causes.Limit = is_limit n ≡ false
Wrong before i c = ⊥

-- where nothing was said a header alone may stand
only_header : (l : List ℕ) (i : Item) → may_follow [] i ≡ true → l ≡ line i → ((h : VersionNumber) → l ≢ line (header h)) → ⊥
only_header l (header h) f e none = none h e
only_header l i f e none = absurd cc

wrong : (before : List Item) (l : List ℕ) (i : Item) (c : Cause) → StandsAndSays before l i → Applies before (whole_line l) c → Wrong before i c
wrong before l i causes.Header told h = absurd (only_header l i (rw h.0 at told.stands) told.says.1 h.1)
wrong before l i causes.Form told h = absurd (cc (told.stands, h i told.says))
wrong before l i causes.Mask told h = subst (λ j. Wrong before j causes.Mask) (says_one l (mask h.0) i h.1 told.says) h.2
wrong before l i causes.ExtentBackwards told h = subst (λ j. Wrong before j causes.ExtentBackwards) (says_one l (extent h.0 h.1) i h.2 told.says) h.3
wrong before l i causes.ExtentPastDevice told h = subst (λ j. Wrong before j causes.ExtentPastDevice) (says_one l (extent h.0 h.1) i h.2 told.says) h.3
wrong before l i causes.Size told h = subst (λ j. Wrong before j causes.Size) (says_one l (storage h.0) i h.1 told.says) h.2
wrong before l i causes.PutAddress told h = subst (λ j. Wrong before j causes.PutAddress) (says_one l (put h.0 h.1) i h.2 told.says) h.3
wrong before l i causes.PutZero told h = subst (λ j. Wrong before j causes.PutZero) (says_one l (put h.0 h.1) i h.2 told.says) h.3
wrong before l i causes.Limit told h = subst (λ j. Wrong before j causes.Limit) (says_one l (limit h.0) i h.1 told.says) h.2
wrong before l i c told h = absurd h

-- the least rank of the causes that can apply to what a line says
abbrev least_rank : Item → ℕ
least_rank (mask m) = 4
least_rank (extent a b) = 5
least_rank (storage n) = 7
least_rank (put a w) = 8
least_rank i = 11

from_least : (before : List Item) (i : Item) (c : Cause) → Wrong before i c → least_rank i ≤ rank c
from_least before (mask m) causes.Mask h = omega arith
from_least before (extent a b) causes.ExtentBackwards h = omega arith
from_least before (extent a b) causes.ExtentPastDevice h = omega arith
from_least before (storage n) causes.Size h = omega arith
from_least before (put a w) causes.PutAddress h = omega arith
from_least before (put a w) causes.PutZero h = omega arith
from_least before (limit n) causes.Limit h = omega arith
from_least before i c h = absurd h

-- ---- where a put may stand

past_limit : (v : Version) (js : List Item) → size_said (limit_line v ++ js) ≡ size_said js
past_limit One js = refl
past_limit (Two n) js = refl

past_all : {X : Type 0} (f : X → Item) → ((x : X) (js : List Item) → size_said (f x ∷ js) ≡ size_said js)
    → (xs : List X) (js : List Item) → size_said (map f xs ++ js) ≡ size_said js
past_all f past [] js = refl
past_all f past (x ∷ xs) js = past x (map f xs ++ js) ∙ past_all f past xs js

size_filling : (h : Heading) (es : List (ℕ × ℕ)) (fs ss : List Area) (n : ℕ) (P : List Item) → size_said (lists h es fs ss ++ storage n ∷ P) ≡ n
size_filling h es fs ss n P =
    let S = map store ss ++ storage n ∷ P in
    let F = map fetch fs ++ S in
    let E = map extent_of es ++ F in
    let parts : lists h es fs ss ++ storage n ∷ P ≡ heading h ++ E = simp append_assoc in
    ap size_said parts ∙ past_limit h.version E ∙ past_all extent_of (λ e js. refl) es F
    ∙ past_all fetch (λ a js. refl) fs S ∙ past_all store (λ a js. refl) ss (storage n ∷ P)

above_put : (b reach a : ℕ) → b + 8 ≡ reach → reach % 8 ≡ 0 → (a % 8 == 0 && nat_le reach a) ≡ (a % 8 == 0 && nat_lt b a)
above_put b reach a e al = grind (arith, nat_tests)

above_last : (h : Heading) (es : List (ℕ × ℕ)) (fs ss : List Area) (n : ℕ) (bytes : List ℕ)
    (o : Option Item) (a : ℕ)
    → Ends (Filling h es fs ss n bytes) o → length bytes % 8 ≡ 0
    → (a % 8 == 0 && nat_le (length bytes) a) ≡ (a % 8 == 0 && is_above o a)
above_last _ _ _ _ _ _ _ a (at_storage h es fs ss n) al = ap (λ b. a % 8 == 0 && b) (le-leb 0 a (omega arith))
above_last _ _ _ _ _ _ _ a (at_put h es fs ss n bytes b w e) al = above_put b (length bytes) a e al

-- the address that reading takes is one that a put may have
place_said : (h : Heading) (es : List (ℕ × ℕ)) (fs ss : List Area) (n : ℕ) (bytes : List ℕ) (a : ℕ)
    → IsState (Filling h es fs ss n bytes)
    → (a % 8 == 0 && nat_le (length bytes) a && nat_le (a + 8) n)
    ≡ is_place (said (Filling h es fs ss n bytes)) a
place_said h es fs ss n bytes a is =
    let before = said (Filling h es fs ss n bytes) in
    ap (λ b. b && nat_le (a + 8) n) (above_last h es fs ss n bytes (last_of before) a is.ends is.right.1.words)
    ∙ ap (λ k. (a % 8 == 0 && is_above (last_of before) a) && nat_le (a + 8) k) (sym (size_filling h es fs ss n (puts (length bytes / 8) 0 bytes)))

-- ---- the cause of a line that may stand

abbrev For : State → List ℕ → Cause → Type 0
For s l c = IsDeckCause (said s) (whole_line l) c

-- why a line is refused, if it is
abbrev Judges : State → List ℕ → Result State Cause → Type 0
Judges s l r = IfErr r (For s l)

-- a cause of what a line says that no earlier cause can apply to
blamed : (s : State) (l : List ℕ) (i : Item) (c : Cause) → IsState s → is_whole s ≡ false → StandsAndSays (said s) l i
    → Applies (said s) (whole_line l) c → ((other : Cause) → rank other < rank c → Wrong (said s) i other → ⊥) → For s l c
blamed s l i c is open_yet told h none =
    is_cause (said s) (whole_line l) c (ended_said s is ∙ open_yet) h (λ other lt k. none other lt (wrong (said s) l i other told k))

extent_cause : (h : Heading) (es : List (ℕ × ℕ)) (fs ss : List Area) (l : List ℕ) (a b : ℕ)
    → IsState (Listing h es fs ss) → StandsAndSays (said (Listing h es fs ss)) l (extent a b)
    → Judges (Listing h es fs ss) l (on_extent h es a b)
extent_cause h es fs ss l a b is told =
    let s = Listing h es fs ss in
    let least = from_least (said s) (extent a b) in
    cond_both (ltb b a) _ _ (Judges s l)
    (λ back. blamed s l (extent a b) causes.ExtentBackwards is refl told (a, b, told.says, ltb-true _ _ back) (λ other lt h. omega (arith, least other h)))
    (λ ordered. cond_both (ltb LAST_CYLINDER b) _ _ (Judges s l)
    (λ past. blamed s l (extent a b) causes.ExtentPastDevice is refl told (a, b, told.says, ltb-true _ _ past) (λ other lt h.
    let first = one_rank other causes.ExtentBackwards (omega (arith, least other h)) in
    omega (arith, ltb-false _ _ ordered, subst (λ c. Wrong (said s) (extent a b) c) first h)))
    (λ _. tt))

put_cause : (h : Heading) (es : List (ℕ × ℕ)) (fs ss : List Area) (n : ℕ) (bytes l : List ℕ)
    (a : ℕ) (w : List ℕ)
    → IsState (Filling h es fs ss n bytes) → StandsAndSays (said (Filling h es fs ss n bytes)) l (put a w)
    → Judges (Filling h es fs ss n bytes) l (on_put h es fs ss n bytes a w)
put_cause h es fs ss n bytes l a w is told =
    let s = Filling h es fs ss n bytes in
    let place = place_said h es fs ss n bytes a is in
    let least = from_least (said s) (put a w) in
    cond_both (a % 8 == 0 && nat_le (length bytes) a && nat_le (a + 8) n) _ _ (Judges s l)
    (λ there. cond_both (is_zero w) _ _ (Judges s l)
    (λ zeros. blamed s l (put a w) causes.PutZero is refl told (a, w, told.says, zeros) (λ other lt h.
    let first = one_rank other causes.PutAddress (omega (arith, least other h)) in
    absurd (cc (place, there, subst (λ c. Wrong (said s) (put a w) c) first h))))
    (λ _. tt))
    (λ away. blamed s l (put a w) causes.PutAddress is refl told (a, w, told.says, sym place ∙ away) (λ other lt h. omega (arith, least other h)))

-- the cause of a line that may stand and is refused for what it says
told_cause : (s : State) (l : List ℕ) (i : Item) → IsState s → StandsAndSays (said s) l i → stands s i ≡ true → Judges s l (after_item s i)
told_cause (OnDevice h v) l (mask m) is told f =
    let s = OnDevice h v in
    cond_both (is_mask m) _ _ (Judges s l) (λ _. tt)
    (λ bad. blamed s l (mask m) causes.Mask is refl told (m, told.says, bad) (λ other lt h. omega (arith, from_least (said s) (mask m) other h)))
told_cause (Started v m a) l (limit n) is told f =
    let s = Started v m a in
    cond_both (is_limit n) _ _ (Judges s l) (λ _. tt)
    (λ bad. blamed s l (limit n) causes.Limit is refl told (n, told.says, bad) (λ other lt h. omega (arith, from_least (said s) (limit n) other h)))
told_cause (Listing h es fs ss) l (extent a b) is told f = extent_cause h es fs ss l a b is told
told_cause (Listing h es fs ss) l (storage n) is told f =
    let s = Listing h es fs ss in
    cond_both (is_size n) _ _ (Judges s l) (λ _. tt)
    (λ bad. blamed s l (storage n) causes.Size is refl told (n, told.says, bad) (λ other lt h. omega (arith, from_least (said s) (storage n) other h)))
told_cause (Listing h es fs ss) l (fetch a) is told f = tt
told_cause (Listing h es fs ss) l (store a) is told f = tt
told_cause (Filling h es fs ss n bytes) l (put a w) is told f = put_cause h es fs ss n bytes l a w is told
told_cause (Filling h es fs ss n bytes) l end is told f = tt
told_cause Opening l (header h) is told f = tt
told_cause (Named h) l (device v) is told f = tt
told_cause (Masked h v m) l (start a) is told f = tt
told_cause s l i is told f = absurd cc

-- ---- the cause of a line that may not stand

-- behind `end` only the cause After applies
follows_after : (found : FoundLine) (c : Cause) → AppliesBehindEnd found c → c ≡ causes.After
follows_after (whole_line l) causes.After h = refl
follows_after (part (b ∷ rest)) causes.After h = refl
follows_after found c h = absurd h

pub after_cause : (d : DeckValue) (found : FoundLine) → AppliesBehindEnd found causes.After → IsDeckCause (items d) found causes.After
after_cause d found applies =
    let h : Heading = record { version = d.version; device = d.device; mask = d.mask; start = d.start } in
    let opened = lists h d.extents d.fetch d.store ++ storage (length d.storage) ∷ puts (length d.storage / 8) 0 d.storage in
    let ended : has_ended (items d) ≡ true = ap is_end (last_of-push opened end) in
    record {
      applies = subst (λ b. MatchBool b (AppliesBehindEnd found causes.After) (Applies (items d) found causes.After)) (sym ended) applies;
      first = λ other lt k.
          let same = follows_after found other (subst (λ b. MatchBool b (AppliesBehindEnd found other) (Applies (items d) found other)) ended k) in
          absurd (omega (arith, ap rank same));
    }

early : (before : List Item) (l : List ℕ) (c : Cause) → rank c < 3 → Applies before (whole_line l) c → (rank c ≡ 2) × (before ≡ [])
early before l causes.Header lt h = (refl, h.0)
early before l causes.Ended lt h = absurd h
early before l c lt h = absurd (omega arith)

in_form : (s : State) (l : List ℕ) → IsState s → is_whole s ≡ false → (said s ≡ [] → ⊥) → ((i : Item) → LineSays l i → stands s i ≡ false) → For s l causes.Form
in_form s l is open_yet some all =
    is_cause (said s) (whole_line l) causes.Form (ended_said s is ∙ open_yet) (λ i says. stands_said s i is ∙ all i says)
    (λ other lt h. some (early (said s) l other lt h).1)

form_cause : (s : State) (l : List ℕ) → IsState s → ((i : Item) → LineSays l i → stands s i ≡ false) → For s l (no_form s)
form_cause Opening l is all =
    is_cause [] (whole_line l) causes.Header refl (refl, λ h same. absurd (cc (all (header h) (tt, same))))
    (λ other lt h. omega (arith, (early [] l other (omega arith) h).0))
form_cause (Whole d) l is all = after_cause d (whole_line l) tt
form_cause s l is all = in_form s l is refl (λ e. absurd cc) all

-- ---- each line that is refused

item_cause : (s : State) (l : List ℕ) (i : Item) → IsState s → LineSays l i → Judges s l (step s i)
item_cause s l i is says =
    cond_both (stands s i) _ _ (Judges s l)
    (λ f. told_cause s l i is (record { says = says; stands = stands_said s i is ∙ f }) f)
    (λ f. form_cause s l is (λ j other. ap (λ k. stands s k) (says_one l j i other says) ∙ f))

-- a line that is refused has the cause for which it is refused
pub line_cause : (s : State) (l : List ℕ) (o : Option Item) (c : Cause) → IsState s → LineSaysIfAny l o
    → after_line s o ≡ Err c → IsDeckCause (said s) (whole_line l) c
line_cause s l (Some i) c is says e = IfErr-at_err (For s l) e (item_cause s l i is says)
line_cause s l None c is none e = IfErr-at_err (For s l) e (form_cause s l is (λ i says. absurd (none i says)))

-- whatever it says
pub all_refused : (s : State) (l : List ℕ) (o : Option Item) (c : Cause) → LineSaysIfAny l o → after_line s o ≡ Err c → (i : Item) → LineSays l i → step s i
    ≡ Err c
all_refused s l (Some j) c says e i other = ap (λ k. step s k) (says_one l i j other says) ∙ e
all_refused s l None c none e i says = absurd (none i says)

some_rank : (c : Cause) → 0 < rank c
some_rank causes.Ended = lit< tt
some_rank c = lit< tt

-- the text ends before `end`
pub end_cause : (s : State) (rest : List ℕ) → IsState s → is_whole s ≡ false → IsDeckCause (said s) (part rest) causes.Ended
end_cause s rest is open_yet = is_cause (said s) (part rest) causes.Ended (ended_said s is ∙ open_yet) tt (λ other lt h. omega (arith, some_rank other))
