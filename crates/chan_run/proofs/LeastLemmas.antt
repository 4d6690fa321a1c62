-- The deck with the least job: its areas have six digits, and the verdict on its job is yes.
use Rattle.std.proofs.Common.{◌≡◌, ℕ, ◌+◌, ◌-◌, ◌∙◌, ◌<◌, ◌≤◌, ◌==◌, Bool, ◌||◌, true, false, List, [], ◌∷◌, ◌++◌, length, ◌⊎◌, inl, inr, arith, refl, sym, ap, Some, nat_le, subst}
use Rattle.std.specs.List.{AllByRecursion}
use Rattle.std.proofs.lemmas.Bool.{cases_lt, eqb-false, le-leb, leb-true, or_left, or_right}
use Rattle.std.proofs.lemmas.List.{take_all}
use Rattle.ccw_core.specs.declared.areas.Area.{Area}
use Rattle.ccw_core.specs.Areas.{lies_in, end_of}
use Rattle.ckd_core.specs.Extents.{has_cylinder}
use Rattle.chan_walk.specs.declared.job.Job.{Job}
use Rattle.chan_walk.specs.declared.verdict.Verdict.TheVariants.{Yes}
use Rattle.chan_walk.specs.Job.{storage_of, extents_of, fetch_of, store_of}
use Rattle.chan_walk.specs.OpenJob.{AreOfOneProgram, all_storage, open_job, IsOpenJob}
use Rattle.chan_needs.specs.Needs.{Grants, MaskServes}
use Rattle.chan_areas.specs.Merged.{IsByteOf, IsMerged}
use Rattle.chan_needs.specs.Listed.{AreNeeds, Listed}
use Rattle.chan_walk.specs.Place.{first_place}
use Rattle.chan_walk.specs.Verdict.{IsVerdict}
use Rattle.chan_walk.proofs.Theory.Faults.{clear_stands, yes_clear}
use Rattle.ccw_core.specs.Storage.{is_inside, range_at}
use Rattle.chan_deck.specs.Item.{IsAddress, IsArea}
use Rattle.chan_deck.specs.PartsValue.{storage_with}
use Rattle.chan_areas.proofs.Merging.{lies_in-append, lies_in-cases, lies_in-first, lies_in-rest}
use Rattle.chan_needs.proofs.Needing.{granted_yes, yes_grants}
use Rattle.chan_walk.proofs.Algorithms.Opened.{to_open}
use Rattle.chan_deck.specs.DeckValue.{DeckValue, limit_of}
use Rattle.chan_deck.proofs.PartLemmas.{storage_fits}
use Rattle.chan_deck.specs.Needs.{halves, in_six_digits, six_digit_parts}
use Rattle.chan_args.specs.declared.image_options.RequestedJob.TheVariants as jobs
use Rattle.chan_run.specs.Image.{IsRequestedDeck, HoldsOfOpenJob, IsProgramIn, least_deck}
use Rattle.chan_run.specs.Output.{IsDeckJob, deck_of_job, extents_for, granting_just}
use Rattle.chan_args.specs.declared.image_options.ImageOptions.{ImageOptions}
use Rattle.ccw_core.specs.declared.ccw.TheConstants.{STORAGE_LIMIT}

-- ---- six digits

-- an area that isn't empty and ends in the largest storage
abbrev pub Fits : Area → Type 0
Fits a = (0 < a.len) × (end_of a ≤ STORAGE_LIMIT)

-- so is each of a merged list whose bytes all lie in it
pub merged_fit : (areas : List Area) → IsMerged areas → ((b : ℕ) → lies_in areas b ≡ true → b < STORAGE_LIMIT)
    → AllByRecursion Fits areas
merged_fit [] merged below = tt
merged_fit (a ∷ rest) (some, above, merged) below =
    let last : a.start + (a.len - 1) < STORAGE_LIMIT = below _ (lies_in-first a rest _ (omega (arith, some), omega (arith, some))) in
    ((some, omega (arith, last, some)), merged_fit rest merged (λ b lies. below b (lies_in-rest a rest b lies)))

-- and so its start and its length have six digits, in two parts if it is all of that storage
split_area : (a : Area) → a.start < STORAGE_LIMIT → end_of a ≤ STORAGE_LIMIT → (b : Bool) → (a.len == STORAGE_LIMIT) ≡ b
    → AllByRecursion IsArea (six_digit_parts a)
split_area a low ends true is = rw is ((omega arith, omega arith), ((omega arith, omega arith), tt))
split_area a low ends false is = rw is ((low, below (cases_lt a.len STORAGE_LIMIT)), tt)
  where
    below : (a.len < STORAGE_LIMIT) ⊎ (STORAGE_LIMIT ≤ a.len) → a.len < STORAGE_LIMIT
    below (inl lt) = lt
    below (inr le) = absurd (eqb-false a.len STORAGE_LIMIT is (omega (arith, le, ends)))

areas_append : (xs ys : List Area) → AllByRecursion IsArea xs → AllByRecursion IsArea ys
    → AllByRecursion IsArea (xs ++ ys)
areas_append [] ys all more = more
areas_append (x ∷ xs) ys all more = (all.0, areas_append xs ys all.1 more)

pub six_are_areas : (areas : List Area) → AllByRecursion Fits areas → AllByRecursion IsArea (in_six_digits areas)
six_are_areas [] fit = tt
six_are_areas (a ∷ rest) fit =
    areas_append (six_digit_parts a) (in_six_digits rest)
    (split_area a (omega (arith, fit.0.0, fit.0.1)) fit.0.1 (a.len == STORAGE_LIMIT) refl) (six_are_areas rest fit.1)

-- a byte of an area lies in its parts
in_split : (a : Area) (b : ℕ) → Fits a → IsByteOf a b → (all : Bool) → (a.len == STORAGE_LIMIT) ≡ all
    → lies_in (six_digit_parts a) b ≡ true
in_split a b fits lies false is = rw is (lies_in-first a [] b lies)
in_split a b fits lies true is = rw is (go (cases_lt b 0xFFFFFF))
  where
    first : Area
    first = record { start = 0; len = 0xFFFFFF }

    last : Area
    last = record { start = 0xFFFFFF; len = 1 }

    go : (b < 0xFFFFFF) ⊎ (0xFFFFFF ≤ b) → lies_in halves b ≡ true
    go (inl lt) = lies_in-first first (last ∷ []) b (omega arith, omega (arith, lt))
    go (inr le) = lies_in-rest first (last ∷ []) b (lies_in-first last [] b (le, omega (arith, lies.1, fits.1)))

-- what lies in areas lies in their parts
pub in_six : (areas : List Area) (b : ℕ) → AllByRecursion Fits areas → lies_in areas b ≡ true
    → lies_in (in_six_digits areas) b ≡ true
in_six [] b fit lies = lies
in_six (a ∷ rest) b fit lies = go (in_six rest b fit.1) (lies_in-cases a rest b lies)
  where
    parts : lies_in (six_digit_parts a ++ in_six_digits rest) b ≡ (lies_in (six_digit_parts a) b || lies_in (in_six_digits rest) b)
    parts = lies_in-append (six_digit_parts a) (in_six_digits rest) b

    go : (lies_in rest b ≡ true → lies_in (in_six_digits rest) b ≡ true) → IsByteOf a b ⊎ (lies_in rest b ≡ true)
        → lies_in (in_six_digits (a ∷ rest)) b ≡ true
    go others (inl here) = parts ∙ or_left _ _ (in_split a b fit.0 here (a.len == STORAGE_LIMIT) refl)
    go others (inr there) = parts ∙ or_right _ _ (others there)

-- ---- the least job

-- nothing lies in no area, nor in no extent
no_area : (b : ℕ) → lies_in [] b ≡ true → ⊥
unfolding lies_in
no_area b e = cc

no_cylinder : (c : ℕ) → has_cylinder [] c ≡ true → ⊥
unfolding has_cylinder
no_cylinder c e = cc

-- what is needed lies in storage
in_storage : (j : Job) (b : ℕ) → lies_in (all_storage j) b ≡ true → b < length (storage_of j)
in_storage j b lies = go (lies_in-cases (record { start = 0; len = length (storage_of j) }) [] b lies)
  where
    go : IsByteOf (record { start = 0; len = length (storage_of j) }) b ⊎ (lies_in [] b ≡ true) → b < length (storage_of j)
    go (inl here) = omega (arith, here.1)
    go (inr none) = absurd (no_area b none)

same_program : (j : Job) → AreOfOneProgram j j
same_program j = record { storage = refl; start = refl; device = refl }

open_grants : (j : Job) (n : Listed) → AreNeeds j n → Grants j (open_job j)
open_grants j n needs = yes_grants j (open_job j) (to_open j j (same_program j)) needs.verdict

-- so what is fetched and what is stored into fit, where storage isn't too large
pub fetch_fits : (j : Job) (n : Listed) → AreNeeds j n → length (storage_of j) ≤ STORAGE_LIMIT
    → AllByRecursion Fits n.fetch
fetch_fits j n needs short = merged_fit n.fetch needs.fetch.merged below
  where
    below : (b : ℕ) → lies_in n.fetch b ≡ true → b < STORAGE_LIMIT
    below b lies =
        let lt : b < length (storage_of j) = in_storage j b ((open_grants j n needs).fetch b ((needs.fetch.bytes b).0 lies)) in
        omega (arith, lt, short)

pub store_fits : (j : Job) (n : Listed) → AreNeeds j n → length (storage_of j) ≤ STORAGE_LIMIT
    → AllByRecursion Fits n.store
store_fits j n needs short = merged_fit n.store needs.store.merged below
  where
    below : (b : ℕ) → lies_in n.store b ≡ true → b < STORAGE_LIMIT
    below b lies =
        let lt : b < length (storage_of j) = in_storage j b ((open_grants j n needs).store b ((needs.store.bytes b).0 lies)) in
        omega (arith, lt, short)

-- the extents of the deck have the cylinders that are needed
in_extents : (runs : List (ℕ × ℕ)) (c : ℕ) → has_cylinder runs c ≡ true → has_cylinder (extents_for runs) c ≡ true
in_extents [] c has = absurd (no_cylinder c has)
in_extents (run ∷ runs) c has = has

-- the verdict is yes on a job that grants just what is needed
pub least_is_yes : (j : Job) (n : Listed) → AreNeeds j n → length (storage_of j) ≤ STORAGE_LIMIT → j.mask ≡ n.mask
    → extents_of j ≡ extents_for n.extents → fetch_of j ≡ in_six_digits n.fetch
    → store_of j ≡ in_six_digits n.store → IsVerdict j Yes
least_is_yes j n needs short mask extents fetch store =
    granted_yes j j (same_program j) grants needs.verdict
  where
    grants : Grants j j
    grants = record {
      mask = subst (λ m. MaskServes j m) (sym mask) needs.mask.holds;
      extents = λ c needed. rw extents (in_extents n.extents c ((needs.extents.cylinders c).1 needed));
      fetch = λ b needed. rw fetch (in_six n.fetch b (fetch_fits j n needs short) ((needs.fetch.bytes b).1 needed));
      store = λ b needed. rw store (in_six n.store b (store_fits j n needs short) ((needs.store.bytes b).1 needed));
    }

-- ---- the deck

-- so it is on the job of the deck, whose program is the one that the options find
program_of : (o : ImageOptions) (image : List ℕ) (n : Listed) (d : DeckValue) (j : Job) → d ≡ least_deck o image n
    → IsDeckJob d j → IsProgramIn o image j
program_of o image n d j is of = record {
  storage = of.storage ∙ ap (λ (x : DeckValue). x.storage) is;
  start = of.start ∙ ap (λ (x : DeckValue). x.start) is;
  device = of.device ∙ ap (λ (x : DeckValue). x.device) is;
  limit = of.limit ∙ ap (λ (x : DeckValue). limit_of x.version) is;
}

pub least_asked : (o : ImageOptions) (image : List ℕ) (n : Listed) (d : DeckValue) → o.job ≡ jobs.Least
    → o.at + length image ≤ STORAGE_LIMIT → ((j : Job) → IsProgramIn o image j → AreNeeds j n)
    → d ≡ least_deck o image n → IsRequestedDeck o.job o image d
least_asked o image n d least short needs is =
    subst (λ b. IsRequestedDeck b o image d) (sym least) (record { needed = n; needs = needs; is = is; yes = yes })
  where
    yes : (j : Job) → IsDeckJob d j → IsVerdict j Yes
    yes j of =
        let there = program_of o image n d j is of in
        least_is_yes j n (needs j there) (storage_fits o.at image (storage_of j) there.storage short)
        (of.mask ∙ ap (λ (x : DeckValue). x.mask) is) (of.extents ∙ ap (λ (x : DeckValue). x.extents) is)
        (of.fetch ∙ ap (λ (x : DeckValue). x.fetch) is) (of.store ∙ ap (λ (x : DeckValue). x.store) is)

-- the range of all of storage has all of its bytes
pub whole_range : (s bytes : List ℕ) → Some bytes ≡ range_at s 0 (length s) → bytes ≡ s
whole_range s bytes is =
    let le : nat_le (0 + length s) (length s) ≡ true = le-leb (0 + length s) (length s) (omega arith) in
    the_value (rw le at is) ∙ take_all _ _ (omega arith)
  where
    the_value : {a b : List ℕ} → Some a ≡ Some b → a ≡ b
    the_value e = cc

inside_below : (n a : ℕ) → is_inside n a ≡ true → a + 8 ≤ n
unfolding is_inside
inside_below n a is = leb-true (a + 8) n is

-- a program that needs something begins at an address
pub begins_low : (j : Job) (n : Listed) → AreNeeds j n → length (storage_of j) ≤ STORAGE_LIMIT → IsAddress j.start
begins_low j n needs short =
    let k = open_job j in
    let stands = clear_stands k (first_place k) (yes_clear k needs.verdict (first_place k) ([], refl)) in
    omega (arith, short, inside_below (length (storage_of j)) j.start stands.1)

-- the verdict is yes on the job of a deck that grants just what another job's program needs
pub granting_is_yes : (j : Job) (n : Listed) → ((k : Job) → AreOfOneProgram k j → AreNeeds k n)
    → length (storage_of j) ≤ STORAGE_LIMIT → storage_with 0 (storage_of j) ≡ storage_of j → (k : Job)
    → IsDeckJob (granting_just (deck_of_job j) n) k → IsVerdict k Yes
granting_is_yes j n needs short same k of =
    let one : AreOfOneProgram k j = record { storage = of.storage ∙ same; start = of.start; device = of.device } in
    least_is_yes k n (needs k one) (rw one.storage short) of.mask of.extents of.fetch of.store

-- the open job of a program shows something
pub of_open_job : (o : ImageOptions) (image : List ℕ) (Holds : Job → Type 0) (j k : Job) → IsProgramIn o image j
    → IsOpenJob j k → Holds k → HoldsOfOpenJob o image Holds
of_open_job o image Holds j k there is holds =
    record { job = j; of_program = there; opened = k; is_open = is; holds = holds }

-- what shows two things shows each
pub first_holds : (o : ImageOptions) (image : List ℕ) (One Other : Job → Type 0)
    → HoldsOfOpenJob o image (λ k. One k × Other k) → HoldsOfOpenJob o image One
first_holds o image One Other h =
    record { job = h.job; of_program = h.of_program; opened = h.opened; is_open = h.is_open; holds = h.holds.0 }

pub second_holds : (o : ImageOptions) (image : List ℕ) (One Other : Job → Type 0)
    → HoldsOfOpenJob o image (λ k. One k × Other k) → HoldsOfOpenJob o image Other
second_holds o image One Other h =
    record { job = h.job; of_program = h.of_program; opened = h.opened; is_open = h.is_open; holds = h.holds.1 }
