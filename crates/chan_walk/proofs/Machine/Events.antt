-- What the events of a step show, part by part.
use Rattle.chan_walk.proofs.Names.{[], Command, Event, Fetch, Gather, Has, HasNoWholeArgument, inl, inr, List, rules, Seek, SetMask, Store, UsesIn, ℕ, ◌++◌, ◌∷◌, ◌⊎◌}
use Rattle.chan_walk.proofs.Theory.Lists.{has_cases, has_left, has_right}

pub uses_cases : (xs ys : List Event) (b : ℕ) → UsesIn (xs ++ ys) b → UsesIn xs b ⊎ UsesIn ys b
uses_cases [] ys b h = inr h
uses_cases (Gather from ∷ xs) ys b (inl h) = inl (inl h)
uses_cases (Gather from ∷ xs) ys b (inr h) = search (rules, uses_cases xs ys b h)
uses_cases (Command code ∷ xs) ys b h = uses_cases xs ys b h
uses_cases (Store a bytes ∷ xs) ys b h = uses_cases xs ys b h
uses_cases (Fetch a n ∷ xs) ys b h = uses_cases xs ys b h
uses_cases (Seek x ∷ xs) ys b h = uses_cases xs ys b h
uses_cases (SetMask a x ∷ xs) ys b (inl h) = inl (inl h)
uses_cases (SetMask a x ∷ xs) ys b (inr h) = search (rules, uses_cases xs ys b h)

pub uses_left : (xs ys : List Event) (b : ℕ) → UsesIn xs b → UsesIn (xs ++ ys) b
uses_left [] ys b h = elim h [ ]
uses_left (Gather from ∷ xs) ys b (inl h) = inl h
uses_left (Gather from ∷ xs) ys b (inr h) = inr (uses_left xs ys b h)
uses_left (Command code ∷ xs) ys b h = uses_left xs ys b h
uses_left (Store a bytes ∷ xs) ys b h = uses_left xs ys b h
uses_left (Fetch a n ∷ xs) ys b h = uses_left xs ys b h
uses_left (Seek x ∷ xs) ys b h = uses_left xs ys b h
uses_left (SetMask a x ∷ xs) ys b (inl h) = inl h
uses_left (SetMask a x ∷ xs) ys b (inr h) = inr (uses_left xs ys b h)

pub uses_right : (xs ys : List Event) (b : ℕ) → UsesIn ys b → UsesIn (xs ++ ys) b
uses_right [] ys b h = h
uses_right (Gather from ∷ xs) ys b h = inr (uses_right xs ys b h)
uses_right (Command code ∷ xs) ys b h = uses_right xs ys b h
uses_right (Store a bytes ∷ xs) ys b h = uses_right xs ys b h
uses_right (Fetch a n ∷ xs) ys b h = uses_right xs ys b h
uses_right (Seek x ∷ xs) ys b h = uses_right xs ys b h
uses_right (SetMask a x ∷ xs) ys b h = inr (uses_right xs ys b h)

-- a mask byte that is taken is used
pub mask_is_used : (es : List Event) (a x : ℕ) → Has es (SetMask a x) → UsesIn es a
mask_is_used [] a x h = elim h [ ]
mask_is_used (SetMask b y ∷ es) a x (inl h) = inl (cc)
mask_is_used (SetMask b y ∷ es) a x (inr h) = inr (mask_is_used es a x h)
mask_is_used (Command code ∷ es) a x (inl h) = absurd (cc)
mask_is_used (Command code ∷ es) a x (inr h) = mask_is_used es a x h
mask_is_used (Store b bytes ∷ es) a x (inl h) = absurd (cc)
mask_is_used (Store b bytes ∷ es) a x (inr h) = mask_is_used es a x h
mask_is_used (Fetch b n ∷ es) a x (inl h) = absurd (cc)
mask_is_used (Fetch b n ∷ es) a x (inr h) = mask_is_used es a x h
mask_is_used (Gather from ∷ es) a x (inl h) = absurd (cc)
mask_is_used (Gather from ∷ es) a x (inr h) = inr (mask_is_used es a x h)
mask_is_used (Seek z ∷ es) a x (inl h) = absurd (cc)
mask_is_used (Seek z ∷ es) a x (inr h) = mask_is_used es a x h

pub no_seek_append : (xs ys : List Event) → HasNoWholeArgument xs → HasNoWholeArgument ys → HasNoWholeArgument (xs ++ ys)
no_seek_append xs ys h k x u = search (rules, has_cases)

-- the six lists of a step's events on end: what holds of each holds of all, if it goes over to two on end
pub of_six : (P : List Event → Type 0) → ((xs ys : List Event) → P xs → P ys → P (xs ++ ys))
    → (a b c d e f : List Event) → P a → P b → P c → P d → P e → P f → P (a ++ b ++ c ++ d ++ e ++ f)
of_six P on a b c d e f pa pb pc pd pe pf = on _ f (on _ e (on _ d (on _ c (on a b pa pb) pc) pd) pe) pf

pub in_six : (a b c d e f : List Event) (z : Event) → Has a z ⊎ Has b z ⊎ Has c z ⊎ Has d z ⊎ Has e z ⊎ Has f z → Has (a ++ b ++ c ++ d ++ e ++ f) z
in_six a b c d e f z h = search (rules, has_left, has_right)
