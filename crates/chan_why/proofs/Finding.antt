-- The first of the places looked at that answers to a question, and the path to it.
use Rattle.chan_why.proofs.Names.{all_found, arith, at_has, best_first, best_next, cases_lt, get_or, HasFound, inl, inr, IsBestPath, IsFirstWhere, IsPathAt, IsReachable, Job, length, List, None, number_of_places, Option, Place, place_at, places_of_looks, rules, Seen, slice_get, slice_get_within, slice_index, Some, subst, suc, sym, zero, ℕ, ◌+◌, ◌<◌, ◌∙◌, ◌∷◌, ◌≡◌, ◌≤◌, ◌⊎◌}
use Rattle.chan_why.specs.Path.{ArePathWhere, IsPathWhere}

-- ---- the loop that looks for it

-- P holds for none of the first i places
abbrev pub NoneBefore : (Place → Type 0) → List Place → ℕ → Type 0
NoneBefore P ps i = (k : ℕ) (p : Place) → k < i → slice_get ps k ≡ Some p → P p → ⊥

pub none_more : (P : Place → Type 0) (ls : List Seen) (i : ℕ) (l : Seen) → i < length ls → l ≡ get_or ls i l
    → (P l.place → ⊥) → NoneBefore P (places_of_looks ls) i → NoneBefore P (places_of_looks ls) (i + 1)
none_more P ls i l h e n old k p lt d holds = search (rules, cases_lt, place_at)

pub none_at_all : (P : Place → Type 0) (ls : List Seen) (i : ℕ) → length ls ≤ i → NoneBefore P (places_of_looks ls) i → IsFirstWhere P (places_of_looks ls) None
none_at_all P ls i h n k p e holds = n k p (omega (arith, number_of_places ls, slice_get_within (places_of_looks ls) k p e)) e holds

-- ---- the path to it

module _ (j : Job) (ls : List Seen) (fs : List ℕ) (f : HasFound j ls fs) where
  abbrev ps : List Place
  ps = places_of_looks ls

  pub reached_at : (P : Place → Type 0) → IsFirstWhere P ps None → (p : Place) → IsReachable j p → P p → ⊥
  reached_at P n p r holds =
      let at = at_has ps p (all_found j j.limit ps f.at f.walked f.all p r) in
      n at.0 p at.2 holds

  -- each place found has a path that is the best
  best_at : (n k : ℕ) (p : Place) → k < n → slice_get ps k ≡ Some p → (before : List Place) × IsBestPath j ps k p before
  best_at zero k p h e = absurd (omega arith)
  best_at (suc n) zero p h e = search (rules, best_first, all_found)
  best_at (suc n) (suc k) p h e =
      let r = f.traced.from (suc k) (omega arith) (slice_get_within ps (suc k) p e) in
      let b = best_at n (slice_index fs (suc k)) r.parent (omega (arith, r.earlier)) r.there in (
        r.parent ∷ b.0,
        best_next j ps fs f.at f.traced f.all f.walked.distinct (all_found j j.limit ps f.at f.walked f.all) (suc k) p r.parent b.0 (omega arith) e b.1,
      )

  -- the best path to the first place for which P holds is the path to such a place
  where_first : (P : Place → Type 0) (i : ℕ) (p : Place) (before : List Place) → IsFirstWhere P ps (Some i) → IsBestPath j ps i p before
      → IsPathWhere j P p before
  where_first P i p before h b =
      let same : ◌≡◌ {A = Option Place} (Some p) (Some h.0.0) = sym b.here ∙ h.0.1 in
      let is : h.0.0 ≡ p = cc in
      record {
        path = b.path;
        holds = subst P is h.0.2;
        first = λ q qs path holds.
            let at = at_has ps q (all_found j j.limit ps f.at f.walked f.all q (qs, path)) in
            b.first at.0 q qs (not_before at.0 q at.2 holds (cases_lt at.0 i)) at.2 path;
      }
    where
      not_before : (k : ℕ) (q : Place) → slice_get ps k ≡ Some q → P q → (k < i) ⊎ (i ≤ k) → i ≤ k
      not_before k q e holds (inl c) = absurd (h.1 k q c e holds)
      not_before k q e holds (inr c) = c

  pub path_where : (P : Place → Type 0) (i : ℕ) (places : List Place) → IsFirstWhere P ps (Some i) → IsPathAt j ps i places → ArePathWhere j P places
  path_where P i places h a = record { last = a.last; before = a.before; is = a.is; path = where_first P i a.last a.before h a.best }

  pub best_where : (P : Place → Type 0) (i : ℕ) (p : Place) → IsFirstWhere P ps (Some i)
      → slice_get ps i ≡ Some p → (before : List Place) × IsPathWhere j P p before
  best_where P i p h e = let b = best_at (i + 1) i p (omega arith) e in (b.0, where_first P i p b.0 h b.1)
