-- Reading a path backwards, from a place to the one that it was found from.
use Rattle.chan_why.proofs.Names.{[], all_found, ap, arith, best_first, best_next, HasFound, IsBestPath, IsPathAt, IsSurvey, Job, length, List, number_of_places, Option, Place, places_of_looks, reverse, Seen, slice_get_within, slice_index, Some, subst, Surveyed, sym, ℕ, ◌++◌, ◌<◌, ◌∙◌, ◌∷◌, ◌≡◌}
use Rattle.std.proofs.Common.{append_assoc}
use Rattle.std.specs.List.{slice_get}
use Rattle.chan_walk.specs.Place.{first_place}

-- the path that front ends, and whose front part is rest, is the best to the place of the index to
pub record EndsBestPath (j : Job) (ps : List Place) (to : ℕ) (whole : List Place) : Type 0 where
  pub last : Place
  pub before : List Place
  pub is : whole ≡ last ∷ before
  pub best : IsBestPath j ps to last before

-- the path was read back from the index to up to the index at
pub record IsWayBack (j : Job) (ps : List Place) (to at : ℕ) (path : List Place) : Type 0 where
  pub current : Place
  pub front : List Place
  pub is : path ≡ front ++ current ∷ []
  pub there : slice_get ps at ≡ Some current
  pub goes : (rest : List Place) → IsBestPath j ps at current rest → EndsBestPath j ps to (front ++ current ∷ rest)

module _ (j : Job) (ls : List Seen) (fs : List ℕ) (f : HasFound j ls fs) where
  abbrev ps : List Place
  ps = places_of_looks ls

  pub back_next : (to at : ℕ) (p : Place) (path more : List Place) → 0 < at → slice_get ps (slice_index fs at) ≡ Some p
      → more ≡ path ++ p ∷ [] → IsWayBack j ps to at path → IsWayBack j ps to (slice_index fs at) more
  back_next to at p path more pos e d b = record {
    current = p;
    front = b.front ++ b.current ∷ [];
    is = d ∙ ap (λ z. z ++ p ∷ []) b.is;
    there = e;
    goes = λ rest best.
        let r = b.goes (p ∷ rest)
        (best_next j ps fs f.at f.traced f.all f.walked.distinct (all_found j j.limit ps f.at f.walked f.all) at b.current p rest pos b.there best) in
        record { last = r.last; before = r.before; is = append_assoc b.front (b.current ∷ []) (p ∷ rest) ∙ r.is; best = r.best };
  }

  pub back_end : (to : ℕ) (path turned : List Place) → turned ≡ reverse path → IsWayBack j ps to 0 path → IsPathAt j ps to turned
  back_end to path turned d b =
      let same : ◌≡◌ {A = Option Place} (Some (first_place j)) (Some b.current) = sym f.traced.begins ∙ b.there in
      let is : first_place j ≡ b.current = cc in
      let r =
      b.goes [] (subst (λ z. IsBestPath j ps 0 z []) is
      (best_first j ps fs f.at f.traced f.all f.walked.distinct (all_found j j.limit ps f.at f.walked f.all))) in
      record { last = r.last; before = r.before; is = d ∙ ap reverse (b.is ∙ r.is); best = r.best }

  -- where the place at an index was found from
  pub from_earlier : (at : ℕ) → 0 < at → at < length ls → (slice_index fs at < at) × (slice_index fs at < length ls) × (at < length fs)
  from_earlier at pos low =
      let r = f.traced.from at pos (omega (arith, number_of_places ls)) in
      let e = r.earlier in
      (omega arith, omega arith, omega (arith, f.traced.each, number_of_places ls))

-- ---- the index of a place

pub within_looks : (ls : List Seen) (p : Place) (k : ℕ) → slice_get (places_of_looks ls) k ≡ Some p → k < length ls
within_looks ls p k e = omega (arith, number_of_places ls, slice_get_within (places_of_looks ls) k p e)

-- what a survey has, as it is read
pub as_read : (j : Job) (s : Surveyed) (ls : List Seen) (fs : List ℕ) → ls ≡ s.looks → fs ≡ s.found_from → IsSurvey j s → HasFound j ls fs
as_read j s ls fs e d h = rw (e, d) h.found
