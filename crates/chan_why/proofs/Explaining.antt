-- The path to a place that offends by the verdict's reason.
use Rattle.chan_why.proofs.Names.{[], Evidence, false, get_or, Has, has_at, HasFound, HasLikeOffence, inl, IsOffenceEvidence, IsFirstWhere, IsLook, IsPathAt, IsReachable, IsSome, IsStoredBefore, IsSurvey, Job, length, List, look_of, None, Offence, offence, Option, Place, place_at, places_of_looks, Reason, refl, reverse, Seen, slice_get, Some, subst, Surveyed, sym, true, ℕ, ◌<◌, ◌∙◌, ◌∷◌, ◌≡◌}
use Rattle.chan_walk.specs.Alarm.{EachPathShows, IsProper}
use Rattle.chan_why.specs.Witness.{IsCaseOf, IsEvidenceOf, IsPathOf, IsStoredOver, IsWitness, OffendsAt}
use Rattle.chan_walk.specs.declared.verdict.Verdict.TheVariants.{No}
use Rattle.chan_walk.specs.Reason.{is_no_command}
use Rattle.chan_why.specs.Evidence.{IsEvidence}
use Rattle.chan_walk.specs.Offence.{AreOffences, Offending, first_verdict}
use Rattle.chan_why.proofs.Changing.{first_within}
use Rattle.chan_why.proofs.Finding.{best_where, path_where, reached_at}

-- ---- an offence, and the first place that is like it

module _ (j : Job) (ls : List Seen) (fs : List ℕ) (f : HasFound j ls fs) (os : List Offence) (are : AreOffences j os) (o : Offence) (listed : Has os o) where
  abbrev ps : List Place
  ps = places_of_looks ls

  -- a reachable place offends as the offence does exactly where it is like it
  like : (p : Place) → IsReachable j p → OffendsAt j o.place.address o.reason p → HasLikeOffence os o p
  like p r off = (off.0, are.each (offence p o.reason) (r, off.1))

  offends : (p : Place) → HasLikeOffence os o p → OffendsAt j o.place.address o.reason p
  offends p h = (h.0, (are.only (offence p o.reason) h.1).1)

  first_offending : (i : ℕ) → IsFirstWhere (HasLikeOffence os o) ps (Some i) → IsFirstWhere (OffendsAt j o.place.address o.reason) ps (Some i)
  first_offending i h = ((h.0.0, h.0.1, offends h.0.0 h.0.2), λ k p l e off. h.1 k p l e (like p (f.walked.only p (has_at ps k p e)) off))

  pub path_found : (i : ℕ) (path : List Place) → IsPathAt j ps i path → IsFirstWhere (HasLikeOffence os o) ps (Some i)
      → IsPathOf j (No o.place.address o.reason) path
  path_found i path a h = path_where j ls fs f (OffendsAt j o.place.address o.reason) i path (first_offending i h) a

  -- the offence's own place is like it
  pub some_found : (at : Option ℕ) → IsFirstWhere (HasLikeOffence os o) ps at → IsSome at
  some_found None n = absurd (reached_at j ls fs f (HasLikeOffence os o) n o.place (are.only o listed).0 (refl, listed))
  some_found (Some i) n = refl

  pub offending_found : (i : ℕ) (p : Place) → slice_get ps i ≡ Some p → IsFirstWhere (HasLikeOffence os o) ps (Some i) → Offending j (offence p o.reason)
  offending_found i p e h =
      let same : ◌≡◌ {A = Option Place} (Some h.0.0) (Some p) = sym h.0.1 ∙ e in
      let is : h.0.0 ≡ p = cc in
      subst (λ (q : Place). Offending j (offence q o.reason)) is (are.only (offence h.0.0 o.reason) h.0.2.1)

  pub evidence_found : (i : ℕ) (p : Place) (path : List Place) (e : Evidence) → slice_get ps i ≡ Some p
      → IsPathAt j ps i path → IsEvidence j (offence p o.reason) e → IsEvidenceOf j (No o.place.address o.reason) path (Some e)
  evidence_found i p path e here a v =
      let same : ◌≡◌ {A = Option Place} (Some p) (Some a.last) = sym here ∙ a.best.here in
      let is : p ≡ a.last = cc in
      (a.last, a.before, a.is, subst (λ (q : Place). IsEvidence j (offence q o.reason) e) is v)

  pub found_shows : (i : ℕ) (p : Place) (e : Evidence) → slice_get ps i ≡ Some p
      → IsFirstWhere (HasLikeOffence os o) ps (Some i) → IsEvidence j (offence p o.reason) e → IsOffenceEvidence j o e
  found_shows i p e here h v =
      let b = best_where j ls fs f (OffendsAt j o.place.address o.reason) i p (first_offending i h) here in
      (reverse (p ∷ b.0), record { last = p; before = b.0; is = refl; path = b.1 }, (p, b.0, refl, v))

-- the place of this index is the first that is like an offence of the survey
module _ (j : Job) (s : Surveyed) (is : IsSurvey j s) (o : Offence) (listed : Has s.offences o) (at : ℕ)
    (first : IsFirstWhere (HasLikeOffence s.offences o) (places_of_looks s.looks) (Some at)) (l : Seen) (seen : l ≡ get_or s.looks at l) where
  within : at < length s.looks
  within = first_within (HasLikeOffence s.offences o) s.looks at first

  here : slice_get (places_of_looks s.looks) at ≡ Some l.place
  here = place_at s.looks at l within seen

  pub look_there : IsLook j l
  look_there = look_of j s.looks at l is.found.looks within seen

  pub offending_there : Offending j (offence l.place o.reason)
  offending_there = offending_found j s.looks s.found_from is.found s.offences is.offences o listed at l.place here first

  pub case_there : (e : Evidence) → IsEvidence j (offence l.place o.reason) e → IsCaseOf j (places_of_looks s.looks) o at e
  case_there e v = record {
    path = λ places a. path_found j s.looks s.found_from is.found s.offences is.offences o listed at places a first;
    evidence = λ places a. evidence_found j s.looks s.found_from is.found s.offences is.offences o listed at l.place places e here a v;
    shows = found_shows j s.looks s.found_from is.found s.offences is.offences o listed at l.place e here first v;
  }

-- the place that stores over what stands at the path's end
pub stored_told : (j : Job) (a : ℕ) (r : Reason) (path : List Place) (by shown : Option Place) → IsStoredBefore j (reverse path) by
    → (is_no_command r ≡ true → shown ≡ by) → (is_no_command r ≡ false → shown ≡ None) → IsStoredOver j (No a r) path shown
stored_told j a r path by shown s told other = ((λ e. subst (IsStoredBefore j (reverse path)) (sym (told e)) s), other)

-- the first offence is the verdict
pub first_listed : (os : List Offence) (o : Offence) → Some o ≡ slice_get os 0 → Has os o
first_listed [] o e = absurd (cc)
first_listed (t ∷ os) o e = let is : t ≡ o = cc in inl is

-- a run over the path shows the reason
pub witness : (j : Job) (os : List Offence) (path : List Place) → IsProper j
    → EachPathShows → IsPathOf j (first_verdict os) path → IsWitness j (first_verdict os) path
witness j [] path proper law h = tt
witness j (o ∷ os) path proper law h = (h.last, h.before, h.is, h.path.holds.0, law j h.last h.before o.reason proper h.path.path h.path.holds.1)
