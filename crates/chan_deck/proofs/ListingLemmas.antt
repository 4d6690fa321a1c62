-- What was seen of a job is listed as the job's places are; and rows that are written one after
-- another.
use Rattle.chan_deck.proofs.Names.{[], address_text, ap, append-nil, append_assoc, Appends, AppendsPrefix, arith, codes, flat_map-append, length, prefix_of_more, flat_map, if◌then◌else◌, inl, inr, Job, List, marked_row, None, Option, Place, refl, seen_row, Some, storage_of, verdict_line, ℕ, ◌++◌, ◌∙◌, ◌∷◌, ◌≡◌}
use Rattle.std.proofs.Math.Seq.{take-length}
use Rattle.std.proofs.KnownBytes.{Appends-trans}
use Rattle.ccw_core.proofs.Prefixes.{prefix_after}
use Rattle.ccw_core.specs.Ccw.{Fields}
use Rattle.ccw_core.specs.Storage.{ccw_at}
use Rattle.ckd_core.specs.Command.{lookup}
use Rattle.chan_walk.specs.declared.place.Entry.{Entry}
use Rattle.chan_walk.specs.declared.place.Entry.TheVariants.{Fresh, ChainIn, ChainOut, ChainSearch}
use Rattle.chan_walk.specs.declared.verdict.Verdict.{Verdict}
use Rattle.chan_walk.specs.Look.{Seen, IsLook, AreLooks, places_of_looks}
use Rattle.chan_walk.specs.Place.{is_fresh}
use Rattle.chan_walk.specs.Visit.{begun_at}
use Rattle.chan_deck.specs.Listing.{listing, row_with, command_of, is_named, seen_listing, word_text, way_word, transfer_word, mark_word}

named_by : (e : Entry) (c : Fields) → word_text e (Some c) (if is_fresh e then lookup c.command else None) ≡ word_text e (Some c) (lookup c.command)
named_by Fresh c = refl
named_by ChainIn c = refl
named_by ChainOut c = refl
named_by ChainSearch c = refl

word_seen : (p : Place) (o : Option Fields) → word_text p.entered o (begun_at p o) ≡ word_text p.entered o (command_of o)
word_seen p None = refl
word_seen p (Some c) = named_by p.entered c

row_seen : (j : Job) (v : Verdict) (l : Seen) → IsLook j l → seen_row v l ≡ marked_row (storage_of j) v l.place
row_seen j v l h =
    let p = l.place in
    let marked = is_named v p.address in
    let way = address_text p.address ++ codes " " ++ way_word p.entered ++ codes " " ++ transfer_word p.after_transfer in
    ap (λ x. row_with p l.ccw x marked) h.command
    ∙ ap (λ x. row_with p x (begun_at p x) marked) h.ccw
    ∙ ap (λ w. way ++ codes " " ++ mark_word marked ++ codes " " ++ w ++ 10 ∷ []) (word_seen p (ccw_at (storage_of j) p.address))

rows_seen : (j : Job) (v : Verdict) (ls : List Seen) → AreLooks j ls → flat_map (seen_row v) ls ≡ flat_map (marked_row (storage_of j) v) (places_of_looks ls)
rows_seen j v [] h = refl
rows_seen j v (l ∷ ls) h =
    ap (λ t. t ++ flat_map (seen_row v) ls) (row_seen j v l (h l (inl refl)))
    ∙ ap (λ t. marked_row (storage_of j) v l.place ++ t) (rows_seen j v ls (λ m k. h m (inr k)))

pub listing_seen : (j : Job) (v : Verdict) (ls : List Seen) → AreLooks j ls → seen_listing ls v ≡ listing (storage_of j) (places_of_looks ls) v
listing_seen j v ls h = ap (λ t. t ++ verdict_line v) (rows_seen j v ls h)

-- ---- row after row

-- one row more was written
pub row_added : {X : Type 0} (f : X → List ℕ) (done : List X) (x : X) (a b c : Option (List ℕ))
    → Appends a b (flat_map f done) → Appends b c (f x) → Appends a c (flat_map f (done ++ x ∷ []))
row_added f done x a b c rows row = rw (flat_map-append f done (x ∷ []), append-nil (f x)) (Appends-trans a b c (flat_map f done) (f x) rows row)

-- a row was written in part
pub row_begun : {X : Type 0} (f : X → List ℕ) (done : List X) (x : X) (rest : List X) (a b c : Option (List ℕ))
    → Appends a b (flat_map f done) → AppendsPrefix b c (f x) → AppendsPrefix a c (flat_map f (done ++ x ∷ rest))
row_begun f done x rest a b c rows row =
    rw (flat_map-append f done (x ∷ rest), ← append_assoc)
    (prefix_of_more a c (flat_map f done ++ f x) (flat_map f rest) (prefix_after a b c (flat_map f done) (f x) rows row))

-- what was written whole was begun
pub all_begun : (a b : Option (List ℕ)) (text : List ℕ) → Appends a b text → AppendsPrefix a b text
all_begun a b text written = record { count = length text; within = omega arith; grown = rw take-length written }
