-- What an action asks for of a job and its verdict.
use Rattle.std.specs.Prelude.{◌≡◌, ◌++◌, ◌∷◌, ◌==◌, ℕ, Bool, true, false, List, [], Option, None}
use Rattle.std.specs.Prelude.{Some, if◌then◌else◌}
use Rattle.std.specs.Io.KnownBytes.{Appends}
use Rattle.chan_deck.specs.DeckValue.{DeckValue, Spells, limit_of}
use Rattle.chan_deck.specs.Explanation.{IsExplained}
use Rattle.chan_deck.specs.Graph.{IsPictureOf}
use Rattle.chan_deck.specs.Listing.{listing}
use Rattle.chan_deck.specs.Needs.{in_six_digits, needs_text}
use Rattle.chan_deck.specs.PartsValue.{storage_with, version_with}
use Rattle.chan_deck.specs.VerdictLine.{verdict_line}
use Rattle.chan_walk.specs.declared.job.Job.{Job}
use Rattle.chan_walk.specs.declared.place.Place.{Place}
use Rattle.chan_walk.specs.declared.verdict.Verdict.{Verdict}
use Rattle.chan_walk.specs.declared.verdict.Verdict.TheVariants.{Yes, No}
use Rattle.chan_walk.specs.Limit.{usual_limit}
use Rattle.chan_walk.specs.Places.{AreReachable}
use Rattle.chan_walk.specs.Verdict.{IsVerdict}
use Rattle.chan_walk.specs.Job.{extents_of, fetch_of, storage_of, store_of}
use Rattle.chan_walk.specs.OpenJob.{AreOfOneProgram, IsOpenJob}
use Rattle.chan_needs.specs.Listed.{AreNeeds, Listed}
use Rattle.chan_args.specs.declared.action.Action.{Action}
use Rattle.chan_args.specs.declared.action.Action.TheVariants as actions
use Rattle.chan_args.specs.declared.action.Asked.{Asked}
use Rattle.chan_args.specs.declared.action.Asked.TheVariants as tells
use Rattle.chan_run.specs.Name.{heading_of, name_before, name_of}
use Rattle.chan_run.specs.declared.name.Naming.{Naming}
use Rattle.ckd_core.specs.Extents.{all_cylinders}

-- the job is that of the deck, its limit on places with it
pub record IsDeckJob (d : DeckValue) (j : Job) : Type 0 where
  pub storage : storage_of j ≡ d.storage
  pub start : j.start ≡ d.start
  pub device : j.device ≡ d.device
  pub mask : j.mask ≡ d.mask
  pub limit : j.limit ≡ limit_of d.version
  pub extents : extents_of j ≡ d.extents
  pub fetch : fetch_of j ≡ d.fetch
  pub store : store_of j ≡ d.store

-- the text spells a deck, and this holds of the deck's job
pub record HoldsOfDeckJob (t : List ℕ) (Holds : Job → Type 0) : Type 0 where
  pub deck : DeckValue
  pub spelled : Spells t deck
  pub job : Job
  pub of_deck : IsDeckJob deck job
  pub holds : Holds job

-- the address that is asked about, if one is
abbrev pub asked_by : Asked → Option ℕ
asked_by (tells.At a) = Some a
asked_by told = None

-- a deck, but for its job, which grants just what is needed; it has one extent or more
abbrev pub extents_for : List (ℕ × ℕ) → List (ℕ × ℕ)
extents_for [] = all_cylinders
extents_for (run ∷ runs) = run ∷ runs

abbrev pub granting_just : DeckValue → Listed → DeckValue
granting_just d n = record d {
  mask = n.mask;
  extents = extents_for n.extents;
  fetch = in_six_digits n.fetch;
  store = in_six_digits n.store;
}

-- a limit that isn't the usual one, which a deck has to say
abbrev pub unusual_limit : ℕ → Option ℕ
unusual_limit limit = if limit == usual_limit then None else Some limit

-- the deck of the job, with zeros behind its storage up to a multiple of 8
abbrev pub deck_of_job : Job → DeckValue
deck_of_job j =
    record {
      version = version_with (unusual_limit j.limit);
      device = j.device;
      mask = j.mask;
      start = j.start;
      extents = extents_of j;
      fetch = [];
      store = [];
      storage = storage_with 0 (storage_of j);
    }

-- the text spells the deck of the job's program with its least job, under which the verdict is yes
pub record IsLeastText (j : Job) (text : List ℕ) : Type 0 where
  pub needed : Listed
  pub needs : (k : Job) → AreOfOneProgram k j → AreNeeds k needed
  pub spelled : Spells text (granting_just (deck_of_job j) needed)
  pub yes : storage_with 0 (storage_of j) ≡ storage_of j → (k : Job)
      → IsDeckJob (granting_just (deck_of_job j) needed) k → IsVerdict k Yes

-- this says what the job's program needs, whichever job of it is asked, and what it keeps
abbrev pub IsNeedsText : Job → List ℕ → Type 0
IsNeedsText j text =
    (n : Listed) × ((k : Job) → AreOfOneProgram k j → AreNeeds k n) × (text ≡ needs_text n)

-- what the job's program needs, or where the verdict is no, the explanation; or its deck with the
-- least job, and nothing if there is none
abbrev pub IsNeeded : Bool → Job → Verdict → List ℕ → Type 0
IsNeeded false j Yes text = IsNeedsText j text
IsNeeded true j Yes text = IsLeastText j text
IsNeeded false j (No a r) text = IsExplained None j (No a r) text
IsNeeded true j (No a r) text = text ≡ []

-- what an action asks for of a job and its verdict: the verdict's line, the listing of the
-- reachable places or a wide one, whose rows tests hold, the explanation, a picture, or what is
-- needed; before a verdict and its explanation stands the name of the input, where it has one, and
-- over a listing and over what is needed that of one of several inputs
abbrev pub IsActionOutput : Naming → Action → Job → Verdict → List ℕ → Type 0
IsActionOutput n actions.Verify j v text = text ≡ name_before (name_of n) true ++ verdict_line v
IsActionOutput n (actions.List false) j v text =
    (ps : List Place) × AreReachable j ps × (text ≡ heading_of n ++ listing (storage_of j) ps v)
IsActionOutput n (actions.List true) j v text =
    (rows : List ℕ) × (text ≡ heading_of n ++ (rows ++ verdict_line v))
IsActionOutput n (actions.Range start len) j v text = Unit {0}
IsActionOutput n (actions.Why told) j v text =
    (why : List ℕ) × IsExplained (asked_by told) j v why
    × (text ≡ name_before (name_of n) true ++ why)
IsActionOutput n actions.Graph j v text = IsPictureOf (name_of n) v text
IsActionOutput n (actions.Needs deck) j v text =
    (needed : List ℕ) × IsNeeded deck j v needed × (text ≡ heading_of n ++ needed)

-- nothing was written, where the writer tells what it holds
abbrev pub IsUnwritten : Option (List ℕ) → Option (List ℕ) → Type 0
IsUnwritten old new = Appends old new []

-- the job that an action judges: for what is needed the open job of the program, else the job
-- itself
abbrev pub ActionJudges : Action → Job → Job → Type 0
ActionJudges (actions.Needs deck) j k = IsOpenJob j k
ActionJudges a j k = k ≡ j
