-- What is written of an image of storage and the options with which a deck is made of it.
use Rattle.std.specs.Prelude.{ℕ, ◌+◌, ◌-◌, ◌<◌, ◌≤◌, ◌≡◌, ◌⊎◌, List, [], ◌∷◌, ◌++◌, length}
use Rattle.std.specs.Prelude.{Option, Some, None, replicate, unwrap_or}
use Rattle.chan_deck.specs.DeckValue.{DeckValue, Spells, limit_of}
use Rattle.ccw_core.specs.declared.areas.Area.{Area}
use Rattle.chan_args.specs.declared.image_options.RequestedJob.{RequestedJob}
use Rattle.chan_args.specs.declared.image_options.RequestedJob.TheVariants as jobs
use Rattle.chan_deck.specs.Needs.{in_six_digits}
use Rattle.chan_deck.specs.PartsValue.{storage_with, version_with}
use Rattle.chan_walk.specs.declared.job.Job.{Job}
use Rattle.chan_walk.specs.declared.verdict.Verdict.TheVariants.{Yes, No}
use Rattle.chan_walk.specs.Answers.{IsAnswer}
use Rattle.chan_walk.specs.Places.{HasMoreThan}
use Rattle.chan_walk.specs.Job.{storage_of}
use Rattle.chan_needs.specs.Listed.{AreNeeds, Listed}
use Rattle.chan_walk.specs.OpenJob.{IsOpenJob}
use Rattle.chan_walk.specs.Verdict.{IsVerdict}
use Rattle.chan_run.specs.Input.{GaveAll, GaveOut, GaveTooMuch}
use Rattle.chan_run.specs.Output.{IsDeckJob, granting_just}
use Rattle.chan_run.specs.declared.failure.Failure.{Failure}
use Rattle.chan_run.specs.declared.failure.Failure.TheVariants as failures
use Rattle.chan_run.specs.declared.outcome.Outcome.{Outcome}
use Rattle.chan_run.specs.declared.outcome.Outcome.TheVariants.{Failed, NoJob}
use Rattle.chan_args.specs.declared.image_options.ImageOptions.{ImageOptions}
use Rattle.ckd_core.specs.Extents.{all_cylinders}
use Rattle.ccw_core.specs.declared.ccw.TheConstants.{STORAGE_LIMIT}

-- the deck that the options and an image of storage make
abbrev pub deck_of : ImageOptions → List ℕ → DeckValue
deck_of o image =
    record {
      version = version_with o.limit;
      device = o.device;
      mask = o.mask;
      start = o.start;
      extents = o.extents;
      fetch = o.fetch.items;
      store = o.store.items;
      storage = storage_with o.at image;
    }

-- the job is of the program that begins at an address in an image, with the limit of the options
pub record IsProgramAt (o : ImageOptions) (image : List ℕ) (a : ℕ) (j : Job) : Type 0 where
  pub storage : storage_of j ≡ storage_with o.at image
  pub start : j.start ≡ a
  pub device : j.device ≡ o.device
  pub limit : j.limit ≡ limit_of (version_with o.limit)

-- and it begins where the options say
abbrev pub IsProgramIn : ImageOptions → List ℕ → Job → Type 0
IsProgramIn o image j = IsProgramAt o image o.start j

-- this holds of that program's open job
pub record HoldsOfOpenJob (o : ImageOptions) (image : List ℕ) (Holds : Job → Type 0) : Type 0 where
  pub job : Job
  pub of_program : IsProgramIn o image job
  pub opened : Job
  pub is_open : IsOpenJob job opened
  pub holds : Holds opened

-- the deck that the options and an image make, but for its job, which grants just what is needed
abbrev pub least_deck : ImageOptions → List ℕ → Listed → DeckValue
least_deck o image n = granting_just (deck_of o image) n

-- so the deck is, and the verdict on its job is yes
pub record IsLeastDeck (o : ImageOptions) (image : List ℕ) (d : DeckValue) : Type 0 where
  pub needed : Listed
  pub needs : (j : Job) → IsProgramIn o image j → AreNeeds j needed
  pub is : d ≡ least_deck o image needed
  pub yes : (j : Job) → IsDeckJob d j → IsVerdict j Yes

-- all of some storage as areas of a deck
abbrev pub areas_over : List ℕ → List Area
areas_over storage = in_six_digits ((record { start = 0; len = length storage }) ∷ [])

-- the deck that the options and an image make, but for its job, which grants everything: no mask
-- inhibits anything, the extents are all cylinders, and all of storage is lent
abbrev pub open_deck : ImageOptions → List ℕ → DeckValue
open_deck o image = record (deck_of o image) {
  mask = 0xC0;
  extents = all_cylinders;
  fetch = areas_over (storage_with o.at image);
  store = areas_over (storage_with o.at image);
}

-- the deck that is asked for: its job is what the options say, or the least, or the open one
abbrev pub IsRequestedDeck : RequestedJob → ImageOptions → List ℕ → DeckValue → Type 0
IsRequestedDeck jobs.Named o image d = d ≡ deck_of o image
IsRequestedDeck jobs.Least o image d = IsLeastDeck o image d
IsRequestedDeck jobs.Open o image d = d ≡ open_deck o image

-- from the image's address on there is room for so many bytes: to the size of storage that was
-- asked for, or the largest
abbrev pub IsImageRoom : ImageOptions → ℕ → Type 0
IsImageRoom o room = o.at + room ≡ unwrap_or o.size STORAGE_LIMIT

-- an image with zeros behind it, where a size of storage was asked for that leaves so much room
abbrev pub filled : Option ℕ → ℕ → List ℕ → List ℕ
filled None room image = image
filled (Some size) room image = image ++ replicate (room - length image) 0

-- the whole input is an image for which there is so much room
pub record IsImage (o : ImageOptions) (room : ℕ) (old new : Option (List ℕ)) (image : List ℕ)
    : Type 0 where
  pub gave : GaveAll old new image
  pub is_room : IsImageRoom o room
  pub short : length image ≤ room

-- why nothing is needed of a job: none will do, too many places are reachable, or memory ran out
abbrev pub HasNoNeeds : ImageOptions → List ℕ → Outcome → Type 0
HasNoNeeds o image (NoJob a r) = HoldsOfOpenJob o image (λ k. IsAnswer k (No a r))
HasNoNeeds o image (Failed failures.TooManyPlaces) =
    HoldsOfOpenJob o image (λ k. HasMoreThan k k.limit)
HasNoNeeds o image (Failed failures.OutOfMemory) = Unit {0}
HasNoNeeds o image _ = ⊥

-- the text is that of the deck that is asked for
abbrev pub IsDeckText : ImageOptions → List ℕ → List ℕ → Type 0
IsDeckText o image text = (d : DeckValue) × IsRequestedDeck o.job o image d × Spells text d

-- why there is no such deck; it was the least job that was asked for, unless memory ran out
abbrev pub IsNoDeck : ImageOptions → List ℕ → Outcome → Type 0
IsNoDeck o image (Failed failures.OutOfMemory) = Unit {0}
IsNoDeck o image end = (o.job ≡ jobs.Least) × HasNoNeeds o image end

-- why no image was read; nothing was written then
abbrev pub IsNoImage : ImageOptions → Option (List ℕ) → Option (List ℕ) → Failure → Type 0
IsNoImage o old new failures.ImageTooLong =
    (o.size ≡ None) × (room : ℕ) × IsImageRoom o room × GaveTooMuch room old new
IsNoImage o old new failures.ImagePastStorage =
    (size : ℕ) × (o.size ≡ Some size)
    × ((size < o.at) ⊎ ((room : ℕ) × IsImageRoom o room × GaveTooMuch room old new))
IsNoImage o old new failures.ReadFailed = (room : ℕ) × IsImageRoom o room × GaveOut room old new
IsNoImage o old new failures.OutOfMemory = Unit {0}
IsNoImage o old new _ = ⊥

-- the input was read to its end, and this is its image, with the zeros that were asked for
pub record IsWholeImage (o : ImageOptions) (old new : Option (List ℕ)) (whole : List ℕ)
    : Type 0 where
  pub image : List ℕ
  pub room : ℕ
  pub input : IsImage o room old new image
  pub is : whole ≡ filled o.size room image
