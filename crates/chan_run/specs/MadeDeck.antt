-- What an image of storage comes to: its deck on one writer, and what is said of it on another.
use Rattle.std.specs.Prelude.{◌≡◌, ◌⊎◌, ◌++◌, ℕ, Bool, List, Option, None, Some, [], false, true}
use Rattle.chan_run.specs.declared.failure.Failure.{Failure}
use Rattle.chan_run.specs.declared.failure.Failure.TheVariants as failures
use Rattle.chan_args.specs.declared.image_options.ImageOptions.{ImageOptions}
use Rattle.chan_run.specs.declared.outcome.Outcome.{Outcome}
use Rattle.chan_run.specs.declared.outcome.Outcome.TheVariants.{Done, Failed, NoJob}
use Rattle.chan_run.specs.declared.response.Response.{Response}
use Rattle.chan_run.specs.Image.{IsDeckText, IsNoDeck, IsNoImage, IsWholeImage}
use Rattle.chan_deck.specs.ImageNote.{deck_note}
use Rattle.chan_run.specs.NoJob.{IsNoJobText}
use Rattle.chan_run.specs.Response.{IsDelivered, IsResponseWithoutOutput, IsWantedAdvice}
use Rattle.chan_run.specs.Response.{advice_in}

-- this text is why no job will do, with notes on the image, of which tests hold the texts
abbrev pub IsNoJobAdvice : Option (List ℕ) → ImageOptions → List ℕ → Option (List ℕ) → Type 0
IsNoJobAdvice name o image None = ⊥
IsNoJobAdvice name o image (Some text) =
    (why : List ℕ) × (notes : List ℕ) × IsNoJobText name o image why × (text ≡ why ++ notes)

-- too many places are reachable, so the limit is told
abbrev pub is_past_limit : Outcome → Bool
is_past_limit (Failed failures.TooManyPlaces) = true
is_past_limit _ = false

-- what an image comes to, with the output and the advice: its deck, or why there is none
abbrev pub IsMadeDeck : Option (List ℕ) → ImageOptions → List ℕ → Outcome → List ℕ
    → Option (List ℕ) → Type 0
IsMadeDeck name o image Done output advice = IsDeckText o image output
IsMadeDeck name o image (NoJob a r) output advice =
    IsNoDeck o image (NoJob a r) × (output ≡ []) × IsNoJobAdvice name o image advice
IsMadeDeck name o image end output advice =
    IsNoDeck o image end × (output ≡ []) × IsWantedAdvice (is_past_limit end) advice

-- the answer to an image: that, and a note if it is a deck
pub record IsImageResponse (name : Option (List ℕ)) (o : ImageOptions) (image : List ℕ)
    (r : Response) : Type 0 where
  pub answer : IsMadeDeck name o image r.outcome r.output.items (advice_in r.advice)
  pub note : r.note.now ≡ deck_note image

-- the answer to an input for an image: to its image, or why that wasn't read
abbrev pub IsImageInputResponse : Option (List ℕ) → ImageOptions → Option (List ℕ) → Option (List ℕ)
    → Response → Type 0
IsImageInputResponse name o old new r =
    ((image : List ℕ) × IsWholeImage o old new image × IsImageResponse name o image r)
    ⊎ ((failure : Failure) × IsNoImage o old new failure
    × IsResponseWithoutOutput (Failed failure) [] r)

-- what an input for an image comes to: its answer was delivered
abbrev pub IsImageDelivered : Option (List ℕ) → ImageOptions → Option (List ℕ) → Option (List ℕ)
    → Option (List ℕ) → Option (List ℕ) → Option (List ℕ) → Option (List ℕ) → Bool → Outcome
    → Type 0
IsImageDelivered name o old_in new_in old new old_errors new_errors failed end =
    (r : Response) × IsImageInputResponse name o old_in new_in r
    × IsDelivered name r old new old_errors new_errors failed end
