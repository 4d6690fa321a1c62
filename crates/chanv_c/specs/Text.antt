-- What the text of an explanation to C promises.
use Rattle.std.specs.Prelude.{◌≡◌, ◌<◌, ℕ, List, ◌++◌, drop, length, string_bytes}
use Rattle.chan_walk.specs.declared.job.Job.{Job}
use Rattle.chan_walk.specs.declared.offence.Offence.{Offence}
use Rattle.chan_walk.specs.declared.verdict.Verdict.{Verdict}
use Rattle.chan_walk.specs.declared.verdict.Verdict.TheVariants.{Yes, No}
use Rattle.chan_why.specs.declared.witness.Witness.{Witness}
use Rattle.chan_walk.specs.Answers.{IsAnswer}
use Rattle.chan_why.specs.Witness.{IsWitnessOf}
use Rattle.chan_walk.specs.Offence.{AreOffences, first_verdict}
use Rattle.chan_deck.specs.Explanation.{IsExplanationText}
use Rattle.chanv_c.specs.declared.c_job.CJob.{CJob}
use Rattle.chanv_c.specs.declared.text.VerdictText.{VerdictText}
use Rattle.chanv_c.specs.Job.{IsAskedJob}
use Rattle.chanv_c.specs.declared.codes.TheConstants as codes

-- the verdict on a job, with all that an answer promises, and the text that explains it: of all
-- offences, and of what shows the first of them
pub record IsTextOn (job : Job) (t : VerdictText) : Type 0 where
  pub answer : IsAnswer job t.verdict
  pub offences : List Offence
  pub offending : AreOffences job offences
  pub first : t.verdict ≡ first_verdict offences
  pub witness : Witness
  pub shows : IsWitnessOf job t.verdict witness
  pub text : IsExplanationText job offences witness (string_bytes t.text)

-- it is on the job that C asks about
abbrev pub IsText : CJob → VerdictText → Type 0
IsText c t = (job : Job) × IsAskedJob c job × IsTextOn job t

-- the number of a verdict in the header
abbrev pub verdict_code : Verdict → ℕ
verdict_code Yes = codes.YES
verdict_code (No a r) = codes.NO

-- the text stands first, so many bytes long; what stood behind it stands there still
pub record IsWrittenWhole (t : VerdictText) (count : ℕ) (old new : List ℕ) : Type 0 where
  pub count_is : count ≡ length (string_bytes t.text)
  pub stands : new ≡ string_bytes t.text ++ drop (length (string_bytes t.text)) old

-- the text has so many bytes, more than there is room for
abbrev pub IsTextTooLong : VerdictText → ℕ → List ℕ → Type 0
IsTextTooLong t count buffer =
    (count ≡ length (string_bytes t.text)) × (length buffer < count)
