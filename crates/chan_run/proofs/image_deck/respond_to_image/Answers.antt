use Rattle.std.proofs.Common.{string_bytes}
use Rattle.chan_walk.specs.Answers.{IsAnswer}
use Rattle.chan_walk.specs.declared.verdict.Verdict.TheVariants.{No}
use Rattle.chan_run.specs.NoJob.{IsExplainedOpenly}
use Rattle.chan_run.proofs.LeastLemmas.{first_holds, second_holds}
use Rattle.chan_run.proofs.image_deck.respond_to_image.Goals as goal

pub why_no_job-requires : goal.why_no_job-requires
why_no_job-requires c =
    let no = c.in-Err-NoJob in
    let none = rw no.field-0-is at no.ensures.none in
    rw c.as_str.ensures.value (second_holds _ _ (λ k. IsAnswer k (No no.address no.reason)) (λ k. IsExplainedOpenly k (string_bytes no.why)) none.1)

pub returns-in-Ok-why_no_job-clause-answer : goal.returns-in-Ok-why_no_job-clause-answer
returns-in-Ok-why_no_job-clause-answer c =
    let no = c.in-Err-NoJob in
    let none = rw no.field-0-is at no.ensures.none in
    let answer = first_holds _ _ (λ k. IsAnswer k (No no.address no.reason)) (λ k. IsExplainedOpenly k (string_bytes no.why)) none.1 in
    record {
      answer = ((none.0, answer), c.new.ensures.items, c.in-Ok-why_no_job.ensures);
      note = c.deck_note-note.ensures;
    }
