-- What is found of a program over a copy of the bytes that it keeps.
use Rattle.chan_walk.specs.declared.job.Job.{Job}
use Rattle.chan_walk.specs.declared.verdict.Verdict.{Verdict}
use Rattle.chan_walk.specs.Answers.{IsAnswer}
use Rattle.chan_walk.specs.OpenJob.{open_job}
use Rattle.chan_walk.specs.Verdict.{IsVerdict}
use Rattle.std.proofs.Common.{◌↔◌, ◌∙◌, ◌≡◌, ℕ, List, ap, drop, length, subst, sym}
use Rattle.ccw_core.specs.declared.areas.Area.{Area}
use Rattle.chan_walk.specs.Job.{storage_of}
use Rattle.chan_why.specs.declared.remarks.Remarks.{Remarks}
use Rattle.chan_needs.specs.Needs.{KeepsProgram}
use Rattle.chan_needs.specs.Remembered.{HoldsAreas}
use Rattle.chan_needs.specs.Listed.{Listed}
use Rattle.chan_needs.proofs.Remembering.{same_device, same_held}
use Rattle.chan_needs.proofs.Staying.{needs_stay}
use Rattle.chanv_c.specs.declared.c_job.CJob.{CJob}
use Rattle.chanv_c.specs.Needs.{AreNeedsOf, AreNeedsWhereHeld, IsJudgedOpenly, IsOpenJobFor, with_areas}

-- the needs over one storage are those over each that is as long and holds the kept bytes
pub where_held : (c : CJob) (n : Listed) (r : Remarks) (kept : List ℕ)
    → AreNeedsOf c n r → HoldsAreas c.storage.now n.keep kept → AreNeedsWhereHeld c n kept
where_held c n r kept h held k start device len holds =
    let j = h.judged.is_open.job in
    let asked = h.judged.is_open.asked in
    let there : HoldsAreas (storage_of j) n.keep kept = subst (λ (s : List ℕ). HoldsAreas s n.keep kept) (sym asked.storage) held in
    let keeps : KeepsProgram j k = record {
      storage = record {
        same_length = len ∙ sym (ap (λ (s : List ℕ). length s) asked.storage);
        same = λ b is_kept. same_held (storage_of j) (storage_of k) n.keep kept b there holds ((h.needs.keep.bytes b).1 is_kept);
      };
      start = asked.start ∙ sym start;
      device = same_device j.device k.device (asked.device ∙ sym device);
    } in
    needs_stay j k n keeps h.needs

-- the verdict of the survey of the open job
abbrev pub judged_openly : (c : CJob) (opened : Job) (v w : Verdict) (is : IsOpenJobFor c opened)
    → ((v : Verdict) → IsVerdict opened v ↔ IsVerdict (open_job is.job) v) → v ≡ w → IsAnswer opened w → IsJudgedOpenly c v
judged_openly c opened v w is verdict same answer =
    let told = subst (IsAnswer opened) (sym same) answer in
    record { opened = opened; is_open = is; answer = told; verdict = (verdict v).0 told.verdict }

-- ---- copying

-- what is left to copy ends with all areas copied
pub record AreCopied (s : List ℕ) (areas : List Area) (i : ℕ) (old new : List ℕ) : Type 0 where
  pub same_length : length new ≡ length old
  pub rest : with_areas s (drop i areas) new ≡ with_areas s areas old
