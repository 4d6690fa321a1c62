-- What C asks about is one job, and what fits it fits it however it is read.
use Rattle.std.proofs.Common.{◌≡◌, ◌∙◌, ◌<◌, ap, sym, subst, true, length, List, ℕ}
use Rattle.ccw_core.specs.declared.areas.Area.{Area}
use Rattle.ccw_core.specs.Areas.{lies_in}
use Rattle.ckd_core.specs.Extents.{has_cylinder}
use Rattle.ckd_core.specs.Mask.{is_at_least}
use Rattle.chan_walk.specs.declared.job.Job.{Job}
use Rattle.chan_needs.specs.declared.layout.Remembered.{Remembered}
use Rattle.chan_needs.specs.Remembered.{HoldsAreas, device_number}
use Rattle.chan_needs.specs.Start.{IsFit}
use Rattle.chan_needs.proofs.Remembering.{same_device}
use Rattle.chanv_c.specs.declared.c_job.CJob.{CJob}
use Rattle.chanv_c.specs.Job.{AreEqualJobs, AskedIsOne, IsAskedJob, NameEqualJobs}

-- one struct of C asks about one job
pub are_alike : (c : CJob) (j k : Job) → IsAskedJob c j → IsAskedJob c k → AreEqualJobs j k
are_alike c j k one other = record {
  storage = one.storage ∙ sym other.storage;
  start = one.start ∙ sym other.start;
  device = same_device j.device k.device (one.device ∙ sym other.device);
  mask = one.mask ∙ sym other.mask;
  extents = one.extents ∙ sym other.extents;
  fetch = one.fetch ∙ sym other.fetch;
  store = one.store ∙ sym other.store;
  limit = one.limit ∙ sym other.limit;
}

-- two that ask about one job name the same
name_alike : (c d : CJob) (j : Job) → IsAskedJob c j → IsAskedJob d j → NameEqualJobs c d
name_alike c d j one other = record {
  storage = sym one.storage ∙ other.storage;
  start = sym one.start ∙ other.start;
  device = sym one.device ∙ other.device;
  mask = sym one.mask ∙ other.mask;
  extents = sym one.extents ∙ other.extents;
  fetch = sym one.fetch ∙ other.fetch;
  store = sym one.store ∙ other.store;
  limit = sym one.limit ∙ other.limit;
}

pub asked_is_one : AskedIsOne
asked_is_one = record { job = are_alike; named = name_alike }

-- a program that fits a job fits another that agrees with it
pub fits_alike : (j k : Job) (p : Remembered) (fs : List Remembered) → AreEqualJobs j k → IsFit j p fs
    → IsFit k p fs
fits_alike j k p fs a fit = record {
  program = record {
    start = sym a.start ∙ fit.program.start;
    device = ap device_number (sym a.device) ∙ fit.program.device;
    storage_len = ap length (sym a.storage) ∙ fit.program.storage_len;
  };
  kept = subst (λ (s : List ℕ). HoldsAreas s p.needs.keep.now p.kept.now) a.storage fit.kept;
  granted = record {
    mask = subst (λ (m : ℕ). is_at_least p.needs.mask m ≡ true) a.mask fit.granted.mask;
    extents = λ c h. subst (λ (es : List (ℕ × ℕ)). has_cylinder es c ≡ true) a.extents (fit.granted.extents c h);
    fetch = λ b h. let lent = fit.granted.fetch b h in
        (subst (λ (s : List ℕ). b < length s) a.storage lent.0, subst (λ (l : List Area). lies_in l b ≡ true) a.fetch lent.1);
    store = λ b h. let lent = fit.granted.store b h in
        (subst (λ (s : List ℕ). b < length s) a.storage lent.0, subst (λ (l : List Area). lies_in l b ≡ true) a.store lent.1);
  };
  compatible = fit.compatible;
}
