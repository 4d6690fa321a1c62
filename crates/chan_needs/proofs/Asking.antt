-- Where the program was asked once, its answer serves for every job and every storage that keeps what it is to keep.
use Rattle.chan_needs.proofs.Names.{AreOfOneProgram, from_open, Grants, IsVerdict, Job, open_job, refl, same_under_yes, with_storage, Yes, yes_by_guarded}
use Rattle.chan_needs.specs.Needs.{AskedOnce, SafeIsGranted}
use Rattle.chan_walk.proofs.Machine.Exact.{safe_is_yes}
use Rattle.chan_walk.proofs.Machine.Yes.{yes_is_safe}
use Rattle.chan_needs.proofs.Needing.{granted_yes, least_job}

-- k over the storage of j has a yes, and what it guards is what is kept
pub asked_once : AskedOnce
asked_once j k h v grants =
    let same = same_under_yes (open_job j) there (from_open j there one) v yes_there in
    yes_by_guarded there k.storage yes_there (record { same_length = h.storage.same_length; same = λ b g. h.storage.same b ((same.1 b).1 g) })
  where
    there : Job
    there = with_storage k j.storage

    one : AreOfOneProgram j there
    one = record { storage = refl; start = h.start; device = h.device }

    granted : Grants j there
    granted = record { mask = grants.mask; extents = grants.extents; fetch = grants.fetch; store = grants.store }

    yes_there : IsVerdict there Yes
    yes_there = granted_yes j there one granted v

pub safe_is_granted : SafeIsGranted
safe_is_granted j k one proper = (
  λ s. (least_job j k one proper).0 (safe_is_yes k proper s.0 s.1),
  λ g. yes_is_safe k proper.2 ((least_job j k one proper).1 g),
)
