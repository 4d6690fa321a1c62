-- The open job as the code makes it.
use Rattle.chan_walk.proofs.Names.{Area, AreOfOneProgram, GrantsMore, has_cylinder, is_at_least, Job, lies_in, List, refl, subst, sym, true, ◌≡◌}
use Rattle.chan_walk.specs.OpenJob.{open_job, IsOpenJob, OpenJobIsOpen}
use Rattle.chan_walk.proofs.Theory.Granting.{turned}
use Rattle.chan_walk.proofs.Theory.Masks.{strict_as_itself}
use Rattle.chan_walk.proofs.Algorithms.Granted.{same_by_grants}

pub from_open : (j k : Job) → AreOfOneProgram j k → AreOfOneProgram (open_job j) k
from_open j k one = record { storage = one.storage; start = one.start; device = one.device }

pub to_open : (j k : Job) → AreOfOneProgram j k → AreOfOneProgram k (open_job j)
to_open j k one = turned (open_job j) k (from_open j k one)

-- the open job grants what the one of the definition grants, and no more
module _ (j k : Job) (o : IsOpenJob j k) where
  strict : is_at_least 0xC0 0xC0 ≡ true
  strict = strict_as_itself 0xC0 refl

  pub open_over : AreOfOneProgram k (open_job j)
  open_over = to_open j k o.program

  pub open_more : GrantsMore k (open_job j)
  open_more = record {
    mask = subst (λ m. is_at_least m 0xC0 ≡ true) (sym o.mask) strict;
    extents = λ n h. subst (λ e. has_cylinder e n ≡ true) o.extents h;
    fetch = λ b l h. subst (λ (a : List Area). lies_in a b ≡ true) o.fetch h;
    store = λ b l h. subst (λ (a : List Area). lies_in a b ≡ true) o.store h;
  }

  pub open_less : GrantsMore (open_job j) k
  open_less = record {
    mask = subst (λ m. is_at_least 0xC0 m ≡ true) (sym o.mask) strict;
    extents = λ n h. subst (λ e. has_cylinder e n ≡ true) (sym o.extents) h;
    fetch = λ b l h. subst (λ (a : List Area). lies_in a b ≡ true) (sym o.fetch) h;
    store = λ b l h. subst (λ (a : List Area). lies_in a b ≡ true) (sym o.store) h;
  }

pub open_job_is_open : OpenJobIsOpen
open_job_is_open j k o = same_by_grants k (open_job j) (open_over j k o) (open_more j k o) (open_less j k o)
