-- Where a program goes on after a place (System/360 Principles of Operation, A22-6821; that only a
-- search gives status modifier: component descriptions of the 2841 with the 2311, and of the 2314).
use Rattle.std.specs.Prelude.{◌≡◌, ◌+◌, Bool, true, false, not, ◌&&◌, Option, None, Some, ◌⊎◌}
use Rattle.std.specs.Prelude.{if◌then◌else◌, option_map}
use Rattle.ccw_core.specs.Ccw.{Fields, is_transfer, chains_data, chains_command}
use Rattle.ckd_core.specs.declared.command.Kind.{Kind}
use Rattle.ckd_core.specs.declared.command.Kind.TheVariants.{Idle, Inward, Outward, Search}
use Rattle.chan_walk.specs.declared.job.Job.{Job}
use Rattle.chan_walk.specs.declared.place.Entry.{Entry}
use Rattle.chan_walk.specs.declared.place.Entry.TheVariants.{Fresh, ChainIn, ChainOut, ChainSearch}
use Rattle.chan_walk.specs.declared.place.Place.{Place}
use Rattle.chan_walk.specs.declared.reason.Reason.{Reason}
use Rattle.chan_walk.specs.declared.successor.Next.{Next}
use Rattle.chan_walk.specs.Fault.{HasFault, IsClear, kind_of}
use Rattle.chan_walk.specs.Place.{straight_to, transferred_to, ccw_of}

-- how data chaining enters the next CCW; an operation that moves no data never goes on by it
abbrev pub chained : Kind → Option Entry
chained Idle = None
chained Inward = Some ChainIn
chained Outward = Some ChainOut
chained Search = Some ChainSearch

-- a command of the kind may end with status modifier
abbrev pub gives_modifier : Kind → Bool
gives_modifier Search = true
gives_modifier Idle = false
gives_modifier Inward = false
gives_modifier Outward = false

-- the place after p, whose CCW is c and whose kind is k: a transfer's target, else the next CCW
-- under data or command chaining
abbrev pub next_of : Place → Fields → Kind → Option Place
next_of p c k =
    if is_transfer c then Some (transferred_to c.address p.entered)
    else if chains_data c then option_map (straight_to (p.address + 8)) (chained k)
    else if chains_command c then Some (straight_to (p.address + 8) Fresh)
    else None

-- the place skipped to, under command chaining after status modifier
abbrev pub skip_of : Place → Fields → Kind → Option Place
skip_of p c k =
    if not (is_transfer c) && not (chains_data c) && chains_command c && gives_modifier k
    then Some (straight_to (p.address + 16) Fresh)
    else None

-- q is the next place after p, or the one skipped to
abbrev pub Successor : Job → Place → Place → Type 0
Successor j p q =
    (next_of p (ccw_of j p) (kind_of p.entered (ccw_of j p)) ≡ Some q)
    ⊎ (skip_of p (ccw_of j p) (kind_of p.entered (ccw_of j p)) ≡ Some q)

-- the successors of p as an answer: the two of its CCW where p has no own fault, and none where it
-- has one
pub record AreSuccessors (j : Job) (p : Place) (n : Next) : Type 0 where
  pub next : IsClear j p → n.next ≡ next_of p (ccw_of j p) (kind_of p.entered (ccw_of j p))
  pub skip : IsClear j p → n.skip ≡ skip_of p (ccw_of j p) (kind_of p.entered (ccw_of j p))
  pub faulty : (r : Reason) → HasFault j p (Some r) → (n.next ≡ None) × (n.skip ≡ None)
