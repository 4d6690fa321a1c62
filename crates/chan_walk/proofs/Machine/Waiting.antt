-- What others do while a program waits leaves all that a yes rests on.
use Rattle.chan_walk.proofs.Names.{extents_of, has_cylinder, IsGuarded, IsSameIn, Job, Moment, subst, sym, true, ◌∙◌, ◌≡◌}
use Rattle.chan_walk.specs.Runs.{Waits}
use Rattle.chan_walk.proofs.Machine.Invariant.{Invariant, IsStageKept, IsStrict}

-- a program waits, and what is guarded stays
abbrev pub WaitsSpared : Job → Moment → Moment → Type 0
WaitsSpared j m n = Waits m n × IsSameIn (IsGuarded j) m.storage n.storage

pub waits_kept : (j : Job) (m n : Moment) → WaitsSpared j m n → Invariant j m.storage m.arm m.mask m.stage → Invariant j n.storage n.arm n.mask n.stage
waits_kept j m n w k = record {
  same_length = w.1.same_length ∙ k.same_length;
  same = λ b g. w.1.same b g ∙ k.same b g;
  inside = subst (λ y. has_cylinder (extents_of j) y ≡ true) (sym w.0.arm) k.inside;
  strict = subst (IsStrict j) (sym w.0.mask) k.strict;
  stage = subst (IsStageKept j) (sym w.0.stage) k.stage;
}
