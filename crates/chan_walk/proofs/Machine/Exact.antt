-- Exactness: a job that is safe in every run and steady has the verdict yes.
use Rattle.chan_walk.proofs.Names.{[], inl, inr, IsGuarded, IsProper, IsRunAmong, IsSpared, Job, List, Moment, ℕ, ◌∷◌}
use Rattle.chan_walk.specs.Alarm.{SafeIsYes, IsUsed, IsUsedIn, GuardedIsUsed, StaysSafe, HeadlineAloneIsEnough}
use Rattle.chan_walk.proofs.Machine.Alarm.{shows, ccw_used, argument_used}
use Rattle.chan_walk.proofs.Machine.Harm.{harmless, shown_harms}
use Rattle.chan_walk.proofs.Machine.Yes.{each_ok, used_guarded, yes_is_safe_among, alone}

-- no run of a safe and steady job shows a reason
pub safe_is_yes : SafeIsYes
safe_is_yes j proper safe steady p r m o = harmless j safe steady (shown_harms j p m.0 r (shows j proper p m r o))

-- ---- among others

guarded_used : (j : Job) → IsProper j → (b : ℕ) → IsGuarded j b → IsUsed j b
guarded_used j proper b (inl g) = let u = ccw_used j proper b g in (u.0, u.1, inl u.2)
guarded_used j proper b (inr g) = let u = argument_used j proper b g in (u.0, u.1, inr u.2)

pub guarded_is_used : GuardedIsUsed
guarded_is_used j proper v b = ((guarded_used j proper b, λ u. among (u.0, alone _ j u.0 u.1, u.2)), among)
  where
    among : IsUsedIn (IsSpared j) b → IsGuarded j b
    among u = used_guarded j v u.0 b (each_ok j v u.0 u.1) u.2

-- others that spare more are among those that spare less
pub sparing_less : (P Q : ℕ → Type 0) → ((b : ℕ) → Q b → P b) → (j : Job) (ms : List Moment) → IsRunAmong P j ms → IsRunAmong Q j ms
sparing_less P Q f j [] r = absurd r
sparing_less P Q f j (m ∷ []) r = r
sparing_less P Q f j (n ∷ m ∷ ms) (r, inl w) = (sparing_less P Q f j (m ∷ ms) r, inl w)
sparing_less P Q f j (n ∷ m ∷ ms) (r, inr w) = (
  sparing_less P Q f j (m ∷ ms) r,
  inr (w.0, record { same_length = w.1.same_length; same = λ b h. w.1.same b (f b h) }),
)

pub stays_safe : StaysSafe
stays_safe j proper safe steady =
    let among = yes_is_safe_among j proper.2 (safe_is_yes j proper safe steady) in
    let spared = sparing_less (IsUsed j) (IsGuarded j) (guarded_used j proper) j in
    (λ run r. among.0 run (spared run r), λ used run b r u s. among.1 used run b (spared used r) u (spared run s))

pub headline_alone_is_enough : HeadlineAloneIsEnough
headline_alone_is_enough answer h j proper e = let s = h j proper e in safe_is_yes j proper s.0 s.1
