-- Programs that may run side by side.
use Rattle.chan_needs.proofs.Names.{AreOfOneProgram, clear_stands, data_under_yes, IsGuarded, IsKept, IsNeededForStoring, IsProper, IsStoredInto, IsVerdict, Job, MayStoreOver, open_job, same_under_yes, stores, to_open, Yes, yes_clear, ℕ, ◌↔◌}
use Rattle.chan_needs.specs.Listed.{CompatibleByJobs}
use Rattle.chan_needs.proofs.Needing.{yes_opens}

-- under a yes a program stores over the bytes that it needs for storing, and guards those that it keeps
module _ (j k : Job) (one : AreOfOneProgram j k) (proper : IsProper k) (v : IsVerdict k Yes) where
  there : AreOfOneProgram k (open_job j)
  there = to_open j k one

  granted : IsVerdict (open_job j) Yes
  granted = yes_opens j k one proper v

  stored : (b : ℕ) → IsStoredInto k b ↔ IsNeededForStoring j b
  stored = data_under_yes k (open_job j) there v granted stores

  pub needed_over : (P : ℕ → Type 0) → MayStoreOver k P → (b : ℕ) × IsNeededForStoring j b × P b
  needed_over P (p, r, o) = (
    o.at,
    (stored o.at).0 (record { place = p; reached = r; passes = (clear_stands k p (yes_clear k v p r), o.stores); from = o.from; below = o.below }),
    o.holds,
  )

  store_over : (P : ℕ → Type 0) (b : ℕ) → IsNeededForStoring j b → P b → MayStoreOver k P
  store_over P b n h =
      let d = (stored b).1 n in
      (d.place, d.reached, record { stores = d.passes.1; at = b; from = d.from; below = d.below; holds = h })

  kept : (b : ℕ) → IsGuarded k b ↔ IsKept j b
  kept = (same_under_yes k (open_job j) there v granted).1

pub compatible_by_jobs : CompatibleByJobs
compatible_by_jobs j k one other first second proper right v w = (
  (λ may. record {
    one = v;
    other = w;
    one_spares = λ m. let n = needed_over j one first proper v (IsGuarded other) m in may.one_spares n.0 n.1 ((kept k other second right w n.0).0 n.2);
    other_spares = λ m. let n = needed_over k other second right w (IsGuarded one) m in may.other_spares n.0 n.1 ((kept j one first proper v n.0).0 n.2);
  }),
  λ compatible. record {
    one_spares = λ b n h. compatible.one_spares (store_over j one first proper v (IsGuarded other) b n ((kept k other second right w b).1 h));
    other_spares = λ b n h. compatible.other_spares (store_over k other second right w (IsGuarded one) b n ((kept j one first proper v b).1 h));
  },
)
