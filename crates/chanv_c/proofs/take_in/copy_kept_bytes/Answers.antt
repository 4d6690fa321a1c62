-- A job without a fault has no storage that is too large, and what is kept lies in it and has room.
use Rattle.std.proofs.Common.{◌≡◌, ◌≤◌, ◌<◌, ◌∙◌, ◌⊎◌, ℕ, List, length, inl, inr, arith, subst, sym}
use Rattle.std.specs.List.{All}
use Rattle.std.proofs.lemmas.Bool.{cases_lt}
use Rattle.ccw_core.specs.Held.{bytes_held}
use Rattle.chan_needs.specs.Remembered.{IsInside, bytes_in}
use Rattle.chan_needs.proofs.Inside.{total_copied}
use Rattle.chanv_c.specs.declared.refusal.JobFault.TheVariants.{StorageTooLarge}
use Rattle.chanv_c.proofs.take_in.copy_kept_bytes.Goals as goal
use Rattle.ccw_core.specs.declared.ccw.TheConstants.{STORAGE_LIMIT}

at_most : (n m : ℕ) → (n < m → ⊥) → m ≤ n
at_most n m not = go (cases_lt n m)
  where
    go : (n < m) ⊎ (m ≤ n) → m ≤ n
    go (inl less) = absurd (not less)
    go (inr most) = most

pub unwrap-storage-requires : goal.unwrap-storage-requires
unwrap-storage-requires c =
    let small = at_most STORAGE_LIMIT (length c.args.asked.now.storage.now) (c.requires.right StorageTooLarge) in
    c.new.ensures.ok.1 (rw c.or_empty.ensures small)

pub unwrap-count-requires : goal.unwrap-count-requires
unwrap-count-requires c =
    let s = c.args.asked.now.storage.now in
    let held : bytes_held c.unwrap-storage.result ≡ s = (rw c.unwrap-storage.ensures at c.new.ensures.whole) ∙ c.or_empty.ensures in
    let keep = c.args.keep.now in
    let fits : length (bytes_in s keep) ≤ length c.args.kept.now =
    let sum = total_copied s keep c.requires.inside in let room = c.requires.room in omega arith in
    c.copy_kept.ensures.some.1 (
      subst (λ (t : List ℕ). All (IsInside t) keep) (sym held) c.requires.inside,
      subst (λ (t : List ℕ). length (bytes_in t keep) ≤ length c.args.kept.now) (sym held) fits,
    )
