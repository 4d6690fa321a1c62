-- Over another storage that is the same in the bytes that count, everything that the verdict asks is the same.
use Rattle.chan_walk.proofs.Names.{[], AllByRecursion, and_parts, ap, AreLinked, argument, argument_addresses, at_once, begins_seek, begins_set_mask, BeginsAt, Bool, byte, bytes_held, ccw, ccw_of, ChainLeads, chains_data, command_faults, data_addresses, false, fault_with, Fields, first_reason, further, Has, has_count, has_data_in, HasArgument, HasFault, if◌then◌else◌, inl, inr, is_aligned, is_formed, is_inside, is_part, is_transfer, IsChain, IsChained, IsClear, IsReachable, IsSameIn, IsVerdictByte, Job, joined, length, lent_faults, List, map, None, not, Option, option_or, Place, program_check, program_check_of, range_with_len, Reason, refl, rules, Some, Stands, storage_of, subst, sym, table_of_own, take, TakesArgumentByte, total, true, with_storage, ℕ, ◌&&◌, ◌++◌, ◌+◌, ◌<◌, ◌↔◌, ◌∙◌, ◌∷◌, ◌≡◌, ◌≤◌}
use Rattle.ccw_core.specs.declared.storage.Storage.{Storage}
use Rattle.chan_walk.specs.Argument.{but_last}
use Rattle.chan_walk.specs.VerdictBytes.{SameVerdict}
use Rattle.chan_walk.specs.Fault.{seek_faults, mask_faults}
use Rattle.chan_walk.proofs.Theory.Chains.{argument_exists, argument_unique}
use Rattle.chan_walk.proofs.Theory.Checks.{check_stands}
use Rattle.chan_walk.proofs.Theory.Faults.{clear_check}
use Rattle.chan_walk.proofs.Theory.Lists.{same_reads}
use Rattle.chan_walk.proofs.Theory.SameCcws.{same_ccw}
use Rattle.chan_walk.proofs.Theory.Transport.{CarriesOver, same_reached, same_verdicts}

-- ---- where no CCW stands, its fields don't matter

check_misaligned : (n : ℕ) (p : Place) (c d : Fields) → is_aligned p.address ≡ false → program_check_of n p c ≡ program_check_of n p d
unfolding program_check_of
check_misaligned n p c d e = rw e refl

check_outside : (n : ℕ) (p : Place) (c d : Fields) → is_aligned p.address ≡ true → is_inside n p.address ≡ false → program_check_of n p c
    ≡ program_check_of n p d
unfolding program_check_of
check_outside n p c d e f = rw (e, f) refl

check_apart : (n : ℕ) (p : Place) (c d : Fields) (a b : Bool) → is_aligned p.address ≡ a
    → is_inside n p.address ≡ b → (a ≡ true → b ≡ true → c ≡ d) → program_check_of n p c ≡ program_check_of n p d
check_apart n p c d true true e f h = ap (program_check_of n p) (h refl refl)
check_apart n p c d true false e f h = check_outside n p c d e f
check_apart n p c d false b e f h = check_misaligned n p c d e

abbrev part_of : ℕ → ℕ → Fields → Bool
part_of n a c = is_aligned a && is_inside n a && not (is_transfer c) && is_formed c && has_count c && has_data_in n c

part_apart : (n x : ℕ) (c d : Fields) (a b : Bool) → is_aligned x ≡ a → is_inside n x ≡ b → (a ≡ true → b ≡ true → c ≡ d) → part_of n x c ≡ part_of n x d
part_apart n x c d a b e f h = search rules

part_by_ccw : (s t : List ℕ) (a : ℕ) → length t ≡ length s → (Stands s a → ccw s a ≡ ccw t a) → is_part s a ≡ is_part t a
unfolding is_part
part_by_ccw s t a len h = part_apart (length s) a (ccw s a) (ccw t a) _ _ refl refl (λ x y. h (x, y)) ∙ ap (λ n. part_of n a (ccw t a)) (sym len)

check_by_ccw : (s t : List ℕ) (p : Place) → length t ≡ length s → (Stands s p.address → ccw s p.address ≡ ccw t p.address) → program_check s p
    ≡ program_check t p
check_by_ccw s t p len h =
    check_apart (length s) p (ccw s p.address) (ccw t p.address) _ _ refl refl (λ x y. h (x, y)) ∙ ap (λ n. program_check_of n p (ccw t p.address)) (sym len)

stands_there : (s t : List ℕ) (a : ℕ) → length t ≡ length s → Stands s a → Stands t a
stands_there s t a len h = (h.0, subst (λ n. is_inside n a ≡ true) (sym len) h.1)

-- ---- a data chain whose CCWs are the same

-- C holds where the chain begins, and goes on along it
module _ (s t : List ℕ) (len : length t ≡ length s) (C : ℕ → Type 0) (alike : (b : ℕ) → C b → Stands s b → ccw s b ≡ ccw t b)
    (on : (b d : ℕ) → C b → is_part s b ≡ true → chains_data (ccw s b) ≡ true → ChainLeads s b d → C d) where
  part_same : (b : ℕ) → C b → is_part s b ≡ is_part t b
  part_same b c = part_by_ccw s t b len (alike b c)

  part_stands : (b : ℕ) → is_part s b ≡ true → Stands s b
  unfolding is_part
  part_stands b h = let a = and_parts _ _ (and_parts _ _ (and_parts _ _ (and_parts _ _ (and_parts _ _ h).0).0).0).0 in (a.0, a.1)

  lead_to : (b d : ℕ) → C b → is_part s b ≡ true → chains_data (ccw s b) ≡ true → ChainLeads s b d → ChainLeads t b d
  lead_to b d c part cd h = search rules

  lead_from : (b d : ℕ) → C b → is_part s b ≡ true → chains_data (ccw s b) ≡ true → ChainLeads t b d → ChainLeads s b d
  lead_from b d c part cd h = search rules

  linked_to : (l : List ℕ) (a : ℕ) → BeginsAt a l → C a → AreLinked s l → AreLinked t l
  linked_to [] a b c h = tt
  linked_to (x ∷ []) a b c h = sym (part_same x (subst C (sym b) c)) ∙ h
  linked_to (x ∷ y ∷ l) a b c h = search (rules, part_stands, part_same, lead_to, linked_to (y ∷ l) y)

  abbrev SameCcws : List ℕ → Type 0
  SameCcws l = AllByRecursion (λ x. ccw s x ≡ ccw t x) l

  ccws_same : (l : List ℕ) (a : ℕ) → BeginsAt a l → C a → AreLinked s l → SameCcws l
  ccws_same [] a b c h = tt
  ccws_same (x ∷ []) a b c h = (alike x (subst C (sym b) c) (part_stands x h), tt)
  ccws_same (x ∷ y ∷ l) a b c h = search (rules, part_stands, ccws_same (y ∷ l) y)

  total_same : (l : List ℕ) → SameCcws l → total s l ≡ total t l
  total_same [] h = refl
  total_same (x ∷ l) h = ap (λ z. z.count + total s l) h.0 ∙ ap (λ n. (ccw t x).count + n) (total_same l h.1)

  joined_same : (l : List ℕ) → SameCcws l → joined s l ≡ joined t l
  joined_same [] h = refl
  joined_same (x ∷ l) h = ap (λ z. range_with_len z.address z.count ++ joined s l) h.0 ∙ ap (λ n. data_addresses t x ++ n) (joined_same l h.1)

  ccws_but_last : (l : List ℕ) → SameCcws l → SameCcws (but_last l)
  ccws_but_last [] h = tt
  ccws_but_last (x ∷ []) h = tt
  ccws_but_last (x ∷ y ∷ l) h = (h.0, ccws_but_last (y ∷ l) h.1)

  chain_ccws : (n a : ℕ) (l : List ℕ) → C a → IsChain s n a l → SameCcws l
  chain_ccws n a l c k = ccws_same l a k.begins c k.linked

  pub chain_to : (n a : ℕ) (l : List ℕ) → C a → IsChain s n a l → IsChain t n a l
  chain_to n a l c k =
      let w = chain_ccws n a l c k in
      record {
        begins = k.begins;
        linked = linked_to l a k.begins c k.linked;
        short = subst (λ m. m < n) (total_same (but_last l) (ccws_but_last l w)) k.short;
        enough = subst (λ m. n ≤ m) (total_same l w) k.enough;
      }

  pub addresses_same : (a : ℕ) (l : List ℕ) → C a → IsChain s 6 a l → argument_addresses s l ≡ argument_addresses t l
  addresses_same a l c k = ap (take 6) (joined_same l (chain_ccws 6 a l c k))

-- and back
pub chain_from : (s t : List ℕ) (len : length t ≡ length s) (C : ℕ → Type 0) → ((b : ℕ) → C b → Stands s b → ccw s b ≡ ccw t b)
    → ((b d : ℕ) → C b → is_part s b ≡ true → chains_data (ccw s b) ≡ true → ChainLeads s b d → C d)
    → (n a : ℕ) (l : List ℕ) → C a → IsChain t n a l → IsChain s n a l
chain_from s t len C alike on n a l c k = chain_to t s (sym len) C back follows n a l c k
  where
    back : (b : ℕ) → C b → Stands t b → ccw t b ≡ ccw s b
    back b c st = sym (alike b c (stands_there t s b (sym len) st))

    follows : (b d : ℕ) → C b → is_part t b ≡ true → chains_data (ccw t b) ≡ true → ChainLeads t b d → C d
    follows b d c part cd lead =
        let there : is_part s b ≡ true = part_same s t len C alike on b c ∙ part in
        let chained : chains_data (ccw s b) ≡ true = ap chains_data (alike b c (part_stands s t len C alike on b there)) ∙ cd in
        on b d c there chained (lead_from s t len C alike on b d c there chained lead)

-- ---- the job over another storage

module _ (j : Job) (t : Storage) (h : IsSameIn (IsVerdictByte j) (storage_of j) (bytes_held t)) where
  abbrev there : Job
  there = with_storage j t

  abbrev s : List ℕ
  s = storage_of j

  abbrev u : List ℕ
  u = storage_of (with_storage j t)

  pub ccw_same : (p : Place) → IsReachable j p → Stands s p.address → ccw_of j p ≡ ccw_of there p
  ccw_same p r st = same_ccw s u p.address (λ b le lt. sym (h.same b (inl (record { place = p; reached = r; stands = st; from = le; below = lt }))))

  check_same : (p : Place) → IsReachable j p → program_check s p ≡ program_check u p
  check_same p r = check_by_ccw s u p h.same_length (ccw_same p r)

  -- ---- the argument of a reachable seek

  module _ (p : Place) (r : IsReachable j p) (b : begins_seek p (ccw_of j p) ≡ true) where
    abbrev Chained : ℕ → Type 0
    Chained a = IsChained s p.address a

    chain_ccw : (a : ℕ) → Chained a → Stands s a → ccw s a ≡ ccw u a
    chain_ccw a c st =
        same_ccw s u a
        (λ x le lt. sym (h.same x (inr (inl (record { seek = p; reached = r; seeks = b; at = a; chained = c; stands = st; from = le; below = lt })))))

    seek_chain_to : (l : List ℕ) → IsChain s 6 p.address l → IsChain u 6 p.address l
    seek_chain_to l k = chain_to s u h.same_length Chained chain_ccw (λ x y c part cd lead. further c part cd lead) 6 p.address l at_once k

    seek_chain_from : (l : List ℕ) → IsChain u 6 p.address l → IsChain s 6 p.address l
    seek_chain_from l k = chain_from s u h.same_length Chained chain_ccw (λ x y c part cd lead. further c part cd lead) 6 p.address l at_once k

    seek_addresses : (l : List ℕ) → IsChain s 6 p.address l → argument_addresses s l ≡ argument_addresses u l
    seek_addresses l k = addresses_same s u h.same_length Chained chain_ccw (λ x y c part cd lead. further c part cd lead) p.address l at_once k

    argument_same : (l : List ℕ) → IsChain s 6 p.address l → argument s l ≡ argument u l
    argument_same l k =
        same_reads s u (argument_addresses s l)
        (λ x m. sym (h.same x (inr (inr (record { place = p; reached = r; takes = inl (record { seeks = b; chain = l; is_chain = k; has = m }) })))))
        ∙ ap (map (byte u)) (seek_addresses l k)

    pub argument_to : (x : Option (List ℕ)) → HasArgument s p.address x → HasArgument u p.address x
    argument_to None a = λ l k. a l (seek_chain_from l k)
    argument_to (Some x) a = (a.0, seek_chain_to a.0 a.1, a.2 ∙ argument_same a.0 a.1)

  -- ---- own faults

  pub mask_byte_same : (p : Place) → IsReachable j p → begins_set_mask p (ccw_of j p) ≡ true → byte s (ccw_of j p).address ≡ byte u (ccw_of j p).address
  mask_byte_same p r b = sym (h.same (ccw_of j p).address (inr (inr (record { place = p; reached = r; takes = inr (record { sets = b; at = refl }) }))))

  seeks_apart : (p : Place) (c : Fields) (x y : Option (List ℕ)) (b : Bool)
      → begins_seek p c ≡ b → (b ≡ true → x ≡ y) → seek_faults j p c x ≡ seek_faults there p c y
  seeks_apart p c x y b e f = search rules

  masks_apart : (p : Place) (c : Fields) (b : Bool) → begins_set_mask p c ≡ b
      → (b ≡ true → byte s c.address ≡ byte u c.address) → mask_faults j p c ≡ mask_faults there p c
  masks_apart p c b e f = search rules

  table_same : (p : Place) → IsReachable j p → (x y : Option (List ℕ)) → HasArgument s p.address x
      → HasArgument u p.address y → table_of_own j p (ccw_of j p) x ≡ table_of_own there p (ccw_of j p) y
  table_same p r x y a b =
      ap (λ z. command_faults j p (ccw_of j p) ++ lent_faults j p (ccw_of j p) ++ z ++ mask_faults j p (ccw_of j p))
      (seeks_apart p (ccw_of j p) x y _ refl (λ e. argument_unique u p.address x y (argument_to p r e x a) b))
      ∙ ap (λ z. command_faults j p (ccw_of j p) ++ lent_faults j p (ccw_of j p) ++ seek_faults there p (ccw_of j p) y ++ z)
      (masks_apart p (ccw_of j p) _ refl (mask_byte_same p r))

  fault_same : (p : Place) → IsReachable j p → (x y : Option (List ℕ)) → HasArgument s p.address x
      → HasArgument u p.address y → fault_with j p x ≡ fault_with there p y
  fault_same p r x y a b = go (program_check s p) refl
    where
      rest : Job → Fields → Option (List ℕ) → Option Reason
      rest k c z = if is_transfer c then None else first_reason (table_of_own k p c z)

      go : (o : Option Reason) → program_check s p ≡ o → option_or (program_check s p) (rest j (ccw_of j p) x)
          ≡ option_or (program_check u p) (rest there (ccw_of there p) y)
      go (Some q) e = ap (λ o. option_or o (rest j (ccw_of j p) x)) e ∙ sym (ap (λ o. option_or o (rest there (ccw_of there p) y)) (sym (check_same p r) ∙ e))
      go None e =
          ap (λ o. option_or o (rest j (ccw_of j p) x)) (check_same p r)
          ∙ ap (λ ts. option_or (program_check u p) (if is_transfer (ccw_of j p) then None else first_reason ts)) (table_same p r x y a b)
          ∙ ap (λ c. option_or (program_check u p) (rest there c y)) (ccw_same p r (check_stands s p e))

  takes_same : (p : Place) → IsReachable j p → IsClear j p → (b : ℕ) → TakesArgumentByte s p b ↔ TakesArgumentByte u p b
  takes_same p r clear b = (to, from)
    where
      same : ccw_of j p ≡ ccw_of there p
      same = ccw_same p r (check_stands s p (clear_check j p clear))

      to : TakesArgumentByte s p b → TakesArgumentByte u p b
      to (inl k) = inl (record {
        seeks = subst (λ c. begins_seek p c ≡ true) same k.seeks;
        chain = k.chain;
        is_chain = seek_chain_to p r k.seeks k.chain k.is_chain;
        has = subst (λ l. Has l b) (seek_addresses p r k.seeks k.chain k.is_chain) k.has;
      })
      to (inr k) = inr (record { sets = subst (λ c. begins_set_mask p c ≡ true) same k.sets; at = subst (λ (c : Fields). c.address ≡ b) same k.at })

      from : TakesArgumentByte u p b → TakesArgumentByte s p b
      from (inl k) =
          let seeks : begins_seek p (ccw_of j p) ≡ true = subst (λ c. begins_seek p c ≡ true) (sym same) k.seeks in
          let chain = seek_chain_from p r seeks k.chain k.is_chain in
          inl (record { seeks = seeks; chain = k.chain; is_chain = chain; has = subst (λ l. Has l b) (sym (seek_addresses p r seeks k.chain chain)) k.has })
      from (inr k) = inr (record {
        sets = subst (λ c. begins_set_mask p c ≡ true) (sym same) k.sets;
        at = subst (λ (c : Fields). c.address ≡ b) (sym same) k.at;
      })

  fault_at : (p : Place) → IsReachable j p → (r : Option Reason) → HasFault j p r ↔ HasFault there p r
  fault_at p m r = (
    (λ f. let y = argument_exists u p.address in (y.0, y.1, sym (fault_same p m f.0 y.0 f.1 y.1) ∙ f.2)),
    λ f. let x = argument_exists s p.address in (x.0, x.1, fault_same p m x.0 f.0 x.1 f.1 ∙ f.2),
  )

  pub carries_at : (p : Place) → IsReachable j p → IsReachable there p → CarriesOver j there p × CarriesOver there j p
  carries_at p m n =
      let clear : IsClear j p ↔ IsClear there p = fault_at p m None in
      let ccw : IsClear j p → ccw_of j p ≡ ccw_of there p = λ f. ccw_same p m (check_stands s p (clear_check j p f)) in (
        record { stands = stands_there s u p.address h.same_length; clear = clear.0; ccw = ccw; takes = λ f b. (takes_same p m f b).0 },
        record {
          stands = stands_there u s p.address (sym h.same_length);
          clear = clear.1;
          ccw = λ f. sym (ccw (clear.1 f));
          takes = λ f b. (takes_same p m (clear.1 f) b).1;
        },
      )

pub same_verdict : SameVerdict
same_verdict j t h =
    let k = with_storage j t in
    (same_reached j k refl (carries_at j t h), same_verdicts j k refl (carries_at j t h) (λ p m r. fault_at j t h p m (Some r)))
