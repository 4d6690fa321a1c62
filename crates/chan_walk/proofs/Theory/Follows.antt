-- The table of successors as four cases.
use Rattle.chan_walk.proofs.Names.{and_parts, Bool, chained, chains_data, cond, Entry, false, Fields, Fresh, inl, inr, is_transfer, Kind, next_of, None, not, not-true, Option, Place, refl, rules, skip_of, Some, straight_to, subst, transferred_to, true, ◌&&◌, ◌+◌, ◌≡◌, ◌⊎◌}
use Rattle.std.specs.Option.{option_map}
use Rattle.ccw_core.specs.Ccw.{chains_command}
use Rattle.chan_walk.specs.Successor.{gives_modifier}

pub data FollowsBy (p : Place) (c : Fields) (k : Kind) : Place → Type 0 where
  by_transfer : is_transfer c ≡ true → FollowsBy p c k (transferred_to c.address p.entered)
  by_data : {e : Entry} → is_transfer c ≡ false → chains_data c ≡ true → chained k ≡ Some e → FollowsBy p c k (straight_to (p.address + 8) e)
  by_command : is_transfer c ≡ false → chains_data c ≡ false → chains_command c ≡ true → FollowsBy p c k (straight_to (p.address + 8) Fresh)
  by_skip : is_transfer c ≡ false → chains_data c ≡ false → chains_command c ≡ true
      → gives_modifier k ≡ true → FollowsBy p c k (straight_to (p.address + 16) Fresh)

pub succeeds : (p : Place) (c : Fields) (k : Kind) (q : Place) → FollowsBy p c k q → (next_of p c k ≡ Some q) ⊎ (skip_of p c k ≡ Some q)
succeeds p c k q h = search rules

pub follows : (p : Place) (c : Fields) (k : Kind) (q : Place) → (next_of p c k ≡ Some q) ⊎ (skip_of p c k ≡ Some q) → FollowsBy p c k q
follows p c k q (inl h) = go (is_transfer c) (chains_data c) (chains_command c) (chained k) refl refl refl refl h
  where
    go : (t d m : Bool) (e : Option Entry) → is_transfer c ≡ t → chains_data c ≡ d
        → chains_command c ≡ m → chained k ≡ e → cond t (Some (transferred_to c.address p.entered))
        (cond d (option_map (straight_to (p.address + 8)) e) (cond m (Some (straight_to (p.address + 8) Fresh)) None)) ≡ Some q → FollowsBy p c k q
    go true d m e a b f g h = let same : transferred_to c.address p.entered ≡ q = cc in subst (FollowsBy p c k) same (by_transfer a)
    go false true m (Some e) a b f g h = let same : straight_to (p.address + 8) e ≡ q = cc in subst (FollowsBy p c k) same (by_data a b g)
    go false true m None a b f g h = absurd (cc)
    go false false true e a b f g h = let same : straight_to (p.address + 8) Fresh ≡ q = cc in subst (FollowsBy p c k) same (by_command a b f)
    go false false false e a b f g h = absurd (cc)
follows p c k q (inr h) = go (not (is_transfer c) && not (chains_data c) && chains_command c && gives_modifier k) refl h
  where
    go : (b : Bool) → (not (is_transfer c) && not (chains_data c) && chains_command c && gives_modifier k) ≡ b
        → cond b (Some (straight_to (p.address + 16) Fresh)) None ≡ Some q → FollowsBy p c k q
    go true e h =
        let a = and_parts (not (is_transfer c) && not (chains_data c) && chains_command c) (gives_modifier k) e in
        let b = and_parts (not (is_transfer c) && not (chains_data c)) (chains_command c) a.0 in
        let d = and_parts (not (is_transfer c)) (not (chains_data c)) b.0 in
        let same : straight_to (p.address + 16) Fresh ≡ q = cc in
        subst (FollowsBy p c k) same (by_skip (not-true (is_transfer c) d.0) (not-true (chains_data c) d.1) b.1 a.1)
    go false e h = absurd (cc)
