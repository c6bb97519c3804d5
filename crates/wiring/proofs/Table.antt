-- Tables of far ends: what stands where, before and after a cable is laid.
use Rattle.std.proofs.Common.{◌≡◌, ℕ, ◌<◌, ◌≤◌, Bool, true, false, cond, ◌&&◌, ltb, ◌⊎◌, length, get_or, set, Some, None, Option, sym, refl, ap, ◌∙◌, inl, inr, arith}
use Rattle.std.proofs.lemmas.List.{get_or-replicate, get_or_past, get_or-set_same, get_or-set_other, length-set}
use Rattle.std.proofs.lemmas.Bool.{lt-ltb, ltb-true, and_parts, cases_Bool, cases_lt, cases_eq}
use Rattle.wiring.specs.Layout.{Sound}
use Rattle.wiring.specs.Cables.{Table, slot, bare, join, cabled, lone}
use Rattle.wiring.specs.Spells.{Good}
use Rattle.wiring.specs.declared.cable.Cable.{Cable}
use Rattle.wiring.specs.Sound.{none_is_not_some, same_layout}

-- The bare table has no far end.
pub bare_at : (i : ℕ) → get_or bare i None ≡ None
bare_at i = go (cases_lt i 256)
  where
    go : (i < 256) ⊎ (256 ≤ i) → get_or bare i None ≡ None
    go (inl h) = get_or-replicate 256 i None None h
    go (inr h) = get_or_past bare i None h

cond_same : {A : Type 0} (b : Bool) (x y : A) → y ≡ x → cond b y x ≡ x
cond_same true x y e = e
cond_same false x y e = refl

bare_far : (count n p : ℕ) → (cabled count bare).far n p ≡ None
bare_far count n p = cond_same (ltb n count && ltb p 4) None (get_or bare (slot (n, p)) None) (bare_at (slot (n, p)))

pub bare_sound : (count : ℕ) → 1 ≤ count → count ≤ 64 → Sound (cabled count bare)
bare_sound count a b = record {
  some_nodes = a;
  few_nodes = b;
  in_range = λ n p m q e. absurd (none_is_not_some (sym (bare_far count n p) ∙ e));
  returns = λ n p m q e. absurd (none_is_not_some (sym (bare_far count n p) ∙ e));
  no_self = λ n p m q e same. none_is_not_some (sym (bare_far count n p) ∙ e);
}

pub bare_lone : cabled 1 bare ≡ lone
bare_lone = same_layout (cabled 1 bare) lone refl (bare_far 1)

-- What stands at an end.
abbrev pub at : Table → ℕ × ℕ → Option (ℕ × ℕ)
at ends x = get_or ends (slot x) None

-- What a table means.
pub far_some : (count : ℕ) (ends : Table) (n p m q : ℕ) → (cabled count ends).far n p ≡ Some (m, q) → (n < count) × (p < 4) × (at ends (n, p) ≡ Some (m, q))
far_some count ends n p m q e = go (cases_Bool (ltb n count && ltb p 4))
  where
    go : ((ltb n count && ltb p 4) ≡ true) ⊎ ((ltb n count && ltb p 4) ≡ false) → (n < count) × (p < 4) × (at ends (n, p) ≡ Some (m, q))
    go (inl t) = let parts = and_parts (ltb n count) (ltb p 4) t in (ltb-true n count parts.0, ltb-true p 4 parts.1, rw t at e)
    go (inr t) = absurd (none_is_not_some (rw t at e))

pub some_far : (count : ℕ) (ends : Table) (n p m q : ℕ) → n < count → p < 4 → at ends (n, p) ≡ Some (m, q) → (cabled count ends).far n p ≡ Some (m, q)
some_far count ends n p m q h k e = rw (lt-ltb n count h, lt-ltb p 4 k) e

same_pair : (x y : ℕ × ℕ) → x.0 ≡ y.0 → x.1 ≡ y.1 → x ≡ y
same_pair x y e f = λ i. (e i, f i)

-- Two ends that share a place are one.
slot_one : (x y : ℕ × ℕ) → x.1 < 4 → y.1 < 4 → slot x ≡ slot y → x ≡ y
slot_one x y h k e = same_pair x y (omega arith) (omega arith)

-- After a cable is laid, its ends lead to each other, and every other end leads where it did.
pub data Now (ends : Table) (c : Cable) (x : ℕ × ℕ) : Type 0 where
  at_start : c.start ≡ x → at (join ends c) x ≡ Some c.end → Now ends c x
  at_end : c.end ≡ x → at (join ends c) x ≡ Some c.start → Now ends c x
  elsewhere : (c.start ≡ x → ⊥) → (c.end ≡ x → ⊥) → at (join ends c) x ≡ at ends x → Now ends c x

module _ (nodes : ℕ) (few : nodes ≤ 64) where
  pub join_at : (ends : Table) (c : Cable) (x : ℕ × ℕ) → Good nodes c → length ends ≡ 256 → x.1 < 4 → Now ends c x
  join_at ends c x g size h = go (cases_eq (slot x) (slot c.end)) (cases_eq (slot x) (slot c.start))
    where
      bound : (y : ℕ × ℕ) → y.0 < nodes → y.1 < 4 → slot y < 256
      bound y k l = omega arith

      go : (slot x ≡ slot c.end) ⊎ (slot x ≡ slot c.end → ⊥) → (slot x ≡ slot c.start) ⊎ (slot x ≡ slot c.start → ⊥) → Now ends c x
      go (inl e) s =
          let is : c.end ≡ x = slot_one c.end x g.end_port h (sym e) in
          at_end is (rw (← is) (get_or-set_same (set ends (slot c.start) (Some c.end)) (slot c.end) (Some c.start) None (omega (arith, bound c.end g.end_node g.end_port, length-set ends (slot c.start) (Some c.end)))))
      go (inr e) (inl s) =
          let is : c.start ≡ x = slot_one c.start x g.start_port h (sym s) in
          let here : at (set ends (slot c.start) (Some c.end)) x ≡ Some c.end =
          rw (← is) (get_or-set_same ends (slot c.start) (Some c.end) None (omega (arith, bound c.start g.start_node g.start_port))) in
          at_start is (get_or-set_other (set ends (slot c.start) (Some c.end)) (slot c.end) (slot x) (Some c.start) None e ∙ here)
      go (inr e) (inr s) = elsewhere (λ t. s (ap slot (sym t))) (λ t. e (ap slot (sym t))) (get_or-set_other (set ends (slot c.start) (Some c.end)) (slot c.end) (slot x) (Some c.start) None e ∙ get_or-set_other ends (slot c.start) (slot x) (Some c.end) None s)
