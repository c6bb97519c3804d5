-- Packets that go home, place by place.
use Rattle.std.proofs.Common.{◌≡◌, ℕ, ◌+◌, ◌<◌, Bool, true, false, cond, List, [], ◌∷◌, ◌++◌, map, length, get_or, take, drop, set, sym, refl, ap, ◌∙◌, arith}
use Rattle.std.proofs.lemmas.List.{take_more_set, map_more, drop-set-lt, drop_more, length-set}
use Rattle.rules.specs.declared.Packet.{Packet}
use Rattle.rules.specs.State.{Node, node_of}
use Rattle.rules.specs.Slot.{ends_recovery, at_home, sent_home}
use Rattle.traffic.specs.Inside.{Inside}

module _ (nodes : List Node) (x : Packet) where
  pub home_inside : Inside x → Inside (sent_home nodes x)
  unfolding sent_home
  home_inside h = go (ends_recovery (node_of nodes x.node).mode)
    where
      go : (b : Bool) → Inside (cond b (at_home x) x)
      go true = (h.0, λ p e. cc)
      go false = h

-- A list whose first i elements are those of another under f, and the others as they were.
pub record FrontMapped {X : Type 0} (f : X → X) (before after : List X) (i : ℕ) : Type 0 where
  pub same_length : length after ≡ length before
  pub front : take i after ≡ map f (take i before)
  pub behind : drop i after ≡ drop i before

module _ {X : Type 0} (f : X → X) where
  pub front_none : (xs : List X) → FrontMapped f xs xs 0
  front_none xs = record { same_length = refl; front = refl; behind = refl }

  at_front : (before after : List X) (i : ℕ) (d : X) → i < length before → length after ≡ length before →
      drop i after ≡ drop i before → get_or after i d ≡ get_or before i d
  at_front before after i d h same e =
      let a : drop i after ≡ get_or after i d ∷ drop (i + 1) after = drop_more after i d (omega arith) in
      let b : drop i before ≡ get_or before i d ∷ drop (i + 1) before = drop_more before i d h in
      cc

  pub front_more : (before after : List X) (i : ℕ) (d y : X) → i < length before → FrontMapped f before after i →
      y ≡ f (get_or after i d) → FrontMapped f before (set after i y) (i + 1)
  front_more before after i d y h m e = record {
    same_length = length-set after i y ∙ m.same_length;
    front =
        take_more_set after i y short
        ∙ ap (λ (xs : List X). xs ++ y ∷ []) m.front
        ∙ ap (λ (z : X). map f (take i before) ++ z ∷ []) (e ∙ ap f (at_front before after i d h m.same_length m.behind))
        ∙ sym (map_more f before i d h);
    behind =
        drop-set-lt (i + 1) after i y (omega arith)
        ∙ tail;
  }
    where
      short : i < length after
      short = omega (arith, m.same_length)

      tail : drop (i + 1) after ≡ drop (i + 1) before
      tail =
          let a : drop i after ≡ get_or after i d ∷ drop (i + 1) after = drop_more after i d short in
          let b : drop i before ≡ get_or before i d ∷ drop (i + 1) before = drop_more before i d h in
          let e : drop i after ≡ drop i before = m.behind in
          cc

  pub front_all : (before after : List X) (i n m : ℕ) → i ≡ n → m ≡ n → FrontMapped f before after i →
      take m after ≡ map f (take n before)
  front_all before after i n m e k h =
      ap (λ (j : ℕ). take j after) (k ∙ sym e) ∙ h.front ∙ ap (λ (j : ℕ). map f (take j before)) e
