-- Routing tables in a calm wall: every node serves, and a node has an entry for another exactly
-- when live cables join them.
use Rattle.std.proofs.Common.{◌≡◌, ℕ, zero, suc, ◌<◌, ◌≤◌, true, sym, refl, subst, inl, inr, arith}
use Rattle.std.proofs.lemmas.Bool.{both_ways}
use Rattle.wiring.specs.Layout.{Layout, Sound}
use Rattle.rules.specs.declared.Mode.{Mode}
use Rattle.rules.specs.declared.Mode.TheVariants.{New, Recovering, Serving}
use Rattle.rules.specs.Ports.{Ports, has}
use Rattle.rules.specs.State.{State, entry, entry_of}
use Rattle.rules.specs.Flood.{is_marked}
use Rattle.rules.specs.Promise.{Way, stay, cross, Joined, Recovers, Calm}
use Rattle.rules.proofs.Invariant.{Invariant, Cable, Leads, Passed, mode_at, hand_at, live_at, mark_at, entry_at}

-- A walk from a node of the wall ends at one.
pub way_below : (layout : Layout) (sound : Sound layout) (s : State) {n m k : ℕ} →
    Way layout s n m k → n < layout.count → m < layout.count
way_below layout sound s stay h = h
way_below layout sound s (cross {n} {p} {m} {q} live far way) h =
    way_below layout sound s way (sound.in_range n p m q far).0

module _ (layout : Layout) (sound : Sound layout) (s : State) (inv : Invariant layout s) (calm : Calm layout s) where
  pub calm_serves : (n : ℕ) → n < layout.count → (root : ℕ) × (mode_at s n ≡ Serving root)
  calm_serves n h = go (mode_at s n) refl
    where
      go : (m : Mode) → mode_at s n ≡ m → (root : ℕ) × (mode_at s n ≡ Serving root)
      go New e = absurd (both_ways (hand_at s n) (calm.hands_down n h) (inv.moded.new_hand n h e))
      go (Recovering root left) e = absurd (calm.none_recovers n h (subst Recovers (sym e) tt))
      go (Serving root) e = (root, e)

  -- In a calm wall a node has passed the slots of all nodes.
  pub calm_passed : (n x : ℕ) → n < layout.count → x < layout.count → Passed layout.count (mode_at s n) x
  calm_passed n x h k = subst (λ m. Passed layout.count m x) (sym (calm_serves n h).1) k

  pub entry_if_joined : (x y : ℕ) → x < layout.count → y < layout.count → (x ≡ y → ⊥) →
      Joined layout s x y → (ports : Ports) × (count : ℕ) × (entry_of s.nodes x y ≡ entry ports count)
  entry_if_joined x y hx hy other joined =
      inv.routed.entry_there x y joined.0 joined.1 other (calm_passed x y hx hy)
      (λ m j way. calm.hands_down m (way_below layout sound s way hx))

  -- An entry counts the cables of a walk to its destination.
  entry_way_under : (fuel x y : ℕ) → x < layout.count → (ports : Ports) (count : ℕ) → count ≤ fuel →
      entry_at s x y ≡ entry ports count → Way layout s x y count
  entry_way_under zero x y hx ports count few e = absurd (let h = inv.routed.entry_count x y ports count e in omega arith)
  entry_way_under (suc fuel) x y hx ports count few e =
      go (inv.routed.entry_leads x y ports count p m q e port.1 cable live.0 live.1)
      (entry_way_under fuel m y (sound.in_range x p m q cable).0)
    where
      port : (p : ℕ) × (has ports p ≡ true)
      port = inv.routed.entry_port x y ports count e

      p : ℕ
      p = port.0

      live : (live_at s x p ≡ true) × (is_marked (mark_at s x p) ≡ true)
      live = inv.routed.entry_live x y ports count p e port.1 (calm.hands_down x hx)

      ends : (m : ℕ) × (q : ℕ) × Cable layout x p m q × (live_at s m q ≡ true)
      ends = inv.cabled.live_both x p live.0

      m : ℕ
      m = ends.0

      q : ℕ
      q = ends.1

      cable : Cable layout x p m q
      cable = ends.2

      go : Leads s m q y count →
          ((ports : Ports) (k : ℕ) → k ≤ fuel → entry_at s m y ≡ entry ports k → Way layout s m y k) → Way layout s x y count
      go (inl there) later =
          subst (λ k. Way layout s x y k) (sym there.1) (cross live.0 cable (subst (λ z. Way layout s m z 0) there.0 stay))
      go (inr on) later =
          let one : suc on.1 ≡ count = omega (arith, on.4) in
          subst (λ k. Way layout s x y k) one
          (cross live.0 cable (later on.0 on.1 (omega (arith, one)) on.3))

  pub entry_way : (x y : ℕ) → x < layout.count → (ports : Ports) (count : ℕ) →
      entry_at s x y ≡ entry ports count → Way layout s x y count
  entry_way x y hx ports count e = entry_way_under count x y hx ports count (omega arith) e

  pub joined_if_entry : (x y : ℕ) → x < layout.count → y < layout.count → (x ≡ y → ⊥) →
      (ports : Ports) (count : ℕ) → entry_of s.nodes x y ≡ entry ports count → Joined layout s x y
  joined_if_entry x y hx hy other ports count e = (count, entry_way x y hx ports count e)
