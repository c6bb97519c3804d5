-- In a calm wall a step with packets in flight moves, delivers or returns one: if all waited, the
-- packet of the lowest rank would wait for one of a lower rank still.
use Rattle.std.proofs.Common.{◌≡◌, ℕ, zero, suc, ◌+◌, ◌<◌, ◌≤◌, true, false, ◌⊎◌, List, [], ◌∷◌, ◌++◌, length, sym, refl, ◌∙◌, subst, inl, inr, arith, Some, None, Option}
use Rattle.std.specs.List.{ContainsAt as Has}
use Rattle.std.proofs.lemmas.Bool.{cases_lt}
use Rattle.wiring.specs.Layout.{Layout, Sound}
use Rattle.rules.specs.declared.Mode.{Mode}
use Rattle.rules.specs.declared.Mode.TheVariants.{New, Recovering, Serving}
use Rattle.rules.specs.declared.Outcome.{Outcome}
use Rattle.rules.specs.declared.Packet.{Packet}
use Rattle.rules.specs.declared.StepCounts.{StepCounts}
use Rattle.rules.specs.Ports.{Ports, has}
use Rattle.rules.specs.State.{Node, State, entry, mark_of}
use Rattle.rules.specs.Flood.{is_marked}
use Rattle.rules.specs.Step.{turn, permitted, stands_at}
use Rattle.rules.specs.Runs.{Steps}
use Rattle.rules.specs.Promise.{Calm, Recovers}
use Rattle.rules.proofs.Invariant.{Cable, Invariant, mode_at, hand_at, live_at, entry_at}
use Rattle.rules.proofs.Rank.{rank, rank_falls}
use Rattle.rules.proofs.Members.{has_none, has_first, has_cases}
use Rattle.rules.proofs.Places.{stands_node, stands_port, taken_by, has_around}
use Rattle.rules.proofs.Sweep.{Waits, Blocked, Sweeps, swept, waiting, moving, arriving, stranding, Stepped, stepped, push_append}

-- A sweep in which every packet waits: each sees the others where they stood at the start.
pub waited : (layout : Layout) (nodes : List Node) {front old left : List Packet} {outs : List Outcome} {crossed : List ℕ} →
    Sweeps layout nodes front old left outs crossed → length crossed ≡ 0 → length outs ≡ 0 → (x : Packet) → Has old x →
    (others : List Packet) × Waits layout nodes others x × ((y : Packet) → Has others y → Has (front ++ old) y)
waited layout nodes swept none_crossed none_out x h = absurd (has_none x h)
waited layout nodes (waiting {front} {old} {x = z} why sweeps) none_crossed none_out x h =
    go (λ k. waited layout nodes sweeps none_crossed none_out x k) (has_cases z old x h)
  where
    go : (Has old x → (others : List Packet) × Waits layout nodes others x × ((y : Packet) → Has others y → Has ((front ++ z ∷ []) ++ old) y)) →
        (z ≡ x) ⊎ Has old x → (others : List Packet) × Waits layout nodes others x × ((y : Packet) → Has others y → Has (front ++ z ∷ old) y)
    go again (inl e) = (front ++ old, subst (Waits layout nodes (front ++ old)) e why, λ y k. has_around front z old y k)
    go again (inr k) = let (others, waits, inside) = again k in (others, waits, λ y j. rw (push_append front z old) at (inside y j))
waited layout nodes (moving why later) none_crossed none_out x h = absurd (omega arith)
waited layout nodes (arriving why later) none_crossed none_out x h = absurd (omega arith)
waited layout nodes (stranding why later) none_crossed none_out x h = absurd (omega arith)

permitted_home : (nodes : List Node) (n : ℕ) (from : Option ℕ) (p : ℕ) → from ≡ None → is_marked (mark_of nodes n p) ≡ true → permitted nodes n from p ≡ true
unfolding permitted
permitted_home nodes n from p home marked = rw (home, permitted) marked

permitted_at : (nodes : List Node) (n : ℕ) (from : Option ℕ) (a p : ℕ) → from ≡ Some a → turn (mark_of nodes n a) (mark_of nodes n p) ≡ true → permitted nodes n from p ≡ true
unfolding permitted
permitted_at nodes n from a p at may = rw (at, permitted) may

-- A calm wall in which every packet waits

module _ (layout : Layout) (sound : Sound layout) (s : State) (invariant : Invariant layout s) (calm : Calm layout s)
    (all_wait : (x : Packet) → Has s.packets x →
    (others : List Packet) × Waits layout s.nodes others x × ((y : Packet) → Has others y → Has s.packets y)) where
  serving : (x : Packet) → Has s.packets x → (root : ℕ) × (mode_at s x.node ≡ Serving root)
  serving x h = go (mode_at s x.node) refl
    where
      go : (mode : Mode) → mode_at s x.node ≡ mode → (root : ℕ) × (mode_at s x.node ≡ Serving root)
      go New e = absurd (invariant.flying.node_known x h e)
      go (Recovering root left) e =
          absurd (calm.none_recovers x.node (invariant.flying.node_below x h) (subst Recovers (sym e) tt))
      go (Serving root) e = (root, e)

  hand_down : (x : Packet) → Has s.packets x → hand_at s x.node ≡ false
  hand_down x h = calm.hands_down x.node (invariant.flying.node_below x h)

  -- A packet is blocked, by packets of the wall.
  blocked : (x : Packet) → Has s.packets x →
      (others : List Packet) × Blocked layout s.nodes others x × ((y : Packet) → Has others y → Has s.packets y)
  blocked x h = let (others, waits, inside) = all_wait x h in (others, at others waits, inside)
    where
      at : (others : List Packet) → Waits layout s.nodes others x → Blocked layout s.nodes others x
      at others (inl idle) = absurd (idle (serving x h).0 (serving x h).1)
      at others (inr b) = b

  -- A packet with an entry's port that it may take waits for one that stands at the far end.
  blocker : (x : Packet) → Has s.packets x → (ports : Ports) (count p : ℕ) → entry_at s x.node x.destination ≡ entry ports count →
      has ports p ≡ true → permitted s.nodes x.node x.standing p ≡ true →
      (y : Packet) × (m : ℕ) × (q : ℕ) × Has s.packets y × (live_at s x.node p ≡ true) × Cable layout x.node p m q × (stands_at m q y ≡ true)
  blocker x h ports count p entered inside may =
      let (others, b, old) = blocked x h in
      let live = (invariant.routed.entry_live x.node x.destination ports count p entered inside (hand_down x h)).0 in
      let far = invariant.cabled.live_both x.node p live in
      let same : entry b.ports b.count ≡ entry ports count = sym b.entered ∙ entered in
      let ports_same : b.ports ≡ ports = cc in
      let full = b.full p far.0 far.1 (rw ports_same inside) may live far.2 in
      let by = taken_by far.0 far.1 others full in
      (by.0, far.0, far.1, old by.0 by.1, live, far.2, by.2)

  none_at_port : (k : ℕ) (x : Packet) (a : ℕ) → Has s.packets x → x.standing ≡ Some a → rank layout s invariant.ordered x.node a < k → ⊥
  none_at_port zero x a h at low = omega arith
  none_at_port (suc k) x a h at low =
      let b = (blocked x h).1 in
      let (ports, count, p, entered, inside, may) = invariant.flying.way_on x a b.root h at b.serves (hand_down x h) b.elsewhere in
      let (y, m, q, old, live, cable, stands) =
      blocker x h ports count p entered inside (permitted_at s.nodes x.node x.standing a p at may) in
      let falls = rank_falls layout sound s invariant.cabled invariant.ordered x.node a p m q may live cable in
      let lower : rank layout s invariant.ordered y.node q < k = rw (stands_node m q y stands) (omega arith) in
      none_at_port k y q old (stands_port m q y stands) lower

  none_standing : (x : Packet) (a : ℕ) → Has s.packets x → x.standing ≡ Some a → ⊥
  none_standing x a h at = none_at_port (suc (rank layout s invariant.ordered x.node a)) x a h at (omega arith)

  none_in_flight : (x : Packet) → Has s.packets x → ⊥
  none_in_flight x h = go x.standing refl
    where
      go : (from : Option ℕ) → x.standing ≡ from → ⊥
      go None home =
          let b = (blocked x h).1 in
          let (p, inside) = invariant.routed.entry_port x.node x.destination b.ports b.count b.entered in
          let marked = (invariant.routed.entry_live x.node x.destination b.ports b.count p b.entered inside (hand_down x h)).1 in
          let (y, m, q, old, live, cable, stands) =
          blocker x h b.ports b.count p b.entered inside (permitted_home s.nodes x.node x.standing p home marked) in
          none_standing y q old (stands_port m q y stands)
      go (Some a) at = none_standing x a h at

pub progress_step : (layout : Layout) → Sound layout → (s after : State) (counts : StepCounts) (outcomes : List Outcome) (crossed : List ℕ) (asked : List (Ports × ℕ)) →
    Invariant layout s → Calm layout s → 1 ≤ length s.packets → Steps layout s counts outcomes crossed asked after →
    1 ≤ counts.moved + counts.delivered + counts.returned
progress_step layout sound s after counts outcomes crossed asked invariant calm some steps =
    go (cases_lt 0 (counts.moved + counts.delivered + counts.returned))
  where
    step : Stepped layout s counts outcomes crossed after
    step = stepped layout sound s after counts outcomes crossed asked steps

    first : (xs : List Packet) → 1 ≤ length xs → (x : Packet) × Has xs x
    first [] h = absurd (omega arith)
    first (x ∷ xs) h = (x, has_first x xs)

    go : (0 < counts.moved + counts.delivered + counts.returned) ⊎ (counts.moved + counts.delivered + counts.returned ≤ 0) →
        1 ≤ counts.moved + counts.delivered + counts.returned
    go (inl busy) = busy
    go (inr idle) =
        let none_crossed : length crossed ≡ 0 = omega (arith, step.moved_count) in
        let none_out : length outcomes ≡ 0 = omega (arith, step.ended_count) in
        let (x, h) = first s.packets some in
        absurd (none_in_flight layout sound s invariant calm (waited layout s.nodes step.sweeps none_crossed none_out) x h)
