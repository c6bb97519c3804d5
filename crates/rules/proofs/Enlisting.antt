-- A root's slot before its broadcast: every node joined to the root starts a recovery, and every
-- other node stays as it is. The invariant holds of the state in between, with all slots left.
use Rattle.std.proofs.Common.{◌≡◌, ℕ, ◌+◌, ◌-◌, ◌*◌, ◌%◌, ◌<◌, ◌≤◌, true, false, ◌⊎◌, get_or, Some, None, sym, ap, ◌∙◌, subst, inl, inr, mod-eq_of_lt, arith}
use Rattle.std.specs.List.{ContainsAt as Has}
use Rattle.std.proofs.lemmas.Bool.{both_ways, cases_lt}
use Rattle.wiring.specs.Layout.{Layout, Sound}
use Rattle.rules.specs.declared.Act.TheVariants.{Root}
use Rattle.rules.specs.declared.Mark.TheVariants.{Unmarked, Up, Down}
use Rattle.rules.specs.declared.Mode.TheVariants.{New, Recovering, Serving}
use Rattle.rules.specs.declared.Packet.{Packet}
use Rattle.rules.specs.Ports.{Ports, has}
use Rattle.rules.specs.State.{State, nothing, entry, node_of}
use Rattle.rules.specs.Flood.{is_up, is_down, is_marked}
use Rattle.rules.specs.Step.{turn}
use Rattle.rules.specs.Promise.{Way}
use Rattle.rules.proofs.Invariant.{mode_at, hand_at, live_at, mark_at, entry_at, NamesRoot, Passed, Cable, Cabled, Ordered, Leads, Routed, Flying, Invariant}
use Rattle.rules.proofs.Distance.{far_live, way_append, root_zero, zero_root, distance_below, joined_below, distance_near, distance_step, distance_way, no_distance}
use Rattle.rules.proofs.Rooted.{order_closer, rooted_marked, rooted_ends, rooted_down, rooted_parent}
use Rattle.rules.proofs.SlotReads.{act_now, enlisting, enlisting_owner, enlisting_last, enlisting_packets, enlisting_out, enlisting_past, enlisting_live, enlisting_mode, enlisting_hand, enlisting_entry, reach, reach_cases, node_past}
use Rattle.rules.proofs.SlotModed.{Loose, recovering_acts}
use Rattle.rules.proofs.Walks.{way_same, way_recovers}

module _ (layout : Layout) (sound : Sound layout) (s : State) (inv : Invariant layout s) (by_root : act_now s ≡ Root) where
  -- Who is in the new recovery

  owner_idle : (root left : ℕ) → mode_at s s.owner ≡ Recovering root left → ⊥
  owner_idle root left e =
      let member = recovering_acts (mode_at s s.owner) (hand_at s s.owner) root left e in
      let z : ◌≡◌ {A = ℕ} 0 1 = cc in omega arith

  below : (n d : ℕ) → reach layout s n ≡ Some d → n < layout.count
  below n d e = joined_below layout sound s inv.cabled.live_both s.owner inv.shaped.owner_below n d e

  some_none : (n d : ℕ) → reach layout s n ≡ Some d → reach layout s n ≡ None → ⊥
  some_none n d a b = let z : ◌≡◌ {A = ℕ} 0 1 = cc in omega arith

  -- A live cable's ends are both in it or both not.
  next_in : (n p m q d : ℕ) → Cable layout n p m q → live_at s n p ≡ true → reach layout s n ≡ Some d → (e : ℕ) × (reach layout s m ≡ Some e) × (e ≤ d + 1)
  next_in n p m q d cable on here = distance_near layout sound s inv.cabled.live_both s.owner inv.shaped.owner_below n p m q d on cable here

  back_live : (n p m q : ℕ) → Cable layout n p m q → live_at s n p ≡ true → live_at s m q ≡ true
  back_live n p m q cable on = far_live layout s.nodes inv.cabled.live_both n p m q cable on

  next_out : (n p m q : ℕ) → Cable layout n p m q → live_at s n p ≡ true → reach layout s n ≡ None → reach layout s m ≡ None
  next_out n p m q cable on none = go (reach_cases layout s m)
    where
      go : ((d : ℕ) × (reach layout s m ≡ Some d)) ⊎ (reach layout s m ≡ None) → reach layout s m ≡ None
      go (inl (d, found)) =
          let near = next_in m q n p d (sound.returns n p m q cable) (back_live n p m q cable on) found in
          absurd (some_none n near.0 near.1 none)
      go (inr out) = out

  way_out : (n m k : ℕ) → Way layout s n m k → reach layout s n ≡ None → reach layout s m ≡ None
  way_out n m k way none = go (reach_cases layout s m)
    where
      go : ((d : ℕ) × (reach layout s m ≡ Some d)) ⊎ (reach layout s m ≡ None) → reach layout s m ≡ None
      go (inl (d, found)) =
          absurd (no_distance layout sound s inv.cabled.live_both s.owner inv.shaped.owner_below n (k + d) none
          (way_append way (distance_way layout sound s inv.cabled.live_both s.owner inv.shaped.owner_below m d found)))
      go (inr out) = out

  -- No node that recovers already is in it.
  recovering_out : (n root left : ℕ) → mode_at s n ≡ Recovering root left → reach layout s n ≡ None
  recovering_out n root left e = go (reach_cases layout s n)
    where
      go : ((d : ℕ) × (reach layout s n ≡ Some d)) ⊎ (reach layout s n ≡ None) → reach layout s n ≡ None
      go (inl (d, found)) =
          absurd (owner_idle root left (way_recovers root left (λ a p b q cable on mode. inv.moded.recovers_both a p b q root left cable on mode)
          (distance_way layout sound s inv.cabled.live_both s.owner inv.shaped.owner_below n d found) e))
      go (inr out) = out

  -- Readings

  out_node : (n : ℕ) → reach layout s n ≡ None → node_of (enlisting layout s).nodes n ≡ node_of s.nodes n
  out_node n none = go (cases_lt n layout.count)
    where
      go : (n < layout.count) ⊎ (layout.count ≤ n) → node_of (enlisting layout s).nodes n ≡ node_of s.nodes n
      go (inl inside) = enlisting_out layout s n inside none
      go (inr past) = enlisting_past layout s n past ∙ sym (node_past s.nodes n (omega (arith, inv.shaped.nodes_long)))

  out_mode : (n : ℕ) → reach layout s n ≡ None → mode_at (enlisting layout s) n ≡ mode_at s n
  out_mode n none = ap (λ x. x.mode) (out_node n none)

  out_hand : (n : ℕ) → reach layout s n ≡ None → hand_at (enlisting layout s) n ≡ hand_at s n
  out_hand n none = ap (λ x. x.hand) (out_node n none)

  out_mark : (n p : ℕ) → reach layout s n ≡ None → mark_at (enlisting layout s) n p ≡ mark_at s n p
  out_mark n p none = ap (λ x. get_or x.marks p Unmarked) (out_node n none)

  out_entry : (n x : ℕ) → reach layout s n ≡ None → entry_at (enlisting layout s) n x ≡ entry_at s n x
  out_entry n x none = ap (λ y. get_or y.row x nothing) (out_node n none)

  live_same : (n p : ℕ) → live_at (enlisting layout s) n p ≡ live_at s n p
  live_same n p = enlisting_live layout s inv.shaped n p

  live_was : (n p : ℕ) → live_at (enlisting layout s) n p ≡ true → live_at s n p ≡ true
  live_was n p on = sym (live_same n p) ∙ on

  in_mode : (n d : ℕ) → reach layout s n ≡ Some d → mode_at (enlisting layout s) n ≡ Recovering s.owner layout.count
  in_mode n d e = enlisting_mode layout s n d (below n d e) e

  in_hand : (n d : ℕ) → reach layout s n ≡ Some d → hand_at (enlisting layout s) n ≡ false
  in_hand n d e = enlisting_hand layout s n d (below n d e) e

  in_entry : (n x d : ℕ) → reach layout s n ≡ Some d → entry_at (enlisting layout s) n x ≡ nothing
  in_entry n x d e = enlisting_entry layout s n d (below n d e) e x

  -- A port in the new recovery is marked exactly when it is live.
  in_marks : (n p d : ℕ) → reach layout s n ≡ Some d → is_marked (mark_at (enlisting layout s) n p) ≡ live_at s n p
  unfolding enlisting
  in_marks n p d e = rooted_marked layout sound s inv.cabled.live_both s.owner inv.shaped.owner_below n d p e

  marked_live : (n p d : ℕ) → reach layout s n ≡ Some d → is_marked (mark_at (enlisting layout s) n p) ≡ true → live_at s n p ≡ true
  marked_live n p d e marked = sym (in_marks n p d e) ∙ marked

  -- The ends of a live cable in the new recovery are marked opposite.
  in_ends : (n p m q d : ℕ) → Cable layout n p m q → live_at s n p ≡ true → reach layout s n ≡ Some d →
      ((mark_at (enlisting layout s) n p ≡ Up) × (mark_at (enlisting layout s) m q ≡ Down)) ⊎
      ((mark_at (enlisting layout s) n p ≡ Down) × (mark_at (enlisting layout s) m q ≡ Up))
  unfolding enlisting
  in_ends n p m q d cable on here = rooted_ends layout sound s inv.cabled.live_both s.owner inv.shaped.owner_below n p m q d on cable here

  in_down : (n p m q d e : ℕ) → Cable layout n p m q → live_at s n p ≡ true → reach layout s n ≡ Some d → reach layout s m ≡ Some e →
      d * layout.count + n ≤ e * layout.count + m → mark_at (enlisting layout s) n p ≡ Down
  unfolding enlisting
  in_down n p m q d e cable on here there higher =
      rooted_down layout sound s inv.cabled.live_both s.owner inv.shaped.owner_below n p m q d e on cable here there higher

  in_parent : (n d : ℕ) → reach layout s n ≡ Some d → (n ≡ s.owner → ⊥) →
      (p : ℕ) × (m : ℕ) × (q : ℕ) × (e : ℕ) × Cable layout n p m q × (live_at s n p ≡ true) × (mark_at (enlisting layout s) n p ≡ Up) × (reach layout s m ≡ Some e) × (d ≡ e + 1)
  unfolding enlisting
  in_parent n d here other =
      let up = rooted_parent layout sound s inv.cabled.live_both s.owner inv.shaped.owner_below n d here other in
      (up.port, up.node, up.far_port, up.nearer, up.cable, up.live, up.marked_up, up.distance_there, up.one_less)

  -- Cables

  abbrev Where : ℕ → Type 0
  Where n = ((d : ℕ) × (reach layout s n ≡ Some d)) ⊎ (reach layout s n ≡ None)

  whereabouts : (n : ℕ) → Where n
  whereabouts n = reach_cases layout s n

  live_both_in : (n p : ℕ) → live_at (enlisting layout s) n p ≡ true → (m : ℕ) × (q : ℕ) × Cable layout n p m q × (live_at (enlisting layout s) m q ≡ true)
  live_both_in n p on =
      let (m, q, cable, far) = inv.cabled.live_both n p (live_was n p on) in
      (m, q, cable, live_same m q ∙ far)

  marked_cable_in : (n p : ℕ) → is_marked (mark_at (enlisting layout s) n p) ≡ true → (m : ℕ) × (q : ℕ) × Cable layout n p m q
  marked_cable_in n p marked = go (whereabouts n)
    where
      go : Where n → (m : ℕ) × (q : ℕ) × Cable layout n p m q
      go (inl (d, here)) =
          let (m, q, cable, far) = inv.cabled.live_both n p (marked_live n p d here marked) in
          (m, q, cable)
      go (inr none) = inv.cabled.marked_cable n p (sym (ap is_marked (out_mark n p none)) ∙ marked)

  marked_both_in : (n p m q : ℕ) → Cable layout n p m q → live_at (enlisting layout s) n p ≡ true →
      is_marked (mark_at (enlisting layout s) n p) ≡ is_marked (mark_at (enlisting layout s) m q)
  marked_both_in n p m q cable on = go (whereabouts n)
    where
      live : live_at s n p ≡ true
      live = live_was n p on

      go : Where n → is_marked (mark_at (enlisting layout s) n p) ≡ is_marked (mark_at (enlisting layout s) m q)
      go (inl (d, here)) =
          let (e, there, near) = next_in n p m q d cable live here in
          in_marks n p d here ∙ live ∙ sym (back_live n p m q cable live) ∙ sym (in_marks m q e there)
      go (inr none) =
          ap is_marked (out_mark n p none) ∙ inv.cabled.marked_both n p m q cable live ∙ sym (ap is_marked (out_mark m q (next_out n p m q cable live none)))

  unmarked_hand_in : (n p : ℕ) → live_at (enlisting layout s) n p ≡ true → is_marked (mark_at (enlisting layout s) n p) ≡ false → hand_at (enlisting layout s) n ≡ true
  unmarked_hand_in n p on unmarked = go (whereabouts n)
    where
      go : Where n → hand_at (enlisting layout s) n ≡ true
      go (inl (d, here)) = absurd (both_ways (is_marked (mark_at (enlisting layout s) n p)) unmarked (in_marks n p d here ∙ live_was n p on))
      go (inr none) = out_hand n none ∙ inv.cabled.unmarked_hand n p (live_was n p on) (sym (ap is_marked (out_mark n p none)) ∙ unmarked)

  cut_hand_in : (n p : ℕ) → is_marked (mark_at (enlisting layout s) n p) ≡ true → live_at (enlisting layout s) n p ≡ false → hand_at (enlisting layout s) n ≡ true
  cut_hand_in n p marked off = go (whereabouts n)
    where
      go : Where n → hand_at (enlisting layout s) n ≡ true
      go (inl (d, here)) = absurd (both_ways (live_at (enlisting layout s) n p) off (live_same n p ∙ marked_live n p d here marked))
      go (inr none) = out_hand n none ∙ inv.cabled.cut_hand n p (sym (ap is_marked (out_mark n p none)) ∙ marked) (sym (live_same n p) ∙ off)

  pub enlisting_cabled : Cabled layout (enlisting layout s)
  enlisting_cabled = record {
    live_both = live_both_in;
    marked_cable = marked_cable_in;
    marked_both = marked_both_in;
    unmarked_hand = unmarked_hand_in;
    cut_hand = cut_hand_in;
  }

  -- Modes

  -- A node of the new recovery, by a mode that it is said to have.
  in_mode_only : (n d root left : ℕ) → reach layout s n ≡ Some d → mode_at (enlisting layout s) n ≡ Recovering root left → (s.owner ≡ root) × (layout.count ≡ left)
  in_mode_only n d root left here e = let now = in_mode n d here in (cc, cc)

  in_known : (n d : ℕ) → reach layout s n ≡ Some d → mode_at (enlisting layout s) n ≡ New → ⊥
  in_known n d here e = let now = in_mode n d here in let z : ◌≡◌ {A = ℕ} 0 1 = cc in omega arith

  new_hand_in : (n : ℕ) → n < layout.count → mode_at (enlisting layout s) n ≡ New → hand_at (enlisting layout s) n ≡ true
  new_hand_in n inside e = go (whereabouts n)
    where
      go : Where n → hand_at (enlisting layout s) n ≡ true
      go (inl (d, here)) = absurd (in_known n d here e)
      go (inr none) = out_hand n none ∙ inv.moded.new_hand n inside (sym (out_mode n none) ∙ e)

  new_unmarked_in : (n p : ℕ) → mode_at (enlisting layout s) n ≡ New → is_marked (mark_at (enlisting layout s) n p) ≡ false
  new_unmarked_in n p e = go (whereabouts n)
    where
      go : Where n → is_marked (mark_at (enlisting layout s) n p) ≡ false
      go (inl (d, here)) = absurd (in_known n d here e)
      go (inr none) = ap is_marked (out_mark n p none) ∙ inv.moded.new_unmarked n p (sym (out_mode n none) ∙ e)

  -- Both ends of a live cable: in the new recovery, or as before.
  recovers_both_in : (n p m q root left : ℕ) → Cable layout n p m q → live_at (enlisting layout s) n p ≡ true →
      mode_at (enlisting layout s) n ≡ Recovering root left → mode_at (enlisting layout s) m ≡ Recovering root left
  recovers_both_in n p m q root left cable on e = go (whereabouts n)
    where
      go : Where n → mode_at (enlisting layout s) m ≡ Recovering root left
      go (inl (d, here)) =
          let (d', there, near) = next_in n p m q d cable (live_was n p on) here in
          in_mode m d' there ∙ sym (in_mode n d here) ∙ e
      go (inr none) =
          out_mode m (next_out n p m q cable (live_was n p on) none) ∙
          inv.moded.recovers_both n p m q root left cable (live_was n p on) (sym (out_mode n none) ∙ e)

  marked_same_in : (n p m q : ℕ) → Cable layout n p m q → live_at (enlisting layout s) n p ≡ true → is_marked (mark_at (enlisting layout s) n p) ≡ true →
      mode_at (enlisting layout s) n ≡ mode_at (enlisting layout s) m
  marked_same_in n p m q cable on marked = go (whereabouts n)
    where
      go : Where n → mode_at (enlisting layout s) n ≡ mode_at (enlisting layout s) m
      go (inl (d, here)) =
          let (d', there, near) = next_in n p m q d cable (live_was n p on) here in
          in_mode n d here ∙ sym (in_mode m d' there)
      go (inr none) =
          out_mode n none ∙
          inv.moded.marked_same n p m q cable (live_was n p on) (sym (ap is_marked (out_mark n p none)) ∙ marked) ∙
          sym (out_mode m (next_out n p m q cable (live_was n p on) none))

  stays_inside_in : (n p m q root left : ℕ) → Cable layout n p m q → is_marked (mark_at (enlisting layout s) n p) ≡ true →
      mode_at (enlisting layout s) n ≡ Recovering root left → mode_at (enlisting layout s) m ≡ Recovering root left
  stays_inside_in n p m q root left cable marked e = go (whereabouts n)
    where
      go : Where n → mode_at (enlisting layout s) m ≡ Recovering root left
      go (inl (d, here)) =
          let (d', there, near) = next_in n p m q d cable (marked_live n p d here marked) here in
          in_mode m d' there ∙ sym (in_mode n d here) ∙ e
      go (inr none) =
          let far : mode_at s m ≡ Recovering root left =
          inv.moded.stays_inside n p m q root left cable (sym (ap is_marked (out_mark n p none)) ∙ marked) (sym (out_mode n none) ∙ e) in
          out_mode m (recovering_out m root left far) ∙ far

  opposite_in : (n p m q root left : ℕ) → Cable layout n p m q → is_marked (mark_at (enlisting layout s) n p) ≡ true → mode_at (enlisting layout s) n ≡ Recovering root left →
      (is_up (mark_at (enlisting layout s) n p) ≡ is_down (mark_at (enlisting layout s) m q)) × (is_down (mark_at (enlisting layout s) n p) ≡ is_up (mark_at (enlisting layout s) m q))
  opposite_in n p m q root left cable marked e = go (whereabouts n)
    where
      which : ((mark_at (enlisting layout s) n p ≡ Up) × (mark_at (enlisting layout s) m q ≡ Down)) ⊎ ((mark_at (enlisting layout s) n p ≡ Down) × (mark_at (enlisting layout s) m q ≡ Up)) →
          (is_up (mark_at (enlisting layout s) n p) ≡ is_down (mark_at (enlisting layout s) m q)) × (is_down (mark_at (enlisting layout s) n p) ≡ is_up (mark_at (enlisting layout s) m q))
      which (inl (up, down)) = (ap is_up up ∙ sym (ap is_down down), ap is_down up ∙ sym (ap is_up down))
      which (inr (down, up)) = (ap is_up down ∙ sym (ap is_down up), ap is_down down ∙ sym (ap is_up up))

      go : Where n → (is_up (mark_at (enlisting layout s) n p) ≡ is_down (mark_at (enlisting layout s) m q)) × (is_down (mark_at (enlisting layout s) n p) ≡ is_up (mark_at (enlisting layout s) m q))
      go (inl (d, here)) = which (in_ends n p m q d cable (marked_live n p d here marked) here)
      go (inr none) =
          let was : is_marked (mark_at s n p) ≡ true = sym (ap is_marked (out_mark n p none)) ∙ marked in
          let mode : mode_at s n ≡ Recovering root left = sym (out_mode n none) ∙ e in
          let out = recovering_out m root left (inv.moded.stays_inside n p m q root left cable was mode) in (
            ap is_up (out_mark n p none) ∙ inv.moded.opposite_up n p m q root left cable was mode ∙ sym (ap is_down (out_mark m q out)),
            ap is_down (out_mark n p none) ∙ inv.moded.opposite_down n p m q root left cable was mode ∙ sym (ap is_up (out_mark m q out)),
          )

  root_below_in : (n root left : ℕ) → mode_at (enlisting layout s) n ≡ Recovering root left → root < layout.count
  root_below_in n root left e = go (whereabouts n)
    where
      go : Where n → root < layout.count
      go (inl (d, here)) = let same = in_mode_only n d root left here e in omega (arith, inv.shaped.owner_below)
      go (inr none) = inv.moded.root_below n root left (sym (out_mode n none) ∙ e)

  left_in : (n root left : ℕ) → mode_at (enlisting layout s) n ≡ Recovering root left → (1 ≤ left) × (left ≤ layout.count)
  left_in n root left e = go (whereabouts n)
    where
      go : Where n → (1 ≤ left) × (left ≤ layout.count)
      go (inl (d, here)) = let same = in_mode_only n d root left here e in (omega (arith, sound.some_nodes), omega arith)
      go (inr none) =
          let was : mode_at s n ≡ Recovering root left = sym (out_mode n none) ∙ e in
          (inv.moded.left_some n root left was, omega (arith, inv.moded.left_few n root left was))

  left_owner_in : (n root left : ℕ) → mode_at (enlisting layout s) n ≡ Recovering root left → (enlisting layout s).owner ≡ (root + (layout.count - left)) % layout.count
  left_owner_in n root left e = enlisting_owner layout s ∙ go (whereabouts n)
    where
      go : Where n → s.owner ≡ (root + (layout.count - left)) % layout.count
      go (inl (d, here)) =
          let same = in_mode_only n d root left here e in
          let round : s.owner ≡ root + (layout.count - left) = omega arith in
          sym (mod-eq_of_lt inv.shaped.owner_below) ∙ ap (λ k. k % layout.count) round
      go (inr none) = inv.moded.left_owner n root left (sym (out_mode n none) ∙ e)

  pub enlisting_loose : Loose layout (enlisting layout s)
  enlisting_loose = record {
    new_hand = new_hand_in;
    new_unmarked = new_unmarked_in;
    recovers_both = recovers_both_in;
    marked_same = marked_same_in;
    stays_inside = stays_inside_in;
    opposite_up = λ n p m q root left cable marked e. (opposite_in n p m q root left cable marked e).0;
    opposite_down = λ n p m q root left cable marked e. (opposite_in n p m q root left cable marked e).1;
    root_below = root_below_in;
    left_some = λ n root left e. (left_in n root left e).0;
    left_few = λ n root left e. (left_in n root left e).1;
    left_owner = left_owner_in;
  }

  -- Order

  depth_in : ℕ → ℕ
  depth_in n = elim (reach layout s n) [ None ↦ inv.ordered.depth n | Some d ↦ d ]

  ord_in : ℕ → ℕ
  ord_in n = elim (reach layout s n) [ None ↦ inv.ordered.ord n | Some d ↦ d * layout.count + n ]

  depth_new : (n d : ℕ) → reach layout s n ≡ Some d → depth_in n ≡ d
  unfolding depth_in
  depth_new n d e = ap (λ o. elim o [ None ↦ inv.ordered.depth n | Some k ↦ k ]) e

  depth_old : (n : ℕ) → reach layout s n ≡ None → depth_in n ≡ inv.ordered.depth n
  unfolding depth_in
  depth_old n e = ap (λ o. elim o [ None ↦ inv.ordered.depth n | Some k ↦ k ]) e

  ord_new : (n d : ℕ) → reach layout s n ≡ Some d → ord_in n ≡ d * layout.count + n
  unfolding ord_in
  ord_new n d e = ap (λ o. elim o [ None ↦ inv.ordered.ord n | Some k ↦ k * layout.count + n ]) e

  ord_old : (n : ℕ) → reach layout s n ≡ None → ord_in n ≡ inv.ordered.ord n
  unfolding ord_in
  ord_old n e = ap (λ o. elim o [ None ↦ inv.ordered.ord n | Some k ↦ k * layout.count + n ]) e

  ord_below_in : (n : ℕ) → n < layout.count → ord_in n < inv.ordered.top + layout.count * layout.count
  ord_below_in n inside = go (whereabouts n)
    where
      go : Where n → ord_in n < inv.ordered.top + layout.count * layout.count
      go (inl (d, here)) =
          let few : d < layout.count = distance_below layout sound s inv.cabled.live_both s.owner inv.shaped.owner_below n d here in
          omega (arith, ord_new n d here, order_closer layout.count 0 n layout.count d inside few)
      go (inr none) = omega (arith, ord_old n none, inv.ordered.ord_below n inside)

  -- A cable of the new recovery, or one as before.
  abbrev Ends : ℕ → ℕ → Type 0
  Ends n m = ((d : ℕ) × (e : ℕ) × (reach layout s n ≡ Some d) × (reach layout s m ≡ Some e)) ⊎ ((reach layout s n ≡ None) × (reach layout s m ≡ None))

  ends : (n p m q : ℕ) → Cable layout n p m q → live_at s n p ≡ true → Ends n m
  ends n p m q cable live = go (whereabouts n)
    where
      go : Where n → Ends n m
      go (inl (d, here)) = let (e, there, near) = next_in n p m q d cable live here in inl (d, e, here, there)
      go (inr none) = inr (none, next_out n p m q cable live none)

  up_lower_in : (n p m q : ℕ) → Cable layout n p m q → live_at (enlisting layout s) n p ≡ true → mark_at (enlisting layout s) n p ≡ Up → ord_in m < ord_in n
  up_lower_in n p m q cable on up = go (ends n p m q cable (live_was n p on))
    where
      which : (d e : ℕ) → reach layout s n ≡ Some d → reach layout s m ≡ Some e →
          (e * layout.count + m < d * layout.count + n) ⊎ (d * layout.count + n ≤ e * layout.count + m) → ord_in m < ord_in n
      which d e here there (inl lower) = omega (arith, ord_new n d here, ord_new m e there)
      which d e here there (inr higher) =
          let down = in_down n p m q d e cable (live_was n p on) here there higher in
          absurd (let z : ◌≡◌ {A = ℕ} 0 1 = cc in omega arith)

      go : Ends n m → ord_in m < ord_in n
      go (inl (d, e, here, there)) = which d e here there (cases_lt (e * layout.count + m) (d * layout.count + n))
      go (inr (none, out)) =
          omega (arith, ord_old n none, ord_old m out, inv.ordered.up_lower n p m q cable (live_was n p on) (sym (out_mark n p none) ∙ up))

  down_higher_in : (n p m q : ℕ) → Cable layout n p m q → live_at (enlisting layout s) n p ≡ true → mark_at (enlisting layout s) n p ≡ Down → ord_in n < ord_in m
  down_higher_in n p m q cable on down = go (ends n p m q cable (live_was n p on))
    where
      which : ((mark_at (enlisting layout s) n p ≡ Up) × (mark_at (enlisting layout s) m q ≡ Down)) ⊎ ((mark_at (enlisting layout s) n p ≡ Down) × (mark_at (enlisting layout s) m q ≡ Up)) → ord_in n < ord_in m
      which (inl (up, far)) = absurd (let z : ◌≡◌ {A = ℕ} 0 1 = cc in omega arith)
      which (inr (here, far)) = up_lower_in m q n p (sound.returns n p m q cable) (live_same m q ∙ back_live n p m q cable (live_was n p on)) far

      go : Ends n m → ord_in n < ord_in m
      go (inl (d, e, here, there)) = which (in_ends n p m q d cable (live_was n p on) here)
      go (inr (none, out)) =
          omega (arith, ord_old n none, ord_old m out, inv.ordered.down_higher n p m q cable (live_was n p on) (sym (out_mark n p none) ∙ down))

  depth_near_in : (n p m q : ℕ) → Cable layout n p m q → live_at (enlisting layout s) n p ≡ true → is_marked (mark_at (enlisting layout s) n p) ≡ true → depth_in m ≤ depth_in n + 1
  depth_near_in n p m q cable on marked = go (ends n p m q cable (live_was n p on))
    where
      go : Ends n m → depth_in m ≤ depth_in n + 1
      go (inl (d, e, here, there)) =
          omega (
            arith,
            depth_new n d here,
            depth_new m e there,
            distance_step layout sound s inv.cabled.live_both s.owner inv.shaped.owner_below n p m q d e (live_was n p on) cable here there,
          )
      go (inr (none, out)) =
          omega (
            arith,
            depth_old n none,
            depth_old m out,
            inv.ordered.depth_near n p m q cable (live_was n p on) (sym (ap is_marked (out_mark n p none)) ∙ marked),
          )

  depth_ord_in : (n p m q : ℕ) → Cable layout n p m q → live_at (enlisting layout s) n p ≡ true → is_marked (mark_at (enlisting layout s) n p) ≡ true →
      depth_in n < depth_in m → ord_in n < ord_in m
  depth_ord_in n p m q cable on marked less = go (ends n p m q cable (live_was n p on))
    where
      go : Ends n m → ord_in n < ord_in m
      go (inl (d, e, here, there)) =
          let closer : d < e = omega (arith, depth_new n d here, depth_new m e there) in
          omega (arith, ord_new n d here, ord_new m e there, order_closer layout.count m n e d (below n d here) closer)
      go (inr (none, out)) =
          let before : inv.ordered.depth n < inv.ordered.depth m = omega (arith, depth_old n none, depth_old m out) in
          omega (
            arith,
            ord_old n none,
            ord_old m out,
            inv.ordered.depth_ord n p m q cable (live_was n p on) (sym (ap is_marked (out_mark n p none)) ∙ marked) before,
          )

  depth_root_in : (n : ℕ) → n < layout.count → (mode_at (enlisting layout s) n ≡ New → ⊥) → depth_in n ≡ 0 → NamesRoot (mode_at (enlisting layout s) n) n
  depth_root_in n inside known zero-deep = go (whereabouts n)
    where
      go : Where n → NamesRoot (mode_at (enlisting layout s) n) n
      go (inl (d, here)) =
          let none : d ≡ 0 = sym (depth_new n d here) ∙ zero-deep in
          let is : n ≡ s.owner = zero_root layout sound s inv.cabled.live_both s.owner inv.shaped.owner_below n (here ∙ ap Some none) in
          subst (λ mode. NamesRoot mode n) (sym (in_mode n d here)) (sym is)
      go (inr none) =
          subst (λ mode. NamesRoot mode n) (sym (out_mode n none))
          (inv.ordered.depth_root n inside (λ e. known (out_mode n none ∙ e)) (sym (depth_old n none) ∙ zero-deep))

  parent_in : (n : ℕ) → n < layout.count → (mode_at (enlisting layout s) n ≡ New → ⊥) → 1 ≤ depth_in n → hand_at (enlisting layout s) n ≡ false →
      (p : ℕ) × (m : ℕ) × (q : ℕ) × Cable layout n p m q × (live_at (enlisting layout s) n p ≡ true) × (mark_at (enlisting layout s) n p ≡ Up) × (depth_in n ≡ depth_in m + 1)
  parent_in n inside known deep down = go (whereabouts n)
    where
      not_owner : (d : ℕ) → reach layout s n ≡ Some d → n ≡ s.owner → ⊥
      not_owner d here is =
          let at_root : reach layout s n ≡ Some 0 = ap (reach layout s) is ∙ root_zero layout sound s inv.cabled.live_both s.owner inv.shaped.owner_below in
          omega (arith, depth_new n 0 at_root)

      go : Where n → (p : ℕ) × (m : ℕ) × (q : ℕ) × Cable layout n p m q × (live_at (enlisting layout s) n p ≡ true) × (mark_at (enlisting layout s) n p ≡ Up) × (depth_in n ≡ depth_in m + 1)
      go (inl (d, here)) =
          let (p, m, q, e, cable, live, up, there, one_less) = in_parent n d here (not_owner d here) in
          (p, m, q, cable, live_same n p ∙ live, up, omega (arith, one_less, depth_new n d here, depth_new m e there))
      go (inr none) =
          let (p, m, q, cable, live, up, one_less) =
          inv.ordered.parent n inside (λ e. known (out_mode n none ∙ e)) (omega (arith, depth_old n none)) (sym (out_hand n none) ∙ down) in (
            p,
            m,
            q,
            cable,
            live_same n p ∙ live,
            out_mark n p none ∙ up,
            omega (arith, depth_old n none, depth_old m (next_out n p m q cable live none)),
          )

  pub enlisting_ordered : Ordered layout (enlisting layout s)
  enlisting_ordered = record {
    depth = depth_in;
    ord = ord_in;
    top = inv.ordered.top + layout.count * layout.count;
    ord_below = ord_below_in;
    up_lower = up_lower_in;
    down_higher = down_higher_in;
    depth_near = depth_near_in;
    depth_ord = depth_ord_in;
    depth_root = depth_root_in;
    parent = parent_in;
  }

  -- Routing tables

  -- An entry stands at a node that is not in the new recovery.
  entry_out : (n x : ℕ) (ports : Ports) (count : ℕ) → entry_at (enlisting layout s) n x ≡ entry ports count →
      (reach layout s n ≡ None) × (entry_at s n x ≡ entry ports count)
  entry_out n x ports count e = go (whereabouts n)
    where
      go : Where n → (reach layout s n ≡ None) × (entry_at s n x ≡ entry ports count)
      go (inl (d, here)) = let empty = in_entry n x d here in absurd (let z : ◌≡◌ {A = ℕ} 0 1 = cc in omega arith)
      go (inr none) = (none, sym (out_entry n x none) ∙ e)

  own_nothing_in : (n : ℕ) → entry_at (enlisting layout s) n n ≡ nothing
  own_nothing_in n = go (whereabouts n)
    where
      go : Where n → entry_at (enlisting layout s) n n ≡ nothing
      go (inl (d, here)) = in_entry n n d here
      go (inr none) = out_entry n n none ∙ inv.routed.own_nothing n

  entry_live_in : (n x : ℕ) (ports : Ports) (count p : ℕ) → entry_at (enlisting layout s) n x ≡ entry ports count → has ports p ≡ true → hand_at (enlisting layout s) n ≡ false →
      (live_at (enlisting layout s) n p ≡ true) × (is_marked (mark_at (enlisting layout s) n p) ≡ true)
  entry_live_in n x ports count p e h down =
      let (none, old) = entry_out n x ports count e in
      let (live, marked) = inv.routed.entry_live n x ports count p old h (sym (out_hand n none) ∙ down) in
      (live_same n p ∙ live, ap is_marked (out_mark n p none) ∙ marked)

  leads_in : (m q x count : ℕ) → reach layout s m ≡ None → Leads s m q x count → Leads (enlisting layout s) m q x count
  leads_in m q x count none (inl there) = inl there
  leads_in m q x count none (inr (ports, fewer, p, at_m, one_more, has_p, ok)) =
      inr (ports, fewer, p, out_entry m x none ∙ at_m, one_more, has_p, (λ i. turn (out_mark m q none i) (out_mark m p none i)) ∙ ok)

  entry_leads_in : (n x : ℕ) (ports : Ports) (count p m q : ℕ) → entry_at (enlisting layout s) n x ≡ entry ports count → has ports p ≡ true →
      Cable layout n p m q → live_at (enlisting layout s) n p ≡ true → is_marked (mark_at (enlisting layout s) n p) ≡ true → Leads (enlisting layout s) m q x count
  entry_leads_in n x ports count p m q e h cable on marked =
      let (none, old) = entry_out n x ports count e in
      leads_in m q x count (next_out n p m q cable (live_was n p on) none)
      (inv.routed.entry_leads n x ports count p m q old h cable (live_was n p on) (sym (ap is_marked (out_mark n p none)) ∙ marked))

  entry_there_in : (n x k : ℕ) → Way layout (enlisting layout s) n x k → (n ≡ x → ⊥) → Passed layout.count (mode_at (enlisting layout s) n) x →
      ((m j : ℕ) → Way layout (enlisting layout s) n m j → hand_at (enlisting layout s) m ≡ false) →
      (ports : Ports) × (count : ℕ) × (entry_at (enlisting layout s) n x ≡ entry ports count)
  entry_there_in n x k way other passed down = go (whereabouts n)
    where
      go : Where n → (ports : Ports) × (count : ℕ) × (entry_at (enlisting layout s) n x ≡ entry ports count)
      go (inl (d, here)) =
          let (i, few, is) = subst (λ mode. Passed layout.count mode x) (in_mode n d here) passed in
          absurd (omega arith)
      go (inr none) =
          let (ports, count, old) = inv.routed.entry_there n x k (way_same live_was way) other
          (subst (λ mode. Passed layout.count mode x) (out_mode n none) passed)
          (λ m j w. sym (out_hand m (way_out n m j w none)) ∙ down m j (way_same (λ a p on. live_same a p ∙ on) w)) in
          (ports, count, out_entry n x none ∙ old)

  pub enlisting_routed : Routed layout (enlisting layout s)
  enlisting_routed = record {
    own_nothing = own_nothing_in;
    entry_passed = λ n x ports count e.
        let (none, old) = entry_out n x ports count e in
        subst (λ mode. Passed layout.count mode x) (sym (out_mode n none)) (inv.routed.entry_passed n x ports count old);
    entry_count = λ n x ports count e. inv.routed.entry_count n x ports count (entry_out n x ports count e).1;
    entry_port = λ n x ports count e. inv.routed.entry_port n x ports count (entry_out n x ports count e).1;
    entry_live = entry_live_in;
    entry_leads = entry_leads_in;
    entry_there = entry_there_in;
  }

  -- Packets

  packet_was : (x : Packet) → Has (enlisting layout s).packets x → Has s.packets x
  packet_was x there = subst (λ ps. Has ps x) (enlisting_packets layout s) there

  node_known_in : (x : Packet) → Has (enlisting layout s).packets x → mode_at (enlisting layout s) x.node ≡ New → ⊥
  node_known_in x there e = go (whereabouts x.node)
    where
      go : Where x.node → ⊥
      go (inl (d, here)) = in_known x.node d here e
      go (inr none) = inv.flying.node_known x (packet_was x there) (sym (out_mode x.node none) ∙ e)

  way_on_in : (x : Packet) (a root : ℕ) → Has (enlisting layout s).packets x → x.standing ≡ Some a → mode_at (enlisting layout s) x.node ≡ Serving root →
      hand_at (enlisting layout s) x.node ≡ false → (x.node ≡ x.destination → ⊥) →
      (ports : Ports) × (count : ℕ) × (p : ℕ) × (entry_at (enlisting layout s) x.node x.destination ≡ entry ports count)
      × (has ports p ≡ true) × (turn (mark_at (enlisting layout s) x.node a) (mark_at (enlisting layout s) x.node p) ≡ true)
  way_on_in x a root there stands serves down elsewhere = go (whereabouts x.node)
    where
      go : Where x.node → (ports : Ports) × (count : ℕ) × (p : ℕ) × (entry_at (enlisting layout s) x.node x.destination ≡ entry ports count)
          × (has ports p ≡ true) × (turn (mark_at (enlisting layout s) x.node a) (mark_at (enlisting layout s) x.node p) ≡ true)
      go (inl (d, here)) = let now = in_mode x.node d here in absurd (let z : ◌≡◌ {A = ℕ} 0 1 = cc in omega arith)
      go (inr none) =
          let (ports, count, p, at_x, has_p, ok) =
          inv.flying.way_on x a root (packet_was x there) stands (sym (out_mode x.node none) ∙ serves) (sym (out_hand x.node none) ∙ down) elsewhere in
          (ports, count, p, out_entry x.node x.destination none ∙ at_x, has_p, (λ i. turn (out_mark x.node a none i) (out_mark x.node p none i)) ∙ ok)

  pub enlisting_flying : Flying layout (enlisting layout s)
  enlisting_flying = record {
    few = rw (enlisting_packets layout s) inv.flying.few;
    numbers_rise = rw (enlisting_packets layout s) inv.flying.numbers_rise;
    numbers_given = λ x there. rw (enlisting_last layout s) (inv.flying.numbers_given x (packet_was x there));
    ports_apart = rw (enlisting_packets layout s) inv.flying.ports_apart;
    node_below = λ x there. inv.flying.node_below x (packet_was x there);
    destination_below = λ x there. inv.flying.destination_below x (packet_was x there);
    node_known = node_known_in;
    port_cable = λ x p there stands. inv.flying.port_cable x p (packet_was x there) stands;
    way_on = way_on_in;
  }

  -- The root itself is in the new recovery.
  pub enlisting_speaks : mode_at (enlisting layout s) (enlisting layout s).owner ≡ Recovering s.owner layout.count
  enlisting_speaks =
      ap (mode_at (enlisting layout s)) (enlisting_owner layout s) ∙
      in_mode s.owner 0 (root_zero layout sound s inv.cabled.live_both s.owner inv.shaped.owner_below)
