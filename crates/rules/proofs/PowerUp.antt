-- The wall at power-up keeps the invariant: every node is new, its hand is up, no port is marked,
-- every row is empty and no packet is in flight.
use Rattle.std.proofs.Common.{◌≡◌, ℕ, zero, suc, ◌<◌, ◌≤◌, true, false, ◌⊎◌, get_or, replicate, is_some, Some, None, Option, sym, refl, ap, ◌∙◌, inl, inr, arith}
use lib.ListN.{length-replicate}
use Rattle.std.specs.List.{ContainsAt as Has}
use Rattle.std.proofs.lemmas.Bool.{both_ways, cases_lt}
use Rattle.wiring.specs.Layout.{Layout, Sound}
use Rattle.rules.specs.declared.Mark.TheVariants.{Unmarked}
use Rattle.rules.specs.declared.Mode.TheVariants.{New, Recovering}
use Rattle.rules.specs.declared.Packet.{Packet}
use Rattle.rules.specs.Ports.{Ports}
use Rattle.rules.specs.State.{Node, nothing, entry, absent, node_of, no_marks, fresh, power_up}
use Rattle.rules.specs.Flood.{is_marked}
use Rattle.rules.proofs.Invariant.{mode_at, hand_at, live_at, mark_at, entry_at, Cable, Shaped, Cabled, Moded, Ordered, Routed, Flying, Invariant}
use Rattle.rules.proofs.Tables.{table_length, table_at, table_past, where_at, where_has}

-- Readings

pub power_up_node : (layout : Layout) (n : ℕ) → n < layout.count → node_of (power_up layout).nodes n ≡ fresh layout n
unfolding power_up
power_up_node layout n below = table_at layout.count (fresh layout) n absent below

pub power_up_past : (layout : Layout) (n : ℕ) → layout.count ≤ n → node_of (power_up layout).nodes n ≡ absent
unfolding power_up
power_up_past layout n past = table_past layout.count (fresh layout) n absent past

pub power_up_mode : (layout : Layout) (n : ℕ) → mode_at (power_up layout) n ≡ New
unfolding fresh
power_up_mode layout n = go (cases_lt n layout.count)
  where
    go : (n < layout.count) ⊎ (layout.count ≤ n) → mode_at (power_up layout) n ≡ New
    go (inl below) = ap (λ (node : Node). node.mode) (power_up_node layout n below)
    go (inr past) = ap (λ (node : Node). node.mode) (power_up_past layout n past)

pub power_up_hand : (layout : Layout) (n : ℕ) → n < layout.count → hand_at (power_up layout) n ≡ true
unfolding fresh
power_up_hand layout n below = ap (λ (node : Node). node.hand) (power_up_node layout n below)

pub power_up_mark : (layout : Layout) (n p : ℕ) → mark_at (power_up layout) n p ≡ Unmarked
unfolding fresh
power_up_mark layout n p = go (cases_lt n layout.count)
  where
    none : (q : ℕ) → get_or no_marks q Unmarked ≡ Unmarked
    none zero = refl
    none (suc zero) = refl
    none (suc (suc zero)) = refl
    none (suc (suc (suc zero))) = refl
    none (suc (suc (suc (suc q)))) = refl

    go : (n < layout.count) ⊎ (layout.count ≤ n) → mark_at (power_up layout) n p ≡ Unmarked
    go (inl below) = rw (power_up_node layout n below) (none p)
    go (inr past) = rw (power_up_past layout n past)

pub power_up_entry : (layout : Layout) (n x : ℕ) → entry_at (power_up layout) n x ≡ nothing
unfolding fresh
power_up_entry layout n x = go (cases_lt n layout.count)
  where
    none : (k i : ℕ) → get_or (replicate k nothing) i nothing ≡ nothing
    none zero i = refl
    none (suc k) zero = refl
    none (suc k) (suc i) = none k i

    go : (n < layout.count) ⊎ (layout.count ≤ n) → entry_at (power_up layout) n x ≡ nothing
    go (inl below) = rw (power_up_node layout n below) (none layout.count x)
    go (inr past) = rw (power_up_past layout n past)

-- A live port has a cable.
pub power_up_live : (layout : Layout) (n p : ℕ) → live_at (power_up layout) n p ≡ true →
    (n < layout.count) × ((m : ℕ) × (q : ℕ) × Cable layout n p m q)
unfolding fresh
power_up_live layout n p live = go (cases_lt n layout.count)
  where
    some : (far : Option (ℕ × ℕ)) → is_some far ≡ true → (m : ℕ) × (q : ℕ) × (far ≡ Some (m, q))
    some None e = absurd (both_ways false refl e)
    some (Some end) e = (end.0, end.1, refl)

    go : (n < layout.count) ⊎ (layout.count ≤ n) → (n < layout.count) × ((m : ℕ) × (q : ℕ) × Cable layout n p m q)
    go (inl below) = (below, some (layout.far n p) (where_has (λ r. is_some (layout.far n r)) p (rw (power_up_node layout n below) at live)).1)
    go (inr past) = absurd (both_ways false refl (rw (power_up_past layout n past) at live))

-- A port with a cable is live.
pub power_up_cable : (layout : Layout) (n p m q : ℕ) → n < layout.count → p < 4 → Cable layout n p m q → live_at (power_up layout) n p ≡ true
unfolding fresh
power_up_cable layout n p m q below port cable =
    rw (power_up_node layout n below) (where_at (λ r. is_some (layout.far n r)) p port ∙ ap is_some cable)

-- The invariant

module _ (layout : Layout) (sound : Sound layout) where
  is_unmarked : (n p : ℕ) → is_marked (mark_at (power_up layout) n p) ≡ false
  is_unmarked n p = ap is_marked (power_up_mark layout n p)

  not_marked : {A : Type 0} (n p : ℕ) → is_marked (mark_at (power_up layout) n p) ≡ true → A
  not_marked n p marked = absurd (both_ways (is_marked (mark_at (power_up layout) n p)) (is_unmarked n p) marked)

  no_entry : {A : Type 0} (n x : ℕ) (ports : Ports) (count : ℕ) → entry_at (power_up layout) n x ≡ entry ports count → A
  no_entry n x ports count e =
      let none = power_up_entry layout n x in
      let clash : ◌≡◌ {A = ℕ} 0 1 = cc in
      absurd (omega arith)

  not_recovering : {A : Type 0} (n root left : ℕ) → mode_at (power_up layout) n ≡ Recovering root left → A
  not_recovering n root left e =
      let new = power_up_mode layout n in
      let clash : ◌≡◌ {A = ℕ} 0 1 = cc in
      absurd (omega arith)

  no_packet : {A : Type 0} (x : Packet) → Has (power_up layout).packets x → A
  unfolding power_up
  no_packet x h = absurd (omega (arith, h.1))

  shaped : Shaped layout (power_up layout)
  unfolding power_up fresh
  shaped = record {
    nodes_long = table_length layout.count (fresh layout);
    marks_long = λ n below. rw (power_up_node layout n below);
    row_long = λ n below. rw (power_up_node layout n below) (length-replicate layout.count nothing);
    owner_below = sound.some_nodes;
  }

  cabled : Cabled layout (power_up layout)
  cabled = record {
    live_both = λ n p live. both n p live;
    marked_cable = λ n p marked. not_marked n p marked;
    marked_both = λ n p m q cable live. is_unmarked n p ∙ sym (is_unmarked m q);
    unmarked_hand = λ n p live unmarked. power_up_hand layout n (power_up_live layout n p live).0;
    cut_hand = λ n p marked dead. not_marked n p marked;
  }
    where
      both : (n p : ℕ) → live_at (power_up layout) n p ≡ true → (m : ℕ) × (q : ℕ) × Cable layout n p m q × (live_at (power_up layout) m q ≡ true)
      both n p live =
          let found = power_up_live layout n p live in
          let m = found.1.0 in
          let q = found.1.1 in
          let range = sound.in_range n p m q found.1.2 in
          (m, q, found.1.2, power_up_cable layout m q n p range.0 range.1 (sound.returns n p m q found.1.2))

  moded : Moded layout (power_up layout)
  moded = record {
    new_hand = λ n below new. power_up_hand layout n below;
    new_unmarked = λ n p new. is_unmarked n p;
    recovers_both = λ n p m q root left cable live e. not_recovering n root left e;
    marked_same = λ n p m q cable live marked. not_marked n p marked;
    stays_inside = λ n p m q root left cable marked e. not_marked n p marked;
    opposite_up = λ n p m q root left cable marked e. not_marked n p marked;
    opposite_down = λ n p m q root left cable marked e. not_marked n p marked;
    root_below = λ n root left e. not_recovering n root left e;
    left_some = λ n root left e. not_recovering n root left e;
    left_few = λ n root left e. not_recovering n root left e;
    left_owner = λ n root left e. not_recovering n root left e;
  }

  ordered : Ordered layout (power_up layout)
  ordered = record {
    depth = λ n. 0;
    ord = λ n. 0;
    top = 1;
    ord_below = λ n below. omega arith;
    up_lower = λ n p m q cable live up. not_marked n p (ap is_marked up);
    down_higher = λ n p m q cable live down. not_marked n p (ap is_marked down);
    depth_near = λ n p m q cable live marked. not_marked n p marked;
    depth_ord = λ n p m q cable live marked less. not_marked n p marked;
    depth_root = λ n below old e. absurd (old (power_up_mode layout n));
    parent = λ n below old deep down. absurd (old (power_up_mode layout n));
  }

  routed : Routed layout (power_up layout)
  routed = record {
    own_nothing = λ n. power_up_entry layout n n;
    entry_passed = λ n x ports count e. no_entry n x ports count e;
    entry_count = λ n x ports count e. no_entry n x ports count e;
    entry_port = λ n x ports count e. no_entry n x ports count e;
    entry_live = λ n x ports count p e h down. no_entry n x ports count e;
    entry_leads = λ n x ports count p m q e h cable live marked. no_entry n x ports count e;
    entry_there = λ n x k way other passed down. absurd (rw (power_up_mode layout n) at passed);
  }

  flying : Flying layout (power_up layout)
  unfolding power_up
  flying = record {
    few = omega arith;
    numbers_rise = tt;
    numbers_given = λ x h. no_packet x h;
    ports_apart = tt;
    node_below = λ x h. no_packet x h;
    destination_below = λ x h. no_packet x h;
    node_known = λ x h new. no_packet x h;
    port_cable = λ x p h at_port. no_packet x h;
    way_on = λ x a root h at_port serves down elsewhere. no_packet x h;
  }

  pub power_up_keeps : Invariant layout (power_up layout)
  power_up_keeps = record { shaped = shaped; cabled = cabled; moded = moded; ordered = ordered; routed = routed; flying = flying }
