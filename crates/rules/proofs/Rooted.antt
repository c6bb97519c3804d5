-- What a root's broadcast leaves at each node, read from `rooted`; and that its marks follow the
-- order of the nodes, which follows their distances from the root.
use Rattle.std.proofs.Common.{◌≡◌, ℕ, zero, suc, ◌+◌, ◌*◌, ◌<◌, ◌≤◌, Bool, true, false, cond, ltb, ◌⊎◌, List, length, get_or, replicate, Some, None, Option, sym, refl, ap, ◌∙◌, inl, inr, mul-le-mul_right, suc-mul, arith}
use lib.ListN.{get_or-replicate, length-replicate, get_or-eq_default}
use Rattle.std.proofs.lemmas.Bool.{cases_eq, cases_lt, cases_order, cond-true, cond-false, lt-ltb, le-ltb}
use Rattle.wiring.specs.Layout.{Layout, Sound}
use Rattle.rules.specs.declared.Mark.TheVariants.{Unmarked, Up, Down}
use Rattle.rules.specs.declared.Mode.TheVariants.{Recovering}
use Rattle.rules.specs.State.{Node, State, nothing, absent, node_of, mark_of, live_of, entry_of}
use Rattle.rules.specs.Flood.{Cell, is_marked}
use Rattle.rules.specs.Root.{distances, distance, order, root_mark, enlisted, rooted}
use Rattle.rules.specs.Promise.{Joined}
use Rattle.rules.specs.Laws.{Distances, Enlists, Roots}
use Rattle.rules.proofs.Tables.{table_at, table_past, table_length}
use Rattle.rules.proofs.Distance.{LiveBoth, far_live, Nearer, nearer_cable, distance_near, joined_below, distances_least}

replicate_all : {X : Type 0} (n i : ℕ) (x : X) → get_or (replicate n x) i x ≡ x
replicate_all n i x = go (cases_lt i n)
  where
    go : (i < n) ⊎ (n ≤ i) → get_or (replicate n x) i x ≡ x
    go (inl below) = get_or-replicate n i x x below
    go (inr past) = get_or-eq_default (replicate n x) x (omega (arith, length-replicate n x))

-- Readings of `rooted`

module _ (layout : Layout) (nodes : List Node) (root : ℕ) where
  pub rooted_length : length (rooted layout nodes root) ≡ layout.count
  unfolding rooted
  rooted_length = table_length layout.count _

  pub rooted_outside : (n : ℕ) → layout.count ≤ n → node_of (rooted layout nodes root) n ≡ absent
  unfolding rooted
  rooted_outside n past = table_past layout.count _ n absent past

  abbrev after : ℕ → Option ℕ → Node
  after n known = elim known [ None ↦ node_of nodes n | Some d ↦ enlisted layout nodes (distances layout nodes root) root n ]

  -- Any node not joined to the root stays as it is.
  pub rooted_other : (n : ℕ) → n < layout.count → distance (distances layout nodes root) n ≡ None → node_of (rooted layout nodes root) n ≡ node_of nodes n
  unfolding rooted
  rooted_other n below e = table_at layout.count _ n absent below ∙ ap (after n) e

  -- A node joined to the root starts a recovery.
  pub rooted_joined : (n d : ℕ) → n < layout.count → distance (distances layout nodes root) n ≡ Some d →
      node_of (rooted layout nodes root) n ≡ enlisted layout nodes (distances layout nodes root) root n
  unfolding rooted
  rooted_joined n d below e = table_at layout.count _ n absent below ∙ ap (after n) e

  module _ (n d : ℕ) (below : n < layout.count) (e : distance (distances layout nodes root) n ≡ Some d) where
    pub rooted_mode : (node_of (rooted layout nodes root) n).mode ≡ Recovering root layout.count
    unfolding enlisted
    rooted_mode = ap (λ node. node.mode) (rooted_joined n d below e)

    pub rooted_hand : (node_of (rooted layout nodes root) n).hand ≡ false
    unfolding enlisted
    rooted_hand = ap (λ node. node.hand) (rooted_joined n d below e)

    pub rooted_live : (node_of (rooted layout nodes root) n).live ≡ (node_of nodes n).live
    unfolding enlisted
    rooted_live = ap (λ node. node.live) (rooted_joined n d below e)

    pub rooted_row : (node_of (rooted layout nodes root) n).row ≡ replicate layout.count nothing
    unfolding enlisted
    rooted_row = ap (λ node. node.row) (rooted_joined n d below e)

    pub rooted_entry : (x : ℕ) → entry_of (rooted layout nodes root) n x ≡ nothing
    rooted_entry x = rw rooted_row (replicate_all layout.count x nothing)

    pub rooted_marks_length : length (node_of (rooted layout nodes root) n).marks ≡ 4
    unfolding enlisted
    rooted_marks_length = ap (λ node. length node.marks) (rooted_joined n d below e)

    pub rooted_mark : (p : ℕ) → p < 4 → mark_of (rooted layout nodes root) n p ≡ root_mark layout nodes (distances layout nodes root) n p
    unfolding enlisted
    rooted_mark p port-below = ap (λ node. get_or node.marks p Unmarked) (rooted_joined n d below e) ∙ read p port-below
      where
        read : (r : ℕ) → r < 4 → get_or (enlisted layout nodes (distances layout nodes root) root n).marks r Unmarked ≡ root_mark layout nodes (distances layout nodes root) n r
        read zero less = refl
        read (suc zero) less = refl
        read (suc (suc zero)) less = refl
        read (suc (suc (suc zero))) less = refl
        read (suc (suc (suc (suc r)))) less = absurd (omega arith)

    pub rooted_mark_past : (p : ℕ) → 4 ≤ p → mark_of (rooted layout nodes root) n p ≡ Unmarked
    rooted_mark_past p past = get_or-eq_default (node_of (rooted layout nodes root) n).marks Unmarked (omega (arith, rooted_marks_length))

-- Marks

pub order_is : (count : ℕ) (cells : List Cell) (n d : ℕ) → distance cells n ≡ Some d → order count cells n ≡ d * count + n
order_is count cells n d e = rw (e, order)

-- A node nearer to the root has a lower order.
pub order_closer : (count n m d e : ℕ) → m < count → e < d → e * count + m < d * count + n
order_closer count n m d e below closer = omega (arith, suc-mul e count, mul-le-mul_right count closer)

pub order_apart : (count n m d e : ℕ) → n < count → m < count → d * count + n ≡ e * count + m → n ≡ m
order_apart count n m d e n-below m-below same = go (cases_order d e)
  where
    go : (d ≡ e) ⊎ ((d < e) ⊎ (e < d)) → n ≡ m
    go (inl level) = let alike : d * count ≡ e * count = ap (λ k. k * count) level in omega arith
    go (inr (inl less)) = absurd (omega (arith, order_closer count m n e d n-below less))
    go (inr (inr less)) = absurd (omega (arith, order_closer count n m d e m-below less))

mark_dead : (layout : Layout) (nodes : List Node) (cells : List Cell) (n p : ℕ) → live_of nodes n p ≡ false → root_mark layout nodes cells n p ≡ Unmarked
unfolding root_mark
mark_dead layout nodes cells n p dead = rw (dead, root_mark)

mark_live : (layout : Layout) (nodes : List Node) (cells : List Cell) (n p m q : ℕ) → live_of nodes n p ≡ true → layout.far n p ≡ Some (m, q) →
    root_mark layout nodes cells n p ≡ cond (ltb (order layout.count cells m) (order layout.count cells n)) Up Down
unfolding root_mark
mark_live layout nodes cells n p m q live cable = rw (live, cable, root_mark)

-- A live port marked up, to a node one nearer to the root.
pub record Parent (layout : Layout) (s : State) (root n d : ℕ) : Type 0 where
  pub port : ℕ
  pub node : ℕ
  pub far_port : ℕ
  pub nearer : ℕ
  pub live : live_of s.nodes n port ≡ true
  pub cable : layout.far n port ≡ Some (node, far_port)
  pub marked_up : mark_of (rooted layout s.nodes root) n port ≡ Up
  pub distance_there : distance (distances layout s.nodes root) node ≡ Some nearer
  pub one_less : d ≡ nearer + 1

module _ (layout : Layout) (sound : Sound layout) (s : State) (both : LiveBoth layout s.nodes) (root : ℕ) (root_in : root < layout.count) where
  live_port_below : (n p : ℕ) → live_of s.nodes n p ≡ true → p < 4
  live_port_below n p live =
      let far = both n p live in
      (sound.in_range far.0 far.1 n p (sound.returns n p far.0 far.1 far.2)).1

  -- The marks of a joined node, by the orders d * N + n.

  pub rooted_dead : (n d p : ℕ) → distance (distances layout s.nodes root) n ≡ Some d → live_of s.nodes n p ≡ false → mark_of (rooted layout s.nodes root) n p ≡ Unmarked
  rooted_dead n d p e dead = go (cases_lt p 4)
    where
      inside : n < layout.count
      inside = joined_below layout sound s both root root_in n d e

      go : (p < 4) ⊎ (4 ≤ p) → mark_of (rooted layout s.nodes root) n p ≡ Unmarked
      go (inl less) = rooted_mark layout s.nodes root n d inside e p less ∙ mark_dead layout s.nodes (distances layout s.nodes root) n p dead
      go (inr past) = rooted_mark_past layout s.nodes root n d inside e p past

  live_mark : (n p m q d e : ℕ) → live_of s.nodes n p ≡ true → layout.far n p ≡ Some (m, q) →
      distance (distances layout s.nodes root) n ≡ Some d → distance (distances layout s.nodes root) m ≡ Some e →
      mark_of (rooted layout s.nodes root) n p ≡ cond (ltb (e * layout.count + m) (d * layout.count + n)) Up Down
  live_mark n p m q d e live cable at_n at_m =
      rooted_mark layout s.nodes root n d (joined_below layout sound s both root root_in n d at_n) at_n p (live_port_below n p live)
      ∙ mark_live layout s.nodes (distances layout s.nodes root) n p m q live cable
      ∙ (λ i. cond (ltb (order_is layout.count (distances layout s.nodes root) m e at_m i) (order_is layout.count (distances layout s.nodes root) n d at_n i)) Up Down)

  pub rooted_up : (n p m q d e : ℕ) → live_of s.nodes n p ≡ true → layout.far n p ≡ Some (m, q) →
      distance (distances layout s.nodes root) n ≡ Some d → distance (distances layout s.nodes root) m ≡ Some e →
      e * layout.count + m < d * layout.count + n → mark_of (rooted layout s.nodes root) n p ≡ Up
  rooted_up n p m q d e live cable at_n at_m lower = live_mark n p m q d e live cable at_n at_m ∙ cond-true (ltb (e * layout.count + m) (d * layout.count + n)) Up Down (lt-ltb (e * layout.count + m) (d * layout.count + n) lower)

  pub rooted_down : (n p m q d e : ℕ) → live_of s.nodes n p ≡ true → layout.far n p ≡ Some (m, q) →
      distance (distances layout s.nodes root) n ≡ Some d → distance (distances layout s.nodes root) m ≡ Some e →
      d * layout.count + n ≤ e * layout.count + m → mark_of (rooted layout s.nodes root) n p ≡ Down
  rooted_down n p m q d e live cable at_n at_m higher = live_mark n p m q d e live cable at_n at_m ∙ cond-false (ltb (e * layout.count + m) (d * layout.count + n)) Up Down (le-ltb (e * layout.count + m) (d * layout.count + n) higher)

  -- A live cable of a joined node leads to a joined node, is marked at both ends, up at one and
  -- down at the other.
  pub rooted_ends : (n p m q d : ℕ) → live_of s.nodes n p ≡ true → layout.far n p ≡ Some (m, q) → distance (distances layout s.nodes root) n ≡ Some d →
      ((mark_of (rooted layout s.nodes root) n p ≡ Up) × (mark_of (rooted layout s.nodes root) m q ≡ Down)) ⊎
      ((mark_of (rooted layout s.nodes root) n p ≡ Down) × (mark_of (rooted layout s.nodes root) m q ≡ Up))
  rooted_ends n p m q d live cable at_n = go (cases_lt (there.0 * layout.count + m) (d * layout.count + n))
    where
      there : (e : ℕ) × (distance (distances layout s.nodes root) m ≡ Some e) × (e ≤ d + 1)
      there = distance_near layout sound s both root root_in n p m q d live cable at_n

      back : layout.far m q ≡ Some (n, p)
      back = sound.returns n p m q cable

      live_back : live_of s.nodes m q ≡ true
      live_back = far_live layout s.nodes both n p m q cable live

      apart : d * layout.count + n ≡ there.0 * layout.count + m → ⊥
      apart same = sound.no_self n p m q cable (sym (order_apart layout.count n m d there.0
          (joined_below layout sound s both root root_in n d at_n) (joined_below layout sound s both root root_in m there.0 there.1) same))

      go : (there.0 * layout.count + m < d * layout.count + n) ⊎ (d * layout.count + n ≤ there.0 * layout.count + m) →
          ((mark_of (rooted layout s.nodes root) n p ≡ Up) × (mark_of (rooted layout s.nodes root) m q ≡ Down)) ⊎
          ((mark_of (rooted layout s.nodes root) n p ≡ Down) × (mark_of (rooted layout s.nodes root) m q ≡ Up))
      go (inl lower) = inl (rooted_up n p m q d there.0 live cable at_n there.1 lower, rooted_down m q n p there.0 d live_back back there.1 at_n (omega arith))
      go (inr higher) = inr (rooted_down n p m q d there.0 live cable at_n there.1 higher, rooted_up m q n p there.0 d live_back back there.1 at_n (less (cases_eq (d * layout.count + n) (there.0 * layout.count + m))))
        where
          less : (d * layout.count + n ≡ there.0 * layout.count + m) ⊎ (d * layout.count + n ≡ there.0 * layout.count + m → ⊥) → d * layout.count + n < there.0 * layout.count + m
          less (inl same) = absurd (apart same)
          less (inr other) = omega arith

  -- A joined node's port is marked exactly when it is live.
  pub rooted_marked : (n d p : ℕ) → distance (distances layout s.nodes root) n ≡ Some d → is_marked (mark_of (rooted layout s.nodes root) n p) ≡ live_of s.nodes n p
  rooted_marked n d p e = go (live_of s.nodes n p) refl
    where
      marked : ((m : ℕ) × (q : ℕ) × (layout.far n p ≡ Some (m, q)) × (live_of s.nodes m q ≡ true)) → live_of s.nodes n p ≡ true → is_marked (mark_of (rooted layout s.nodes root) n p) ≡ true
      marked far live = either (rooted_ends n p far.0 far.1 d live far.2 e)
        where
          either : ((mark_of (rooted layout s.nodes root) n p ≡ Up) × (mark_of (rooted layout s.nodes root) far.0 far.1 ≡ Down)) ⊎
              ((mark_of (rooted layout s.nodes root) n p ≡ Down) × (mark_of (rooted layout s.nodes root) far.0 far.1 ≡ Up)) → is_marked (mark_of (rooted layout s.nodes root) n p) ≡ true
          either (inl x) = ap is_marked x.0
          either (inr x) = ap is_marked x.0

      go : (live : Bool) → live_of s.nodes n p ≡ live → is_marked (mark_of (rooted layout s.nodes root) n p) ≡ live_of s.nodes n p
      go true live = marked (both n p live) live ∙ sym live
      go false dead = ap is_marked (rooted_dead n d p e dead) ∙ sym dead

  -- Every joined node but the root has a live up port to a node one nearer.
  pub rooted_parent : (n d : ℕ) → distance (distances layout s.nodes root) n ≡ Some d → (n ≡ root → ⊥) → Parent layout s root n d
  rooted_parent n d e other = made (nearer_cable layout sound s both root root_in n d e other)
    where
      made : Nearer layout s root n d → Parent layout s root n d
      made step = record {
        port = step.port;
        node = step.node;
        far_port = step.far_port;
        nearer = step.nearer;
        live = step.live;
        cable = step.cable;
        marked_up = rooted_up n step.port step.node step.far_port d step.nearer step.live step.cable e step.distance_there
            (order_closer layout.count n step.node d step.nearer (joined_below layout sound s both root root_in step.node step.nearer step.distance_there) (omega (arith, step.one_less)));
        distance_there = step.distance_there;
        one_less = step.one_less;
      }

  pub rooted_law : Roots layout s root
  rooted_law = record { enlists = λ n joined. enlists n ((distances_least layout sound s both root root_in).way_there n joined); leaves = λ n below apart. leaves n below apart (distance (distances layout s.nodes root) n) refl }
    where
      known : Distances layout s root
      known = distances_least layout sound s both root root_in

      enlists : (n : ℕ) → (d : ℕ) × (distance (distances layout s.nodes root) n ≡ Some d) × (d < layout.count) → Enlists layout s root n (rooted layout s.nodes root)
      enlists n there = record {
        mode_is = rooted_mode layout s.nodes root n d inside e;
        hand_down = rooted_hand layout s.nodes root n d inside e;
        live_stays = rooted_live layout s.nodes root n d inside e;
        row_empty = rooted_entry layout s.nodes root n d inside e;
        dead_unmarked = λ p dead. rooted_dead n d p e dead;
        up_if_lower = λ p m q a b live cable at_n at_m lower. rooted_up n p m q at_n.0 at_m.0 live cable (known.least_is n at_n.0 at_n.1) (known.least_is m at_m.0 at_m.1) (rw (← at_n.2, ← at_m.2) lower);
        down_otherwise = λ p m q a b live cable at_n at_m higher. rooted_down n p m q at_n.0 at_m.0 live cable (known.least_is n at_n.0 at_n.1) (known.least_is m at_m.0 at_m.1) (omega (arith, higher, at_n.2, at_m.2));
      }
        where
          d : ℕ
          d = there.0

          e : distance (distances layout s.nodes root) n ≡ Some d
          e = there.1

          inside : n < layout.count
          inside = joined_below layout sound s both root root_in n d e

      leaves : (n : ℕ) → n < layout.count → (Joined layout s n root → ⊥) → (o : Option ℕ) → distance (distances layout s.nodes root) n ≡ o → node_of (rooted layout s.nodes root) n ≡ node_of s.nodes n
      leaves n below apart None e = rooted_other layout s.nodes root n below e
      leaves n below apart (Some d) e = absurd (apart (d, (known.is_least n d e).way))
