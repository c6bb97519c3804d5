-- A disturbance: some hands go up and some cables die, each at both ends and with both hands up,
-- and nothing else changes. It keeps the invariant, whose claims are about live cables and about
-- nodes with their hand down. A hand call and a cut are such disturbances.
use Rattle.std.proofs.Common.{◌≡◌, ℕ, suc, ◌+◌, ◌<◌, ◌≤◌, Bool, true, false, ◌⊎◌, List, length, get_or, sym, ap, ◌∙◌, subst, inl, inr}
use Rattle.std.proofs.lemmas.Bool.{both_ways, cases_Bool}
use Rattle.wiring.specs.Layout.{Layout}
use Rattle.rules.specs.declared.Mark.{Mark}
use Rattle.rules.specs.declared.Mark.TheVariants.{Unmarked, Up}
use Rattle.rules.specs.declared.Mode.{Mode}
use Rattle.rules.specs.Ports.{Ports, has}
use Rattle.rules.specs.State.{Node, State, Entry, nothing, entry, node_of, mark_of, live_of, entry_of}
use Rattle.rules.specs.Flood.{is_marked}
use Rattle.rules.specs.Calls.{with_nodes}
use Rattle.rules.specs.Promise.{Way, stay, cross}
use Rattle.rules.proofs.Invariant.{hand_at, live_at, mark_at, entry_at, NamesRoot, Passed, Cable, Leads, Shaped, Cabled, Moded, Ordered, Routed, Flying, Invariant}

pub record Disturbed (layout : Layout) (before after : List Node) : Type 0 where
  pub as_long : length after ≡ length before
  pub mode_same : (n : ℕ) → (node_of after n).mode ≡ (node_of before n).mode
  pub marks_same : (n : ℕ) → (node_of after n).marks ≡ (node_of before n).marks
  pub row_same : (n : ℕ) → (node_of after n).row ≡ (node_of before n).row
  pub live_before : (n p : ℕ) → live_of after n p ≡ true → live_of before n p ≡ true
  pub live_far : (n p m q : ℕ) → Cable layout n p m q → live_of after n p ≡ true → live_of after m q ≡ true
  pub down_before : (n : ℕ) → (node_of after n).hand ≡ false → (node_of before n).hand ≡ false
  pub cut_up : (n p : ℕ) → live_of before n p ≡ true → live_of after n p ≡ false → (node_of after n).hand ≡ true

module _ (layout : Layout) (s : State) (nodes : List Node) (dist : Disturbed layout s.nodes nodes) where
  mark_same : (n p : ℕ) → mark_of nodes n p ≡ mark_of s.nodes n p
  mark_same n p = ap (λ (marks : List Mark). get_or marks p Unmarked) (dist.marks_same n)

  marked_before : (n p : ℕ) (b : Bool) → is_marked (mark_of nodes n p) ≡ b → is_marked (mark_of s.nodes n p) ≡ b
  marked_before n p b e = sym (ap is_marked (mark_same n p)) ∙ e

  entry_same : (n x : ℕ) → entry_of nodes n x ≡ entry_of s.nodes n x
  entry_same n x = ap (λ (row : List Entry). get_or row x nothing) (dist.row_same n)

  mode_before : (n : ℕ) (mode : Mode) → (node_of nodes n).mode ≡ mode → (node_of s.nodes n).mode ≡ mode
  mode_before n mode e = sym (dist.mode_same n) ∙ e

  hand_still : (n : ℕ) → (node_of s.nodes n).hand ≡ true → (node_of nodes n).hand ≡ true
  hand_still n up = go (cases_Bool (node_of nodes n).hand)
    where
      go : ((node_of nodes n).hand ≡ true) ⊎ ((node_of nodes n).hand ≡ false) → (node_of nodes n).hand ≡ true
      go (inl e) = e
      go (inr e) = absurd (both_ways (node_of s.nodes n).hand (dist.down_before n e) up)

  -- Ways

  -- A way over cables that are still live was one before.
  pub way_before : {n m k : ℕ} → Way layout (with_nodes s nodes) n m k → Way layout s n m k
  unfolding with_nodes
  way_before stay = stay
  way_before (cross {n = n} {p = p} live cable rest) = cross (dist.live_before n p live) cable (way_before rest)

  -- A way before is one still, or leads over cables still live to a node whose hand is up.
  pub way_after : {n m k : ℕ} → Way layout s n m k →
      Way layout (with_nodes s nodes) n m k ⊎ ((x : ℕ) × (j : ℕ) × Way layout (with_nodes s nodes) n x j × ((node_of nodes x).hand ≡ true))
  unfolding with_nodes
  way_after stay = inl stay
  way_after (cross {n = n} {p = p} {m = m} {q = q} {l = l} {k = k} live cable rest) = go (cases_Bool (live_of nodes n p)) (way_after rest)
    where
      After : ℕ → ℕ → ℕ → Type 0
      After a b c = Way layout (with_nodes s nodes) a b c ⊎ ((x : ℕ) × (j : ℕ) × Way layout (with_nodes s nodes) a x j × ((node_of nodes x).hand ≡ true))

      go : (live_of nodes n p ≡ true) ⊎ (live_of nodes n p ≡ false) → After m l k → After n l (suc k)
      go (inl still) (inl way) = inl (cross still cable way)
      go (inl still) (inr met) = inr (met.0, suc met.1, cross still cable met.2, met.3)
      go (inr dead) later = inr (n, 0, stay, dist.cut_up n p live dead)

  -- The parts of the invariant

  shaped_kept : Shaped layout s → Shaped layout (with_nodes s nodes)
  unfolding with_nodes
  shaped_kept old = record {
    nodes_long = dist.as_long ∙ old.nodes_long;
    marks_long = λ n below. ap (λ (marks : List Mark). length marks) (dist.marks_same n) ∙ old.marks_long n below;
    row_long = λ n below. ap (λ (row : List Entry). length row) (dist.row_same n) ∙ old.row_long n below;
    owner_below = old.owner_below;
  }

  cabled_kept : Cabled layout s → Cabled layout (with_nodes s nodes)
  unfolding with_nodes
  cabled_kept old = record {
    live_both = both;
    marked_cable = λ n p marked. old.marked_cable n p (marked_before n p true marked);
    marked_both = λ n p m q cable live. ap is_marked (mark_same n p) ∙ old.marked_both n p m q cable (dist.live_before n p live) ∙ sym (ap is_marked (mark_same m q));
    unmarked_hand = λ n p live unmarked. hand_still n (old.unmarked_hand n p (dist.live_before n p live) (marked_before n p false unmarked));
    cut_hand = cut;
  }
    where
      both : (n p : ℕ) → live_of nodes n p ≡ true → (m : ℕ) × (q : ℕ) × Cable layout n p m q × (live_of nodes m q ≡ true)
      both n p live =
          let end = old.live_both n p (dist.live_before n p live) in
          (end.0, end.1, end.2, dist.live_far n p end.0 end.1 end.2 live)

      cut : (n p : ℕ) → is_marked (mark_of nodes n p) ≡ true → live_of nodes n p ≡ false → (node_of nodes n).hand ≡ true
      cut n p marked dead = go (cases_Bool (live_at s n p))
        where
          go : (live_at s n p ≡ true) ⊎ (live_at s n p ≡ false) → (node_of nodes n).hand ≡ true
          go (inl live) = dist.cut_up n p live dead
          go (inr long) = hand_still n (old.cut_hand n p (marked_before n p true marked) long)

  moded_kept : Moded layout s → Moded layout (with_nodes s nodes)
  unfolding with_nodes
  moded_kept old = record {
    new_hand = λ n below new. hand_still n (old.new_hand n below (mode_before n _ new));
    new_unmarked = λ n p new. ap is_marked (mark_same n p) ∙ old.new_unmarked n p (mode_before n _ new);
    recovers_both = λ n p m q root left cable live e. dist.mode_same m ∙ old.recovers_both n p m q root left cable (dist.live_before n p live) (mode_before n _ e);
    marked_same = λ n p m q cable live marked. dist.mode_same n ∙ old.marked_same n p m q cable (dist.live_before n p live) (marked_before n p true marked) ∙ sym (dist.mode_same m);
    stays_inside = λ n p m q root left cable marked e. dist.mode_same m ∙ old.stays_inside n p m q root left cable (marked_before n p true marked) (mode_before n _ e);
    opposite_up = λ n p m q root left cable marked e. rw (mark_same n p, mark_same m q) (old.opposite_up n p m q root left cable (marked_before n p true marked) (mode_before n _ e));
    opposite_down = λ n p m q root left cable marked e. rw (mark_same n p, mark_same m q) (old.opposite_down n p m q root left cable (marked_before n p true marked) (mode_before n _ e));
    root_below = λ n root left e. old.root_below n root left (mode_before n _ e);
    left_some = λ n root left e. old.left_some n root left (mode_before n _ e);
    left_few = λ n root left e. old.left_few n root left (mode_before n _ e);
    left_owner = λ n root left e. old.left_owner n root left (mode_before n _ e);
  }

  ordered_kept : Ordered layout s → Ordered layout (with_nodes s nodes)
  unfolding with_nodes
  ordered_kept old = record {
    depth = old.depth;
    ord = old.ord;
    top = old.top;
    ord_below = old.ord_below;
    up_lower = λ n p m q cable live up. old.up_lower n p m q cable (dist.live_before n p live) (sym (mark_same n p) ∙ up);
    down_higher = λ n p m q cable live down. old.down_higher n p m q cable (dist.live_before n p live) (sym (mark_same n p) ∙ down);
    depth_near = λ n p m q cable live marked. old.depth_near n p m q cable (dist.live_before n p live) (marked_before n p true marked);
    depth_ord = λ n p m q cable live marked. old.depth_ord n p m q cable (dist.live_before n p live) (marked_before n p true marked);
    depth_root = λ n below known least. subst (λ (mode : Mode). NamesRoot mode n) (sym (dist.mode_same n)) (old.depth_root n below (λ e. known (dist.mode_same n ∙ e)) least);
    parent = parent;
  }
    where
      parent : (n : ℕ) → n < layout.count → ((node_of nodes n).mode ≡ Mode.New → ⊥) → 1 ≤ old.depth n → (node_of nodes n).hand ≡ false →
          (p : ℕ) × (m : ℕ) × (q : ℕ) × Cable layout n p m q × (live_of nodes n p ≡ true) × (mark_of nodes n p ≡ Up) × (old.depth n ≡ old.depth m + 1)
      parent n below known deep down = go (cases_Bool (live_of nodes n up.0))
        where
          up : (p : ℕ) × (m : ℕ) × (q : ℕ) × Cable layout n p m q × (live_at s n p ≡ true) × (mark_at s n p ≡ Up) × (old.depth n ≡ old.depth m + 1)
          up = old.parent n below (λ e. known (dist.mode_same n ∙ e)) deep (dist.down_before n down)

          go : (live_of nodes n up.0 ≡ true) ⊎ (live_of nodes n up.0 ≡ false) →
              (p : ℕ) × (m : ℕ) × (q : ℕ) × Cable layout n p m q × (live_of nodes n p ≡ true) × (mark_of nodes n p ≡ Up) × (old.depth n ≡ old.depth m + 1)
          go (inl live) = (up.0, up.1, up.2, up.3, live, mark_same n up.0 ∙ up.5, up.6)
          go (inr dead) = absurd (both_ways (node_of nodes n).hand down (dist.cut_up n up.0 up.4 dead))

  leads_kept : (m q x count : ℕ) → Leads s m q x count → Leads (with_nodes s nodes) m q x count
  unfolding with_nodes
  leads_kept m q x count (inl here) = inl here
  leads_kept m q x count (inr on) = inr (on.0, on.1, on.2, entry_same m x ∙ on.3, on.4, on.5, rw (mark_same m q, mark_same m on.2) on.6)

  routed_kept : Routed layout s → Routed layout (with_nodes s nodes)
  unfolding with_nodes
  routed_kept old = record {
    own_nothing = λ n. entry_same n n ∙ old.own_nothing n;
    entry_passed = λ n x ports count e. subst (λ (mode : Mode). Passed layout.count mode x) (sym (dist.mode_same n)) (old.entry_passed n x ports count (was n x ports count e));
    entry_count = λ n x ports count e. old.entry_count n x ports count (was n x ports count e);
    entry_port = λ n x ports count e. old.entry_port n x ports count (was n x ports count e);
    entry_live = λ n x ports count p e h down. live n x ports count p e h down;
    entry_leads = λ n x ports count p m q e h cable live marked.
        leads_kept m q x count (old.entry_leads n x ports count p m q (was n x ports count e) h cable (dist.live_before n p live) (marked_before n p true marked));
    entry_there = λ n x k way other passed down. there n x k way other passed down;
  }
    where
      was : (n x : ℕ) (ports : Ports) (count : ℕ) → entry_of nodes n x ≡ entry ports count → entry_at s n x ≡ entry ports count
      was n x ports count e = sym (entry_same n x) ∙ e

      live : (n x : ℕ) (ports : Ports) (count p : ℕ) → entry_of nodes n x ≡ entry ports count → has ports p ≡ true → (node_of nodes n).hand ≡ false →
          (live_of nodes n p ≡ true) × (is_marked (mark_of nodes n p) ≡ true)
      live n x ports count p e h down = go (cases_Bool (live_of nodes n p))
        where
          before : (live_at s n p ≡ true) × (is_marked (mark_at s n p) ≡ true)
          before = old.entry_live n x ports count p (was n x ports count e) h (dist.down_before n down)

          go : (live_of nodes n p ≡ true) ⊎ (live_of nodes n p ≡ false) → (live_of nodes n p ≡ true) × (is_marked (mark_of nodes n p) ≡ true)
          go (inl still) = (still, ap is_marked (mark_same n p) ∙ before.1)
          go (inr dead) = absurd (both_ways (node_of nodes n).hand down (dist.cut_up n p before.0 dead))

      there : (n x k : ℕ) → Way layout (with_nodes s nodes) n x k → (n ≡ x → ⊥) → Passed layout.count (node_of nodes n).mode x →
          ((m j : ℕ) → Way layout (with_nodes s nodes) n m j → (node_of nodes m).hand ≡ false) →
          (ports : Ports) × (count : ℕ) × (entry_of nodes n x ≡ entry ports count)
      there n x k way other passed down =
          let found = old.entry_there n x k (way_before way) other (subst (λ (mode : Mode). Passed layout.count mode x) (dist.mode_same n) passed) (λ m j past. still m j (way_after past)) in
          (found.0, found.1, entry_same n x ∙ found.2)
        where
          still : (m j : ℕ) →
              Way layout (with_nodes s nodes) n m j ⊎ ((y : ℕ) × (i : ℕ) × Way layout (with_nodes s nodes) n y i × ((node_of nodes y).hand ≡ true)) → hand_at s m ≡ false
          still m j (inl now) = dist.down_before m (down m j now)
          still m j (inr met) = absurd (both_ways (node_of nodes met.0).hand (down met.0 met.1 met.2) met.3)

  flying_kept : Flying layout s → Flying layout (with_nodes s nodes)
  unfolding with_nodes
  flying_kept old = record {
    few = old.few;
    numbers_rise = old.numbers_rise;
    numbers_given = old.numbers_given;
    ports_apart = old.ports_apart;
    node_below = old.node_below;
    destination_below = old.destination_below;
    node_known = λ x h new. old.node_known x h (mode_before x.node _ new);
    port_cable = old.port_cable;
    way_on = λ x a root h stands serves down elsewhere.
        let on = old.way_on x a root h stands (mode_before x.node _ serves) (dist.down_before x.node down) elsewhere in
        (on.0, on.1, on.2, entry_same x.node x.destination ∙ on.3, on.4, rw (mark_same x.node a, mark_same x.node on.2) on.5);
  }

  pub disturbed_keeps : Invariant layout s → Invariant layout (with_nodes s nodes)
  disturbed_keeps old = record {
    shaped = shaped_kept old.shaped;
    cabled = cabled_kept old.cabled;
    moded = moded_kept old.moded;
    ordered = ordered_kept old.ordered;
    routed = routed_kept old.routed;
    flying = flying_kept old.flying;
  }
