-- A step and an accepted post keep the invariant. Neither changes a node or the owner of the next
-- slot, so all parts but that of the packets stay as they are.
use Rattle.std.proofs.Common.{◌≡◌, ℕ, ◌+◌, ◌<◌, ◌≤◌, true, false, eqb, leb, ◌⊎◌, List, [], ◌∷◌, ◌++◌, length, None, sym, refl, ap, ◌∙◌, subst, inl, inr, append-nil, arith, length-append, Some}
use Rattle.std.specs.List.{ContainsAt as Has}
use Rattle.std.proofs.lemmas.Bool.{both_ways, leb-false, eqb-false}
use Rattle.std.proofs.ByRecursion.{has_push_cases}
use Rattle.wiring.specs.Layout.{Layout, Sound}
use Rattle.rules.specs.declared.Mode.{Mode}
use Rattle.rules.specs.declared.Mode.TheVariants.{New, Recovering, Serving}
use Rattle.rules.specs.declared.Outcome.{Outcome}
use Rattle.rules.specs.declared.Packet.{Packet}
use Rattle.rules.specs.declared.Refusal.TheVariants.{NodeOutOfRange, SameNode, SourceNotServing, NoEntry, WallFull}
use Rattle.rules.specs.declared.StepCounts.{StepCounts}
use Rattle.rules.specs.Ports.{Ports, has}
use Rattle.rules.specs.State.{Node, State, Entry, nothing, entry}
use Rattle.rules.specs.Flood.{is_marked}
use Rattle.rules.specs.Slot.{is_nothing}
use Rattle.rules.specs.Calls.{outside, not_serving, most_packets, post_refused, posted, after_post}
use Rattle.rules.specs.Step.{turn, moved_to}
use Rattle.rules.specs.Runs.{Steps}
use Rattle.rules.specs.Promise.{Way, stay, cross}
use Rattle.rules.proofs.Invariant.{Cable, Leads, Flying, Invariant, Rising, Apart, mode_at, hand_at, mark_at, entry_at}
use Rattle.rules.proofs.Raising.{check_passed}
use Rattle.rules.proofs.Members.{has_none, has_first, has_later}
use Rattle.rules.proofs.Places.{permitted_marked, stands_port, stands_moved, not_taken, ApartFrom, apart_without, apart_with}
use Rattle.rules.proofs.Sweep.{Crosses, Sweeps, swept, waiting, moving, arriving, stranding, stepped, swept_length, LeftOf, left_of, left_kept, left_numbers, rising_left, push_append}

-- The same nodes and the same owner, with other packets.
abbrev pub with_packets : State → ℕ → List Packet → State
with_packets s last packets = record { nodes = s.nodes; owner = s.owner; last = last; packets = packets }

-- A way stays one while the nodes stay.
pub way_nodes : (layout : Layout) (s t : State) → t.nodes ≡ s.nodes → {n m k : ℕ} → Way layout s n m k → Way layout t n m k
way_nodes layout s t same stay = stay
way_nodes layout s t same (cross live cable way) = cross (rw same live) cable (way_nodes layout s t same way)

-- All parts but that of the packets.
pub keeps_with : (layout : Layout) (s : State) (last : ℕ) (packets : List Packet) → Invariant layout s →
    Flying layout (with_packets s last packets) → Invariant layout (with_packets s last packets)
keeps_with layout s last packets invariant flying = record {
  shaped = record {
    nodes_long = invariant.shaped.nodes_long;
    marks_long = invariant.shaped.marks_long;
    row_long = invariant.shaped.row_long;
    owner_below = invariant.shaped.owner_below;
  };
  cabled = record {
    live_both = invariant.cabled.live_both;
    marked_cable = invariant.cabled.marked_cable;
    marked_both = invariant.cabled.marked_both;
    unmarked_hand = invariant.cabled.unmarked_hand;
    cut_hand = invariant.cabled.cut_hand;
  };
  moded = record {
    new_hand = invariant.moded.new_hand;
    new_unmarked = invariant.moded.new_unmarked;
    recovers_both = invariant.moded.recovers_both;
    marked_same = invariant.moded.marked_same;
    stays_inside = invariant.moded.stays_inside;
    opposite_up = invariant.moded.opposite_up;
    opposite_down = invariant.moded.opposite_down;
    root_below = invariant.moded.root_below;
    left_some = invariant.moded.left_some;
    left_few = invariant.moded.left_few;
    left_owner = invariant.moded.left_owner;
  };
  ordered = record {
    depth = invariant.ordered.depth;
    ord = invariant.ordered.ord;
    top = invariant.ordered.top;
    ord_below = invariant.ordered.ord_below;
    up_lower = invariant.ordered.up_lower;
    down_higher = invariant.ordered.down_higher;
    depth_near = invariant.ordered.depth_near;
    depth_ord = invariant.ordered.depth_ord;
    depth_root = invariant.ordered.depth_root;
    parent = invariant.ordered.parent;
  };
  routed = record {
    own_nothing = invariant.routed.own_nothing;
    entry_passed = invariant.routed.entry_passed;
    entry_count = invariant.routed.entry_count;
    entry_port = invariant.routed.entry_port;
    entry_live = invariant.routed.entry_live;
    entry_leads = invariant.routed.entry_leads;
    entry_there = λ n x k way apart passed down.
        invariant.routed.entry_there n x k (way_nodes layout (with_packets s last packets) s refl way) apart passed
        (λ m j walk. down m j (way_nodes layout s (with_packets s last packets) refl walk));
  };
  flying = flying;
}

-- A step

-- No two packets come to share a port: one moves only to a port that no other has.
pub apart_left : (layout : Layout) (nodes : List Node) {front old left : List Packet} {outs : List Outcome} {crossed : List ℕ} →
    Sweeps layout nodes front old left outs crossed → Apart (front ++ old) → Apart (front ++ left)
apart_left layout nodes swept apart = apart
apart_left layout nodes (waiting {front} {old} {left} {x = x} why sweeps) apart =
    rw (push_append front x left) at (apart_left layout nodes sweeps (rw (push_append front x old) apart))
apart_left layout nodes (moving {front} {old} {left} {x = x} {m = m} {q = q} why sweeps) apart =
    rw (push_append front (moved_to m q x) left) at (apart_left layout nodes sweeps
    (rw (push_append front (moved_to m q x) old) (apart_with front (moved_to m q x) old (apart_without front x old apart) alone)))
  where
    alone : ApartFrom (moved_to m q x) (front ++ old)
    alone y n p h here there =
        let at = stands_moved n p m q x here in
        not_taken m q (front ++ old) why.empty y h (rw (at.0, at.1) at there)
apart_left layout nodes (arriving {front} {old} {left} {x = x} why sweeps) apart =
    apart_left layout nodes sweeps (apart_without front x old apart)
apart_left layout nodes (stranding {front} {old} {left} {x = x} why sweeps) apart =
    apart_left layout nodes sweeps (apart_without front x old apart)

-- A packet that crossed

module _ (layout : Layout) (sound : Sound layout) (s : State) (invariant : Invariant layout s)
    (others : List Packet) (x : Packet) (m q : ℕ) (why : Crosses layout s.nodes others x m q) where
  -- It took a marked port.
  pub crossed_marked : is_marked (mark_at s x.node why.port) ≡ true
  crossed_marked = permitted_marked s.nodes x.node x.standing why.port why.may_turn

  -- It came to a node that serves too, with the same root.
  pub crossed_serves : mode_at s m ≡ Serving why.root
  crossed_serves =
      sym (invariant.moded.marked_same x.node why.port m q why.cable why.is_live crossed_marked) ∙ why.serves

  -- What its entry's port led to.
  pub crossed_leads : Leads s m q x.destination why.count
  crossed_leads =
      invariant.routed.entry_leads x.node x.destination why.ports why.count why.port m q
      why.entered why.in_entry why.cable why.is_live crossed_marked

module _ (layout : Layout) (sound : Sound layout) (s : State) (invariant : Invariant layout s) where
  left_below : (y : Packet) → LeftOf layout s.nodes s.packets y → y.node < layout.count
  left_below y (inl h) = invariant.flying.node_below y h
  left_below y (inr (x, m, q, others, h, why, is)) =
      rw (ap (λ z. z.node) is) (sound.in_range x.node why.port m q why.cable).0

  left_known : (y : Packet) → LeftOf layout s.nodes s.packets y → mode_at s y.node ≡ New → ⊥
  left_known y (inl h) new = invariant.flying.node_known y h new
  left_known y (inr (x, m, q, others, h, why, is)) new =
      let serves = crossed_serves layout sound s invariant others x m q why in
      let there : mode_at s m ≡ New = ap (λ z. mode_at s z.node) (sym is) ∙ new in
      let clash : ◌≡◌ {A = ℕ} 0 1 = cc in
      omega arith

  left_cable : (y : Packet) (p : ℕ) → LeftOf layout s.nodes s.packets y → y.standing ≡ Some p →
      (k : ℕ) × (r : ℕ) × Cable layout y.node p k r
  left_cable y p (inl h) at = invariant.flying.port_cable y p h at
  left_cable y p (inr (x, m, q, others, h, why, is)) at =
      let node : y.node ≡ m = ap (λ z. z.node) is in
      let port : Some p ≡ Some q = sym at ∙ ap (λ z. z.standing) is in
      let same : p ≡ q = cc in
      (x.node, why.port, rw (node, same) (sound.returns x.node why.port m q why.cable))

  -- Where a packet of a serving node with its hand down can go on.
  abbrev Goes_on : ℕ → ℕ → ℕ → Type 0
  Goes_on n a d =
      (ports : Ports) × (count : ℕ) × (p : ℕ) × (entry_at s n d ≡ entry ports count)
      × (has ports p ≡ true) × (turn (mark_at s n a) (mark_at s n p) ≡ true)

  leads_on : (m q d count : ℕ) → Leads s m q d count → (m ≡ d → ⊥) → Goes_on m q d
  leads_on m q d count (inl there) apart = absurd (apart there.0)
  leads_on m q d count (inr (ports, fewer, p, entered, one_less, inside, may)) apart = (ports, fewer, p, entered, inside, may)

  left_goes_on : (y : Packet) (a root : ℕ) → LeftOf layout s.nodes s.packets y → y.standing ≡ Some a → mode_at s y.node ≡ Serving root →
      hand_at s y.node ≡ false → (y.node ≡ y.destination → ⊥) → Goes_on y.node a y.destination
  left_goes_on y a root (inl h) at serves down apart = invariant.flying.way_on y a root h at serves down apart
  left_goes_on y a root (inr (x, m, q, others, h, why, is)) at serves down apart =
      let node : y.node ≡ m = ap (λ z. z.node) is in
      let goal : y.destination ≡ x.destination = ap (λ z. z.destination) is in
      let port : Some a ≡ Some q = sym at ∙ ap (λ z. z.standing) is in
      let same : a ≡ q = cc in
      rw (node, goal, same)
      (leads_on m q x.destination why.count (crossed_leads layout sound s invariant others x m q why) (rw (node, goal) at apart))

  flying_left : (left : List Packet) (outs : List Outcome) (crossed : List ℕ) → Sweeps layout s.nodes [] s.packets left outs crossed →
      Flying layout (with_packets s s.last left)
  flying_left left outs crossed sweeps = record {
    few = omega (arith, swept_length layout s.nodes sweeps, invariant.flying.few);
    numbers_rise = rising_left layout s.nodes sweeps invariant.flying.numbers_rise;
    numbers_given = left_numbers layout s.nodes (λ k. k ≤ s.last) sweeps invariant.flying.numbers_given;
    ports_apart = apart_left layout s.nodes sweeps invariant.flying.ports_apart;
    node_below = λ y h. left_below y (of y h);
    destination_below = λ y h. let kept = left_kept layout s.nodes s.packets y (of y h) in
        rw kept.2.destination (invariant.flying.destination_below kept.0 kept.1);
    node_known = λ y h. left_known y (of y h);
    port_cable = λ y p h. left_cable y p (of y h);
    way_on = λ y a root h. left_goes_on y a root (of y h);
  }
    where
      of : (y : Packet) → Has left y → LeftOf layout s.nodes s.packets y
      of = left_of layout s.nodes sweeps

same_state : (s after : State) → after.nodes ≡ s.nodes → after.owner ≡ s.owner → after.last ≡ s.last →
    with_packets s s.last after.packets ≡ after
same_state s after nodes owner last = λ i. record { nodes = sym nodes i; owner = sym owner i; last = sym last i; packets = after.packets }

pub step_keeps : (layout : Layout) → Sound layout → (s after : State) (counts : StepCounts) (outcomes : List Outcome) (crossed : List ℕ) (asked : List (Ports × ℕ)) →
    Invariant layout s → Steps layout s counts outcomes crossed asked after → Invariant layout after
step_keeps layout sound s after counts outcomes crossed asked invariant steps =
    let step = stepped layout sound s after counts outcomes crossed asked steps in
    subst (Invariant layout) (same_state s after step.same_nodes step.same_owner step.same_last)
    (keeps_with layout s s.last after.packets invariant
    (flying_left layout sound s invariant after.packets outcomes crossed step.sweeps))

-- A post

-- What an accepted post shows.
pub record Postable (layout : Layout) (s : State) (source destination : ℕ) : Type 0 where
  pub source_below : source < layout.count
  pub destination_below : destination < layout.count
  pub elsewhere : source ≡ destination → ⊥
  pub root : ℕ
  pub serves : mode_at s source ≡ Serving root
  pub ports : Ports
  pub count : ℕ
  pub entered : entry_at s source destination ≡ entry ports count
  pub place : length s.packets < 256

mode_serves : (mode : Mode) → not_serving mode ≡ false → (root : ℕ) × (mode ≡ Serving root)
mode_serves New h = absurd (both_ways true h refl)
mode_serves (Recovering root left) h = absurd (both_ways true h refl)
mode_serves (Serving root) h = (root, refl)

entry_found : (e : Entry) → is_nothing e ≡ false → (ports : Ports) × (count : ℕ) × (e ≡ entry ports count)
entry_found nothing h = absurd (both_ways true h refl)
entry_found (entry ports count) h = (ports, count, refl)

pub postable : (layout : Layout) (s : State) (source destination : ℕ) → post_refused layout s source destination ≡ None →
    Postable layout s source destination
unfolding post_refused
postable layout s source destination none =
    let a = check_passed (outside layout source) NodeOutOfRange _ none in
    let b = check_passed (outside layout destination) NodeOutOfRange _ a.1 in
    let c = check_passed (eqb source destination) SameNode _ b.1 in
    let d = check_passed (not_serving (mode_at s source)) SourceNotServing _ c.1 in
    let e = check_passed (is_nothing (entry_at s source destination)) NoEntry _ d.1 in
    let f = check_passed (leb most_packets (length s.packets)) WallFull _ e.1 in
    let served = mode_serves (mode_at s source) d.0 in
    let found = entry_found (entry_at s source destination) e.0 in
    record {
      source_below = leb-false layout.count source a.0;
      destination_below = leb-false layout.count destination b.0;
      elsewhere = eqb-false source destination c.0;
      root = served.0;
      serves = served.1;
      ports = found.0;
      count = found.1;
      entered = found.2;
      place = leb-false most_packets (length s.packets) f.0;
    }

rising_push : (xs : List Packet) (x : Packet) → Rising xs → ((y : Packet) → Has xs y → y.number < x.number) → Rising (xs ++ x ∷ [])
rising_push [] x rises above = ((λ y h. absurd (has_none y h)), tt)
rising_push (z ∷ xs) x rises above =
    (front, rising_push xs x rises.1 (λ y h. above y (has_later z xs y h)))
  where
    front : (y : Packet) → Has (xs ++ x ∷ []) y → z.number < y.number
    front y h = go (has_push_cases xs x y h)
      where
        go : Has xs y ⊎ (x ≡ y) → z.number < y.number
        go (inl k) = rises.0 y k
        go (inr e) = rw (← e) (above z (has_first z xs))

apart_home : (xs : List Packet) (x : Packet) → x.standing ≡ None → Apart xs → Apart (xs ++ x ∷ [])
apart_home xs x home apart =
    apart_with xs x [] (rw (append-nil xs) apart)
    (λ y n p h here there.
    let at = stands_port n p x here in
    let clash : ◌≡◌ {A = ℕ} 0 1 = cc in
    omega arith)

-- What holds of the packets in flight and of the posted one holds of all.
posted_too : (P : Packet → Type 0) (xs : List Packet) (x : Packet) → ((y : Packet) → Has xs y → P y) → P x → (y : Packet) → Has (xs ++ x ∷ []) y → P y
posted_too P xs x old new y h = go (has_push_cases xs x y h)
  where
    go : Has xs y ⊎ (x ≡ y) → P y
    go (inl k) = old y k
    go (inr e) = subst P e new

pub post_keeps : (layout : Layout) → Sound layout → (s : State) (source destination word : ℕ) → Invariant layout s →
    post_refused layout s source destination ≡ None → Invariant layout (after_post s source destination word)
unfolding after_post
post_keeps layout sound s source destination word invariant accepted =
    keeps_with layout s (s.last + 1) (s.packets ++ x ∷ []) invariant record {
      few = omega (arith, length-append s.packets (x ∷ []), post.place);
      numbers_rise = rising_push s.packets x flying.numbers_rise (λ y h. omega (arith, flying.numbers_given y h));
      numbers_given = posted_too (λ y. y.number ≤ s.last + 1) s.packets x (λ y h. omega (arith, flying.numbers_given y h)) (omega arith);
      ports_apart = apart_home s.packets x refl flying.ports_apart;
      node_below = posted_too (λ y. y.node < layout.count) s.packets x flying.node_below post.source_below;
      destination_below = posted_too (λ y. y.destination < layout.count) s.packets x flying.destination_below post.destination_below;
      node_known = posted_too (λ y. mode_at s y.node ≡ New → ⊥) s.packets x flying.node_known known;
      port_cable = λ y p h.
          posted_too (λ y. y.standing ≡ Some p → (m : ℕ) × (q : ℕ) × Cable layout y.node p m q) s.packets x
          (λ y h. flying.port_cable y p h) (λ at. absurd (not_home p at)) y h;
      way_on = λ y a root h.
          posted_too
          (λ y. y.standing ≡ Some a → mode_at s y.node ≡ Serving root → hand_at s y.node ≡ false → (y.node ≡ y.destination → ⊥) →
          Goes_on layout sound s invariant y.node a y.destination) s.packets x
          (λ y h. flying.way_on y a root h) (λ at. absurd (not_home a at)) y h;
    }
  where
    x : Packet
    x = posted s source destination word

    post : Postable layout s source destination
    post = postable layout s source destination accepted

    flying : Flying layout s
    flying = invariant.flying

    known : mode_at s source ≡ New → ⊥
    known new = let serves = post.serves in let clash : ◌≡◌ {A = ℕ} 0 1 = cc in omega arith

    not_home : (p : ℕ) → None ≡ Some p → ⊥
    not_home p e = let clash : ◌≡◌ {A = ℕ} 0 1 = cc in omega arith
