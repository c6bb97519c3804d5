-- A step as a relation: what happens to each packet in turn, and what becomes of all of them.
-- An induction over `Sweeps` is an induction over the packets of a step.
use Rattle.std.proofs.Common.{◌≡◌, ℕ, ◌+◌, ◌<◌, Bool, true, false, not, ◌&&◌, eqb, ◌⊎◌, List, [], ◌∷◌, ◌++◌, length, Some, None, Option, sym, refl, ap, ◌∙◌, subst, inl, inr, append_assoc, append-nil, arith}
use Rattle.std.specs.List.{ContainsAt as Has, AllByRecursion}
use Rattle.std.proofs.lemmas.Bool.{both_ways, and_parts, and_from, not-true, not_from_false, cases_Bool, eqb-true, eqb-false, eq-eqb, ne_eqb}
use Rattle.wiring.specs.Layout.{Layout, Sound}
use Rattle.rules.specs.declared.Ending.TheVariants.{Delivered, Returned}
use Rattle.rules.specs.declared.Mode.{Mode}
use Rattle.rules.specs.declared.Mode.TheVariants.{New, Recovering, Serving}
use Rattle.rules.specs.declared.Outcome.{Outcome}
use Rattle.rules.specs.declared.Packet.{Packet}
use Rattle.rules.specs.declared.StepCounts.{StepCounts}
use Rattle.rules.specs.Ports.{Ports, has, ports_where, some_port}
use Rattle.rules.specs.State.{Node, State, Entry, nothing, entry, node_of, live_of, entry_of}
use Rattle.rules.specs.Step.{permitted, taken, far_port_empty, offered, Fate, waits, delivered, returned, crosses, crossing, offer_for, fate, Middle, start, moved_to, apply, take_one, first_pick, later_picks, sweep, step_with, after_step}
use Rattle.rules.specs.Runs.{InOffer, Steps}
use Rattle.rules.specs.Promise.{ended, times_in, outcomes_for}
use Rattle.rules.proofs.Invariant.{Cable, Rising}
use Rattle.rules.proofs.Tables.{where_has, none_where}
use Rattle.rules.proofs.Members.{has_none, has_first, has_later, has_cases}

-- What happens to a packet

-- It crosses a cable to port q of node m, which no other packet has.
pub record Crosses (layout : Layout) (nodes : List Node) (others : List Packet) (x : Packet) (m q : ℕ) : Type 0 where
  pub root : ℕ
  pub serves : (node_of nodes x.node).mode ≡ Serving root
  pub elsewhere : x.node ≡ x.destination → ⊥
  pub ports : Ports
  pub count : ℕ
  pub entered : entry_of nodes x.node x.destination ≡ entry ports count
  pub port : ℕ
  pub in_entry : has ports port ≡ true
  pub may_turn : permitted nodes x.node x.standing port ≡ true
  pub is_live : live_of nodes x.node port ≡ true
  pub cable : Cable layout x.node port m q
  pub empty : taken m q others ≡ false

-- It is delivered.
pub record Arrives (nodes : List Node) (x : Packet) : Type 0 where
  pub root : ℕ
  pub serves : (node_of nodes x.node).mode ≡ Serving root
  pub there : x.node ≡ x.destination

-- It is returned.
pub record Strands (nodes : List Node) (x : Packet) : Type 0 where
  pub root : ℕ
  pub serves : (node_of nodes x.node).mode ≡ Serving root
  pub elsewhere : x.node ≡ x.destination → ⊥
  pub no_entry : entry_of nodes x.node x.destination ≡ nothing

-- It has an entry, and the far port of every port that it might take has a packet.
pub record Blocked (layout : Layout) (nodes : List Node) (others : List Packet) (x : Packet) : Type 0 where
  pub root : ℕ
  pub serves : (node_of nodes x.node).mode ≡ Serving root
  pub elsewhere : x.node ≡ x.destination → ⊥
  pub ports : Ports
  pub count : ℕ
  pub entered : entry_of nodes x.node x.destination ≡ entry ports count
  pub full : (p m q : ℕ) → has ports p ≡ true → permitted nodes x.node x.standing p ≡ true →
      live_of nodes x.node p ≡ true → Cable layout x.node p m q → taken m q others ≡ true

-- It waits: at a node that does not serve, or blocked.
abbrev pub Waits : Layout → List Node → List Packet → Packet → Type 0
Waits layout nodes others x = ((root : ℕ) → (node_of nodes x.node).mode ≡ Serving root → ⊥) ⊎ Blocked layout nodes others x

-- What a fate says of a packet.
abbrev pub Fated : Layout → List Node → List Packet → Packet → Fate → Type 0
Fated layout nodes others x waits = Waits layout nodes others x
Fated layout nodes others x delivered = Arrives nodes x
Fated layout nodes others x returned = Strands nodes x
Fated layout nodes others x (crosses m q) = Crosses layout nodes others x m q

-- Readings of the fate and the offer

module _ (layout : Layout) (nodes : List Node) (others : List Packet) (pick : ℕ) (x : Packet) where
  fate_new : (node_of nodes x.node).mode ≡ New → fate layout nodes others pick x ≡ waits
  unfolding fate
  fate_new mode = rw (mode, fate)

  fate_recovering : (root left : ℕ) → (node_of nodes x.node).mode ≡ Recovering root left → fate layout nodes others pick x ≡ waits
  unfolding fate
  fate_recovering root left mode = rw (mode, fate)

  fate_there : (root : ℕ) → (node_of nodes x.node).mode ≡ Serving root → eqb x.node x.destination ≡ true →
      fate layout nodes others pick x ≡ delivered
  unfolding fate
  fate_there root mode there = rw (mode, fate, there)

  fate_stranded : (root : ℕ) → (node_of nodes x.node).mode ≡ Serving root → eqb x.node x.destination ≡ false →
      entry_of nodes x.node x.destination ≡ nothing → fate layout nodes others pick x ≡ returned
  unfolding fate
  fate_stranded root mode elsewhere none = rw (mode, fate, elsewhere, none)

  offer_on : (root : ℕ) → (node_of nodes x.node).mode ≡ Serving root → eqb x.node x.destination ≡ false →
      (ports : Ports) (count : ℕ) → entry_of nodes x.node x.destination ≡ entry ports count →
      offer_for layout nodes others x ≡ offered layout nodes others x (entry ports count)
  unfolding offer_for
  offer_on root mode elsewhere ports count entered = rw (mode, offer_for, elsewhere, entered)

  fate_on : (root : ℕ) → (node_of nodes x.node).mode ≡ Serving root → eqb x.node x.destination ≡ false →
      (ports : Ports) (count : ℕ) → entry_of nodes x.node x.destination ≡ entry ports count →
      fate layout nodes others pick x ≡ crossing layout x.node (offered layout nodes others x (entry ports count)) pick
  unfolding fate
  fate_on root mode elsewhere ports count entered = rw (mode, fate, elsewhere, entered, offer_on root mode elsewhere ports count entered)

-- The far port's reading.
far_empty : (layout : Layout) (others : List Packet) (n p m q : ℕ) → Cable layout n p m q →
    far_port_empty layout others n p ≡ not (taken m q others)
unfolding far_port_empty
far_empty layout others n p m q cable = rw (cable, far_port_empty)

far_none : (layout : Layout) (others : List Packet) (n p : ℕ) → layout.far n p ≡ None → far_port_empty layout others n p ≡ false
unfolding far_port_empty
far_none layout others n p none = rw (none, far_port_empty)

far_empty_cable : (layout : Layout) (others : List Packet) (n p : ℕ) → far_port_empty layout others n p ≡ true →
    (m : ℕ) × (q : ℕ) × Cable layout n p m q × (taken m q others ≡ false)
far_empty_cable layout others n p empty = go (layout.far n p) refl
  where
    go : (end : Option (ℕ × ℕ)) → layout.far n p ≡ end → (m : ℕ) × (q : ℕ) × Cable layout n p m q × (taken m q others ≡ false)
    go None none = absurd (both_ways (far_port_empty layout others n p) (far_none layout others n p none) empty)
    go (Some (m, q)) cable = (m, q, cable, not-true (taken m q others) (sym (far_empty layout others n p m q cable) ∙ empty))

crossing_none : (layout : Layout) (n : ℕ) (offer : Ports) (pick : ℕ) → some_port offer ≡ false → crossing layout n offer pick ≡ waits
unfolding crossing
crossing_none layout n offer pick none = rw (none, crossing)

crossing_over : (layout : Layout) (n : ℕ) (offer : Ports) (pick m q : ℕ) → some_port offer ≡ true → Cable layout n pick m q →
    crossing layout n offer pick ≡ crosses m q
unfolding crossing
crossing_over layout n offer pick m q some cable = rw (some, crossing, cable)

module _ (layout : Layout) (sound : Sound layout) (nodes : List Node) (others : List Packet) (pick : ℕ) (x : Packet) where
  module _ (ports : Ports) where
    -- The test of an offered port.
    abbrev offerable : ℕ → Bool
    offerable p =
        has ports p && permitted nodes x.node x.standing p && live_of nodes x.node p
        && far_port_empty layout others x.node p

    offerable_parts : (p : ℕ) → offerable p ≡ true →
        (has ports p ≡ true) × (permitted nodes x.node x.standing p ≡ true) × (live_of nodes x.node p ≡ true)
        × (far_port_empty layout others x.node p ≡ true)
    offerable_parts p h =
        let abc = and_parts (has ports p && permitted nodes x.node x.standing p && live_of nodes x.node p) (far_port_empty layout others x.node p) h in
        let ab = and_parts (has ports p && permitted nodes x.node x.standing p) (live_of nodes x.node p) abc.0 in
        let a = and_parts (has ports p) (permitted nodes x.node x.standing p) ab.0 in
        (a.0, a.1, ab.1, abc.1)

    offerable_from : (p : ℕ) → has ports p ≡ true → permitted nodes x.node x.standing p ≡ true → live_of nodes x.node p ≡ true →
        far_port_empty layout others x.node p ≡ true → offerable p ≡ true
    offerable_from p a b c d =
        and_from (has ports p && permitted nodes x.node x.standing p && live_of nodes x.node p) (far_port_empty layout others x.node p)
        (and_from (has ports p && permitted nodes x.node x.standing p) (live_of nodes x.node p)
        (and_from (has ports p) (permitted nodes x.node x.standing p) a b) c) d

    offered_is : (count : ℕ) → offered layout nodes others x (entry ports count) ≡ ports_where offerable
    unfolding offered
    offered_is count = refl

  -- A packet with an entry goes over the picked port, or is blocked.
  fated_on : (root : ℕ) → (node_of nodes x.node).mode ≡ Serving root → (x.node ≡ x.destination → ⊥) →
      (ports : Ports) (count : ℕ) → entry_of nodes x.node x.destination ≡ entry ports count →
      (some_port (ports_where (offerable ports)) ≡ true → has (ports_where (offerable ports)) pick ≡ true) →
      Fated layout nodes others x (crossing layout x.node (ports_where (offerable ports)) pick)
  fated_on root serves elsewhere ports count entered in_offer = go (cases_Bool (some_port (ports_where (offerable ports))))
    where
      blocked : some_port (ports_where (offerable ports)) ≡ false → Blocked layout nodes others x
      blocked none = record {
        root = root;
        serves = serves;
        elsewhere = elsewhere;
        ports = ports;
        count = count;
        entered = entered;
        full = full;
      }
        where
          full : (p m q : ℕ) → has ports p ≡ true → permitted nodes x.node x.standing p ≡ true →
              live_of nodes x.node p ≡ true → Cable layout x.node p m q → taken m q others ≡ true
          full p m q inside may live cable = at (cases_Bool (taken m q others))
            where
              at : (taken m q others ≡ true) ⊎ (taken m q others ≡ false) → taken m q others ≡ true
              at (inl h) = h
              at (inr h) =
                  let below = (sound.in_range m q x.node p (sound.returns x.node p m q cable)).1 in
                  let empty = far_empty layout others x.node p m q cable ∙ not_from_false (taken m q others) h in
                  absurd (both_ways (offerable ports p) (none_where (offerable ports) p none below) (offerable_from ports p inside may live empty))

      crosses_by : some_port (ports_where (offerable ports)) ≡ true → Fated layout nodes others x (crossing layout x.node (ports_where (offerable ports)) pick)
      crosses_by some =
          let parts = offerable_parts ports pick (where_has (offerable ports) pick (in_offer some)).1 in
          let far = far_empty_cable layout others x.node pick parts.3 in
          let over = crossing_over layout x.node (ports_where (offerable ports)) pick far.0 far.1 some far.2 in
          rw over (record {
            root = root;
            serves = serves;
            elsewhere = elsewhere;
            ports = ports;
            count = count;
            entered = entered;
            port = pick;
            in_entry = parts.0;
            may_turn = parts.1;
            is_live = parts.2;
            cable = far.2;
            empty = far.3;
          })

      go : (some_port (ports_where (offerable ports)) ≡ true) ⊎ (some_port (ports_where (offerable ports)) ≡ false) →
          Fated layout nodes others x (crossing layout x.node (ports_where (offerable ports)) pick)
      go (inl some) = crosses_by some
      go (inr none) = rw (crossing_none layout x.node (ports_where (offerable ports)) pick none) (inr (blocked none))

  -- What the fate of a packet says of it.
  pub fated : InOffer (offer_for layout nodes others x, pick) → Fated layout nodes others x (fate layout nodes others pick x)
  fated in_offer = by_mode (node_of nodes x.node).mode refl
    where
      by_entry : (root : ℕ) → (node_of nodes x.node).mode ≡ Serving root → eqb x.node x.destination ≡ false →
          (e : Entry) → entry_of nodes x.node x.destination ≡ e → Fated layout nodes others x (fate layout nodes others pick x)
      by_entry root serves elsewhere nothing none =
          rw (fate_stranded layout nodes others pick x root serves elsewhere none)
          (record { root = root; serves = serves; elsewhere = eqb-false x.node x.destination elsewhere; no_entry = none })
      by_entry root serves elsewhere (entry ports count) entered =
          let offer = offer_on layout nodes others pick x root serves elsewhere ports count entered ∙ offered_is ports count in
          rw (fate_on layout nodes others pick x root serves elsewhere ports count entered, offered_is ports count)
          (fated_on root serves (eqb-false x.node x.destination elsewhere) ports count entered (rw offer at in_offer))

      by_place : (root : ℕ) → (node_of nodes x.node).mode ≡ Serving root → (eqb x.node x.destination ≡ true) ⊎ (eqb x.node x.destination ≡ false) →
          Fated layout nodes others x (fate layout nodes others pick x)
      by_place root serves (inl there) =
          rw (fate_there layout nodes others pick x root serves there)
          (record { root = root; serves = serves; there = eqb-true x.node x.destination there })
      by_place root serves (inr elsewhere) = by_entry root serves elsewhere (entry_of nodes x.node x.destination) refl

      by_mode : (mode : Mode) → (node_of nodes x.node).mode ≡ mode → Fated layout nodes others x (fate layout nodes others pick x)
      by_mode New e =
          rw (fate_new layout nodes others pick x e)
          (inl (λ root serves. let clash : ◌≡◌ {A = ℕ} 0 1 = cc in omega arith))
      by_mode (Recovering root left) e =
          rw (fate_recovering layout nodes others pick x root left e)
          (inl (λ root serves. let clash : ◌≡◌ {A = ℕ} 0 1 = cc in omega arith))
      by_mode (Serving root) e = by_place root e (cases_Bool (eqb x.node x.destination))

-- The sweep

-- The packets still to come, `old`, are taken one after another, behind those of `front`: what is
-- left of them in flight, what goes into the tray, and the numbers of those that cross a cable.
pub data Sweeps (layout : Layout) (nodes : List Node) : List Packet → List Packet → List Packet → List Outcome → List ℕ → Type 0 where
  swept : {front : List Packet} → Sweeps layout nodes front [] [] [] []
  waiting : {front old left : List Packet} {outs : List Outcome} {crossed : List ℕ} {x : Packet} →
      Waits layout nodes (front ++ old) x →
      Sweeps layout nodes (front ++ x ∷ []) old left outs crossed →
      Sweeps layout nodes front (x ∷ old) (x ∷ left) outs crossed
  moving : {front old left : List Packet} {outs : List Outcome} {crossed : List ℕ} {x : Packet} {m q : ℕ} →
      Crosses layout nodes (front ++ old) x m q →
      Sweeps layout nodes (front ++ moved_to m q x ∷ []) old left outs crossed →
      Sweeps layout nodes front (x ∷ old) (moved_to m q x ∷ left) outs (x.number ∷ crossed)
  arriving : {front old left : List Packet} {outs : List Outcome} {crossed : List ℕ} {x : Packet} →
      Arrives nodes x →
      Sweeps layout nodes front old left outs crossed →
      Sweeps layout nodes front (x ∷ old) left (ended Delivered x.node x ∷ outs) crossed
  stranding : {front old left : List Packet} {outs : List Outcome} {crossed : List ℕ} {x : Packet} →
      Strands nodes x →
      Sweeps layout nodes front old left outs crossed →
      Sweeps layout nodes front (x ∷ old) left (ended Returned x.node x ∷ outs) crossed

-- From one middle of a step to a later one.
record Between (layout : Layout) (nodes : List Node) (old : List Packet) (before after : Middle) : Type 0 where
  left : List Packet
  outs : List Outcome
  crossings : List ℕ
  sweeps : Sweeps layout nodes before.flying old left outs crossings
  flying_is : after.flying ≡ before.flying ++ left
  outcomes_is : after.outcomes ≡ before.outcomes ++ outs
  crossed_is : after.crossed ≡ before.crossed ++ crossings
  moved_is : after.counts.moved ≡ before.counts.moved + length crossings
  ended_is : after.counts.delivered + after.counts.returned ≡ before.counts.delivered + before.counts.returned + length outs
  waited_is : after.counts.waited + length crossings ≡ before.counts.waited + length left

pub push_append : {X : Type 0} (xs : List X) (x : X) (ys : List X) → (xs ++ x ∷ []) ++ ys ≡ xs ++ x ∷ ys
push_append xs x ys = append_assoc xs (x ∷ []) ys

all_front : {X : Type 0} (P : X → Type 0) (xs ys : List X) → AllByRecursion P (xs ++ ys) → AllByRecursion P xs
all_front P [] ys all = tt
all_front P (x ∷ xs) ys all = (all.0, all_front P xs ys all.1)

all_back : {X : Type 0} (P : X → Type 0) (xs ys : List X) → AllByRecursion P (xs ++ ys) → AllByRecursion P ys
all_back P [] ys all = all
all_back P (x ∷ xs) ys all = all_back P xs ys all.1

module _ (layout : Layout) (sound : Sound layout) (nodes : List Node) where
  taking : (old : List Packet) (before after : Middle) (x : Packet) (ask : Ports × ℕ) (f : Fate) →
      Fated layout nodes (before.flying ++ old) x f →
      Between layout nodes old (apply f x ask before) after → Between layout nodes (x ∷ old) before after
  unfolding apply
  taking old before after x ask waits why b = record {
    left = x ∷ b.left;
    outs = b.outs;
    crossings = b.crossings;
    sweeps = waiting why b.sweeps;
    flying_is = b.flying_is ∙ push_append before.flying x b.left;
    outcomes_is = b.outcomes_is;
    crossed_is = b.crossed_is;
    moved_is = b.moved_is;
    ended_is = b.ended_is;
    waited_is = omega arith;
  }
  taking old before after x ask delivered why b = record {
    left = b.left;
    outs = ended Delivered x.node x ∷ b.outs;
    crossings = b.crossings;
    sweeps = arriving why b.sweeps;
    flying_is = b.flying_is;
    outcomes_is = b.outcomes_is ∙ push_append before.outcomes (ended Delivered x.node x) b.outs;
    crossed_is = b.crossed_is;
    moved_is = b.moved_is;
    ended_is = omega arith;
    waited_is = b.waited_is;
  }
  taking old before after x ask returned why b = record {
    left = b.left;
    outs = ended Returned x.node x ∷ b.outs;
    crossings = b.crossings;
    sweeps = stranding why b.sweeps;
    flying_is = b.flying_is;
    outcomes_is = b.outcomes_is ∙ push_append before.outcomes (ended Returned x.node x) b.outs;
    crossed_is = b.crossed_is;
    moved_is = b.moved_is;
    ended_is = omega arith;
    waited_is = b.waited_is;
  }
  taking old before after x ask (crosses m q) why b = record {
    left = moved_to m q x ∷ b.left;
    outs = b.outs;
    crossings = x.number ∷ b.crossings;
    sweeps = moving why b.sweeps;
    flying_is = b.flying_is ∙ push_append before.flying (moved_to m q x) b.left;
    outcomes_is = b.outcomes_is;
    crossed_is = b.crossed_is ∙ push_append before.crossed x.number b.crossings;
    moved_is = omega arith;
    ended_is = b.ended_is;
    waited_is = omega arith;
  }

  asked_grows : (f : Fate) (x : Packet) (ask : Ports × ℕ) (mid : Middle) → (apply f x ask mid).asked ≡ mid.asked ++ ask ∷ []
  unfolding apply
  asked_grows waits x ask mid = refl
  asked_grows delivered x ask mid = refl
  asked_grows returned x ask mid = refl
  asked_grows (crosses m q) x ask mid = refl

  -- What was asked before is part of what was asked in all.
  asked_before : (P : Ports × ℕ → Type 0) (old : List Packet) (picks : List ℕ) (mid : Middle) →
      AllByRecursion P (sweep layout nodes old picks mid).asked → AllByRecursion P mid.asked
  unfolding sweep take_one
  asked_before P [] picks mid all = all
  asked_before P (x ∷ old) picks mid all =
      let others = mid.flying ++ old in
      let ask : Ports × ℕ = (offer_for layout nodes others x, first_pick picks) in
      let f = fate layout nodes others (first_pick picks) x in
      all_front P mid.asked (ask ∷ []) (rw (asked_grows f x ask mid) at (asked_before P old (later_picks picks) (take_one layout nodes x old (first_pick picks) mid) all))

  between : (old : List Packet) (picks : List ℕ) (mid : Middle) →
      AllByRecursion InOffer (sweep layout nodes old picks mid).asked → Between layout nodes old mid (sweep layout nodes old picks mid)
  unfolding sweep take_one
  between [] picks mid all = record {
    left = [];
    outs = [];
    crossings = [];
    sweeps = swept;
    flying_is = sym (append-nil mid.flying);
    outcomes_is = sym (append-nil mid.outcomes);
    crossed_is = sym (append-nil mid.crossed);
    moved_is = omega arith;
    ended_is = omega arith;
    waited_is = omega arith;
  }
  between (x ∷ old) picks mid all =
      let others = mid.flying ++ old in
      let pick = first_pick picks in
      let ask : Ports × ℕ = (offer_for layout nodes others x, pick) in
      let f = fate layout nodes others pick x in
      let next = take_one layout nodes x old pick mid in
      let asked = rw (asked_grows f x ask mid) at (asked_before InOffer old (later_picks picks) next all) in
      taking old mid (sweep layout nodes old (later_picks picks) next) x ask f
      (fated layout sound nodes others pick x (all_back InOffer mid.asked (ask ∷ []) asked).0)
      (between old (later_picks picks) next all)

-- A step is a sweep of all packets in flight, and changes nothing else.
pub record Stepped (layout : Layout) (s : State) (counts : StepCounts) (outcomes : List Outcome) (crossed : List ℕ) (after : State) : Type 0 where
  pub sweeps : Sweeps layout s.nodes [] s.packets after.packets outcomes crossed
  pub same_nodes : after.nodes ≡ s.nodes
  pub same_owner : after.owner ≡ s.owner
  pub same_last : after.last ≡ s.last
  pub moved_count : counts.moved ≡ length crossed
  pub ended_count : counts.delivered + counts.returned ≡ length outcomes
  pub waited_count : counts.waited + counts.moved ≡ length after.packets

pub stepped : (layout : Layout) → Sound layout → (s after : State) (counts : StepCounts) (outcomes : List Outcome) (crossed : List ℕ) (asked : List (Ports × ℕ)) →
    Steps layout s counts outcomes crossed asked after → Stepped layout s counts outcomes crossed after
unfolding step_with after_step
stepped layout sound s after counts outcomes crossed asked steps =
    let end = sweep layout s.nodes s.packets steps.picks start in
    let b = between layout sound s.nodes s.packets steps.picks start (rw steps.asked_are at steps.in_offers) in
    let packets : after.packets ≡ b.left = ap (λ t. t.packets) steps.after_is ∙ b.flying_is in
    let outs : outcomes ≡ b.outs = steps.outcomes_are ∙ b.outcomes_is in
    let numbers : crossed ≡ b.crossings = steps.crossed_are ∙ b.crossed_is in
    let moved : counts.moved ≡ end.counts.moved = ap (λ c. c.moved) steps.counts_are in
    let delivered : counts.delivered ≡ end.counts.delivered = ap (λ c. c.delivered) steps.counts_are in
    let returned : counts.returned ≡ end.counts.returned = ap (λ c. c.returned) steps.counts_are in
    let waited : counts.waited ≡ end.counts.waited = ap (λ c. c.waited) steps.counts_are in
    record {
      sweeps = rw (packets, outs, numbers) b.sweeps;
      same_nodes = ap (λ t. t.nodes) steps.after_is;
      same_owner = ap (λ t. t.owner) steps.after_is;
      same_last = ap (λ t. t.last) steps.after_is;
      moved_count = rw numbers (omega (arith, b.moved_is));
      ended_count = rw outs (omega (arith, b.ended_is));
      waited_count = rw packets (omega (arith, b.moved_is, b.waited_is));
    }

-- Sizes

module _ (layout : Layout) (nodes : List Node) where
  pub swept_length : {front old left : List Packet} {outs : List Outcome} {crossed : List ℕ} → Sweeps layout nodes front old left outs crossed →
      length left + length outs ≡ length old
  swept_length swept = refl
  swept_length (waiting why sweeps) = omega (arith, swept_length sweeps)
  swept_length (moving why sweeps) = omega (arith, swept_length sweeps)
  swept_length (arriving why sweeps) = omega (arith, swept_length sweeps)
  swept_length (stranding why sweeps) = omega (arith, swept_length sweeps)

-- The counts of a step add up to the packets in flight before it.
pub counts_add_up : (layout : Layout) (s : State) (counts : StepCounts) (outcomes : List Outcome) (crossed : List ℕ) (after : State) →
    Stepped layout s counts outcomes crossed after →
    counts.moved + counts.delivered + counts.returned + counts.waited ≡ length s.packets
counts_add_up layout s counts outcomes crossed after stepped =
    omega (arith, swept_length layout s.nodes stepped.sweeps, stepped.ended_count, stepped.waited_count)

-- Every packet left in flight is an old one that waited, or an old one that crossed.

-- An old packet, where it stands or after a crossing.
abbrev pub LeftOf : Layout → List Node → List Packet → Packet → Type 0
LeftOf layout nodes old y =
    Has old y ⊎ ((x : Packet) × (m : ℕ) × (q : ℕ) × (others : List Packet) × Has old x × Crosses layout nodes others x m q × (y ≡ moved_to m q x))

left_later : (layout : Layout) (nodes : List Node) (x : Packet) (old : List Packet) (y : Packet) →
    LeftOf layout nodes old y → LeftOf layout nodes (x ∷ old) y
left_later layout nodes x old y (inl h) = inl (has_later x old y h)
left_later layout nodes x old y (inr (z, m, q, others, h, why, is)) = inr (z, m, q, others, has_later x old z h, why, is)

module _ (layout : Layout) (nodes : List Node) where
  pub left_of : {front old left : List Packet} {outs : List Outcome} {crossed : List ℕ} → Sweeps layout nodes front old left outs crossed →
      (y : Packet) → Has left y → LeftOf layout nodes old y
  left_of swept y h = absurd (has_none y h)
  left_of (waiting {front} {old} {left} {x = x} why sweeps) y h = go (λ k. left_of sweeps y k) (has_cases x left y h)
    where
      go : (Has left y → LeftOf layout nodes old y) → (x ≡ y) ⊎ Has left y → LeftOf layout nodes (x ∷ old) y
      go again (inl e) = inl (0, omega arith, λ d. e)
      go again (inr k) = left_later layout nodes x old y (again k)
  left_of (moving {front} {old} {left} {x = x} {m = m} {q = q} why sweeps) y h = go (λ k. left_of sweeps y k) (has_cases (moved_to m q x) left y h)
    where
      go : (Has left y → LeftOf layout nodes old y) → (moved_to m q x ≡ y) ⊎ Has left y → LeftOf layout nodes (x ∷ old) y
      go again (inl e) = inr (x, m, q, front ++ old, has_first x old, why, sym e)
      go again (inr k) = left_later layout nodes x old y (again k)
  left_of (arriving {old = old} {x = x} why sweeps) y h = left_later layout nodes x old y (left_of sweeps y h)
  left_of (stranding {old = old} {x = x} why sweeps) y h = left_later layout nodes x old y (left_of sweeps y h)

-- A packet left in flight has the number, source, destination and word of an old one.
pub record Kept (x y : Packet) : Type 0 where
  pub number : y.number ≡ x.number
  pub source : y.source ≡ x.source
  pub destination : y.destination ≡ x.destination
  pub word : y.word ≡ x.word

pub left_kept : (layout : Layout) (nodes : List Node) (old : List Packet) (y : Packet) → LeftOf layout nodes old y →
    (x : Packet) × Has old x × Kept x y
left_kept layout nodes old y (inl h) = (y, h, record { number = refl; source = refl; destination = refl; word = refl })
left_kept layout nodes old y (inr (x, m, q, others, h, why, is)) =
    (x, h, record { number = ap (λ z. z.number) is; source = ap (λ z. z.source) is; destination = ap (λ z. z.destination) is; word = ap (λ z. z.word) is })

-- Numbers

module _ (layout : Layout) (nodes : List Node) where
  -- What holds of the numbers of the old packets holds of those left.
  pub left_numbers : (P : ℕ → Type 0) {front old left : List Packet} {outs : List Outcome} {crossed : List ℕ} →
      Sweeps layout nodes front old left outs crossed →
      ((x : Packet) → Has old x → P x.number) → (y : Packet) → Has left y → P y.number
  left_numbers P {front} {old} {left} sweeps all y h =
      let kept = left_kept layout nodes old y (left_of layout nodes sweeps y h) in
      rw kept.2.number (all kept.0 kept.1)

  pub rising_left : {front old left : List Packet} {outs : List Outcome} {crossed : List ℕ} → Sweeps layout nodes front old left outs crossed →
      Rising old → Rising left
  rising_left swept rises = tt
  rising_left (waiting {x = x} why sweeps) rises =
      (left_numbers (λ k. x.number < k) sweeps rises.0, rising_left sweeps rises.1)
  rising_left (moving {x = x} why sweeps) rises =
      (left_numbers (λ k. x.number < k) sweeps rises.0, rising_left sweeps rises.1)
  rising_left (arriving why sweeps) rises = rising_left sweeps rises.1
  rising_left (stranding why sweeps) rises = rising_left sweeps rises.1

  -- A number that no old packet has is not among those that cross, nor in the tray.
  pub no_crossing_of : {front old left : List Packet} {outs : List Outcome} {crossed : List ℕ} → Sweeps layout nodes front old left outs crossed →
      (k : ℕ) → ((x : Packet) → Has old x → x.number ≡ k → ⊥) → times_in k crossed ≡ 0
  no_crossing_of swept k none = refl
  no_crossing_of (waiting {old = old} {x = x} why sweeps) k none = no_crossing_of sweeps k (λ y h. none y (has_later x old y h))
  no_crossing_of (moving {old = old} {x = x} why sweeps) k none =
      rw (ne_eqb x.number k (none x (has_first x old))) (omega (arith, no_crossing_of sweeps k (λ y h. none y (has_later x old y h))))
  no_crossing_of (arriving {old = old} {x = x} why sweeps) k none = no_crossing_of sweeps k (λ y h. none y (has_later x old y h))
  no_crossing_of (stranding {old = old} {x = x} why sweeps) k none = no_crossing_of sweeps k (λ y h. none y (has_later x old y h))

  pub no_outcome_of : {front old left : List Packet} {outs : List Outcome} {crossed : List ℕ} → Sweeps layout nodes front old left outs crossed →
      (k : ℕ) → ((x : Packet) → Has old x → x.number ≡ k → ⊥) → outcomes_for k outs ≡ 0
  no_outcome_of swept k none = refl
  no_outcome_of (waiting {old = old} {x = x} why sweeps) k none = no_outcome_of sweeps k (λ y h. none y (has_later x old y h))
  no_outcome_of (moving {old = old} {x = x} why sweeps) k none = no_outcome_of sweeps k (λ y h. none y (has_later x old y h))
  no_outcome_of (arriving {old = old} {x = x} why sweeps) k none =
      rw (ne_eqb x.number k (none x (has_first x old))) (omega (arith, no_outcome_of sweeps k (λ y h. none y (has_later x old y h))))
  no_outcome_of (stranding {old = old} {x = x} why sweeps) k none =
      rw (ne_eqb x.number k (none x (has_first x old))) (omega (arith, no_outcome_of sweeps k (λ y h. none y (has_later x old y h))))

-- What becomes of each old packet: it stays, goes on over a cable, is delivered or is returned.
-- Its number crosses at most one cable and gets at most one outcome.
pub data Fared (layout : Layout) (nodes : List Node) (x : Packet) (left : List Packet) (outs : List Outcome) (crossed : List ℕ) : Type 0 where
  stayed : {others : List Packet} → Waits layout nodes others x → Has left x →
      times_in x.number crossed ≡ 0 → outcomes_for x.number outs ≡ 0 → Fared layout nodes x left outs crossed
  went_on : {others : List Packet} {m q : ℕ} → Crosses layout nodes others x m q → Has left (moved_to m q x) →
      times_in x.number crossed ≡ 1 → outcomes_for x.number outs ≡ 0 → Fared layout nodes x left outs crossed
  was_delivered : Arrives nodes x → Has outs (ended Delivered x.node x) → ((y : Packet) → Has left y → y.number ≡ x.number → ⊥) →
      times_in x.number crossed ≡ 0 → outcomes_for x.number outs ≡ 1 → Fared layout nodes x left outs crossed
  was_returned : Strands nodes x → Has outs (ended Returned x.node x) → ((y : Packet) → Has left y → y.number ≡ x.number → ⊥) →
      times_in x.number crossed ≡ 0 → outcomes_for x.number outs ≡ 1 → Fared layout nodes x left outs crossed

-- A number counted at the head of a list.
one_more : (k : ℕ) (ks : List ℕ) → times_in k ks ≡ 0 → times_in k (k ∷ ks) ≡ 1
one_more k ks none = rw (eq-eqb k k refl) (omega arith)

another : (j k : ℕ) (ks : List ℕ) → (j ≡ k → ⊥) → times_in k (j ∷ ks) ≡ times_in k ks
another j k ks apart = rw (ne_eqb j k apart) (omega arith)

one_outcome : (o : Outcome) (outs : List Outcome) → outcomes_for o.number outs ≡ 0 → outcomes_for o.number (o ∷ outs) ≡ 1
one_outcome o outs none = rw (eq-eqb o.number o.number refl) (omega arith)

another_outcome : (o : Outcome) (k : ℕ) (outs : List Outcome) → (o.number ≡ k → ⊥) → outcomes_for k (o ∷ outs) ≡ outcomes_for k outs
another_outcome o k outs apart = rw (ne_eqb o.number k apart) (omega arith)

gone_behind : (x : Packet) (left : List Packet) (y : Packet) → (y.number ≡ x.number → ⊥) →
    ((z : Packet) → Has left z → z.number ≡ x.number → ⊥) → (z : Packet) → Has (y ∷ left) z → z.number ≡ x.number → ⊥
gone_behind x left y apart gone z h e = at (has_cases y left z h)
  where
    at : (y ≡ z) ⊎ Has left z → ⊥
    at (inl same) = apart (ap (λ v. v.number) same ∙ e)
    at (inr k) = gone z k e

-- The same of a packet behind another one with another number.
module _ (layout : Layout) (nodes : List Node) (x : Packet) (left : List Packet) (outs : List Outcome) (crossed : List ℕ) where
  fared_behind : (y : Packet) → (y.number ≡ x.number → ⊥) → Fared layout nodes x left outs crossed → Fared layout nodes x (y ∷ left) outs crossed
  fared_behind y apart (stayed why h t o) = stayed why (has_later y left x h) t o
  fared_behind y apart (went_on {m = m} {q = q} why h t o) = went_on why (has_later y left (moved_to m q x) h) t o
  fared_behind y apart (was_delivered why h gone t o) = was_delivered why h (gone_behind x left y apart gone) t o
  fared_behind y apart (was_returned why h gone t o) = was_returned why h (gone_behind x left y apart gone) t o

  fared_crossed : (k : ℕ) → (k ≡ x.number → ⊥) → Fared layout nodes x left outs crossed → Fared layout nodes x left outs (k ∷ crossed)
  fared_crossed k apart (stayed why h t o) = stayed why h (another k x.number crossed apart ∙ t) o
  fared_crossed k apart (went_on why h t o) = went_on why h (another k x.number crossed apart ∙ t) o
  fared_crossed k apart (was_delivered why h gone t o) = was_delivered why h gone (another k x.number crossed apart ∙ t) o
  fared_crossed k apart (was_returned why h gone t o) = was_returned why h gone (another k x.number crossed apart ∙ t) o

  fared_outcome : (out : Outcome) → (out.number ≡ x.number → ⊥) → Fared layout nodes x left outs crossed → Fared layout nodes x left (out ∷ outs) crossed
  fared_outcome out apart (stayed why h t o) = stayed why h t (another_outcome out x.number outs apart ∙ o)
  fared_outcome out apart (went_on why h t o) = went_on why h t (another_outcome out x.number outs apart ∙ o)
  fared_outcome out apart (was_delivered why h gone t o) =
      was_delivered why (has_later out outs (ended Delivered x.node x) h) gone t (another_outcome out x.number outs apart ∙ o)
  fared_outcome out apart (was_returned why h gone t o) =
      was_returned why (has_later out outs (ended Returned x.node x) h) gone t (another_outcome out x.number outs apart ∙ o)

module _ (layout : Layout) (nodes : List Node) where
  -- The first of the old packets: no other has its number.
  module _ {front old left : List Packet} {outs : List Outcome} {crossed : List ℕ} (sweeps : Sweeps layout nodes front old left outs crossed)
      (x : Packet) (lowest : (y : Packet) → Has old y → x.number < y.number) where
    first_apart : (y : Packet) → Has old y → y.number ≡ x.number → ⊥
    first_apart y h e = omega (arith, lowest y h)

    first_gone : (y : Packet) → Has left y → y.number ≡ x.number → ⊥
    first_gone y h e = omega (arith, left_numbers layout nodes (λ k. x.number < k) sweeps lowest y h)

    first_uncrossed : times_in x.number crossed ≡ 0
    first_uncrossed = no_crossing_of layout nodes sweeps x.number first_apart

    first_untold : outcomes_for x.number outs ≡ 0
    first_untold = no_outcome_of layout nodes sweeps x.number first_apart

  pub fared : {front old left : List Packet} {outs : List Outcome} {crossed : List ℕ} → Sweeps layout nodes front old left outs crossed →
      Rising old → (x : Packet) → Has old x → Fared layout nodes x left outs crossed
  fared swept rises x h = absurd (has_none x h)
  fared (waiting {front} {old} {left} {outs} {crossed} {x = y} why sweeps) rises x h =
      go (λ k. fared sweeps rises.1 x k) (has_cases y old x h)
    where
      go : (Has old x → Fared layout nodes x left outs crossed) → (y ≡ x) ⊎ Has old x → Fared layout nodes x (y ∷ left) outs crossed
      go again (inl e) =
          subst (λ z. Fared layout nodes z (y ∷ left) outs crossed) e
          (stayed why (has_first y left) (first_uncrossed sweeps y rises.0) (first_untold sweeps y rises.0))
      go again (inr k) = fared_behind layout nodes x left outs crossed y (λ e. omega (arith, rises.0 x k)) (again k)
  fared (moving {front} {old} {left} {outs} {crossed} {x = y} {m = m} {q = q} why sweeps) rises x h =
      go (λ k. fared sweeps rises.1 x k) (has_cases y old x h)
    where
      go : (Has old x → Fared layout nodes x left outs crossed) → (y ≡ x) ⊎ Has old x →
          Fared layout nodes x (moved_to m q y ∷ left) outs (y.number ∷ crossed)
      go again (inl e) =
          subst (λ z. Fared layout nodes z (moved_to m q y ∷ left) outs (y.number ∷ crossed)) e
          (went_on why (has_first (moved_to m q y) left) (one_more y.number crossed (first_uncrossed sweeps y rises.0)) (first_untold sweeps y rises.0))
      go again (inr k) =
          let apart : y.number ≡ x.number → ⊥ = λ e. omega (arith, rises.0 x k) in
          fared_crossed layout nodes x (moved_to m q y ∷ left) outs crossed y.number apart
          (fared_behind layout nodes x left outs crossed (moved_to m q y) apart (again k))
  fared (arriving {front} {old} {left} {outs} {crossed} {x = y} why sweeps) rises x h =
      go (λ k. fared sweeps rises.1 x k) (has_cases y old x h)
    where
      go : (Has old x → Fared layout nodes x left outs crossed) → (y ≡ x) ⊎ Has old x →
          Fared layout nodes x left (ended Delivered y.node y ∷ outs) crossed
      go again (inl e) =
          subst (λ z. Fared layout nodes z left (ended Delivered y.node y ∷ outs) crossed) e
          (was_delivered why (has_first (ended Delivered y.node y) outs) (first_gone sweeps y rises.0) (first_uncrossed sweeps y rises.0)
          (one_outcome (ended Delivered y.node y) outs (first_untold sweeps y rises.0)))
      go again (inr k) = fared_outcome layout nodes x left outs crossed (ended Delivered y.node y) (λ e. omega (arith, rises.0 x k)) (again k)
  fared (stranding {front} {old} {left} {outs} {crossed} {x = y} why sweeps) rises x h =
      go (λ k. fared sweeps rises.1 x k) (has_cases y old x h)
    where
      go : (Has old x → Fared layout nodes x left outs crossed) → (y ≡ x) ⊎ Has old x →
          Fared layout nodes x left (ended Returned y.node y ∷ outs) crossed
      go again (inl e) =
          subst (λ z. Fared layout nodes z left (ended Returned y.node y ∷ outs) crossed) e
          (was_returned why (has_first (ended Returned y.node y) outs) (first_gone sweeps y rises.0) (first_uncrossed sweeps y rises.0)
          (one_outcome (ended Returned y.node y) outs (first_untold sweeps y rises.0)))
      go again (inr k) = fared_outcome layout nodes x left outs crossed (ended Returned y.node y) (λ e. omega (arith, rises.0 x k)) (again k)

-- Every outcome in the tray is that of an old packet that was delivered or returned.
abbrev pub OutcomeOf : List Node → List Packet → Outcome → Type 0
OutcomeOf nodes old o =
    (x : Packet) × Has old x × (((o ≡ ended Delivered x.node x) × Arrives nodes x) ⊎ ((o ≡ ended Returned x.node x) × Strands nodes x))

-- Every number that crosses is that of an old packet that went on over a cable.
abbrev pub CrossingOf : Layout → List Node → List Packet → List Packet → ℕ → Type 0
CrossingOf layout nodes old left k =
    (x : Packet) × (m : ℕ) × (q : ℕ) × (others : List Packet) × Has old x × (x.number ≡ k) × Crosses layout nodes others x m q × Has left (moved_to m q x)

outcome_later : (nodes : List Node) (x : Packet) (old : List Packet) (o : Outcome) → OutcomeOf nodes old o → OutcomeOf nodes (x ∷ old) o
outcome_later nodes x old o (y, h, why) = (y, has_later x old y h, why)

module _ (layout : Layout) (nodes : List Node) where
  crossing_later : (x : Packet) (old left : List Packet) (k : ℕ) → CrossingOf layout nodes old left k → CrossingOf layout nodes (x ∷ old) left k
  crossing_later x old left k (y, m, q, others, h, number, why, there) = (y, m, q, others, has_later x old y h, number, why, there)

  crossing_behind : (z : Packet) (old left : List Packet) (k : ℕ) → CrossingOf layout nodes old left k → CrossingOf layout nodes old (z ∷ left) k
  crossing_behind z old left k (y, m, q, others, h, number, why, there) = (y, m, q, others, h, number, why, has_later z left (moved_to m q y) there)

  pub outcome_of : {front old left : List Packet} {outs : List Outcome} {crossed : List ℕ} → Sweeps layout nodes front old left outs crossed →
      (o : Outcome) → Has outs o → OutcomeOf nodes old o
  outcome_of swept o h = absurd (has_none o h)
  outcome_of (waiting {old = old} {x = x} why sweeps) o h = outcome_later nodes x old o (outcome_of sweeps o h)
  outcome_of (moving {old = old} {x = x} why sweeps) o h = outcome_later nodes x old o (outcome_of sweeps o h)
  outcome_of (arriving {old = old} {outs = outs} {x = x} why sweeps) o h = go (λ k. outcome_of sweeps o k) (has_cases (ended Delivered x.node x) outs o h)
    where
      go : (Has outs o → OutcomeOf nodes old o) → (ended Delivered x.node x ≡ o) ⊎ Has outs o → OutcomeOf nodes (x ∷ old) o
      go again (inl e) = (x, has_first x old, inl (sym e, why))
      go again (inr k) = outcome_later nodes x old o (again k)
  outcome_of (stranding {old = old} {outs = outs} {x = x} why sweeps) o h = go (λ k. outcome_of sweeps o k) (has_cases (ended Returned x.node x) outs o h)
    where
      go : (Has outs o → OutcomeOf nodes old o) → (ended Returned x.node x ≡ o) ⊎ Has outs o → OutcomeOf nodes (x ∷ old) o
      go again (inl e) = (x, has_first x old, inr (sym e, why))
      go again (inr k) = outcome_later nodes x old o (again k)

  pub crossing_of : {front old left : List Packet} {outs : List Outcome} {crossed : List ℕ} → Sweeps layout nodes front old left outs crossed →
      (k : ℕ) → Has crossed k → CrossingOf layout nodes old left k
  crossing_of swept k h = absurd (has_none k h)
  crossing_of (waiting {old = old} {left = left} {x = x} why sweeps) k h =
      crossing_later x old (x ∷ left) k (crossing_behind x old left k (crossing_of sweeps k h))
  crossing_of (moving {front} {old} {left} {crossed = crossed} {x = x} {m = m} {q = q} why sweeps) k h =
      go (λ j. crossing_of sweeps k j) (has_cases x.number crossed k h)
    where
      go : (Has crossed k → CrossingOf layout nodes old left k) → (x.number ≡ k) ⊎ Has crossed k → CrossingOf layout nodes (x ∷ old) (moved_to m q x ∷ left) k
      go again (inl e) = (x, m, q, front ++ old, has_first x old, e, why, has_first (moved_to m q x) left)
      go again (inr j) = crossing_later x old (moved_to m q x ∷ left) k (crossing_behind (moved_to m q x) old left k (again j))
  crossing_of (arriving {old = old} {left = left} {x = x} why sweeps) k h = crossing_later x old left k (crossing_of sweeps k h)
  crossing_of (stranding {old = old} {left = left} {x = x} why sweeps) k h = crossing_later x old left k (crossing_of sweeps k h)
