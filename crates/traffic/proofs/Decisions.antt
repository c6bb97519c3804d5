-- What is offered, what the chooser answers and where it leads.
use Rattle.std.proofs.Common.{◌≡◌, ℕ, ◌<◌, Bool, true, false, not, ◌||◌, eqb, List, [], ◌∷◌, length, get_or, Some, None, MatchBool, Option, sym, refl, ap, ◌∙◌, subst, arith, lit<}
use Rattle.std.proofs.lemmas.Bool.{false≢true, not-true, not-false}
use Rattle.wiring.specs.Layout.{Layout, Sound}
use Rattle.chooser.specs.declared.ports.PortSet.{PortSet}
use Rattle.chooser.specs.PortSets as chooser
use Rattle.rules.specs.declared.Mode.{Mode}
use Rattle.rules.specs.declared.Mode.TheVariants.{New, Recovering, Serving}
use Rattle.rules.specs.declared.Packet.{Packet}
use Rattle.rules.specs.Calls.{not_serving}
use Rattle.rules.specs.Ports.{Ports, has, ports_where, some_port}
use Rattle.rules.specs.State.{Node, Entry, nothing, entry, node_of, entry_of}
use Rattle.rules.specs.Step.{Fate, waits, delivered, returned, crosses, taken, far_port_empty, offered, offer_for, crossing, fate}
use Rattle.traffic.specs.declared.types.Fate as code
use Rattle.traffic.specs.Choosing.{offer_set, fate_view, landing, LandsInside, Asked, Crossed, Decided}
use Rattle.traffic.specs.Offers.{port_offered}

-- The far end of a port

pub far_inside : (layout : Layout) (n p : ℕ) → Sound layout → (m q : ℕ) → Some (m, q) ≡ layout.far n p → (m < 64) × (q < 4)
far_inside layout n p sound m q e =
    let in_range = sound.in_range n p m q (sym e) in
    (omega (arith, in_range.0, sound.few_nodes), in_range.1)

module _ (layout : Layout) (n p : ℕ) (others : List Packet) where
  abbrev empty_at : Option (ℕ × ℕ) → Bool
  empty_at o = elim o [ None ↦ false | Some far ↦ not (taken far.0 far.1 others) ]

  pub far_empty_at_some : (m q : ℕ) → Some (m, q) ≡ layout.far n p → not (taken m q others) ≡ far_port_empty layout others n p
  unfolding far_port_empty
  far_empty_at_some m q e = ap empty_at e

-- Offers

pub all_four : (ports : Ports) (test : ℕ → Bool) → length ports ≡ 4 → ((p : ℕ) → p < 4 → get_or ports p false ≡ test p) → ports ≡ ports_where test
unfolding ports_where
all_four [] test long each = absurd (omega arith)
all_four (a ∷ []) test long each = absurd (omega arith)
all_four (a ∷ b ∷ []) test long each = absurd (omega arith)
all_four (a ∷ b ∷ c ∷ []) test long each = absurd (omega arith)
all_four (a ∷ b ∷ c ∷ d ∷ []) test long each =
    let north : a ≡ test 0 = each 0 (lit< tt) in
    let east : b ≡ test 1 = each 1 (lit< tt) in
    let south : c ≡ test 2 = each 2 (lit< tt) in
    let west : d ≡ test 3 = each 3 (lit< tt) in
    cc
all_four (a ∷ b ∷ c ∷ d ∷ e ∷ more) test long each = absurd (omega arith)

pub vacant_is : (ports : Ports) → chooser.vacant (offer_set ports) ≡ not (some_port ports)
unfolding some_port
vacant_is ports = go (has ports 0) (has ports 1) (has ports 2) (has ports 3)
  where
    go : (a b c d : Bool) → not (a || (b || (c || d))) ≡ not (a || b || c || d)
    go true b c d = refl
    go false true c d = refl
    go false false true d = refl
    go false false false d = refl

module _ (ports : Ports) (set : PortSet) (made : set ≡ offer_set ports) (empty : Bool) (tells : empty ≡ chooser.vacant set) where
  pub none_offered : empty ≡ true → some_port ports ≡ false
  none_offered e = not-true (some_port ports) (sym (vacant_is ports) ∙ ap chooser.vacant (sym made) ∙ sym tells ∙ e)

  pub some_offered : empty ≡ false → some_port ports ≡ true
  some_offered e = not-false (some_port ports) (sym (vacant_is ports) ∙ ap chooser.vacant (sym made) ∙ sym tells ∙ e)

module _ (layout : Layout) (n : ℕ) (offer : Ports) (pick : ℕ) where
  abbrev led_to : Option (ℕ × ℕ) → Fate
  led_to o = elim o [ None ↦ waits | Some far ↦ crosses far.0 far.1 ]

  abbrev crossing_by : Bool → Fate
  crossing_by b = elim b [ false ↦ waits | true ↦ led_to (layout.far n pick) ]

  crossing_not : some_port offer ≡ false → waits ≡ crossing layout n offer pick
  unfolding crossing
  crossing_not e = ap crossing_by (sym e)

  lands_there : (far : Option (ℕ × ℕ)) → fate_view (landing far) ≡ led_to far
  lands_there None = refl
  lands_there (Some far) = refl

  crossing_led : (far : Option (ℕ × ℕ)) → some_port offer ≡ true → far ≡ layout.far n pick → led_to far ≡ crossing layout n offer pick
  unfolding crossing
  crossing_led far e l = ap led_to l ∙ ap crossing_by (sym e)

module _ {C : Type 0} (picks : C → PortSet → ℕ → C → Type 0) where
  pub asks_none : (offer : Ports) (c : C) → some_port offer ≡ false → Asked picks (offer, 0) c c
  asks_none offer c e = subst (λ (b : Bool). MatchBool b (picks c (offer_set offer) 0 c) ((◌≡◌ {A = ℕ} 0 0) × (c ≡ c))) (sym e) (refl, refl)

  pub asks_some : (offer : Ports) (pick : ℕ) (c d : C) → some_port offer ≡ true → picks c (offer_set offer) pick d → Asked picks (offer, pick) c d
  asks_some offer pick c d e h = subst (λ (b : Bool). MatchBool b (picks c (offer_set offer) pick d) ((pick ≡ 0) × (d ≡ c))) (sym e) h

  module _ (layout : Layout) (n : ℕ) (offer : Ports) where
    pub crosses_not : (c : C) → some_port offer ≡ false → Crossed picks layout n offer waits c c
    crosses_not c e = record { pick = 0; fated = crossing_not layout n offer 0 e; asked = asks_none offer c e }

    pub crosses_led : (set : PortSet) → set ≡ offer_set offer → (pick : ℕ) (c d : C) → some_port offer ≡ true → picks c set pick d →
        (far : Option (ℕ × ℕ)) → far ≡ layout.far n pick → Crossed picks layout n offer (led_to layout n offer pick far) c d
    crosses_led set made pick c d some picked far e = record {
      pick = pick;
      fated = crossing_led layout n offer pick far some e;
      asked = asks_some offer pick c d some (subst (λ (s : PortSet). picks c s pick d) made picked);
    }

    pub crosses_landed : (set : PortSet) → set ≡ offer_set offer → (pick : ℕ) (c d : C) → some_port offer ≡ true → picks c set pick d →
        (far : Option (ℕ × ℕ)) → far ≡ layout.far n pick → (f : code.Fate) → f ≡ landing far → Crossed picks layout n offer (fate_view f) c d
    crosses_landed set made pick c d some picked far e f is =
        subst (λ (g : Fate). Crossed picks layout n offer g c d) (sym (ap fate_view is ∙ lands_there layout n offer pick far))
        (crosses_led set made pick c d some picked far e)

-- Fates

abbrev no_ports : Ports
no_ports = ports_where (λ p. false)

no_ports_offered : some_port no_ports ≡ false
unfolding some_port ports_where
no_ports_offered = refl

module _ (layout : Layout) (nodes : List Node) (others : List Packet) (x : Packet) where
  abbrev mode : Mode
  mode = (node_of nodes x.node).mode

  abbrev arrived : Bool
  arrived = eqb x.node x.destination

  abbrev found : Entry
  found = entry_of nodes x.node x.destination

  -- At a serving node

  abbrev served_offer : Bool → Entry → Ports
  served_offer b e = elim b [ true ↦ no_ports | false ↦ offered layout nodes others x e ]

  abbrev served_fate : ℕ → Bool → Entry → Fate
  served_fate pick b e =
      elim b [
        | true ↦ delivered
        | false ↦ elim e [ nothing ↦ returned | entry ports count ↦ crossing layout x.node (offer_for layout nodes others x) pick ]
      ]

  serves_offer : not_serving mode ≡ false → served_offer arrived found ≡ offer_for layout nodes others x
  unfolding offer_for
  serves_offer h = go mode h
    where
      go : (m : Mode) → not_serving m ≡ false → served_offer arrived found ≡ elim m [ New ↦ no_ports | Recovering root left ↦ no_ports | Serving root ↦ served_offer arrived found ]
      go New e = absurd (false≢true (sym e))
      go (Recovering root left) e = absurd (false≢true (sym e))
      go (Serving root) e = refl

  serves_fate : (pick : ℕ) → not_serving mode ≡ false → served_fate pick arrived found ≡ fate layout nodes others pick x
  unfolding fate
  serves_fate pick h = go mode h
    where
      go : (m : Mode) → not_serving m ≡ false → served_fate pick arrived found ≡ elim m [ New ↦ waits | Recovering root left ↦ waits | Serving root ↦ served_fate pick arrived found ]
      go New e = absurd (false≢true (sym e))
      go (Recovering root left) e = absurd (false≢true (sym e))
      go (Serving root) e = refl

  -- At a node that does not serve

  idle_offer : not_serving mode ≡ true → no_ports ≡ offer_for layout nodes others x
  unfolding offer_for
  idle_offer h = go mode h
    where
      go : (m : Mode) → not_serving m ≡ true → no_ports ≡ elim m [ New ↦ no_ports | Recovering root left ↦ no_ports | Serving root ↦ served_offer arrived found ]
      go New e = refl
      go (Recovering root left) e = refl
      go (Serving root) e = absurd (false≢true e)

  idle_fate : (pick : ℕ) → not_serving mode ≡ true → waits ≡ fate layout nodes others pick x
  unfolding fate
  idle_fate pick h = go mode h
    where
      go : (m : Mode) → not_serving m ≡ true → waits ≡ elim m [ New ↦ waits | Recovering root left ↦ waits | Serving root ↦ served_fate pick arrived found ]
      go New e = refl
      go (Recovering root left) e = refl
      go (Serving root) e = absurd (false≢true e)

  module _ {C : Type 0} (picks : C → PortSet → ℕ → C → Type 0) (c : C) where
    -- Without an offer the chooser is not asked.
    unasked : (f : Fate) → f ≡ fate layout nodes others 0 x → no_ports ≡ offer_for layout nodes others x → Decided picks layout nodes others x f c c
    unasked f e o = record {
      pick = 0;
      fated = e;
      asked = asks_none picks (offer_for layout nodes others x) c (ap some_port (sym o) ∙ no_ports_offered);
    }

    pub decided_idle : not_serving mode ≡ true → Decided picks layout nodes others x waits c c
    decided_idle idle = unasked waits (idle_fate 0 idle) (idle_offer idle)

    module _ (serves : not_serving mode ≡ false) where
      pub decided_arrived : arrived ≡ true → Decided picks layout nodes others x delivered c c
      decided_arrived here =
          unasked delivered
          (ap (λ (b : Bool). served_fate 0 b found) (sym here) ∙ serves_fate 0 serves)
          (ap (λ (b : Bool). served_offer b found) (sym here) ∙ serves_offer serves)

      module _ (away : arrived ≡ false) where
        away_offer : (e : Entry) → e ≡ found → offered layout nodes others x e ≡ offer_for layout nodes others x
        away_offer e is =
            ap (offered layout nodes others x) is ∙ ap (λ (b : Bool). served_offer b found) (sym away) ∙ serves_offer serves

        away_fate : (pick : ℕ) (e : Entry) → e ≡ found → served_fate pick false e ≡ fate layout nodes others pick x
        away_fate pick e is =
            ap (served_fate pick false) is ∙ ap (λ (b : Bool). served_fate pick b found) (sym away) ∙ serves_fate pick serves

        no_offer : no_ports ≡ offered layout nodes others x nothing
        unfolding offered
        no_offer = refl

        pub decided_lost : nothing ≡ found → Decided picks layout nodes others x returned c c
        decided_lost is = unasked returned (away_fate 0 nothing is) (no_offer ∙ away_offer nothing is)

        some_offer : (ports : Ports) (count : ℕ) →
            ports_where (port_offered layout nodes others x ports) ≡ offered layout nodes others x (entry ports count)
        unfolding offered
        some_offer ports count = refl

        pub decided_crossing : (ports offer : Ports) (count : ℕ) (f : Fate) (d : C) → entry ports count ≡ found →
            offer ≡ ports_where (port_offered layout nodes others x ports) →
            Crossed picks layout x.node offer f c d → Decided picks layout nodes others x f c d
        decided_crossing ports offer count f d is o crossed = record {
          pick = crossed.pick;
          fated = crossed.fated ∙ ap (λ (ps : Ports). crossing layout x.node ps crossed.pick) same ∙ away_fate crossed.pick (entry ports count) is;
          asked = subst (λ (ps : Ports). Asked picks (ps, crossed.pick) c d) same crossed.asked;
        }
          where
            same : offer ≡ offer_for layout nodes others x
            same = o ∙ some_offer ports count ∙ away_offer (entry ports count) is

-- Where a packet comes to

module _ (layout : Layout) (sound : Sound layout) (n : ℕ) (pick : ℕ) where
  lands_by : (offer : Ports) → LandsInside (crossing layout n offer pick)
  unfolding crossing
  lands_by offer = go (some_port offer) (layout.far n pick) (λ m q e. far_inside layout n pick sound m q e)
    where
      go : (b : Bool) (o : Option (ℕ × ℕ)) → ((m q : ℕ) → Some (m, q) ≡ o → (m < 64) × (q < 4)) →
          LandsInside (elim b [ false ↦ waits | true ↦ elim o [ None ↦ waits | Some far ↦ crosses far.0 far.1 ] ])
      go false o h = tt
      go true None h = tt
      go true (Some far) h = h far.0 far.1 refl

pub lands_inside : {C : Type 0} (picks : C → PortSet → ℕ → C → Type 0) (layout : Layout) (nodes : List Node) (others : List Packet) (x : Packet) →
    Sound layout → (f : Fate) (c c' : C) → Decided picks layout nodes others x f c c' → LandsInside f
unfolding fate
lands_inside picks layout nodes others x sound f c c' decided =
    subst LandsInside (sym decided.fated)
    (go (node_of nodes x.node).mode (eqb x.node x.destination) (entry_of nodes x.node x.destination))
  where
    go : (m : Mode) (b : Bool) (e : Entry) →
        LandsInside (elim m [ New ↦ waits | Recovering root left ↦ waits | Serving root ↦ served_fate layout nodes others x decided.pick b e ])
    go New b e = tt
    go (Recovering root left) b e = tt
    go (Serving root) true e = tt
    go (Serving root) false nothing = tt
    go (Serving root) false (entry ports count) = lands_by layout sound x.node decided.pick (offer_for layout nodes others x)
