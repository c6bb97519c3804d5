-- Packets in flight over a slot: those at a node that ends its recovery go home, and the others
-- stay where they stand.
use Rattle.std.proofs.Common.{◌≡◌, ℕ, zero, suc, ◌<◌, ◌≤◌, true, false, ◌⊎◌, List, [], ◌∷◌, map, length, sym, refl, ap, ◌∙◌, subst, inl, inr, arith, Some, None}
use lib.ListN.{length-map}
use Rattle.std.specs.List.{ContainsAt as Has}
use Rattle.std.proofs.lemmas.Bool.{cond_both, cond-true, cond-false, cases_Bool, and_parts, both_ways}
use Rattle.wiring.specs.Layout.{Layout}
use Rattle.rules.specs.declared.Mode.TheVariants.{New, Serving}
use Rattle.rules.specs.declared.Packet.{Packet}
use Rattle.rules.specs.Ports.{Ports, has}
use Rattle.rules.specs.State.{Node, State, entry, node_of}
use Rattle.rules.specs.Flood.{Cell}
use Rattle.rules.specs.Step.{turn, stands_at}
use Rattle.rules.specs.Slot.{ends_recovery, at_home, sent_home}
use Rattle.rules.proofs.Invariant.{mode_at, hand_at, mark_at, entry_at, Shaped, Rising, Apart, Flying}
use Rattle.rules.proofs.SlotReads.{Ticked, mark_kept}
use Rattle.rules.proofs.SlotModed.{tick_new, tick_serving}
use Rattle.rules.proofs.SlotRouted.{Told, entry_kept}

-- Lists

pub has_map : {X Y : Type 0} (f : X → Y) (xs : List X) (y : Y) → Has (map f xs) y → (x : X) × Has xs x × (f x ≡ y)
has_map f [] y (k, below, is) = absurd (omega arith)
has_map f (x ∷ xs) y (zero, below, is) = (x, (0, omega arith, λ d. refl), is (f x))
has_map f (x ∷ xs) y (suc k, below, is) =
    let (z, (j, low, is-z), sent) = has_map f xs y (k, omega arith, λ d. is d) in
    (z, (suc j, omega arith, λ d. is-z d), sent)

pub rising_map : (f : Packet → Packet) → ((x : Packet) → (f x).number ≡ x.number) → (xs : List Packet) → Rising xs → Rising (map f xs)
rising_map f same [] rising = tt
rising_map f same (x ∷ xs) rising = (above, rising_map f same xs rising.1)
  where
    above : (y : Packet) → Has (map f xs) y → (f x).number < y.number
    above y there =
        let (z, in-xs, sent) = has_map f xs y there in
        let less : x.number < z.number = rising.0 z in-xs in
        let z_same : z.number ≡ y.number = sym (same z) ∙ ap (λ w. w.number) sent in
        omega (arith, same x)

pub apart_map : (f : Packet → Packet) → ((x : Packet) (n p : ℕ) → stands_at n p (f x) ≡ true → stands_at n p x ≡ true) → (xs : List Packet) → Apart xs → Apart (map f xs)
apart_map f stood [] apart = tt
apart_map f stood (x ∷ xs) apart = (alone, apart_map f stood xs apart.1)
  where
    alone : (y : Packet) (n p : ℕ) → Has (map f xs) y → stands_at n p (f x) ≡ true → stands_at n p y ≡ true → ⊥
    alone y n p there at_x at_y =
        let (z, in-xs, sent) = has_map f xs y there in
        apart.0 z n p in-xs (stood x n p at_x) (stood z n p (ap (stands_at n p) sent ∙ at_y))

-- One packet

module _ (nodes : List Node) (x : Packet) where
  pub sent_number : (sent_home nodes x).number ≡ x.number
  unfolding sent_home
  sent_number = cond_both (ends_recovery (node_of nodes x.node).mode) (at_home x) x (λ y. y.number ≡ x.number) (λ e. refl) (λ e. refl)

  pub sent_node : (sent_home nodes x).node ≡ x.node
  unfolding sent_home
  sent_node = cond_both (ends_recovery (node_of nodes x.node).mode) (at_home x) x (λ y. y.node ≡ x.node) (λ e. refl) (λ e. refl)

  pub sent_destination : (sent_home nodes x).destination ≡ x.destination
  unfolding sent_home
  sent_destination = cond_both (ends_recovery (node_of nodes x.node).mode) (at_home x) x (λ y. y.destination ≡ x.destination) (λ e. refl) (λ e. refl)

  pub sent_stood : (n p : ℕ) → stands_at n p (sent_home nodes x) ≡ true → stands_at n p x ≡ true
  unfolding sent_home stands_at
  sent_stood n p =
      cond_both (ends_recovery (node_of nodes x.node).mode) (at_home x) x (λ y. stands_at n p y ≡ true → stands_at n p x ≡ true)
      (λ e h. absurd (both_ways false refl (and_parts _ false h).1)) (λ e h. h)

  -- A packet that still stands at a port stayed as it was.
  pub sent_stayed : (a : ℕ) → (sent_home nodes x).standing ≡ Some a → (sent_home nodes x ≡ x) × (ends_recovery (node_of nodes x.node).mode ≡ false)
  unfolding sent_home
  sent_stayed a h = go (cases_Bool (ends_recovery (node_of nodes x.node).mode))
    where
      go : (ends_recovery (node_of nodes x.node).mode ≡ true) ⊎ (ends_recovery (node_of nodes x.node).mode ≡ false) →
          (sent_home nodes x ≡ x) × (ends_recovery (node_of nodes x.node).mode ≡ false)
      go (inl ends) =
          let home : None ≡ Some a = sym (ap (λ y. y.standing) (cond-true (ends_recovery (node_of nodes x.node).mode) (at_home x) x ends)) ∙ h in
          absurd (let z : ◌≡◌ {A = ℕ} 0 1 = cc in omega arith)
      go (inr stays) = (cond-false (ends_recovery (node_of nodes x.node).mode) (at_home x) x stays, stays)

module _ (layout : Layout) (s after : State) (cell : ℕ → Cell) (ticked : Ticked layout s after cell)
    (shaped : Shaped layout s) (told : Told layout s cell) (flying : Flying layout s) where
  -- Where a packet comes from.
  was : (y : Packet) → Has after.packets y → (x : Packet) × Has s.packets x × (sent_home s.nodes x ≡ y)
  was y there = has_map (sent_home s.nodes) s.packets y (subst (λ ps. Has ps y) ticked.packets_are there)

  -- A packet at a port was there before, and its node goes on as it did.
  stayed : (y : Packet) (a : ℕ) → Has after.packets y → y.standing ≡ Some a → Has s.packets y × (ends_recovery (mode_at s y.node) ≡ false)
  stayed y a there stands =
      let (x, in-s, sent) = was y there in
      let (same, goes_on) = sent_stayed s.nodes x a (ap (λ z. z.standing) sent ∙ stands) in
      let is : x ≡ y = sym same ∙ sent in
      (subst (Has s.packets) is in-s, subst (λ z. ends_recovery (mode_at s z.node) ≡ false) is goes_on)

  given : (y : Packet) → Has after.packets y → y.number ≤ after.last
  given y there =
      let (x, in-s, sent) = was y there in
      let same : x.number ≡ y.number = sym (sent_number s.nodes x) ∙ ap (λ z. z.number) sent in
      omega (arith, flying.numbers_given x in-s, ticked.last_is)

  node_was : (y : Packet) → Has after.packets y → (x : Packet) × Has s.packets x × (x.node ≡ y.node) × (x.destination ≡ y.destination)
  node_was y there =
      let (x, in-s, sent) = was y there in
      (x, in-s, sym (sent_node s.nodes x) ∙ ap (λ z. z.node) sent, sym (sent_destination s.nodes x) ∙ ap (λ z. z.destination) sent)

  inside : (y : Packet) → Has after.packets y → y.node < layout.count
  inside y there =
      let (x, in-s, same, to) = node_was y there in
      omega (arith, flying.node_below x in-s)

  goal_inside : (y : Packet) → Has after.packets y → y.destination < layout.count
  goal_inside y there =
      let (x, in-s, same, to) = node_was y there in
      omega (arith, flying.destination_below x in-s)

  known : (y : Packet) → Has after.packets y → mode_at after y.node ≡ New → ⊥
  known y there e =
      let (x, in-s, same, to) = node_was y there in
      flying.node_known x in-s (ap (mode_at s) same ∙ tick_new (mode_at s y.node) (sym (ticked.mode_is y.node) ∙ e))

  goes_on : (y : Packet) (a root : ℕ) → Has after.packets y → y.standing ≡ Some a → mode_at after y.node ≡ Serving root →
      hand_at after y.node ≡ false → (y.node ≡ y.destination → ⊥) →
      (ports : Ports) × (count : ℕ) × (p : ℕ) × (entry_at after y.node y.destination ≡ entry ports count)
      × (has ports p ≡ true) × (turn (mark_at after y.node a) (mark_at after y.node p) ≡ true)
  goes_on y a root there stands serves down elsewhere =
      let (in-s, ends-not) = stayed y a there stands in
      let served : mode_at s y.node ≡ Serving root = tick_serving (mode_at s y.node) root (sym (ticked.mode_is y.node) ∙ serves) ends-not in
      let (ports, count, p, at_y, has_p, ok) = flying.way_on y a root in-s stands served (sym (ticked.hand_is y.node) ∙ down) elsewhere in (
        ports,
        count,
        p,
        entry_kept layout s after cell ticked shaped told y.node y.destination ports count at_y,
        has_p,
        (λ i. turn (mark_kept layout s after cell ticked y.node a i) (mark_kept layout s after cell ticked y.node p i)) ∙ ok,
      )

  pub flying_ticked : Flying layout after
  flying_ticked = record {
    few = omega (arith, ap length ticked.packets_are, length-map s.packets (sent_home s.nodes), flying.few);
    numbers_rise = rw ticked.packets_are (rising_map (sent_home s.nodes) (sent_number s.nodes) s.packets flying.numbers_rise);
    numbers_given = given;
    ports_apart = rw ticked.packets_are (apart_map (sent_home s.nodes) (sent_stood s.nodes) s.packets flying.ports_apart);
    node_below = inside;
    destination_below = goal_inside;
    node_known = known;
    port_cable = λ y p there stands. flying.port_cable y p (stayed y p there stands).0 stands;
    way_on = goes_on;
  }
