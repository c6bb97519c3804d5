-- The invariant: what holds of every state that a run from power-up reaches.
use Rattle.std.proofs.Common.{◌≡◌, ℕ, ◌+◌, ◌-◌, ◌%◌, ◌<◌, ◌≤◌, Bool, true, false, ◌⊎◌, List, [], ◌∷◌, length, Some}
use Rattle.std.specs.List.{ContainsAt as Has}
use Rattle.wiring.specs.Layout.{Layout}
use Rattle.rules.specs.declared.Mark.{Mark}
use Rattle.rules.specs.declared.Mark.TheVariants.{Up, Down}
use Rattle.rules.specs.declared.Mode.{Mode}
use Rattle.rules.specs.declared.Mode.TheVariants.{New, Recovering, Serving}
use Rattle.rules.specs.declared.Packet.{Packet}
use Rattle.rules.specs.Ports.{Ports, has}
use Rattle.rules.specs.State.{State, Entry, nothing, entry, node_of, mark_of, live_of, entry_of}
use Rattle.rules.specs.Flood.{is_up, is_down, is_marked}
use Rattle.rules.specs.Step.{turn, stands_at}
use Rattle.rules.specs.Promise.{Way}

-- Readings of a state

abbrev pub mode_at : State → ℕ → Mode
mode_at s n = (node_of s.nodes n).mode

abbrev pub hand_at : State → ℕ → Bool
hand_at s n = (node_of s.nodes n).hand

abbrev pub live_at : State → ℕ → ℕ → Bool
live_at s n p = live_of s.nodes n p

abbrev pub mark_at : State → ℕ → ℕ → Mark
mark_at s n p = mark_of s.nodes n p

abbrev pub entry_at : State → ℕ → ℕ → Entry
entry_at s n x = entry_of s.nodes n x

-- The root that a mode names.
abbrev pub NamesRoot : Mode → ℕ → Type 0
NamesRoot New r = ⊥
NamesRoot (Recovering root left) r = root ≡ r
NamesRoot (Serving root) r = root ≡ r

-- The owners whose slots a node has passed since its last root's slot.
abbrev pub Passed : ℕ → Mode → ℕ → Type 0
Passed count New x = ⊥
Passed count (Recovering root left) x = (i : ℕ) × (i < count - left) × (x ≡ (root + i) % count)
Passed count (Serving root) x = x < count

-- A cable from port p of n to port q of m.
abbrev pub Cable : Layout → ℕ → ℕ → ℕ → ℕ → Type 0
Cable layout n p m q = layout.far n p ≡ Some (m, q)

-- The lists are as long as the wall has nodes and ports.
pub record Shaped (layout : Layout) (s : State) : Type 0 where
  pub nodes_long : length s.nodes ≡ layout.count
  pub marks_long : (n : ℕ) → n < layout.count → length (node_of s.nodes n).marks ≡ 4
  pub row_long : (n : ℕ) → n < layout.count → length (node_of s.nodes n).row ≡ layout.count
  pub owner_below : s.owner < layout.count

-- Cables: live at both ends or at none, marked only where there is one.
pub record Cabled (layout : Layout) (s : State) : Type 0 where
  pub live_both : (n p : ℕ) → live_at s n p ≡ true → (m : ℕ) × (q : ℕ) × Cable layout n p m q × (live_at s m q ≡ true)
  pub marked_cable : (n p : ℕ) → is_marked (mark_at s n p) ≡ true → (m : ℕ) × (q : ℕ) × Cable layout n p m q
  -- a live cable is marked at both ends or at neither
  pub marked_both : (n p m q : ℕ) → Cable layout n p m q → live_at s n p ≡ true → is_marked (mark_at s n p) ≡ is_marked (mark_at s m q)
  -- a live cable without a mark: its node's hand is up
  pub unmarked_hand : (n p : ℕ) → live_at s n p ≡ true → is_marked (mark_at s n p) ≡ false → hand_at s n ≡ true
  -- a marked cable that was cut: its node's hand is up
  pub cut_hand : (n p : ℕ) → is_marked (mark_at s n p) ≡ true → live_at s n p ≡ false → hand_at s n ≡ true

-- Modes, along cables.
pub record Moded (layout : Layout) (s : State) : Type 0 where
  pub new_hand : (n : ℕ) → n < layout.count → mode_at s n ≡ New → hand_at s n ≡ true
  pub new_unmarked : (n p : ℕ) → mode_at s n ≡ New → is_marked (mark_at s n p) ≡ false
  -- a live cable's ends are in one recovery or in none
  pub recovers_both : (n p m q root left : ℕ) → Cable layout n p m q → live_at s n p ≡ true →
      mode_at s n ≡ Recovering root left → mode_at s m ≡ Recovering root left
  -- a live marked cable's ends have one mode
  pub marked_same : (n p m q : ℕ) → Cable layout n p m q → live_at s n p ≡ true → is_marked (mark_at s n p) ≡ true →
      mode_at s n ≡ mode_at s m
  -- a recovering node's marked cable, cut or not, leads to a node of its recovery, and its ends
  -- are marked opposite
  pub stays_inside : (n p m q root left : ℕ) → Cable layout n p m q → is_marked (mark_at s n p) ≡ true →
      mode_at s n ≡ Recovering root left → mode_at s m ≡ Recovering root left
  pub opposite_up : (n p m q root left : ℕ) → Cable layout n p m q → is_marked (mark_at s n p) ≡ true → mode_at s n ≡ Recovering root left →
      is_up (mark_at s n p) ≡ is_down (mark_at s m q)
  pub opposite_down : (n p m q root left : ℕ) → Cable layout n p m q → is_marked (mark_at s n p) ≡ true → mode_at s n ≡ Recovering root left →
      is_down (mark_at s n p) ≡ is_up (mark_at s m q)
  -- the slots of a recovery are counted from its root's
  pub root_below : (n root left : ℕ) → mode_at s n ≡ Recovering root left → root < layout.count
  pub left_some : (n root left : ℕ) → mode_at s n ≡ Recovering root left → 1 ≤ left
  pub left_few : (n root left : ℕ) → mode_at s n ≡ Recovering root left → left + 1 ≤ layout.count
  pub left_owner : (n root left : ℕ) → mode_at s n ≡ Recovering root left → s.owner ≡ (root + (layout.count - left)) % layout.count

-- Marks follow an order of the nodes in which the root of each recovery is lowest.
pub record Ordered (layout : Layout) (s : State) : Type 0 where
  pub depth : ℕ → ℕ
  pub ord : ℕ → ℕ
  pub top : ℕ
  pub ord_below : (n : ℕ) → n < layout.count → ord n < top
  pub up_lower : (n p m q : ℕ) → Cable layout n p m q → live_at s n p ≡ true → mark_at s n p ≡ Up → ord m < ord n
  pub down_higher : (n p m q : ℕ) → Cable layout n p m q → live_at s n p ≡ true → mark_at s n p ≡ Down → ord n < ord m
  pub depth_near : (n p m q : ℕ) → Cable layout n p m q → live_at s n p ≡ true → is_marked (mark_at s n p) ≡ true → depth m ≤ depth n + 1
  -- a smaller depth means a smaller order, along live marked cables
  pub depth_ord : (n p m q : ℕ) → Cable layout n p m q → live_at s n p ≡ true → is_marked (mark_at s n p) ≡ true → depth n < depth m → ord n < ord m
  -- a node at depth 0 is its own root; any other whose hand is down has a parent
  pub depth_root : (n : ℕ) → n < layout.count → (mode_at s n ≡ New → ⊥) → depth n ≡ 0 → NamesRoot (mode_at s n) n
  pub parent : (n : ℕ) → n < layout.count → (mode_at s n ≡ New → ⊥) → 1 ≤ depth n → hand_at s n ≡ false →
      (p : ℕ) × (m : ℕ) × (q : ℕ) × Cable layout n p m q × (live_at s n p ≡ true) × (mark_at s n p ≡ Up) × (depth n ≡ depth m + 1)

-- What an entry's port leads to: the destination itself at one hop, or a neighbour that has an
-- entry with one hop fewer and a permitted turn on.
abbrev pub Leads : State → ℕ → ℕ → ℕ → ℕ → Type 0
Leads s m q x count =
    ((m ≡ x) × (count ≡ 1)) ⊎
    ((ports : Ports) × (fewer : ℕ) × (p : ℕ) × (entry_at s m x ≡ entry ports fewer) × (count ≡ fewer + 1)
    × (has ports p ≡ true) × (turn (mark_at s m q) (mark_at s m p) ≡ true))

-- Routing tables.
pub record Routed (layout : Layout) (s : State) : Type 0 where
  pub own_nothing : (n : ℕ) → entry_at s n n ≡ nothing
  pub entry_passed : (n x : ℕ) (ports : Ports) (count : ℕ) → entry_at s n x ≡ entry ports count → Passed layout.count (mode_at s n) x
  pub entry_count : (n x : ℕ) (ports : Ports) (count : ℕ) → entry_at s n x ≡ entry ports count → (1 ≤ count) × (count < layout.count)
  pub entry_port : (n x : ℕ) (ports : Ports) (count : ℕ) → entry_at s n x ≡ entry ports count → (p : ℕ) × (has ports p ≡ true)
  -- while the hand is down, all ports of an entry are live and marked
  pub entry_live : (n x : ℕ) (ports : Ports) (count p : ℕ) → entry_at s n x ≡ entry ports count → has ports p ≡ true → hand_at s n ≡ false →
      (live_at s n p ≡ true) × (is_marked (mark_at s n p) ≡ true)
  pub entry_leads : (n x : ℕ) (ports : Ports) (count p m q : ℕ) → entry_at s n x ≡ entry ports count → has ports p ≡ true →
      Cable layout n p m q → live_at s n p ≡ true → is_marked (mark_at s n p) ≡ true → Leads s m q x count
  -- complete, where no node joined to this one has its hand up
  pub entry_there : (n x k : ℕ) → Way layout s n x k → (n ≡ x → ⊥) → Passed layout.count (mode_at s n) x →
      ((m j : ℕ) → Way layout s n m j → hand_at s m ≡ false) →
      (ports : Ports) × (count : ℕ) × (entry_at s n x ≡ entry ports count)

-- Packets in flight.
abbrev pub Rising : List Packet → Type 0
Rising [] = Unit {0}
Rising (x ∷ xs) = ((y : Packet) → Has xs y → x.number < y.number) × Rising xs

abbrev pub Apart : List Packet → Type 0
Apart [] = Unit {0}
Apart (x ∷ xs) = ((y : Packet) (n p : ℕ) → Has xs y → stands_at n p x ≡ true → stands_at n p y ≡ true → ⊥) × Apart xs

pub record Flying (layout : Layout) (s : State) : Type 0 where
  pub few : length s.packets ≤ 256
  pub numbers_rise : Rising s.packets
  pub numbers_given : (x : Packet) → Has s.packets x → x.number ≤ s.last
  -- each port has place for one packet
  pub ports_apart : Apart s.packets
  pub node_below : (x : Packet) → Has s.packets x → x.node < layout.count
  pub destination_below : (x : Packet) → Has s.packets x → x.destination < layout.count
  pub node_known : (x : Packet) → Has s.packets x → mode_at s x.node ≡ New → ⊥
  pub port_cable : (x : Packet) (p : ℕ) → Has s.packets x → x.standing ≡ Some p → (m : ℕ) × (q : ℕ) × Cable layout x.node p m q
  -- a packet at a port of a serving node with its hand down can go on
  pub way_on : (x : Packet) (a root : ℕ) → Has s.packets x → x.standing ≡ Some a → mode_at s x.node ≡ Serving root →
      hand_at s x.node ≡ false → (x.node ≡ x.destination → ⊥) →
      (ports : Ports) × (count : ℕ) × (p : ℕ) × (entry_at s x.node x.destination ≡ entry ports count)
      × (has ports p ≡ true) × (turn (mark_at s x.node a) (mark_at s x.node p) ≡ true)

pub record Invariant (layout : Layout) (s : State) : Type 0 where
  pub shaped : Shaped layout s
  pub cabled : Cabled layout s
  pub moded : Moded layout s
  pub ordered : Ordered layout s
  pub routed : Routed layout s
  pub flying : Flying layout s
