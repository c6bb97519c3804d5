-- Readings of a slot: what each node, the owner, the last number and the packets are after it. A
-- root's slot is read in two parts: first every node joined to the root is enlisted (`enlisting`),
-- and then the broadcast and the end of the slot go as in a member's slot.
use Rattle.std.proofs.Common.{◌≡◌, ℕ, ◌+◌, ◌%◌, ◌<◌, ◌≤◌, false, cond, eqb, ◌⊎◌, List, [], ◌∷◌, map, length, get_or, Some, None, Option, sym, refl, ap, ◌∙◌, inl, inr, arith, length-set, get_or-set_other, get_or-set_same}
use lib.ListN.{length-map, length-replicate, get_or-map, get_or-eq_default}
use Rattle.std.proofs.lemmas.Bool.{cases_lt, or_left, eq-eqb}
use Rattle.wiring.specs.Layout.{Layout}
use Rattle.rules.specs.declared.Act.{Act}
use Rattle.rules.specs.declared.Act.TheVariants.{Silent, Root, Member}
use Rattle.rules.specs.declared.Mark.TheVariants.{Unmarked}
use Rattle.rules.specs.declared.Mode.TheVariants.{Recovering}
use Rattle.rules.specs.declared.Packet.{Packet}
use Rattle.rules.specs.State.{Node, State, Entry, nothing, entry, absent, node_of, entry_of}
use Rattle.rules.specs.Flood.{Cell, waiting, deaf, wrote, cell_of}
use Rattle.rules.specs.Root.{open_marks, distances, distance_in, distance, rooted}
use Rattle.rules.specs.Slot.{act_of, broadcast, informed, heard, tick_mode, tick, ends_recovery, at_home, sent_home, slot_end, spoken, acted, slot}
use Rattle.rules.proofs.Invariant.{mode_at, hand_at, live_at, mark_at, entry_at, Shaped}
use Rattle.rules.proofs.Tables.{table_length, table_at, table_past}
use Rattle.rules.proofs.Flood.{ends, at_deaf}
use Rattle.rules.proofs.Rooted.{rooted_length, rooted_outside, rooted_other, rooted_mode, rooted_hand, rooted_live, rooted_row, rooted_entry, rooted_marks_length}

-- Lists

pub map_same : {X Y : Type 0} (f g : X → Y) (xs : List X) → ((x : X) → f x ≡ g x) → map f xs ≡ map g xs
map_same f g [] same = refl
map_same f g (x ∷ xs) same = λ i. same x i ∷ map_same f g xs same i

-- Nodes

pub tick_at : (nodes : List Node) (n : ℕ) → node_of (map tick nodes) n ≡ tick (node_of nodes n)
unfolding tick_mode
tick_at nodes n = get_or-map tick nodes n absent

pub heard_at : (layout : Layout) (nodes : List Node) (owner : ℕ) (cells : List Cell) (n : ℕ) → n < layout.count →
    node_of (heard layout nodes owner cells) n ≡ informed (node_of nodes n) owner (cell_of cells n)
unfolding heard
heard_at layout nodes owner cells n below = table_at layout.count (λ m. informed (node_of nodes m) owner (cell_of cells m)) n absent below

pub heard_past : (layout : Layout) (nodes : List Node) (owner : ℕ) (cells : List Cell) (n : ℕ) → layout.count ≤ n →
    node_of (heard layout nodes owner cells) n ≡ absent
unfolding heard
heard_past layout nodes owner cells n past = table_past layout.count (λ m. informed (node_of nodes m) owner (cell_of cells m)) n absent past

pub heard_length : (layout : Layout) (nodes : List Node) (owner : ℕ) (cells : List Cell) → length (heard layout nodes owner cells) ≡ layout.count
unfolding heard
heard_length layout nodes owner cells = table_length layout.count (λ m. informed (node_of nodes m) owner (cell_of cells m))

pub node_past : (nodes : List Node) (n : ℕ) → length nodes ≤ n → node_of nodes n ≡ absent
node_past nodes n past = get_or-eq_default nodes absent past

pub informed_mode : (node : Node) (owner : ℕ) (cell : Cell) → (informed node owner cell).mode ≡ node.mode
unfolding informed
informed_mode node owner waiting = refl
informed_mode node owner deaf = refl
informed_mode node owner (wrote ports k) = refl

pub informed_hand : (node : Node) (owner : ℕ) (cell : Cell) → (informed node owner cell).hand ≡ node.hand
unfolding informed
informed_hand node owner waiting = refl
informed_hand node owner deaf = refl
informed_hand node owner (wrote ports k) = refl

pub informed_live : (node : Node) (owner : ℕ) (cell : Cell) → (informed node owner cell).live ≡ node.live
unfolding informed
informed_live node owner waiting = refl
informed_live node owner deaf = refl
informed_live node owner (wrote ports k) = refl

pub informed_marks : (node : Node) (owner : ℕ) (cell : Cell) → (informed node owner cell).marks ≡ node.marks
unfolding informed
informed_marks node owner waiting = refl
informed_marks node owner deaf = refl
informed_marks node owner (wrote ports k) = refl

pub informed_length : (node : Node) (owner : ℕ) (cell : Cell) → length (informed node owner cell).row ≡ length node.row
unfolding informed
informed_length node owner waiting = refl
informed_length node owner deaf = refl
informed_length node owner (wrote ports k) = length-set node.row owner (entry ports k)

pub informed_other : (node : Node) (owner : ℕ) (cell : Cell) (x : ℕ) → (x ≡ owner → ⊥) → get_or (informed node owner cell).row x nothing ≡ get_or node.row x nothing
unfolding informed
informed_other node owner waiting x other = refl
informed_other node owner deaf x other = refl
informed_other node owner (wrote ports k) x other = get_or-set_other node.row owner x (entry ports k) nothing other

-- What a cell brings to an entry for the owner.
abbrev pub entry_from : Cell → Entry → Entry
entry_from waiting old = old
entry_from deaf old = old
entry_from (wrote ports k) old = entry ports k

pub informed_owner : (node : Node) (owner : ℕ) (cell : Cell) → owner < length node.row →
    get_or (informed node owner cell).row owner nothing ≡ entry_from cell (get_or node.row owner nothing)
unfolding informed
informed_owner node owner waiting below = refl
informed_owner node owner deaf below = refl
informed_owner node owner (wrote ports k) below = get_or-set_same node.row owner (entry ports k) nothing below

-- The whole of a slot

-- What the owner of the next slot does in it.
abbrev pub act_now : State → Act
act_now s = act_of (mode_at s s.owner) (hand_at s s.owner)

-- The state from which a root's broadcast goes out: every node joined to the root is enlisted.
unfoldable pub enlisting : Layout → State → State
enlisting layout s = record { nodes = rooted layout s.nodes s.owner; owner = s.owner; last = s.last; packets = s.packets }

-- The cells at the end of the owner's broadcast.
unfoldable pub cells_of : Layout → State → List Cell
cells_of layout s = (broadcast layout s.nodes s.owner).cells

-- What the broadcast and the end of the slot leave of a state.
unfoldable pub speaking : Layout → State → State
speaking layout s = slot_end layout s (heard layout s.nodes s.owner (cells_of layout s))

pub slot_silent : (layout : Layout) (s : State) → act_now s ≡ Silent → (slot layout s).after ≡ slot_end layout s s.nodes
unfolding slot acted
slot_silent layout s e = ap (λ act. (acted layout s act).after) e

pub slot_member : (layout : Layout) (s : State) → act_now s ≡ Member → (slot layout s).after ≡ speaking layout s
unfolding slot acted spoken speaking cells_of
slot_member layout s e = ap (λ act. (acted layout s act).after) e

pub slot_root : (layout : Layout) (s : State) → act_now s ≡ Root → (slot layout s).after ≡ speaking layout (enlisting layout s)
unfolding slot acted spoken speaking cells_of enlisting slot_end
slot_root layout s e = ap (λ act. (acted layout s act).after) e

-- Node by node

-- A slot that ticks every node, and gives each the entry for the owner that its cell brings. Live
-- cables, marks and hands stay.
pub record Ticked (layout : Layout) (s after : State) (cell : ℕ → Cell) : Type 0 where
  pub nodes_long : length after.nodes ≡ layout.count
  pub mode_is : (n : ℕ) → mode_at after n ≡ tick_mode (mode_at s n)
  pub hand_is : (n : ℕ) → hand_at after n ≡ hand_at s n
  pub live_list : (n : ℕ) → (node_of after.nodes n).live ≡ (node_of s.nodes n).live
  pub marks_list : (n : ℕ) → (node_of after.nodes n).marks ≡ (node_of s.nodes n).marks
  pub row_length : (n : ℕ) → length (node_of after.nodes n).row ≡ length (node_of s.nodes n).row
  pub entry_other : (n x : ℕ) → (x ≡ s.owner → ⊥) → entry_at after n x ≡ entry_at s n x
  pub entry_owner : (n : ℕ) → n < layout.count → entry_at after n s.owner ≡ entry_from (cell n) (entry_at s n s.owner)
  pub entry_past : (n x : ℕ) → layout.count ≤ n → entry_at after n x ≡ nothing
  pub owner_is : after.owner ≡ (s.owner + 1) % layout.count
  pub last_is : after.last ≡ s.last
  pub packets_are : after.packets ≡ map (sent_home s.nodes) s.packets

pub live_kept : (layout : Layout) (s after : State) (cell : ℕ → Cell) → Ticked layout s after cell → (n p : ℕ) → live_at after n p ≡ live_at s n p
live_kept layout s after cell t n p = ap (λ l. get_or l p false) (t.live_list n)

pub mark_kept : (layout : Layout) (s after : State) (cell : ℕ → Cell) → Ticked layout s after cell → (n p : ℕ) → mark_at after n p ≡ mark_at s n p
mark_kept layout s after cell t n p = ap (λ l. get_or l p Unmarked) (t.marks_list n)

-- Nobody heard anything.
abbrev pub none_heard : ℕ → Cell
none_heard n = waiting

silent_end_ticks : (layout : Layout) (s : State) → Shaped layout s → Ticked layout s (slot_end layout s s.nodes) none_heard
unfolding slot_end
silent_end_ticks layout s shaped = record {
  nodes_long = length-map s.nodes tick ∙ shaped.nodes_long;
  mode_is = λ n. ap (λ x. x.mode) (tick_at s.nodes n);
  hand_is = λ n. ap (λ x. x.hand) (tick_at s.nodes n);
  live_list = λ n. ap (λ x. x.live) (tick_at s.nodes n);
  marks_list = λ n. ap (λ x. x.marks) (tick_at s.nodes n);
  row_length = λ n. ap (λ x. length x.row) (tick_at s.nodes n);
  entry_other = λ n x other. ap (λ y. get_or y.row x nothing) (tick_at s.nodes n);
  entry_owner = λ n below. ap (λ y. get_or y.row s.owner nothing) (tick_at s.nodes n);
  entry_past = λ n x past.
      ap (λ y. get_or y.row x nothing) (tick_at s.nodes n) ∙
      ap (λ y. get_or y.row x nothing) (node_past s.nodes n (omega (arith, shaped.nodes_long)));
  owner_is = refl;
  last_is = refl;
  packets_are = refl;
}

pub silent_ticks : (layout : Layout) (s : State) → Shaped layout s → act_now s ≡ Silent → Ticked layout s (slot layout s).after none_heard
silent_ticks layout s shaped e = rw (slot_silent layout s e) (silent_end_ticks layout s shaped)

-- A reading of a node that hearing leaves as it was.
heard_same : {A : Type 0} (layout : Layout) (s : State) (cells : List Cell) → Shaped layout s → (f : Node → A) →
    ((node : Node) (owner : ℕ) (cell : Cell) → f (informed node owner cell) ≡ f node) →
    (n : ℕ) → f (node_of (heard layout s.nodes s.owner cells) n) ≡ f (node_of s.nodes n)
heard_same layout s cells shaped f same n = go (cases_lt n layout.count)
  where
    go : (n < layout.count) ⊎ (layout.count ≤ n) → f (node_of (heard layout s.nodes s.owner cells) n) ≡ f (node_of s.nodes n)
    go (inl below) = ap f (heard_at layout s.nodes s.owner cells n below) ∙ same (node_of s.nodes n) s.owner (cell_of cells n)
    go (inr past) =
        ap f (heard_past layout s.nodes s.owner cells n past) ∙
        ap f (sym (node_past s.nodes n (omega (arith, shaped.nodes_long))))

heard_other : (layout : Layout) (s : State) (cells : List Cell) → Shaped layout s → (n x : ℕ) → (x ≡ s.owner → ⊥) →
    entry_of (heard layout s.nodes s.owner cells) n x ≡ entry_at s n x
heard_other layout s cells shaped n x other = go (cases_lt n layout.count)
  where
    go : (n < layout.count) ⊎ (layout.count ≤ n) → entry_of (heard layout s.nodes s.owner cells) n x ≡ entry_at s n x
    go (inl below) =
        ap (λ y. get_or y.row x nothing) (heard_at layout s.nodes s.owner cells n below) ∙
        informed_other (node_of s.nodes n) s.owner (cell_of cells n) x other
    go (inr past) =
        ap (λ y. get_or y.row x nothing) (heard_past layout s.nodes s.owner cells n past) ∙
        ap (λ y. get_or y.row x nothing) (sym (node_past s.nodes n (omega (arith, shaped.nodes_long))))

heard_sent_home : (layout : Layout) (s : State) (cells : List Cell) → Shaped layout s → (x : Packet) →
    sent_home (heard layout s.nodes s.owner cells) x ≡ sent_home s.nodes x
unfolding sent_home
heard_sent_home layout s cells shaped x =
    ap (λ mode. cond (ends_recovery mode) (at_home x) x) (heard_same layout s cells shaped (λ node. node.mode) informed_mode x.node)

pub speaking_ticks : (layout : Layout) (s : State) → Shaped layout s → Ticked layout s (speaking layout s) (cell_of (cells_of layout s))
unfolding speaking slot_end
speaking_ticks layout s shaped = record {
  nodes_long = length-map nodes tick ∙ heard_length layout s.nodes s.owner cells;
  mode_is = λ n. ap (λ x. x.mode) (tick_at nodes n) ∙ ap tick_mode (heard_same layout s cells shaped (λ x. x.mode) informed_mode n);
  hand_is = λ n. ap (λ x. x.hand) (tick_at nodes n) ∙ heard_same layout s cells shaped (λ x. x.hand) informed_hand n;
  live_list = λ n. ap (λ x. x.live) (tick_at nodes n) ∙ heard_same layout s cells shaped (λ x. x.live) informed_live n;
  marks_list = λ n. ap (λ x. x.marks) (tick_at nodes n) ∙ heard_same layout s cells shaped (λ x. x.marks) informed_marks n;
  row_length = λ n. ap (λ x. length x.row) (tick_at nodes n) ∙ heard_same layout s cells shaped (λ x. length x.row) informed_length n;
  entry_other = λ n x other. ap (λ y. get_or y.row x nothing) (tick_at nodes n) ∙ heard_other layout s cells shaped n x other;
  entry_owner = λ n below.
      ap (λ y. get_or y.row s.owner nothing) (tick_at nodes n) ∙
      ap (λ y. get_or y.row s.owner nothing) (heard_at layout s.nodes s.owner cells n below) ∙
      informed_owner (node_of s.nodes n) s.owner (cell_of cells n) (omega (arith, shaped.row_long n below, shaped.owner_below));
  entry_past = λ n x past.
      ap (λ y. get_or y.row x nothing) (tick_at nodes n) ∙
      ap (λ y. get_or y.row x nothing) (heard_past layout s.nodes s.owner cells n past);
  owner_is = refl;
  last_is = refl;
  packets_are = map_same (sent_home nodes) (sent_home s.nodes) s.packets (heard_sent_home layout s cells shaped);
}
  where
    cells : List Cell
    cells = cells_of layout s

    nodes : List Node
    nodes = heard layout s.nodes s.owner cells

pub member_ticks : (layout : Layout) (s : State) → Shaped layout s → act_now s ≡ Member → Ticked layout s (slot layout s).after (cell_of (cells_of layout s))
member_ticks layout s shaped e = rw (slot_member layout s e) (speaking_ticks layout s shaped)

-- A root's slot

pub enlisting_owner : (layout : Layout) (s : State) → (enlisting layout s).owner ≡ s.owner
unfolding enlisting
enlisting_owner layout s = refl

pub enlisting_last : (layout : Layout) (s : State) → (enlisting layout s).last ≡ s.last
unfolding enlisting
enlisting_last layout s = refl

pub enlisting_packets : (layout : Layout) (s : State) → (enlisting layout s).packets ≡ s.packets
unfolding enlisting
enlisting_packets layout s = refl

-- Whether a node is joined to the owner by live cables, which is how far its recovery reaches.
abbrev pub reach : Layout → State → ℕ → Option ℕ
reach layout s n = distance (distances layout s.nodes s.owner) n

pub enlisting_out : (layout : Layout) (s : State) (n : ℕ) → n < layout.count → reach layout s n ≡ None →
    node_of (enlisting layout s).nodes n ≡ node_of s.nodes n
unfolding enlisting
enlisting_out layout s n below e = rooted_other layout s.nodes s.owner n below e

pub enlisting_past : (layout : Layout) (s : State) (n : ℕ) → layout.count ≤ n → node_of (enlisting layout s).nodes n ≡ absent
unfolding enlisting
enlisting_past layout s n past = rooted_outside layout s.nodes s.owner n past

pub enlisting_length : (layout : Layout) (s : State) → length (enlisting layout s).nodes ≡ layout.count
unfolding enlisting
enlisting_length layout s = rooted_length layout s.nodes s.owner

module _ (layout : Layout) (s : State) (n d : ℕ) (below : n < layout.count) (joined : reach layout s n ≡ Some d) where
  pub enlisting_mode : mode_at (enlisting layout s) n ≡ Recovering s.owner layout.count
  unfolding enlisting
  enlisting_mode = rooted_mode layout s.nodes s.owner n d below joined

  pub enlisting_hand : hand_at (enlisting layout s) n ≡ false
  unfolding enlisting
  enlisting_hand = rooted_hand layout s.nodes s.owner n d below joined

  pub enlisting_live_list : (node_of (enlisting layout s).nodes n).live ≡ (node_of s.nodes n).live
  unfolding enlisting
  enlisting_live_list = rooted_live layout s.nodes s.owner n d below joined

  pub enlisting_marks_long : length (node_of (enlisting layout s).nodes n).marks ≡ 4
  unfolding enlisting
  enlisting_marks_long = rooted_marks_length layout s.nodes s.owner n d below joined

  pub enlisting_row_long : length (node_of (enlisting layout s).nodes n).row ≡ layout.count
  unfolding enlisting
  enlisting_row_long = ap length (rooted_row layout s.nodes s.owner n d below joined) ∙ length-replicate layout.count nothing

  pub enlisting_entry : (x : ℕ) → entry_at (enlisting layout s) n x ≡ nothing
  unfolding enlisting
  enlisting_entry x = rooted_entry layout s.nodes s.owner n d below joined x

-- Every node is joined to the owner or not.
pub reach_cases : (layout : Layout) (s : State) (n : ℕ) → ((d : ℕ) × (reach layout s n ≡ Some d)) ⊎ (reach layout s n ≡ None)
reach_cases layout s n = go (reach layout s n) refl
  where
    go : (o : Option ℕ) → reach layout s n ≡ o → ((d : ℕ) × (reach layout s n ≡ Some d)) ⊎ (reach layout s n ≡ None)
    go None e = inr e
    go (Some d) e = inl (d, e)

-- Enlisting keeps live cables as they are.
pub enlisting_live : (layout : Layout) (s : State) → Shaped layout s → (n p : ℕ) → live_at (enlisting layout s) n p ≡ live_at s n p
enlisting_live layout s shaped n p = go (cases_lt n layout.count) (reach_cases layout s n)
  where
    go : (n < layout.count) ⊎ (layout.count ≤ n) → ((d : ℕ) × (reach layout s n ≡ Some d)) ⊎ (reach layout s n ≡ None) → live_at (enlisting layout s) n p ≡ live_at s n p
    go (inl below) (inl found) = ap (λ l. get_or l p false) (enlisting_live_list layout s n found.0 below found.1)
    go (inl below) (inr none) = ap (λ x. get_or x.live p false) (enlisting_out layout s n below none)
    go (inr past) c =
        ap (λ x. get_or x.live p false) (enlisting_past layout s n past) ∙
        ap (λ x. get_or x.live p false) (sym (node_past s.nodes n (omega (arith, shaped.nodes_long))))

pub enlisting_shaped : (layout : Layout) (s : State) → Shaped layout s → Shaped layout (enlisting layout s)
enlisting_shaped layout s shaped = record {
  nodes_long = enlisting_length layout s;
  marks_long = λ n below. marks_long n below (reach_cases layout s n);
  row_long = λ n below. row_long n below (reach_cases layout s n);
  owner_below = rw (enlisting_owner layout s) shaped.owner_below;
}
  where
    marks_long : (n : ℕ) → n < layout.count → ((d : ℕ) × (reach layout s n ≡ Some d)) ⊎ (reach layout s n ≡ None) → length (node_of (enlisting layout s).nodes n).marks ≡ 4
    marks_long n below (inl found) = enlisting_marks_long layout s n found.0 below found.1
    marks_long n below (inr none) = ap (λ x. length x.marks) (enlisting_out layout s n below none) ∙ shaped.marks_long n below

    row_long : (n : ℕ) → n < layout.count → ((d : ℕ) × (reach layout s n ≡ Some d)) ⊎ (reach layout s n ≡ None) → length (node_of (enlisting layout s).nodes n).row ≡ layout.count
    row_long n below (inl found) = enlisting_row_long layout s n found.0 below found.1
    row_long n below (inr none) = ap (λ x. length x.row) (enlisting_out layout s n below none) ∙ shaped.row_long n below

pub root_ticks : (layout : Layout) (s : State) → Shaped layout s → act_now s ≡ Root →
    Ticked layout (enlisting layout s) (slot layout s).after (cell_of (cells_of layout (enlisting layout s)))
root_ticks layout s shaped e = rw (slot_root layout s e) (speaking_ticks layout (enlisting layout s) (enlisting_shaped layout s shaped))

-- The owner itself is joined to the owner

pub reach_owner : (layout : Layout) (s : State) → s.owner < layout.count → reach layout s s.owner ≡ Some 0
unfolding distances
reach_owner layout s below =
    ap (λ cells. distance_in s.owner (cell_of cells s.owner)) (ends layout (open_marks s.nodes) s.owner (λ n. false)).cells_are ∙
    ap (distance_in s.owner) (at_deaf layout (open_marks s.nodes) s.owner (λ n. false) _ s.owner below (or_left (eqb s.owner s.owner) false (eq-eqb s.owner s.owner refl)))

-- Modes and hands after a slot

-- A node that a root's slot enlists.
pub record Enlisted (layout : Layout) (s after : State) (n : ℕ) : Type 0 where
  pub by_root : act_now s ≡ Root
  pub steps : ℕ
  pub joined : reach layout s n ≡ Some steps
  pub hand_down : hand_at after n ≡ false

-- A node that a slot only ticks.
pub record Passes (s after : State) (n : ℕ) : Type 0 where
  pub hand_same : hand_at after n ≡ hand_at s n
  pub mode_ticked : mode_at after n ≡ tick_mode (mode_at s n)

ticked_passes : (layout : Layout) (s after : State) (cell : ℕ → Cell) → Ticked layout s after cell → (n : ℕ) → Passes s after n
ticked_passes layout s after cell t n = record { hand_same = t.hand_is n; mode_ticked = t.mode_is n }

pub root_modes_in : (layout : Layout) (s : State) → Shaped layout s → act_now s ≡ Root → (n d : ℕ) → n < layout.count → reach layout s n ≡ Some d →
    Enlisted layout s (slot layout s).after n
root_modes_in layout s shaped e n d below found = record {
  by_root = e;
  steps = d;
  joined = found;
  hand_down = (root_ticks layout s shaped e).hand_is n ∙ enlisting_hand layout s n d below found;
}

pub root_modes_out : (layout : Layout) (s : State) → Shaped layout s → act_now s ≡ Root → (n : ℕ) → n < layout.count → reach layout s n ≡ None →
    Passes s (slot layout s).after n
root_modes_out layout s shaped e n below none = record {
  hand_same = (root_ticks layout s shaped e).hand_is n ∙ ap (λ x. x.hand) (enlisting_out layout s n below none);
  mode_ticked = (root_ticks layout s shaped e).mode_is n ∙ ap (λ x. tick_mode x.mode) (enlisting_out layout s n below none);
}

pub root_modes_owner : (layout : Layout) (s : State) → Shaped layout s → act_now s ≡ Root → Enlisted layout s (slot layout s).after s.owner
root_modes_owner layout s shaped e = root_modes_in layout s shaped e s.owner 0 shaped.owner_below (reach_owner layout s shaped.owner_below)

pub slot_modes : (layout : Layout) (s : State) → Shaped layout s → (n : ℕ) → n < layout.count →
    Enlisted layout s (slot layout s).after n ⊎ Passes s (slot layout s).after n
slot_modes layout s shaped n below = go (act_now s) refl
  where
    cases : act_now s ≡ Root → ((d : ℕ) × (reach layout s n ≡ Some d)) ⊎ (reach layout s n ≡ None) →
        Enlisted layout s (slot layout s).after n ⊎ Passes s (slot layout s).after n
    cases e (inl found) = inl (root_modes_in layout s shaped e n found.0 below found.1)
    cases e (inr none) = inr (root_modes_out layout s shaped e n below none)

    go : (act : Act) → act_now s ≡ act → Enlisted layout s (slot layout s).after n ⊎ Passes s (slot layout s).after n
    go Silent e = inr (ticked_passes layout s (slot layout s).after none_heard (silent_ticks layout s shaped e) n)
    go Root e = cases e (reach_cases layout s n)
    go Member e = inr (ticked_passes layout s (slot layout s).after _ (member_ticks layout s shaped e) n)

-- The rest of the state

pub slot_owner : (layout : Layout) (s : State) → (slot layout s).after.owner ≡ (s.owner + 1) % layout.count
unfolding slot acted spoken slot_end
slot_owner layout s = go (act_now s)
  where
    go : (act : Act) → (acted layout s act).after.owner ≡ (s.owner + 1) % layout.count
    go Silent = refl
    go Root = refl
    go Member = refl
