-- Readings and single changes of the records that a board's array holds.
use Rattle.std.proofs.Common.{◌≡◌, ℕ, zero, suc, ◌<◌, ◌≤◌, Bool, true, false, cond, not, ◌&&◌, eqb, is_some, List, [], ◌∷◌, map, length, get_or, take, set, sym, refl, ap, ◌∙◌, ap₂, arith, Some, None, Option}
use lib.ListN.{length-map, get_or-map}
use Rattle.std.proofs.lemmas.List.{get_or-take, map-set, set_past, length-take}
use Rattle.rules.specs.declared.Mode.TheVariants.{New}
use Rattle.rules.specs.State as rules
use Rattle.rules.specs.Calls.{changed}
use Rattle.rules.specs.Ports.{without}
use Rattle.rules.specs.Slot.{is_nothing}
use Rattle.flood.proofs.Arrays.{four_are}
use Rattle.board.specs.declared.types.Board.{Board}
use Rattle.board.specs.declared.types.Way.{Way}
use Rattle.board.specs.declared.types.Node.{Node}
use Rattle.board.specs.View.{entry_view, node_view, nodes_at, nodes_view}

-- What a read past the end of the array gives.
abbrev pub no_node : Node
no_node = record { mode = New; hand = false; live = []; marks = []; row = [] }

-- Where a row has a way, the rules have an entry.
pub some_entry : (way : Option Way) → is_some way ≡ cond (is_nothing (entry_view way)) false true
some_entry None = refl
some_entry (Some way) = refl

take_none : {X : Type 0} (n : ℕ) → take {A = X} n [] ≡ []
take_none zero = refl
take_none (suc n) = refl

pub no_node_view : (count : ℕ) → node_view count no_node ≡ rules.absent
no_node_view count = ap (λ (row : List (Option Way)). record { mode = New; hand = false; live = []; marks = []; row = map entry_view row }) (take_none count)

-- The record of a node of the wall.
pub read_at : (count : ℕ) (nodes : List Node) (n : ℕ) → n < count → rules.node_of (nodes_at count nodes) n ≡ node_view count (get_or nodes n no_node)
unfolding nodes_at
read_at count nodes n h =
    ap (λ (d : rules.Node). get_or (map (node_view count) (take count nodes)) n d) (sym (no_node_view count))
    ∙ get_or-map (node_view count) (take count nodes) n no_node
    ∙ ap (node_view count) (get_or-take count nodes n no_node h)

pub node_read : (b : Board) (n : ℕ) → n < b.count → rules.node_of (nodes_view b) n ≡ node_view b.count (get_or b.nodes n no_node)
unfolding nodes_view nodes_at
node_read b n h = read_at b.count b.nodes n h

pub take_set_in : {X : Type 0} (count : ℕ) (xs : List X) (n : ℕ) (x : X) → n < count → take count (set xs n x) ≡ set (take count xs) n x
take_set_in zero xs n x h = absurd (omega arith)
take_set_in (suc count) [] n x h = refl
take_set_in (suc count) (y ∷ xs) zero x h = refl
take_set_in {X = X} (suc count) (y ∷ xs) (suc n) x h = ap (λ (zs : List X). y ∷ zs) (take_set_in count xs n x (omega arith))

-- One record written: one node of the view changed.
pub node_written : (f : rules.Node → rules.Node) (b after : Board) (n : ℕ) (x : Node) → n < b.count → after.count ≡ b.count → after.nodes ≡ set b.nodes n x →
    node_view b.count x ≡ f (node_view b.count (get_or b.nodes n no_node)) → nodes_view after ≡ changed f n (nodes_view b)
unfolding nodes_view changed
node_written f b after n x h same written is =
    let k = b.count in
    let view = node_view k in
    ap₂ (λ (j : ℕ) (xs : List Node). map (node_view j) (take j xs)) same written
    ∙ ap (map view) (take_set_in k b.nodes n x h)
    ∙ map-set view (take k b.nodes) n x
    ∙ ap (set (map view (take k b.nodes)) n) (is ∙ ap f (sym (node_read b n h)))

-- The live ports less one, port by port.
pub less_one : (live : List Bool) (p : ℕ) (after : List Bool) → length after ≡ 4 → ((k : ℕ) → k < 4 → get_or after k false ≡ (get_or live k false && not (eqb k p))) → after ≡ without live p
unfolding without
less_one live p after long each = four_are (λ q. get_or live q false && not (eqb q p)) after long each

-- A change past the last node changes nothing.
pub changed_past : (f : rules.Node → rules.Node) (b : Board) (n : ℕ) → b.count ≤ n → changed f n (nodes_view b) ≡ nodes_view b
unfolding changed nodes_view
changed_past f b n h =
    set_past (map (node_view b.count) (take b.count b.nodes)) n _
    (let e = length-map (take b.count b.nodes) (node_view b.count) in let l = length-take b.count b.nodes in omega arith)

pub live_read : (b : Board) (n p : ℕ) → n < b.count → rules.live_of (nodes_view b) n p ≡ get_or (get_or b.nodes n no_node).live p false
live_read b n p h = ap (λ (x : rules.Node). get_or x.live p false) (node_read b n h)

pub entry_at : (count : ℕ) (nodes : List Node) (n x : ℕ) → n < count → x < count → rules.entry_of (nodes_at count nodes) n x ≡ entry_view (get_or (get_or nodes n no_node).row x None)
entry_at count nodes n x h k =
    ap (λ (node : rules.Node). get_or node.row x rules.nothing) (read_at count nodes n h)
    ∙ get_or-map entry_view (take count (get_or nodes n no_node).row) x None
    ∙ ap entry_view (get_or-take count (get_or nodes n no_node).row x None k)

pub entry_read : (b : Board) (n x : ℕ) → n < b.count → x < b.count → rules.entry_of (nodes_view b) n x ≡ entry_view (get_or (get_or b.nodes n no_node).row x None)
unfolding nodes_view nodes_at
entry_read b n x h k = entry_at b.count b.nodes n x h k
