-- How a slot begins, act by act.
use Rattle.std.proofs.Common.{◌≡◌, ℕ, ◌<◌, Bool, true, false, cond, List, [], get_or, Option, sym, refl, ap, ◌∙◌, ap₂}
use mathlib.Core.Path.{fun_ext}
use Rattle.wiring.specs.Layout.{Layout}
use Rattle.rules.specs.declared.Act.{Act}
use Rattle.rules.specs.declared.Act.TheVariants.{Silent, Root, Member}
use Rattle.rules.specs.State as rules
use Rattle.rules.specs.Ports.{table}
use Rattle.rules.specs.Flood.{Marks, Cell, Spread, spread}
use Rattle.rules.specs.Root.{open_marks, distances, rooted}
use Rattle.rules.specs.Slot.{act_of, is_nothing, broadcast, heard}
use Rattle.flood.specs.View.{wired}
use Rattle.board.specs.declared.types.Board.{Board}
use Rattle.board.specs.Begun.{told, begun_by, begun}
use Rattle.board.specs.View.{nodes_view, rooted_node}
use Rattle.board.proofs.Records.{no_node, node_read}

spread_as : (layout : Layout) (marks marks' : Marks) (owner : ℕ) (ignores ignores' : ℕ → Bool) → marks ≡ marks' → ((n : ℕ) → ignores n ≡ ignores' n) →
    spread layout marks owner ignores ≡ spread layout marks' owner ignores'
spread_as layout marks marks' owner ignores ignores' same each = ap₂ (λ (m : Marks) (d : ℕ → Bool). spread layout m owner d) same (fun_ext each)

module _ (layout : Layout) (nodes : List rules.Node) (owner : ℕ) (marks : Marks) (ignores : ℕ → Bool) (out : Spread) where
  pub distances_are : marks ≡ open_marks nodes → ((n : ℕ) → ignores n ≡ false) → spread layout marks owner ignores ≡ out → out.cells ≡ distances layout nodes owner
  unfolding distances
  distances_are same none is = ap (λ (x : Spread). x.cells) (sym is ∙ spread_as layout marks (open_marks nodes) owner ignores (λ n. false) same none)

  pub broadcast_is : marks ≡ rules.mark_of nodes → ((n : ℕ) → ignores n ≡ cond (is_nothing (rules.entry_of nodes n owner)) false true) →
      spread layout marks owner ignores ≡ out → out ≡ broadcast layout nodes owner
  unfolding broadcast
  broadcast_is same each is = sym is ∙ spread_as layout marks (rules.mark_of nodes) owner ignores _ same each

pub rooted_is : (layout : Layout) (nodes : List rules.Node) (root : ℕ) (cells : List Cell) → cells ≡ distances layout nodes root →
    table layout.count (rooted_node layout nodes cells root) ≡ rooted layout nodes root
unfolding rooted rooted_node
rooted_is layout nodes root cells is = ap (λ (xs : List Cell). table layout.count (rooted_node layout nodes xs root)) is

-- Whom a broadcast informs depends on the node count alone.
pub heard_count : (count : ℕ) (ends : List (Option (ℕ × ℕ))) (nodes : List rules.Node) (owner : ℕ) (cells : List Cell) → heard (wired count []) nodes owner cells ≡ heard (wired count ends) nodes owner cells
unfolding heard
heard_count count ends nodes owner cells = refl

module _ (layout : Layout) (nodes : List rules.Node) (owner : ℕ) where
  abbrev pub acts : Act
  acts = act_of (rules.node_of nodes owner).mode (rules.node_of nodes owner).hand

  pub begins_silent : Silent ≡ acts → begun layout nodes owner ≡ record { answer = record { owner = owner; act = Silent; cycles = 0 }; nodes = nodes }
  unfolding begun begun_by
  begins_silent e = ap (begun_by layout nodes owner) (sym e)

  pub begins_root : Root ≡ acts → begun layout nodes owner ≡ told layout (rooted layout nodes owner) owner Root
  unfolding begun begun_by
  begins_root e = ap (begun_by layout nodes owner) (sym e)

  pub begins_member : Member ≡ acts → begun layout nodes owner ≡ told layout nodes owner Member
  unfolding begun begun_by
  begins_member e = ap (begun_by layout nodes owner) (sym e)

-- The act of an owner, read from the board.
pub acts_read : (b : Board) (layout : Layout) (owner : ℕ) (act : Act) → owner < b.count →
    act ≡ act_of (get_or b.nodes owner no_node).mode (get_or b.nodes owner no_node).hand → act ≡ acts layout (nodes_view b) owner
acts_read b layout owner act h e = e ∙ ap (λ (x : rules.Node). act_of x.mode x.hand) (sym (node_read b owner h))

-- What a broadcast tells, from what was computed over a board that stands for these nodes.
pub told_from : (count count' : ℕ) (ends : List (Option (ℕ × ℕ))) (nodes nodes' : List rules.Node) (owner : ℕ) (act : Act) (cycles : ℕ) (after : List rules.Node) →
    count' ≡ count → nodes' ≡ nodes → cycles ≡ (broadcast (wired count' ends) nodes' owner).cycles →
    after ≡ heard (wired count' ends) nodes' owner (broadcast (wired count' ends) nodes' owner).cells →
    told (wired count ends) nodes owner act ≡ record { answer = record { owner = owner; act = act; cycles = cycles }; nodes = after }
unfolding told
told_from count count' ends nodes nodes' owner act cycles after same are ec en = rw (ec, en, same, are) refl
