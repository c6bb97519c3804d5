-- What a slot does to one record.
use Rattle.std.proofs.Common.{◌≡◌, ℕ, zero, suc, ◌-◌, ◌<◌, ◌≤◌, Bool, true, false, List, ◌∷◌, map, length, get_or, take, set, replicate, Some, None, refl, ap, ◌∙◌, arith, Option}
use Rattle.std.proofs.lemmas.List.{take-replicate, map-set}
use Rattle.wiring.specs.Layout.{Layout}
use Rattle.rules.specs.declared.Mode.{Mode}
use Rattle.rules.specs.declared.Mode.TheVariants.{New, Recovering, Serving}
use Rattle.rules.specs.State as rules
use Rattle.rules.specs.Flood as flood
use Rattle.rules.specs.declared.Mark.{Mark}
use Rattle.rules.specs.declared.Mark.TheVariants.{Unmarked}
use Rattle.flood.proofs.Arrays.{four_made}
use Rattle.rules.specs.Root.{distance_in, root_mark, enlisted}
use Rattle.rules.specs.Slot.{tick_mode, informed}
use Rattle.flood.specs.declared.types.Cell.{Cell}
use Rattle.flood.specs.declared.types.Cell.TheVariants.{Waiting, Deaf, Wrote}
use Rattle.flood.specs.View.{cell_view}
use Rattle.board.specs.declared.types.Way.{Way}
use Rattle.board.specs.View.{entry_view, is_joined, rooted_node}
use Rattle.board.proofs.Records.{take_set_in}

pub tick_last : (root left : ℕ) → left ≤ 1 → tick_mode (Recovering root left) ≡ Serving root
unfolding tick_mode
tick_last root zero h = refl
tick_last root (suc zero) h = refl
tick_last root (suc (suc left)) h = absurd (omega arith)

pub tick_more : (root left : ℕ) → 1 < left → tick_mode (Recovering root left) ≡ Recovering root (left - 1)
unfolding tick_mode
tick_more root zero h = absurd (omega arith)
tick_more root (suc zero) h = absurd (omega arith)
tick_more root (suc (suc left)) h = let e : suc left ≡ suc (suc left) - 1 = omega arith in ap (Recovering root) e

pub tick_other : (mode : Mode) → ((x : ℕ) → (y : ℕ) → mode ≡ Recovering x y → ⊥) → mode ≡ tick_mode mode
unfolding tick_mode
tick_other New only = refl
tick_other (Recovering root left) only = absurd (only root left refl)
tick_other (Serving root) only = refl

map_replicate : (n : ℕ) → map entry_view (replicate n None) ≡ replicate n rules.nothing
map_replicate zero = refl
map_replicate (suc n) = ap (λ (xs : List rules.Entry). rules.nothing ∷ xs) (map_replicate n)

-- An empty array of entries is an empty row.
pub empty_row : (count : ℕ) → count ≤ 64 → map entry_view (take count (replicate 64 None)) ≡ replicate count rules.nothing
empty_row count h = ap (map entry_view) (take-replicate count 64 None h) ∙ map_replicate count

module _ (layout : Layout) (nodes : List rules.Node) (cells : List flood.Cell) (root n : ℕ) where
  abbrev by_cell : flood.Cell → rules.Node
  by_cell x = elim (distance_in n x) [ None ↦ rules.node_of nodes n | Some d ↦ enlisted layout nodes cells root n ]

  -- A record with these parts is an enlisted node's.
  pub made : (live : List Bool) (marks : List Mark) (row : List rules.Entry) → (rules.node_of nodes n).live ≡ live →
      length marks ≡ 4 → ((p : ℕ) → p < 4 → get_or marks p Unmarked ≡ root_mark layout nodes cells n p) →
      row ≡ replicate layout.count rules.nothing →
      record { mode = Recovering root layout.count; hand = false; live = live; marks = marks; row = row } ≡ enlisted layout nodes cells root n
  unfolding enlisted
  made live marks row el long each er = rw (← el, four_made Unmarked (root_mark layout nodes cells n) marks long each, er) refl

  rooted_by : rooted_node layout nodes cells root n ≡ by_cell (flood.cell_of cells n)
  unfolding rooted_node
  rooted_by = refl

  pub rooted_other : is_joined (flood.cell_of cells n) ≡ false → rooted_node layout nodes cells root n ≡ rules.node_of nodes n
  rooted_other h = rooted_by ∙ go (flood.cell_of cells n) h
    where
      go : (x : flood.Cell) → is_joined x ≡ false → by_cell x ≡ rules.node_of nodes n
      go flood.waiting h = refl
      go flood.deaf h = let z : ◌≡◌ {A = ℕ} 0 1 = cc in absurd (omega arith)
      go (flood.wrote ports at) h = let z : ◌≡◌ {A = ℕ} 0 1 = cc in absurd (omega arith)

  pub rooted_joined : is_joined (flood.cell_of cells n) ≡ true → rooted_node layout nodes cells root n ≡ enlisted layout nodes cells root n
  rooted_joined h = rooted_by ∙ go (flood.cell_of cells n) h
    where
      go : (x : flood.Cell) → is_joined x ≡ true → by_cell x ≡ enlisted layout nodes cells root n
      go flood.waiting h = let z : ◌≡◌ {A = ℕ} 0 1 = cc in absurd (omega arith)
      go flood.deaf h = refl
      go (flood.wrote ports at) h = refl

-- An entry written into a row.
pub row_written : (count : ℕ) (row : List (Option Way)) (owner : ℕ) (e : Option Way) → owner < count →
    map entry_view (take count (set row owner e)) ≡ set (map entry_view (take count row)) owner (entry_view e)
row_written count row owner e h = ap (map entry_view) (take_set_in count row owner e h) ∙ map-set entry_view (take count row) owner e

-- No flag came: the record stays.
pub informed_other : (node : rules.Node) (owner : ℕ) (cell : Cell) → ((x : List Bool) → (y : ℕ) → cell ≡ Wrote x y → ⊥) → node ≡ informed node owner (cell_view cell)
unfolding informed
informed_other node owner Waiting only = refl
informed_other node owner Deaf only = refl
informed_other node owner (Wrote ports at) only = absurd (only ports at refl)
