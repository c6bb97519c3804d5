-- Marks and orders as the code computes them.
use Rattle.std.proofs.Common.{◌≡◌, ℕ, ◌+◌, ◌*◌, Bool, true, false, cond, ltb, List, [], ◌∷◌, map, length, get_or, Some, None, refl, ap, ◌∙◌, arith}
use lib.ListN.{get_or-map}
use Rattle.wiring.specs.Layout.{Layout}
use Rattle.rules.specs.declared.Mark.{Mark}
use Rattle.rules.specs.declared.Mark.TheVariants.{Unmarked, Up, Down}
use Rattle.rules.specs.Flood.{Cell, waiting, deaf, wrote, cell_of}
use Rattle.rules.specs.State.{Node, live_of}
use Rattle.rules.specs.Root.{distance_in, order, root_mark}

four : (xs : List Bool) → length xs ≡ 4 → get_or xs 0 false ∷ get_or xs 1 false ∷ get_or xs 2 false ∷ get_or xs 3 false ∷ [] ≡ xs
four [] h = absurd (omega arith)
four (a ∷ []) h = absurd (omega arith)
four (a ∷ b ∷ []) h = absurd (omega arith)
four (a ∷ b ∷ c ∷ []) h = absurd (omega arith)
four (a ∷ b ∷ c ∷ d ∷ []) h = refl
four (a ∷ b ∷ c ∷ d ∷ e ∷ xs) h = absurd (omega arith)

abbrev opening : Bool → Mark
opening b = cond b Down Unmarked

pub opened : (live : List Bool) (a b c d : Mark) → length live ≡ 4 → a ≡ opening (get_or live 0 false) → b ≡ opening (get_or live 1 false) →
    c ≡ opening (get_or live 2 false) → d ≡ opening (get_or live 3 false) → (p : ℕ) → get_or (a ∷ b ∷ c ∷ d ∷ []) p Unmarked ≡ cond (get_or live p false) Down Unmarked
opened live a b c d long ea eb ec ed p =
    let marks : a ∷ b ∷ c ∷ d ∷ [] ≡ map opening live = rw (ea, eb, ec, ed) (ap (map opening) (four live long)) in
    ap (λ (ms : List Mark). get_or ms p Unmarked) marks ∙ get_or-map opening live p false

module _ (count : ℕ) (cells : List Cell) (n : ℕ) where
  abbrev by_cell : Cell → ℕ
  by_cell x = elim (distance_in n x) [ None ↦ n | Some d ↦ d * count + n ]

  pub order_waiting : cell_of cells n ≡ waiting → order count cells n ≡ n
  order_waiting e = ap by_cell e

  pub order_deaf : cell_of cells n ≡ deaf → order count cells n ≡ n
  order_deaf e = let z : order count cells n ≡ 0 * count + n = ap by_cell e in z ∙ omega arith

  pub order_wrote : (ports : List Bool) (at : ℕ) → cell_of cells n ≡ wrote ports at → order count cells n ≡ at * count + n
  order_wrote ports at e = ap by_cell e

module _ (layout : Layout) (nodes : List Node) (cells : List Cell) (n p : ℕ) where
  pub mark_dead : live_of nodes n p ≡ false → root_mark layout nodes cells n p ≡ Unmarked
  unfolding root_mark
  mark_dead e = rw (e, root_mark) refl

  pub mark_nowhere : live_of nodes n p ≡ true → layout.far n p ≡ None → root_mark layout nodes cells n p ≡ Unmarked
  unfolding root_mark
  mark_nowhere e none = rw (e, none, root_mark) refl

  pub mark_far : (m q : ℕ) → live_of nodes n p ≡ true → layout.far n p ≡ Some (m, q) →
      root_mark layout nodes cells n p ≡ cond (ltb (order layout.count cells m) (order layout.count cells n)) Up Down
  unfolding root_mark
  mark_far m q e some = rw (e, some, root_mark) refl
