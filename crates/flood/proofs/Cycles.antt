-- The loop over cycles: what is left of a broadcast, cycle by cycle.
use Rattle.std.proofs.Common.{◌≡◌, ℕ, zero, suc, ◌+◌, ◌-◌, ◌<◌, Bool, true, false, cond, ◌||◌, eqb, List, sym, refl, ap, ◌∙◌, ap₂, add-one, arith}
use Rattle.wiring.specs.Layout.{Layout}
use Rattle.rules.specs.Ports.{table}
use Rattle.rules.specs.Flood.{Marks, Cell, waiting, deaf, cycle, reached, spread_from, spread}

module _ (layout : Layout) (marks : Marks) (owner : ℕ) where
  pub spread_begins : (ignores : ℕ → Bool) (cells : List Cell) → cells ≡ table layout.count (λ n. cond (eqb n owner || ignores n) deaf waiting) →
      spread layout marks owner ignores ≡ spread_from layout marks owner (layout.count - 0) 0 cells
  unfolding spread
  spread_begins ignores cells e =
      let n : layout.count ≡ layout.count - 0 = omega arith in
      ap₂ (λ (fuel : ℕ) (xs : List Cell). spread_from layout marks owner fuel 0 xs) n (sym e)

  pub spread_ends : (fuel c : ℕ) (cells : List Cell) → fuel ≡ 0 → spread_from layout marks owner fuel c cells ≡ record { cells = cells; cycles = c }
  unfolding spread_from
  spread_ends fuel c cells e = rw e refl

  one_more : (fuel c : ℕ) (cells : List Cell) → spread_from layout marks owner (suc fuel) c cells ≡
      elim (reached (suc c) (cycle layout marks owner c cells)) [ true ↦ spread_from layout marks owner fuel (suc c) (cycle layout marks owner c cells) | false ↦ record { cells = cells; cycles = c } ]
  unfolding spread_from
  one_more fuel c cells = refl

  pub spread_stops : (fuel c : ℕ) (cells after : List Cell) → 0 < fuel → after ≡ cycle layout marks owner c cells → reached (c + 1) after ≡ false →
      spread_from layout marks owner fuel c cells ≡ record { cells = cells; cycles = c }
  spread_stops zero c cells after h e none = absurd (omega arith)
  spread_stops (suc fuel) c cells after h e none =
      let none' : reached (suc c) (cycle layout marks owner c cells) ≡ false = ap₂ reached (sym (add-one c)) (sym e) ∙ none in
      one_more fuel c cells ∙ rw none' refl

  pub spread_goes : (fuel c : ℕ) (cells after : List Cell) → 0 < fuel → after ≡ cycle layout marks owner c cells → reached (c + 1) after ≡ true →
      spread_from layout marks owner fuel c cells ≡ spread_from layout marks owner (fuel - 1) (c + 1) after
  spread_goes zero c cells after h e some = absurd (omega arith)
  spread_goes (suc fuel) c cells after h e some =
      let some' : reached (suc c) (cycle layout marks owner c cells) ≡ true = ap₂ reached (sym (add-one c)) (sym e) ∙ some in
      let n : fuel ≡ suc fuel - 1 = omega arith in
      one_more fuel c cells ∙ rw some' refl ∙ ap₂ (λ (f : ℕ) (xs : List Cell). spread_from layout marks owner f (suc c) xs) n (sym e)
      ∙ ap (λ (k : ℕ). spread_from layout marks owner (suc fuel - 1) k after) (sym (add-one c))
