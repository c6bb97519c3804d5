-- A grid keeps the facts of a wiring.
use Rattle.std.specs.Prelude.{◌≡◌, ℕ, zero, suc, ◌+◌, ◌-◌, ◌*◌, ◌/◌, ◌%◌, ◌<◌, ◌≤◌, Bool, true, false, cond, ◌⊎◌, Some, None, Option, ◌≢◌, nat_lt, refl}
use Rattle.std.proofs.Common.{sym, ap, ◌∙◌, inl, inr, arith, mul_comm}
use Rattle.std.proofs.lemmas.Bool.{lt-ltb, ltb-true, cases_Bool}
use Rattle.std.proofs.lemmas.Bool.Decides.{nat_tests}
use Rattle.std.proofs.lemmas.Nat.{mul-le, mul-add-lt, div-mul-add, mod-mul-add, div_below, mod_below, div-add-mod'}
use Rattle.wiring.specs.Layout.{Sound}
use Rattle.wiring.specs.Grid.{north, east, south, west, beside, grid}

cond_some : {A : Type 0} (b : Bool) (x y : A) → cond b (Some x) None ≡ Some y → (b ≡ true) × (x ≡ y)
cond_some true x y e = (refl, cc)
cond_some false x y e = let z : ◌≡◌ {A = ℕ} 0 1 = cc in absurd (omega arith)

-- A step from a row and a column to a neighbour's, and back.
pub record Step (columns rows row column p m q : ℕ) : Type 0 where
  pub to_row : ℕ
  pub to_column : ℕ
  pub is_node : m ≡ to_row * columns + to_column
  pub in_row : to_row < rows
  pub in_column : to_column < columns
  pub moved : to_row ≡ row → to_column ≢ column
  pub back : beside columns rows to_row to_column q ≡ Some (row * columns + column, p)
  pub port : q < 4

module _ (columns rows row column : ℕ) (in_row : row < rows) (in_column : column < columns) where
  -- a step north is undone by a step south, and so on
  south_of_north : 0 < row → south columns rows (row - 1) column ≡ Some (row * columns + column, 0)
  south_of_north l = let e : row - 1 + 1 ≡ row = omega arith in rw (e, lt-ltb row rows in_row)

  west_of_east : west columns row (column + 1) ≡ Some (row * columns + column, 1)
  west_of_east = let e : column + 1 - 1 ≡ column = omega arith in let l : 0 < column + 1 = omega arith in rw (e, lt-ltb 0 (column + 1) l)

  north_of_south : north columns (row + 1) column ≡ Some (row * columns + column, 2)
  north_of_south = let e : row + 1 - 1 ≡ row = omega arith in let l : 0 < row + 1 = omega arith in rw (e, lt-ltb 0 (row + 1) l)

  east_of_west : 0 < column → east columns row (column - 1) ≡ Some (row * columns + column, 3)
  east_of_west l = let e : column - 1 + 1 ≡ column = omega arith in rw (e, lt-ltb column columns in_column)

  -- there is no port past 3
  nowhere : (p : ℕ) → beside columns rows row column (suc (suc (suc (suc p)))) ≡ None
  nowhere p = grind (arith, nat_tests)

  pub step : (p m q : ℕ) → beside columns rows row column p ≡ Some (m, q) → Step columns rows row column p m q
  step zero m q e =
      let k = cond_some (nat_lt 0 row) _ _ e in
      let l : 0 < row = ltb-true 0 row k.0 in
      let is_q : 2 ≡ q = ap (λ x. x.1) k.1 in
      record { to_row = row - 1; to_column = column; is_node = sym (ap (λ x. x.0) k.1); in_row = omega arith; in_column = in_column; moved = omega arith; back = rw (← is_q) (south_of_north l); port = omega arith }
  step (suc zero) m q e =
      let k = cond_some (nat_lt (column + 1) columns) _ _ e in
      let l : column + 1 < columns = ltb-true (column + 1) columns k.0 in
      let is_q : 3 ≡ q = ap (λ x. x.1) k.1 in
      record { to_row = row; to_column = column + 1; is_node = sym (ap (λ x. x.0) k.1); in_row = in_row; in_column = l; moved = omega arith; back = rw (← is_q) west_of_east; port = omega arith }
  step (suc (suc zero)) m q e =
      let k = cond_some (nat_lt (row + 1) rows) _ _ e in
      let l : row + 1 < rows = ltb-true (row + 1) rows k.0 in
      let is_q : 0 ≡ q = ap (λ x. x.1) k.1 in
      record { to_row = row + 1; to_column = column; is_node = sym (ap (λ x. x.0) k.1); in_row = l; in_column = in_column; moved = omega arith; back = rw (← is_q) north_of_south; port = omega arith }
  step (suc (suc (suc zero))) m q e =
      let k = cond_some (nat_lt 0 column) _ _ e in
      let l : 0 < column = ltb-true 0 column k.0 in
      let is_q : 1 ≡ q = ap (λ x. x.1) k.1 in
      record { to_row = row; to_column = column - 1; is_node = sym (ap (λ x. x.0) k.1); in_row = in_row; in_column = omega arith; moved = omega arith; back = rw (← is_q) (east_of_west l); port = omega arith }
  step (suc (suc (suc (suc p)))) m q e =
      let e' : ◌≡◌ {A = Option (ℕ × ℕ)} None (Some (m, q)) = rw (nowhere p) at e in
      let z : ◌≡◌ {A = ℕ} 0 1 = cc in
      absurd (omega arith)

-- The products of two sides are small.
pub sides_fit : (a b : ℕ) → a ≤ 8 → b ≤ 8 → a * b < 256
sides_fit a b h k = omega (arith, mul-le a b 8 8 h k)

module _ (columns rows : ℕ) where
  -- a node is known by its row and column
  pub far_at : (row column p : ℕ) → row < rows → column < columns → (grid columns rows).far (row * columns + column) p ≡ beside columns rows row column p
  far_at row column p h k = rw (lt-ltb (row * columns + column) (columns * rows) (mul-add-lt row columns column rows h k), div-mul-add row columns column k, mod-mul-add row columns column k)

  pub inside : (n : ℕ) → 1 ≤ columns → n < columns * rows → (n / columns < rows) × (n % columns < columns)
  inside n some l = (div_below n columns rows some (rw mul_comm at l), mod_below n columns some)

  found : 1 ≤ columns → (n p m q : ℕ) → (grid columns rows).far n p ≡ Some (m, q) → Step columns rows (n / columns) (n % columns) p m q
  found some n p m q e = go (cases_Bool (nat_lt n (columns * rows)))
    where
      go : (nat_lt n (columns * rows) ≡ true) ⊎ (nat_lt n (columns * rows) ≡ false) → Step columns rows (n / columns) (n % columns) p m q
      go (inl t) =
          let l : n < columns * rows = ltb-true n (columns * rows) t in
          let here = inside n some l in
          step columns rows (n / columns) (n % columns) here.0 here.1 p m q (rw t at e)
      go (inr t) = let e' : ◌≡◌ {A = Option (ℕ × ℕ)} None (Some (m, q)) = rw t at e in let z : ◌≡◌ {A = ℕ} 0 1 = cc in absurd (omega arith)

  pub grid_sound : 1 ≤ columns → columns ≤ 8 → 1 ≤ rows → rows ≤ 8 → Sound (grid columns rows)
  grid_sound a b c d = record {
    some_nodes = mul-le 1 1 columns rows a c;
    few_nodes = mul-le columns rows 8 8 b d;
    in_range = λ n p m q e. let t = found a n p m q e in (rw t.is_node (mul-add-lt t.to_row columns t.to_column rows t.in_row t.in_column), t.port);
    returns = λ n p m q e. let t = found a n p m q e in ap (λ x. (grid columns rows).far x q) t.is_node ∙ far_at t.to_row t.to_column q t.in_row t.in_column ∙ t.back ∙ ap (λ x. Some (x, p)) (div-add-mod' n columns);
    no_self = λ n p m q e same. let t = found a n p m q e in
        t.moved (sym (div-mul-add t.to_row columns t.to_column t.in_column) ∙ ap (λ x. x / columns) (sym t.is_node ∙ same))
        (sym (mod-mul-add t.to_row columns t.to_column t.in_column) ∙ ap (λ x. x % columns) (sym t.is_node ∙ same));
  }
