-- Readings of the arrays that a broadcast runs over.
use Rattle.std.proofs.Common.{◌≡◌, ℕ, zero, suc, ◌+◌, ◌*◌, ◌/◌, ◌%◌, ◌<◌, ◌≤◌, Bool, true, false, ◌||◌, eqb, ltb, ◌⊎◌, List, [], ◌∷◌, ◌++◌, length, get_or, take, set, Some, None, Option, sym, refl, ap, ◌∙◌, subst, ap₂, inl, inr, add-one, arith}
use mathlib.Core.Path.{fun_ext}
use mathlib.Core.Bool.{or_assoc, or-false}
use lib.ListN.{get_or-map}
use Rattle.std.proofs.lemmas.List.{get_or-take}
use Rattle.std.proofs.lemmas.Bool.{and_parts, and_from, ltb-true, lt-ltb, cases_lt, le-ltb}
use Rattle.std.specs.Bool.{then_some}
use Rattle.std.specs.Prelude.{IfSome, is_some}
use Rattle.wiring.specs.Layout.{Layout, Sound}
use Rattle.rules.specs.Ports.{ports_where, some_port}
use Rattle.rules.specs.Flood as rules
use Rattle.flood.specs.declared.types.Cell.{Cell}
use Rattle.flood.specs.declared.types.Cell.TheVariants.{Waiting, Deaf, Wrote}
use Rattle.flood.specs.Fit.{fits, all_fit}
use Rattle.flood.specs.View.{far_in, wired, cell_view, cells_view, reached_by}
use Rattle.rules.proofs.Views.{view_more}

-- A far end in a table that fits is in range.
pub fit_at : (ends : List (Option (ℕ × ℕ))) (k m q : ℕ) → all_fit ends ≡ true → get_or ends k None ≡ Some (m, q) → (m < 64) × (q < 4)
fit_at [] k m q ok e = let z : ◌≡◌ {A = ℕ} 0 1 = cc in absurd (omega arith)
fit_at (o ∷ ends) zero m q ok e =
    let f : fits (Some (m, q)) ≡ true = subst (λ (x : Option (ℕ × ℕ)). fits x ≡ true) e (and_parts (fits o) (all_fit ends) ok).0 in
    let h = and_parts (ltb m 64) (ltb q 4) f in
    (ltb-true _ _ h.0, ltb-true _ _ h.1)
fit_at (o ∷ ends) (suc k) m q ok e = fit_at ends k m q (and_parts (fits o) (all_fit ends) ok).1 e

pub cell_read : (count : ℕ) (cells : List Cell) (n : ℕ) → n < count → rules.cell_of (cells_view count cells) n ≡ cell_view (get_or cells n Waiting)
cell_read count cells n h = get_or-map cell_view (take count cells) n Waiting ∙ ap cell_view (get_or-take count cells n Waiting h)

take_past : {X : Type 0} (count : ℕ) (xs : List X) (n : ℕ) (d : X) → count ≤ n → get_or (take count xs) n d ≡ d
take_past zero xs n d h = refl
take_past (suc count) [] n d h = refl
take_past (suc count) (x ∷ xs) zero d h = absurd (omega arith)
take_past (suc count) (x ∷ xs) (suc n) d h = take_past count xs n d (omega arith)

pub cell_past : (count : ℕ) (cells : List Cell) (n : ℕ) → count ≤ n → rules.cell_of (cells_view count cells) n ≡ rules.waiting
cell_past count cells n h = get_or-map cell_view (take count cells) n Waiting ∙ ap cell_view (take_past count cells n Waiting h)

-- Within range the layout that a table spells reads the table.
pub far_read : (ends : List (Option (ℕ × ℕ))) (n p : ℕ) → n < 64 → p < 4 → far_in ends n p ≡ get_or ends (4 * n + p) None
far_read ends n p hn hp = rw (lt-ltb n 64 hn, lt-ltb p 4 hp) refl

module _ (layout : Layout) (marks : rules.Marks) (owner c : ℕ) (cells : List rules.Cell) (n p : ℕ) where
  pub gets_none : layout.far n p ≡ None → rules.gets layout marks owner c cells n p ≡ false
  unfolding rules.gets
  gets_none e = rw (e, rules.gets)

  pub gets_some : (m q : ℕ) → layout.far n p ≡ Some (m, q) → rules.gets layout marks owner c cells n p ≡ rules.sends marks owner c cells m q
  unfolding rules.gets
  gets_some m q e = rw (e, rules.gets)

module _ (layout : Layout) (marks : rules.Marks) (owner c : ℕ) (cells : List rules.Cell) (n : ℕ) where
  pub next_deaf : rules.cell_of cells n ≡ rules.deaf → rules.next_cell layout marks owner c cells n ≡ rules.deaf
  unfolding rules.next_cell
  next_deaf e = rw (e, rules.next_cell)

  pub next_wrote : (ports : List Bool) (k : ℕ) → rules.cell_of cells n ≡ rules.wrote ports k → rules.next_cell layout marks owner c cells n ≡ rules.wrote ports k
  unfolding rules.next_cell
  next_wrote ports k e = rw (e, rules.next_cell)

  pub next_reached : rules.cell_of cells n ≡ rules.waiting → some_port (ports_where (rules.gets layout marks owner c cells n)) ≡ true →
      rules.next_cell layout marks owner c cells n ≡ rules.wrote (ports_where (rules.gets layout marks owner c cells n)) (suc c)
  unfolding rules.next_cell
  next_reached e h = rw (e, h, rules.next_cell)

  pub next_missed : rules.cell_of cells n ≡ rules.waiting → some_port (ports_where (rules.gets layout marks owner c cells n)) ≡ false →
      rules.next_cell layout marks owner c cells n ≡ rules.waiting
  unfolding rules.next_cell
  next_missed e h = rw (e, h, rules.next_cell)

  -- The four answers together are the set of ports that get a flag.
  pub flags_are : (a b d e : Bool) → a ≡ rules.gets layout marks owner c cells n 0 → b ≡ rules.gets layout marks owner c cells n 1 →
      d ≡ rules.gets layout marks owner c cells n 2 → e ≡ rules.gets layout marks owner c cells n 3 →
      a ∷ b ∷ d ∷ e ∷ [] ≡ ports_where (rules.gets layout marks owner c cells n)
  unfolding ports_where
  flags_are a b d e p q r s = rw (p, q, r, s) refl

-- A list of four, by its elements.
pub four_made : {X : Type 0} (z : X) (f : ℕ → X) (xs : List X) → length xs ≡ 4 → ((k : ℕ) → k < 4 → get_or xs k z ≡ f k) → xs ≡ f 0 ∷ f 1 ∷ f 2 ∷ f 3 ∷ []
four_made z f [] long each = absurd (omega arith)
four_made z f (a ∷ []) long each = absurd (omega arith)
four_made z f (a ∷ b ∷ []) long each = absurd (omega arith)
four_made z f (a ∷ b ∷ d ∷ []) long each = absurd (omega arith)
four_made z f (a ∷ b ∷ d ∷ e ∷ []) long each =
    let p : a ≡ f 0 = each 0 (omega arith) in
    let q : b ≡ f 1 = each 1 (omega arith) in
    let r : d ≡ f 2 = each 2 (omega arith) in
    let s : e ≡ f 3 = each 3 (omega arith) in
    rw (p, q, r, s) refl
four_made z f (a ∷ b ∷ d ∷ e ∷ g ∷ more) long each = absurd (omega arith)

-- The four answers together are the set of ports that a test holds of.
pub four_are : (f : ℕ → Bool) (ports : List Bool) → length ports ≡ 4 → ((k : ℕ) → k < 4 → get_or ports k false ≡ f k) → ports ≡ ports_where f
unfolding ports_where
four_are f ports long each = four_made false f ports long each

some_is : (ports : List Bool) → length ports ≡ 4 → some_port ports ≡ (get_or ports 0 false || get_or ports 1 false || get_or ports 2 false || get_or ports 3 false)
unfolding some_port
some_is [] long = absurd (omega arith)
some_is (a ∷ []) long = absurd (omega arith)
some_is (a ∷ b ∷ []) long = absurd (omega arith)
some_is (a ∷ b ∷ d ∷ []) long = absurd (omega arith)
some_is (a ∷ b ∷ d ∷ e ∷ []) long = refl
some_is (a ∷ b ∷ d ∷ e ∷ g ∷ more) long = absurd (omega arith)

module _ (layout : Layout) (marks : rules.Marks) (owner c : ℕ) (cells : List rules.Cell) (n : ℕ) (ports : List Bool) (long : length ports ≡ 4)
    (each : (k : ℕ) → k < 4 → get_or ports k false ≡ rules.gets layout marks owner c cells n k)
    (waits : rules.cell_of cells n ≡ rules.waiting) where
  pub some_flag : (get_or ports 0 false || get_or ports 1 false || get_or ports 2 false || get_or ports 3 false) ≡ true → rules.wrote ports (c + 1) ≡ rules.next_cell layout marks owner c cells n
  some_flag some =
      let same = four_are (rules.gets layout marks owner c cells n) ports long each in
      let h = ap some_port (sym same) ∙ some_is ports long ∙ some in
      ap₂ rules.wrote same (add-one c) ∙ sym (next_reached layout marks owner c cells n waits h)

  pub no_flag : (get_or ports 0 false || get_or ports 1 false || get_or ports 2 false || get_or ports 3 false) ≡ false → rules.waiting ≡ rules.next_cell layout marks owner c cells n
  no_flag none =
      let same = four_are (rules.gets layout marks owner c cells n) ports long each in
      let h = ap some_port (sym same) ∙ some_is ports long ∙ none in
      sym (next_missed layout marks owner c cells n waits h)

-- Whether a cycle reached a node, one more node at a time.
pub reached_push : (c : ℕ) (cells : List rules.Cell) (cell : rules.Cell) → rules.reached c (cells ++ cell ∷ []) ≡ (rules.reached c cells || rules.reached c (cell ∷ []))
unfolding rules.reached
reached_push c [] cell = refl
reached_push c (rules.waiting ∷ cells) cell = reached_push c cells cell
reached_push c (rules.deaf ∷ cells) cell = reached_push c cells cell
reached_push c (rules.wrote ports at ∷ cells) cell =
    ap (λ (b : Bool). eqb at c || b) (reached_push c cells cell) ∙ sym (or_assoc (eqb at c) (rules.reached c cells) (rules.reached c (cell ∷ [])))

-- The same of a cell in an array.
pub reached_view : (c : ℕ) (cell : Cell) → rules.reached c (cell_view cell ∷ []) ≡ reached_by c cell
unfolding rules.reached
reached_view c Waiting = refl
reached_view c Deaf = refl
reached_view c (Wrote ports at) = or-false (eqb at c)

pub reached_more : (c : ℕ) (cells : List Cell) (i : ℕ) (cell : Cell) (before now : Bool) → i < length cells →
    before ≡ rules.reached c (cells_view i cells) → now ≡ reached_by c cell →
    (before || now) ≡ rules.reached c (cells_view (i + 1) (set cells i cell))
reached_more c cells i cell before now l b h =
    ap₂ ◌||◌ b (h ∙ sym (reached_view c cell)) ∙ sym (reached_push c (cells_view i cells) (cell_view cell)) ∙ ap (rules.reached c) (sym (view_more cell_view cells i cell l))

all_fit_each : (ends : List (Option (ℕ × ℕ))) → ((k : ℕ) → k < length ends → fits (get_or ends k None) ≡ true) → all_fit ends ≡ true
all_fit_each [] each = refl
all_fit_each (end ∷ ends) each = and_from _ _ (each 0 (omega arith)) (all_fit_each ends (λ k h. each (suc k) (omega arith)))

-- A table of far ends of a sound layout fits.
pub all_fit_from : (layout : Layout) → Sound layout → (ends : List (Option (ℕ × ℕ))) → length ends ≡ 256 →
    ((k : ℕ) → k < 256 → get_or ends k None ≡ layout.far (k / 4) (k % 4)) → all_fit ends ≡ true
all_fit_from layout sound ends long each = all_fit_each ends (λ k h. go k (get_or ends k None) (each k (omega arith)))
  where
    few : layout.count ≤ 64
    few = sound.few_nodes

    go : (k : ℕ) (end : Option (ℕ × ℕ)) → end ≡ layout.far (k / 4) (k % 4) → fits end ≡ true
    go k None e = refl
    go k (Some (m, q)) e =
        let inside = sound.in_range (k / 4) (k % 4) m q (sym e) in
        let f = few in
        let small : m < 64 = omega arith in
        and_from _ _ (lt-ltb m 64 small) (lt-ltb q 4 inside.1)

-- A table of all far ends of a sound layout spells that layout.
pub spells_layout : (layout : Layout) → Sound layout → (ends : List (Option (ℕ × ℕ))) →
    ((k : ℕ) → k < 256 → get_or ends k None ≡ layout.far (k / 4) (k % 4)) → wired layout.count ends ≡ layout
spells_layout layout sound ends each = ap (λ (far : ℕ → ℕ → Option (ℕ × ℕ)). record { count = layout.count; far = far }) (fun_ext (λ n. fun_ext (λ p. go n p (cases_lt n 64) (cases_lt p 4))))
  where
    nothing_there : (n p : ℕ) → ((m q : ℕ) → layout.far n p ≡ Some (m, q) → ⊥) → None ≡ layout.far n p
    nothing_there n p never = by (layout.far n p) refl
      where
        by : (o : Option (ℕ × ℕ)) → layout.far n p ≡ o → None ≡ layout.far n p
        by None e = sym e
        by (Some end) e = absurd (never end.0 end.1 e)

    back : (n p m q : ℕ) → layout.far n p ≡ Some (m, q) → (n < layout.count) × (p < 4)
    back n p m q e = sound.in_range m q n p (sound.returns n p m q e)

    few : layout.count ≤ 64
    few = sound.few_nodes

    go : (n p : ℕ) → (n < 64) ⊎ (64 ≤ n) → (p < 4) ⊎ (4 ≤ p) → far_in ends n p ≡ layout.far n p
    go n p (inl hn) (inl hp) =
        let place : 4 * n + p < 256 = omega arith in
        let node : (4 * n + p) / 4 ≡ n = omega arith in
        let port : (4 * n + p) % 4 ≡ p = omega arith in
        far_read ends n p hn hp ∙ each (4 * n + p) place ∙ ap₂ layout.far node port
    go n p (inl hn) (inr hp) = rw (le-ltb p 4 hp, lt-ltb n 64 hn) (nothing_there n p (λ m q e. let b = back n p m q e in omega arith))
    go n p (inr hn) other = rw (le-ltb n 64 hn) (nothing_there n p (λ m q e. let b = back n p m q e in let f = few in omega arith))

-- A value handed out if a test holds.
pub some_if : {X : Type 0} (b : Bool) (x : X) → is_some (then_some b x) ≡ b
some_if true x = refl
some_if false x = refl

pub holds_if : {X : Type 0} (P : X → Type 0) (b : Bool) (x : X) → P x → IfSome (then_some b x) P
holds_if P true x h = h
holds_if P false x h = tt
