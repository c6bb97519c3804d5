-- What a broadcast leaves at each node. The cells of every cycle are read one by one (`at`), an
-- entry is traced back to the cycle that wrote it, and from there to the flags that brought it.
use Rattle.std.proofs.Common.{◌≡◌, ℕ, zero, suc, ◌+◌, ◌<◌, ◌≤◌, Bool, true, false, cond, not, ◌&&◌, ◌||◌, eqb, ◌⊎◌, List, [], ◌∷◌, Some, None, Option, sym, refl, ap, ◌∙◌, subst, inl, inr, arith}
use Rattle.std.proofs.lemmas.Bool.{both_ways, not-true, eqb-true, eqb-false, eq-eqb, ne_eqb, and_parts, and_from, and_left, and_right, or_cases, or_parts, or_left, or_right, or_from, not_from_false, cond-true, cond-false, cases_Bool, cases_eq, cases_lt}
use Rattle.wiring.specs.Layout.{Layout, Sound}
use Rattle.rules.specs.declared.Mark.{Mark}
use Rattle.rules.specs.declared.Mark.TheVariants.{Unmarked, Up, Down}
use Rattle.rules.specs.Ports.{Ports, has, ports_where, some_port, table}
use Rattle.rules.specs.Flood.{Marks, is_up, is_down, is_marked, Cell, waiting, deaf, wrote, cell_of, all_up, passes_on, sends, gets, next_cell, cycle, reached, Spread, spread_from, spread}
use Rattle.rules.specs.Step.{turn}
use Rattle.rules.proofs.Tables.{table_at, table_past, where_at, where_has, where_some, some_port_has, all_up_false}

-- Marks

pub up_or_down : (mark : Mark) → is_marked mark ≡ true → (is_down mark ≡ true) ⊎ (is_up mark ≡ true)
up_or_down Unmarked e = absurd (both_ways false refl e)
up_or_down Up e = inr refl
up_or_down Down e = inl refl

pub down_marked : (mark : Mark) → is_down mark ≡ true → is_marked mark ≡ true
down_marked Unmarked e = e
down_marked Up e = refl
down_marked Down e = refl

pub up_marked : (mark : Mark) → is_up mark ≡ true → is_marked mark ≡ true
up_marked Unmarked e = e
up_marked Up e = refl
up_marked Down e = refl

-- Cables

-- A port has one far end.
pub one_end : (far : Option (ℕ × ℕ)) (m q m' q' : ℕ) → far ≡ Some (m, q) → far ≡ Some (m', q') → (m ≡ m') × (q ≡ q')
one_end far m q m' q' a b =
    let same : ◌≡◌ {A = ℕ × ℕ} (m, q) (m', q') = cc in
    (ap (λ end. end.0) same, ap (λ end. end.1) same)

-- One cycle

-- A node that is not the owner sends a flag in cycle c + 1.
pub record SendsOn (marks : Marks) (c : ℕ) (cells : List Cell) (n q : ℕ) : Type 0 where
  pub ports : Ports
  pub wrote_now : cell_of cells n ≡ wrote ports c
  pub no_flag : has ports q ≡ false
  pub marked : is_marked (marks n q) ≡ true
  pub mixed : is_up (marks n q) ≡ true → all_up marks n ports ≡ false

pub owner_sends : (marks : Marks) (owner c : ℕ) (cells : List Cell) (n q : ℕ) → n ≡ owner →
    sends marks owner c cells n q ≡ (eqb c 0 && is_marked (marks n q))
unfolding sends
owner_sends marks owner c cells n q e = cond-true (eqb n owner) _ _ (eq-eqb n owner e)

other_sends : (marks : Marks) (owner c : ℕ) (cells : List Cell) (n q : ℕ) → (n ≡ owner → ⊥) →
    sends marks owner c cells n q ≡ passes_on marks c n q (cell_of cells n)
unfolding sends
other_sends marks owner c cells n q other = cond-false (eqb n owner) _ _ (ne_eqb n owner other)

passes_what : (marks : Marks) (c n q : ℕ) (cells : List Cell) (cell : Cell) → cell_of cells n ≡ cell → passes_on marks c n q cell ≡ true → SendsOn marks c cells n q
unfolding passes_on
passes_what marks c n q cells waiting e h = absurd (both_ways false refl h)
passes_what marks c n q cells deaf e h = absurd (both_ways false refl h)
passes_what marks c n q cells (wrote ports written) e h = record {
  ports = ports;
  wrote_now = e ∙ ap (wrote ports) (eqb-true written c first.0);
  no_flag = not-true (has ports q) first.1;
  marked = way (or_cases (is_down (marks n q)) (is_up (marks n q) && not (all_up marks n ports)) outer.1);
  mixed = λ up. mixed (or_cases (is_down (marks n q)) (is_up (marks n q) && not (all_up marks n ports)) outer.1) up;
}
  where
    outer : ((eqb written c && not (has ports q)) ≡ true) × ((is_down (marks n q) || is_up (marks n q) && not (all_up marks n ports)) ≡ true)
    outer = and_parts (eqb written c && not (has ports q)) (is_down (marks n q) || is_up (marks n q) && not (all_up marks n ports)) h

    first : (eqb written c ≡ true) × (not (has ports q) ≡ true)
    first = and_parts (eqb written c) (not (has ports q)) outer.0

    way : (is_down (marks n q) ≡ true) ⊎ ((is_up (marks n q) && not (all_up marks n ports)) ≡ true) → is_marked (marks n q) ≡ true
    way (inl x) = down_marked (marks n q) x
    way (inr x) = up_marked (marks n q) (and_parts (is_up (marks n q)) (not (all_up marks n ports)) x).0

    not_both : (mark : Mark) → is_down mark ≡ true → is_up mark ≡ true → ⊥
    not_both Unmarked x y = both_ways false refl x
    not_both Up x y = both_ways false refl x
    not_both Down x y = both_ways false refl y

    mixed : (is_down (marks n q) ≡ true) ⊎ ((is_up (marks n q) && not (all_up marks n ports)) ≡ true) → is_up (marks n q) ≡ true → all_up marks n ports ≡ false
    mixed (inl x) up = absurd (not_both (marks n q) x up)
    mixed (inr x) up = not-true (all_up marks n ports) (and_parts (is_up (marks n q)) (not (all_up marks n ports)) x).1

pub sends_what : (marks : Marks) (owner c : ℕ) (cells : List Cell) (n q : ℕ) → (n ≡ owner → ⊥) → sends marks owner c cells n q ≡ true → SendsOn marks c cells n q
sends_what marks owner c cells n q other h = passes_what marks c n q cells (cell_of cells n) refl (sym (other_sends marks owner c cells n q other) ∙ h)

pub sends_since : (marks : Marks) (owner c : ℕ) (cells : List Cell) (n q : ℕ) → (n ≡ owner → ⊥) → SendsOn marks c cells n q → sends marks owner c cells n q ≡ true
unfolding passes_on
sends_since marks owner c cells n q other on =
    other_sends marks owner c cells n q other ∙ ap (passes_on marks c n q) on.wrote_now ∙
    and_from (eqb c c && not (has on.ports q)) (is_down (marks n q) || is_up (marks n q) && not (all_up marks n on.ports))
    (and_from (eqb c c) (not (has on.ports q)) (eq-eqb c c refl) (not_from_false (has on.ports q) on.no_flag))
    (way (up_or_down (marks n q) on.marked))
  where
    way : (is_down (marks n q) ≡ true) ⊎ (is_up (marks n q) ≡ true) → (is_down (marks n q) || is_up (marks n q) && not (all_up marks n on.ports)) ≡ true
    way (inl x) = or_left (is_down (marks n q)) _ x
    way (inr x) = or_right (is_down (marks n q)) _ (and_from (is_up (marks n q)) _ x (not_from_false (all_up marks n on.ports) (on.mixed x)))

-- A port gets a flag exactly when the far end of its cable sends one.
pub gets_what : (layout : Layout) (marks : Marks) (owner c : ℕ) (cells : List Cell) (n p : ℕ) → gets layout marks owner c cells n p ≡ true →
    (m : ℕ) × (q : ℕ) × (layout.far n p ≡ Some (m, q)) × (sends marks owner c cells m q ≡ true)
unfolding gets
gets_what layout marks owner c cells n p h = go (layout.far n p) refl h
  where
    go : (far : Option (ℕ × ℕ)) → layout.far n p ≡ far → elim far [ None ↦ false | Some end ↦ sends marks owner c cells end.0 end.1 ] ≡ true →
        (m : ℕ) × (q : ℕ) × (layout.far n p ≡ Some (m, q)) × (sends marks owner c cells m q ≡ true)
    go None e g = absurd (both_ways false refl g)
    go (Some end) e g = (end.0, end.1, e, g)

pub gets_since : (layout : Layout) (marks : Marks) (owner c : ℕ) (cells : List Cell) (n p m q : ℕ) → layout.far n p ≡ Some (m, q) →
    gets layout marks owner c cells n p ≡ sends marks owner c cells m q
unfolding gets
gets_since layout marks owner c cells n p m q e = rw (e, gets)

-- A node's cell after a cycle, from its cell before.
next_deaf : (layout : Layout) (marks : Marks) (owner c : ℕ) (cells : List Cell) (n : ℕ) → cell_of cells n ≡ deaf → next_cell layout marks owner c cells n ≡ deaf
unfolding next_cell
next_deaf layout marks owner c cells n e = rw (e, next_cell)

next_wrote : (layout : Layout) (marks : Marks) (owner c : ℕ) (cells : List Cell) (n : ℕ) (ports : Ports) (k : ℕ) → cell_of cells n ≡ wrote ports k → next_cell layout marks owner c cells n ≡ wrote ports k
unfolding next_cell
next_wrote layout marks owner c cells n ports k e = rw (e, next_cell)

pub next_reached : (layout : Layout) (marks : Marks) (owner c : ℕ) (cells : List Cell) (n : ℕ) → cell_of cells n ≡ waiting →
    some_port (ports_where (gets layout marks owner c cells n)) ≡ true → next_cell layout marks owner c cells n ≡ wrote (ports_where (gets layout marks owner c cells n)) (suc c)
unfolding next_cell
next_reached layout marks owner c cells n e h = rw (e, h, next_cell)

next_missed : (layout : Layout) (marks : Marks) (owner c : ℕ) (cells : List Cell) (n : ℕ) → cell_of cells n ≡ waiting →
    some_port (ports_where (gets layout marks owner c cells n)) ≡ false → next_cell layout marks owner c cells n ≡ waiting
unfolding next_cell
next_missed layout marks owner c cells n e h = rw (e, h, next_cell)

-- Cells are told apart

pub waiting_wrote : (cell : Cell) (ports : Ports) (c : ℕ) → cell ≡ waiting → cell ≡ wrote ports c → ⊥
waiting_wrote cell ports c a b = let z : ◌≡◌ {A = ℕ} 0 1 = cc in omega arith

pub deaf_wrote : (cell : Cell) (ports : Ports) (c : ℕ) → cell ≡ deaf → cell ≡ wrote ports c → ⊥
deaf_wrote cell ports c a b = let z : ◌≡◌ {A = ℕ} 0 1 = cc in omega arith

pub waiting_deaf : (cell : Cell) → cell ≡ waiting → cell ≡ deaf → ⊥
waiting_deaf cell a b = let z : ◌≡◌ {A = ℕ} 0 1 = cc in omega arith

pub same_ports : (cell : Cell) (ports ports' : Ports) (c c' : ℕ) → cell ≡ wrote ports c → cell ≡ wrote ports' c' → ports ≡ ports'
same_ports cell ports ports' c c' a b = cc

pub same_cycle : (cell : Cell) (ports ports' : Ports) (c c' : ℕ) → cell ≡ wrote ports c → cell ≡ wrote ports' c' → c ≡ c'
same_cycle cell ports ports' c c' a b = cc

-- Whether a cycle reached a node

pub reached_true : (c : ℕ) (cells : List Cell) → reached c cells ≡ true → (n : ℕ) × (ports : Ports) × (cell_of cells n ≡ wrote ports c)
unfolding reached
reached_true c [] e = absurd (both_ways false refl e)
reached_true c (waiting ∷ cells) e = let found = reached_true c cells e in (suc found.0, found.1, found.2)
reached_true c (deaf ∷ cells) e = let found = reached_true c cells e in (suc found.0, found.1, found.2)
reached_true c (wrote ports k ∷ cells) e = go (or_cases (eqb k c) (reached c cells) e) (reached_true c cells)
  where
    go : (eqb k c ≡ true) ⊎ (reached c cells ≡ true) → (reached c cells ≡ true → (n : ℕ) × (ports' : Ports) × (cell_of cells n ≡ wrote ports' c)) →
        (n : ℕ) × (ports' : Ports) × (cell_of (wrote ports k ∷ cells) n ≡ wrote ports' c)
    go (inl same) rest = (0, ports, ap (wrote ports) (eqb-true k c same))
    go (inr later) rest = let found = rest later in (suc found.0, found.1, found.2)

reached_false : (c : ℕ) (cells : List Cell) (n : ℕ) (ports : Ports) → reached c cells ≡ false → cell_of cells n ≡ wrote ports c → ⊥
unfolding reached
reached_false c [] n ports e h = waiting_wrote waiting ports c refl h
reached_false c (waiting ∷ cells) zero ports e h = waiting_wrote waiting ports c refl h
reached_false c (waiting ∷ cells) (suc n) ports e h = reached_false c cells n ports e h
reached_false c (deaf ∷ cells) zero ports e h = deaf_wrote deaf ports c refl h
reached_false c (deaf ∷ cells) (suc n) ports e h = reached_false c cells n ports e h
reached_false c (wrote ports' k ∷ cells) zero ports e h = eqb-false k c (or_parts (eqb k c) (reached c cells) e).0 (same_cycle (wrote ports' k) ports' ports k c refl h)
reached_false c (wrote ports' k ∷ cells) (suc n) ports e h = reached_false c cells n ports (or_parts (eqb k c) (reached c cells) e).1 h

-- Counting

-- How many of the numbers below n pass a test.
tally : (ℕ → Bool) → ℕ → ℕ
tally f zero = 0
tally f (suc n) = cond (f n) 1 0 + tally f n

tally_mono : (f g : ℕ → Bool) (n : ℕ) → ((i : ℕ) → i < n → f i ≡ true → g i ≡ true) → tally f n ≤ tally g n
unfolding tally
tally_mono f g zero less = omega arith
tally_mono f g (suc n) less = go (f n) (g n) refl refl (tally_mono f g n (λ i below e. less i (omega arith) e))
  where
    go : (x y : Bool) → f n ≡ x → g n ≡ y → tally f n ≤ tally g n → cond (f n) 1 0 + tally f n ≤ cond (g n) 1 0 + tally g n
    go true true ef eg le = rw (ef, eg) (omega arith)
    go true false ef eg le = absurd (both_ways (g n) eg (less n (omega arith) ef))
    go false true ef eg le = rw (ef, eg) (omega arith)
    go false false ef eg le = rw (ef, eg) (omega arith)

-- One test is the stronger, and one number fails it alone: its tally is smaller.
tally_less : (f g : ℕ → Bool) (n i : ℕ) → ((i : ℕ) → i < n → f i ≡ true → g i ≡ true) → i < n → f i ≡ false → g i ≡ true → tally f n < tally g n
unfolding tally
tally_less f g zero i less below ef eg = absurd (omega arith)
tally_less f g (suc n) i less below ef eg =
    go (cases_eq i n) (f n) (g n) refl refl (tally_mono f g n (λ j b e. less j (omega arith) e)) (λ b. tally_less f g n i (λ j b' e. less j (omega arith) e) b ef eg)
  where
    go : (i ≡ n) ⊎ (i ≡ n → ⊥) → (x y : Bool) → f n ≡ x → g n ≡ y → tally f n ≤ tally g n → (i < n → tally f n < tally g n) → cond (f n) 1 0 + tally f n < cond (g n) 1 0 + tally g n
    go (inl same) x y ex ey le lt = rw (rw same at ef, rw same at eg) (omega arith)
    go (inr other) true true ex ey le lt = let l = lt (omega arith) in rw (ex, ey) (omega arith)
    go (inr other) true false ex ey le lt = absurd (both_ways (g n) ey (less n (omega arith) ex))
    go (inr other) false true ex ey le lt = rw (ex, ey) (omega arith)
    go (inr other) false false ex ey le lt = let l = lt (omega arith) in rw (ex, ey) (omega arith)

tally_all : (n : ℕ) → tally (λ i. true) n ≡ n
unfolding tally
tally_all zero = refl
tally_all (suc n) = rw (tally_all n) (omega arith)

is_waiting : Cell → Bool
is_waiting waiting = true
is_waiting deaf = false
is_waiting (wrote ports c) = false

is_waiting_true : (cell : Cell) → is_waiting cell ≡ true → cell ≡ waiting
unfolding is_waiting
is_waiting_true waiting e = refl
is_waiting_true deaf e = absurd (both_ways false refl e)
is_waiting_true (wrote ports c) e = absurd (both_ways false refl e)

-- The cells of every cycle

-- The cells after c cycles.
pub cells_at : Layout → Marks → ℕ → (ℕ → Bool) → ℕ → List Cell
cells_at layout marks owner deaf_node zero = table layout.count (λ n. cond (eqb n owner || deaf_node n) deaf waiting)
cells_at layout marks owner deaf_node (suc c) = cycle layout marks owner c (cells_at layout marks owner deaf_node c)

abbrev pub at : Layout → Marks → ℕ → (ℕ → Bool) → ℕ → ℕ → Cell
at layout marks owner deaf_node c n = cell_of (cells_at layout marks owner deaf_node c) n

-- The cell at the end of the broadcast.
abbrev pub final : Layout → Marks → ℕ → (ℕ → Bool) → ℕ → Cell
final layout marks owner deaf_node n = cell_of (spread layout marks owner deaf_node).cells n

-- Where an entry comes from: cycle c + 1 found the node waiting and brought flags to these ports.
pub record Born (layout : Layout) (marks : Marks) (owner : ℕ) (deaf_node : ℕ → Bool) (n : ℕ) (ports : Ports) (c : ℕ) : Type 0 where
  pub inside : n < layout.count
  pub waited : at layout marks owner deaf_node c n ≡ waiting
  pub ports_are : ports ≡ ports_where (gets layout marks owner c (cells_at layout marks owner deaf_node c) n)
  pub some_flag : some_port ports ≡ true

-- How a broadcast from cycle c + 1 on ends: its cells are those after its last cycle, every cycle
-- from c + 1 to there reached a node, and it stops for want of fuel or since the next reaches none.
pub record Ends (layout : Layout) (marks : Marks) (owner : ℕ) (deaf_node : ℕ → Bool) (fuel c : ℕ) (end : Spread) : Type 0 where
  pub cells_are : end.cells ≡ cells_at layout marks owner deaf_node end.cycles
  pub each : (j : ℕ) → c ≤ j → j < end.cycles → reached (suc j) (cells_at layout marks owner deaf_node (suc j)) ≡ true
  pub from : c ≤ end.cycles
  pub stops : (end.cycles ≡ c + fuel) ⊎ (reached (suc end.cycles) (cells_at layout marks owner deaf_node (suc end.cycles)) ≡ false)

module _ (layout : Layout) (marks : Marks) (owner : ℕ) (deaf_node : ℕ → Bool) where
  pub at_outside : (k n : ℕ) → layout.count ≤ n → at layout marks owner deaf_node k n ≡ waiting
  unfolding cells_at cycle
  at_outside zero n past = table_past layout.count _ n waiting past
  at_outside (suc k) n past = table_past layout.count _ n waiting past

  at_zero : (n : ℕ) → n < layout.count → at layout marks owner deaf_node 0 n ≡ cond (eqb n owner || deaf_node n) deaf waiting
  unfolding cells_at
  at_zero n below = table_at layout.count _ n waiting below

  pub at_suc : (k n : ℕ) → n < layout.count →
      at layout marks owner deaf_node (suc k) n ≡ next_cell layout marks owner k (cells_at layout marks owner deaf_node k) n
  unfolding cells_at cycle
  at_suc k n below = table_at layout.count (next_cell layout marks owner k (cells_at layout marks owner deaf_node k)) n waiting below

  -- Only a node of the wall, other than the owner and the deaf ones, waits or writes.
  pub at_deaf : (k n : ℕ) → n < layout.count → (eqb n owner || deaf_node n) ≡ true → at layout marks owner deaf_node k n ≡ deaf
  at_deaf zero n below e = at_zero n below ∙ cond-true (eqb n owner || deaf_node n) deaf waiting e
  at_deaf (suc k) n below e = at_suc k n below ∙ next_deaf layout marks owner k (cells_at layout marks owner deaf_node k) n (at_deaf k n below e)

  pub at_keeps : (k j n : ℕ) (ports : Ports) (c : ℕ) → k ≤ j → at layout marks owner deaf_node k n ≡ wrote ports c → at layout marks owner deaf_node j n ≡ wrote ports c
  at_keeps k zero n ports c le e = let same : k ≡ 0 = omega arith in rw same at e
  at_keeps k (suc j) n ports c le e = go (cases_eq k (suc j)) (cases_lt n layout.count) (λ less. at_keeps k j n ports c less e)
    where
      go : (k ≡ suc j) ⊎ (k ≡ suc j → ⊥) → (n < layout.count) ⊎ (layout.count ≤ n) → (k ≤ j → at layout marks owner deaf_node j n ≡ wrote ports c) →
          at layout marks owner deaf_node (suc j) n ≡ wrote ports c
      go (inl same) w last = rw same at e
      go (inr less) (inl below) last = at_suc j n below ∙ next_wrote layout marks owner j (cells_at layout marks owner deaf_node j) n ports c (last (omega arith))
      go (inr less) (inr past) last = absurd (waiting_wrote _ ports c (at_outside k n past) e)

  at_inside : (k n : ℕ) (ports : Ports) (c : ℕ) → at layout marks owner deaf_node k n ≡ wrote ports c → n < layout.count
  at_inside k n ports c e = go (cases_lt n layout.count)
    where
      go : (n < layout.count) ⊎ (layout.count ≤ n) → n < layout.count
      go (inl below) = below
      go (inr past) = absurd (waiting_wrote _ ports c (at_outside k n past) e)

  pub at_born : (k n : ℕ) (ports : Ports) (c : ℕ) → at layout marks owner deaf_node k n ≡ wrote ports c →
      (b : ℕ) × (c ≡ suc b) × (c ≤ k) × Born layout marks owner deaf_node n ports b
  at_born zero n ports c e = go (cases_Bool (eqb n owner || deaf_node n))
    where
      inside : n < layout.count
      inside = at_inside 0 n ports c e

      go : ((eqb n owner || deaf_node n) ≡ true) ⊎ ((eqb n owner || deaf_node n) ≡ false) → (b : ℕ) × (c ≡ suc b) × (c ≤ 0) × Born layout marks owner deaf_node n ports b
      go (inl x) = absurd (deaf_wrote _ ports c (at_deaf 0 n inside x) e)
      go (inr x) = absurd (waiting_wrote _ ports c (at_zero n inside ∙ cond-false (eqb n owner || deaf_node n) deaf waiting x) e)
  at_born (suc k) n ports c e = go (at layout marks owner deaf_node k n) refl (at_born k n)
    where
      inside : n < layout.count
      inside = at_inside (suc k) n ports c e

      cells : List Cell
      cells = cells_at layout marks owner deaf_node k

      flags : Ports
      flags = ports_where (gets layout marks owner k cells n)

      now : next_cell layout marks owner k cells n ≡ wrote ports c
      now = sym (at_suc k n inside) ∙ e

      first : cell_of cells n ≡ waiting → (some_port flags ≡ true) ⊎ (some_port flags ≡ false) → (b : ℕ) × (c ≡ suc b) × (c ≤ suc k) × Born layout marks owner deaf_node n ports b
      first was (inl some) = (k, cycle_is, omega (arith, cycle_is), record { inside = inside; waited = was; ports_are = ports_are; some_flag = ap some_port ports_are ∙ some })
        where
          there : next_cell layout marks owner k cells n ≡ wrote flags (suc k)
          there = next_reached layout marks owner k cells n was some

          cycle_is : c ≡ suc k
          cycle_is = same_cycle _ ports flags c (suc k) now there

          ports_are : ports ≡ flags
          ports_are = same_ports _ ports flags c (suc k) now there
      first was (inr none) = absurd (waiting_wrote _ ports c (next_missed layout marks owner k cells n was none) now)

      go : (cell : Cell) → cell_of cells n ≡ cell → ((ports' : Ports) (c' : ℕ) → cell_of cells n ≡ wrote ports' c' → (b : ℕ) × (c' ≡ suc b) × (c' ≤ k) × Born layout marks owner deaf_node n ports' b) →
          (b : ℕ) × (c ≡ suc b) × (c ≤ suc k) × Born layout marks owner deaf_node n ports b
      go waiting was earlier = first was (cases_Bool (some_port flags))
      go deaf was earlier = absurd (deaf_wrote _ ports c (next_deaf layout marks owner k cells n was) now)
      go (wrote ports' c') was earlier =
          let same : wrote ports' c' ≡ wrote ports c = sym (next_wrote layout marks owner k cells n ports' c' was) ∙ now in
          let found = earlier ports c (was ∙ same) in
          (found.0, found.1, omega (arith, found.2), found.3)

  pub born_in : (k n : ℕ) (ports : Ports) (c : ℕ) → at layout marks owner deaf_node k n ≡ wrote ports (suc c) → Born layout marks owner deaf_node n ports c
  born_in k n ports c e =
      let found = at_born k n ports (suc c) e in
      let same : found.0 ≡ c = omega (arith, found.1) in
      subst (λ (b : ℕ). Born layout marks owner deaf_node n ports b) same found.3

  -- The nodes that wait get fewer with every cycle that reaches one

  pub waiting_before : (k n : ℕ) → at layout marks owner deaf_node (suc k) n ≡ waiting → at layout marks owner deaf_node k n ≡ waiting
  waiting_before k n e = go (cases_lt n layout.count) (at layout marks owner deaf_node k n) refl
    where
      cells : List Cell
      cells = cells_at layout marks owner deaf_node k

      go : (n < layout.count) ⊎ (layout.count ≤ n) → (cell : Cell) → cell_of cells n ≡ cell → cell_of cells n ≡ waiting
      go (inr past) cell was = at_outside k n past
      go (inl below) waiting was = was
      go (inl below) deaf was = absurd (waiting_deaf _ e (at_suc k n below ∙ next_deaf layout marks owner k cells n was))
      go (inl below) (wrote ports c) was = absurd (waiting_wrote _ ports c e (at_suc k n below ∙ next_wrote layout marks owner k cells n ports c was))

  left_at : ℕ → ℕ
  left_at k = tally (λ n. is_waiting (at layout marks owner deaf_node k n)) layout.count

  left_zero : owner < layout.count → left_at 0 < layout.count
  unfolding left_at is_waiting
  left_zero inside =
      let less = tally_less (λ n. is_waiting (at layout marks owner deaf_node 0 n)) (λ i. true) layout.count owner
      (λ i below e. refl) inside (ap is_waiting (at_deaf 0 owner inside (or_left (eqb owner owner) (deaf_node owner) (eq-eqb owner owner refl)))) refl in
      omega (arith, tally_all layout.count)

  left_falls : (k : ℕ) → reached (suc k) (cells_at layout marks owner deaf_node (suc k)) ≡ true → left_at (suc k) < left_at k
  unfolding left_at is_waiting
  left_falls k e =
      tally_less (λ n. is_waiting (at layout marks owner deaf_node (suc k) n)) (λ n. is_waiting (at layout marks owner deaf_node k n)) layout.count n
      (λ i below w. ap is_waiting (waiting_before k i (is_waiting_true _ w))) born.inside
      (ap is_waiting found.2) (ap is_waiting born.waited)
    where
      found : (n : ℕ) × (ports : Ports) × (cell_of (cells_at layout marks owner deaf_node (suc k)) n ≡ wrote ports (suc k))
      found = reached_true (suc k) (cells_at layout marks owner deaf_node (suc k)) e

      n : ℕ
      n = found.0

      born : Born layout marks owner deaf_node n found.1 k
      born = born_in (suc k) n found.1 k found.2

  -- The end of the broadcast

  ends_from : (fuel c : ℕ) → Ends layout marks owner deaf_node fuel c (spread_from layout marks owner fuel c (cells_at layout marks owner deaf_node c))
  unfolding spread_from cells_at
  ends_from zero c = record { cells_are = refl; each = λ j from below. absurd (omega arith); from = omega arith; stops = inl (omega arith) }
  ends_from (suc fuel) c = go (reached (suc c) (cells_at layout marks owner deaf_node (suc c))) refl (ends_from fuel (suc c))
    where
      go : (again : Bool) → reached (suc c) (cells_at layout marks owner deaf_node (suc c)) ≡ again →
          Ends layout marks owner deaf_node fuel (suc c) (spread_from layout marks owner fuel (suc c) (cells_at layout marks owner deaf_node (suc c))) →
          Ends layout marks owner deaf_node (suc fuel) c (elim again [
            | true ↦ spread_from layout marks owner fuel (suc c) (cells_at layout marks owner deaf_node (suc c))
            | false ↦ record { cells = cells_at layout marks owner deaf_node c; cycles = c }
          ])
      go true e rest = record {
        cells_are = rest.cells_are;
        each = λ j from below. each (cases_eq c j) from below;
        from = omega (arith, rest.from);
        stops = stops rest.stops;
      }
        where
          end : Spread
          end = spread_from layout marks owner fuel (suc c) (cells_at layout marks owner deaf_node (suc c))

          each : {j : ℕ} → (c ≡ j) ⊎ (c ≡ j → ⊥) → c ≤ j → j < end.cycles → reached (suc j) (cells_at layout marks owner deaf_node (suc j)) ≡ true
          each (inl same) from below = rw same at e
          each (inr other) from below = rest.each _ (omega arith) below

          stops : (end.cycles ≡ suc c + fuel) ⊎ (reached (suc end.cycles) (cells_at layout marks owner deaf_node (suc end.cycles)) ≡ false) →
              (end.cycles ≡ c + suc fuel) ⊎ (reached (suc end.cycles) (cells_at layout marks owner deaf_node (suc end.cycles)) ≡ false)
          stops (inl x) = inl (omega arith)
          stops (inr x) = inr x
      go false e rest = record { cells_are = refl; each = λ j from below. absurd (omega arith); from = omega arith; stops = inr e }

  pub ends : Ends layout marks owner deaf_node layout.count 0 (spread layout marks owner deaf_node)
  unfolding spread cells_at
  ends = ends_from layout.count 0

  -- Every cycle up to the last leaves fewer waiting.
  left_after : owner < layout.count → (k : ℕ) → ((j : ℕ) → j < k → reached (suc j) (cells_at layout marks owner deaf_node (suc j)) ≡ true) → k + left_at k < layout.count
  left_after inside zero each = omega (arith, left_zero inside)
  left_after inside (suc k) each = omega (arith, left_falls k (each k (omega arith)), left_after inside k (λ j below. each j (omega arith)))

  -- A cycle that writes nothing at a node leaves it as it was.
  at_stays : (k n : ℕ) → ((ports : Ports) → at layout marks owner deaf_node (suc k) n ≡ wrote ports (suc k) → ⊥) →
      at layout marks owner deaf_node (suc k) n ≡ at layout marks owner deaf_node k n
  at_stays k n never = go (cases_lt n layout.count) (at layout marks owner deaf_node k n) refl
    where
      cells : List Cell
      cells = cells_at layout marks owner deaf_node k

      flags : Ports
      flags = ports_where (gets layout marks owner k cells n)

      missed : n < layout.count → cell_of cells n ≡ waiting → (some_port flags ≡ true) ⊎ (some_port flags ≡ false) →
          at layout marks owner deaf_node (suc k) n ≡ at layout marks owner deaf_node k n
      missed below was (inl some) = absurd (never flags (at_suc k n below ∙ next_reached layout marks owner k cells n was some))
      missed below was (inr none) = at_suc k n below ∙ next_missed layout marks owner k cells n was none ∙ sym was

      go : (n < layout.count) ⊎ (layout.count ≤ n) → (cell : Cell) → cell_of cells n ≡ cell → at layout marks owner deaf_node (suc k) n ≡ at layout marks owner deaf_node k n
      go (inr past) cell was = at_outside (suc k) n past ∙ sym (at_outside k n past)
      go (inl below) waiting was = missed below was (cases_Bool (some_port flags))
      go (inl below) deaf was = at_suc k n below ∙ next_deaf layout marks owner k cells n was ∙ sym was
      go (inl below) (wrote ports c) was = at_suc k n below ∙ next_wrote layout marks owner k cells n ports c was ∙ sym was

  -- A node that is not deaf at the start never is.
  pub at_hears : (k n : ℕ) → (eqb n owner || deaf_node n) ≡ false → at layout marks owner deaf_node k n ≡ deaf → ⊥
  at_hears zero n hears e = go (cases_lt n layout.count)
    where
      go : (n < layout.count) ⊎ (layout.count ≤ n) → ⊥
      go (inl below) = waiting_deaf _ (at_zero n below ∙ cond-false (eqb n owner || deaf_node n) deaf waiting hears) e
      go (inr past) = waiting_deaf _ (at_outside 0 n past) e
  at_hears (suc k) n hears e = go (cases_lt n layout.count) (at layout marks owner deaf_node k n) refl (at_hears k n hears)
    where
      cells : List Cell
      cells = cells_at layout marks owner deaf_node k

      flags : Ports
      flags = ports_where (gets layout marks owner k cells n)

      first : n < layout.count → cell_of cells n ≡ waiting → (some_port flags ≡ true) ⊎ (some_port flags ≡ false) → ⊥
      first below was (inl some) = deaf_wrote _ flags (suc k) e (at_suc k n below ∙ next_reached layout marks owner k cells n was some)
      first below was (inr none) = waiting_deaf _ (at_suc k n below ∙ next_missed layout marks owner k cells n was none) e

      go : (n < layout.count) ⊎ (layout.count ≤ n) → (cell : Cell) → cell_of cells n ≡ cell → (cell_of cells n ≡ deaf → ⊥) → ⊥
      go (inr past) cell was earlier = waiting_deaf _ (at_outside (suc k) n past) e
      go (inl below) waiting was earlier = first below was (cases_Bool (some_port flags))
      go (inl below) deaf was earlier = earlier was
      go (inl below) (wrote ports c) was earlier = deaf_wrote _ ports c e (at_suc k n below ∙ next_wrote layout marks owner k cells n ports c was)

  -- A port of a new entry got its flag in that entry's cycle.
  pub born_flag : (n : ℕ) (ports : Ports) (c p : ℕ) → Born layout marks owner deaf_node n ports c → has ports p ≡ true →
      (p < 4) × (gets layout marks owner c (cells_at layout marks owner deaf_node c) n p ≡ true)
  born_flag n ports c p born h = where_has (gets layout marks owner c (cells_at layout marks owner deaf_node c) n) p (rw born.ports_are at h)

  -- Where a cycle reached nobody, the next reaches nobody.
  at_still : (k : ℕ) → ((m : ℕ) → at layout marks owner deaf_node (suc k) m ≡ at layout marks owner deaf_node k m) →
      (n : ℕ) → at layout marks owner deaf_node (suc (suc k)) n ≡ at layout marks owner deaf_node (suc k) n
  at_still k still n = at_stays (suc k) n (λ ports e. never ports (born_in (suc (suc k)) n ports (suc k) e))
    where
      cells : List Cell
      cells = cells_at layout marks owner deaf_node (suc k)

      sent : (m q : ℕ) → (m ≡ owner) ⊎ (m ≡ owner → ⊥) → sends marks owner (suc k) cells m q ≡ true → ⊥
      sent m q (inl same) h =
          let first : suc k ≡ 0 = eqb-true (suc k) 0 (and_parts (eqb (suc k) 0) (is_marked (marks m q)) (sym (owner_sends marks owner (suc k) cells m q same) ∙ h)).0 in
          omega arith
      sent m q (inr other) h = waiting_wrote _ on.ports (suc k) (still m ∙ (born_in (suc k) m on.ports k on.wrote_now).waited) on.wrote_now
        where
          on : SendsOn marks (suc k) cells m q
          on = sends_what marks owner (suc k) cells m q other h

      never : (ports : Ports) → Born layout marks owner deaf_node n ports (suc k) → ⊥
      never ports born =
          let flag = some_port_has ports born.some_flag in
          let got = gets_what layout marks owner (suc k) cells n flag.0 (born_flag n ports (suc k) flag.0 born flag.2).1 in
          sent got.0 got.1 (cases_eq got.0 owner) got.3

-- How flags come

-- The owner sent a flag by its port q in cycle 1.
pub record OwnerSent (marks : Marks) (owner m q c : ℕ) : Type 0 where
  pub is_owner : m ≡ owner
  pub first_cycle : c ≡ 1
  pub owner_marked : is_marked (marks owner q) ≡ true

-- A node that wrote its entry in the cycle before passed the flag on by its marked port q, which
-- got none itself, and is not up if all that did are.
pub record PassedOn (layout : Layout) (marks : Marks) (owner : ℕ) (deaf_node : ℕ → Bool) (m q c : ℕ) : Type 0 where
  pub not_owner : m ≡ owner → ⊥
  pub ports : Ports
  pub earlier : ℕ
  pub wrote_earlier : final layout marks owner deaf_node m ≡ wrote ports earlier
  pub one_later : c ≡ earlier + 1
  pub no_flag : has ports q ≡ false
  pub marked : is_marked (marks m q) ≡ true
  pub mixed : is_up (marks m q) ≡ true → all_up marks m ports ≡ false

-- The flag that port p of node n got in cycle c, and the far end that sent it.
pub record Came (layout : Layout) (marks : Marks) (owner : ℕ) (deaf_node : ℕ → Bool) (n p c : ℕ) : Type 0 where
  pub node : ℕ
  pub port : ℕ
  pub cable : layout.far n p ≡ Some (node, port)
  pub sender : OwnerSent marks owner node port c ⊎ PassedOn layout marks owner deaf_node node port c

-- What a flag that arrives at port p of node n in cycle c finds or leaves there: an entry of that
-- cycle that has the port, or an earlier one.
pub record Arrived (layout : Layout) (marks : Marks) (owner : ℕ) (deaf_node : ℕ → Bool) (n p c : ℕ) : Type 0 where
  pub ports : Ports
  pub when : ℕ
  pub wrote_when : final layout marks owner deaf_node n ≡ wrote ports when
  pub not_later : when ≤ c
  pub has_if_now : when ≡ c → has ports p ≡ true

module _ (layout : Layout) (sound : Sound layout) (marks : Marks) (owner : ℕ) (owner_in : owner < layout.count) (deaf_node : ℕ → Bool) where
  -- Counts: each cycle reaches someone new, and the owner is not new.
  pub cycles_few : (spread layout marks owner deaf_node).cycles + 1 ≤ layout.count
  cycles_few =
      omega (
        arith,
        left_after layout marks owner deaf_node owner_in (spread layout marks owner deaf_node).cycles
            (λ j below. (ends layout marks owner deaf_node).each j (omega arith) below),
      )

  -- So the broadcast stops since the next cycle reaches nobody, and not for want of fuel.
  next_reaches_none : reached (suc (spread layout marks owner deaf_node).cycles) (cells_at layout marks owner deaf_node (suc (spread layout marks owner deaf_node).cycles)) ≡ false
  next_reaches_none = go (ends layout marks owner deaf_node).stops
    where
      k : ℕ
      k = (spread layout marks owner deaf_node).cycles

      go : (k ≡ 0 + layout.count) ⊎ (reached (suc k) (cells_at layout marks owner deaf_node (suc k)) ≡ false) → reached (suc k) (cells_at layout marks owner deaf_node (suc k)) ≡ false
      go (inl out) = absurd (omega (arith, cycles_few))
      go (inr none) = none

  -- After the last cycle nothing changes.
  at_quiet : (j : ℕ) → (spread layout marks owner deaf_node).cycles ≤ j → (n : ℕ) → at layout marks owner deaf_node (suc j) n ≡ at layout marks owner deaf_node j n
  at_quiet zero le n = at_stays layout marks owner deaf_node 0 n (λ ports e. reached_false 1 (cells_at layout marks owner deaf_node 1) n ports none e)
    where
      same : (spread layout marks owner deaf_node).cycles ≡ 0
      same = omega arith

      none : reached 1 (cells_at layout marks owner deaf_node 1) ≡ false
      none = rw same at next_reaches_none
  at_quiet (suc j) le n = go (cases_eq (spread layout marks owner deaf_node).cycles (suc j)) (at_quiet j)
    where
      go : ((spread layout marks owner deaf_node).cycles ≡ suc j) ⊎ ((spread layout marks owner deaf_node).cycles ≡ suc j → ⊥) →
          ((spread layout marks owner deaf_node).cycles ≤ j → (m : ℕ) → at layout marks owner deaf_node (suc j) m ≡ at layout marks owner deaf_node j m) →
          at layout marks owner deaf_node (suc (suc j)) n ≡ at layout marks owner deaf_node (suc j) n
      go (inl same) last = at_stays layout marks owner deaf_node (suc j) n (λ ports e. reached_false (suc (suc j)) (cells_at layout marks owner deaf_node (suc (suc j))) n ports (rw same at next_reaches_none) e)
      go (inr other) last = at_still layout marks owner deaf_node j (last (omega arith)) n

  pub final_at : (n : ℕ) → final layout marks owner deaf_node n ≡ at layout marks owner deaf_node (spread layout marks owner deaf_node).cycles n
  final_at n = ap (λ cells. cell_of cells n) (ends layout marks owner deaf_node).cells_are

  pub at_after : (j n : ℕ) → (spread layout marks owner deaf_node).cycles ≤ j → at layout marks owner deaf_node j n ≡ final layout marks owner deaf_node n
  at_after zero n le =
      let same : (spread layout marks owner deaf_node).cycles ≡ 0 = omega arith in
      sym (rw same at (final_at n))
  at_after (suc j) n le = go (cases_eq (spread layout marks owner deaf_node).cycles (suc j)) (at_after j n)
    where
      go : ((spread layout marks owner deaf_node).cycles ≡ suc j) ⊎ ((spread layout marks owner deaf_node).cycles ≡ suc j → ⊥) →
          ((spread layout marks owner deaf_node).cycles ≤ j → at layout marks owner deaf_node j n ≡ final layout marks owner deaf_node n) →
          at layout marks owner deaf_node (suc j) n ≡ final layout marks owner deaf_node n
      go (inl same) last = sym (rw same at (final_at n))
      go (inr other) last = at_quiet j (omega arith) n ∙ last (omega arith)

  -- What is written stays to the end, and what is there at the end was written in its cycle.
  pub written : (k n : ℕ) (ports : Ports) (c : ℕ) → at layout marks owner deaf_node k n ≡ wrote ports c → final layout marks owner deaf_node n ≡ wrote ports c
  written k n ports c e = go (cases_lt (spread layout marks owner deaf_node).cycles k)
    where
      go : ((spread layout marks owner deaf_node).cycles < k) ⊎ (k ≤ (spread layout marks owner deaf_node).cycles) → final layout marks owner deaf_node n ≡ wrote ports c
      go (inl past) = sym (at_after k n (omega arith)) ∙ e
      go (inr within) = final_at n ∙ at_keeps layout marks owner deaf_node k (spread layout marks owner deaf_node).cycles n ports c within e

  pub wrote_born : (n : ℕ) (ports : Ports) (c : ℕ) → final layout marks owner deaf_node n ≡ wrote ports c →
      (b : ℕ) × (c ≡ suc b) × (c ≤ (spread layout marks owner deaf_node).cycles) × Born layout marks owner deaf_node n ports b
  wrote_born n ports c e = at_born layout marks owner deaf_node (spread layout marks owner deaf_node).cycles n ports c (sym (final_at n) ∙ e)

  -- Who writes

  pub final_owner : final layout marks owner deaf_node owner ≡ deaf
  final_owner = final_at owner ∙ at_deaf layout marks owner deaf_node (spread layout marks owner deaf_node).cycles owner owner_in (or_left (eqb owner owner) (deaf_node owner) (eq-eqb owner owner refl))

  pub final_deaf : (n : ℕ) → n < layout.count → deaf_node n ≡ true → final layout marks owner deaf_node n ≡ deaf
  final_deaf n below e = final_at n ∙ at_deaf layout marks owner deaf_node (spread layout marks owner deaf_node).cycles n below (or_right (eqb n owner) (deaf_node n) e)

  pub wrote_heard : (n : ℕ) (ports : Ports) (c : ℕ) → final layout marks owner deaf_node n ≡ wrote ports c →
      (n < layout.count) × (n ≡ owner → ⊥) × (deaf_node n ≡ false)
  wrote_heard n ports c e = (inside, (λ same. deaf_wrote _ ports c final_owner (rw same at e)), go (cases_Bool (deaf_node n)))
    where
      inside : n < layout.count
      inside = (wrote_born n ports c e).3.inside

      go : (deaf_node n ≡ true) ⊎ (deaf_node n ≡ false) → deaf_node n ≡ false
      go (inl x) = absurd (deaf_wrote _ ports c (final_deaf n inside x) e)
      go (inr x) = x

  -- What is written

  pub wrote_port : (n : ℕ) (ports : Ports) (c : ℕ) → final layout marks owner deaf_node n ≡ wrote ports c → (p : ℕ) × (has ports p ≡ true)
  wrote_port n ports c e = let flag = some_port_has ports (wrote_born n ports c e).3.some_flag in (flag.0, flag.2)

  pub wrote_port_below : (n : ℕ) (ports : Ports) (c p : ℕ) → final layout marks owner deaf_node n ≡ wrote ports c → has ports p ≡ true → p < 4
  wrote_port_below n ports c p e h = let born = wrote_born n ports c e in (born_flag layout marks owner deaf_node n ports born.0 p born.3 h).0

  pub wrote_count : (n : ℕ) (ports : Ports) (c : ℕ) → final layout marks owner deaf_node n ≡ wrote ports c → (1 ≤ c) × (c < layout.count)
  wrote_count n ports c e = let born = wrote_born n ports c e in (omega (arith, born.1), omega (arith, born.2, cycles_few))

  -- The flag that came to each port.
  pub wrote_from : (n : ℕ) (ports : Ports) (c p : ℕ) → final layout marks owner deaf_node n ≡ wrote ports c → has ports p ≡ true → Came layout marks owner deaf_node n p c
  wrote_from n ports c p e h = record { node = got.0; port = got.1; cable = got.2; sender = sender (cases_eq got.0 owner) }
    where
      b : ℕ
      b = (wrote_born n ports c e).0

      c_is : c ≡ suc b
      c_is = (wrote_born n ports c e).1

      cells : List Cell
      cells = cells_at layout marks owner deaf_node b

      got : (m : ℕ) × (q : ℕ) × (layout.far n p ≡ Some (m, q)) × (sends marks owner b cells m q ≡ true)
      got = gets_what layout marks owner b cells n p (born_flag layout marks owner deaf_node n ports b p (wrote_born n ports c e).3 h).1

      sender : (got.0 ≡ owner) ⊎ (got.0 ≡ owner → ⊥) → OwnerSent marks owner got.0 got.1 c ⊎ PassedOn layout marks owner deaf_node got.0 got.1 c
      sender (inl same) = inl (record { is_owner = same; first_cycle = omega (arith, c_is, at_start); owner_marked = rw same at sent.1 })
        where
          sent : (eqb b 0 ≡ true) × (is_marked (marks got.0 got.1) ≡ true)
          sent = and_parts (eqb b 0) (is_marked (marks got.0 got.1)) (sym (owner_sends marks owner b cells got.0 got.1 same) ∙ got.3)

          at_start : b ≡ 0
          at_start = eqb-true b 0 sent.0
      sender (inr other) = inr (record {
        not_owner = other;
        ports = on.ports;
        earlier = b;
        wrote_earlier = written b got.0 on.ports b on.wrote_now;
        one_later = omega (arith, c_is);
        no_flag = on.no_flag;
        marked = on.marked;
        mixed = on.mixed;
      })
        where
          on : SendsOn marks b cells got.0 got.1
          on = sends_what marks owner b cells got.0 got.1 other got.3

  -- A way on: a packet that comes back over the flag's cable finds a permitted turn.
  pub wrote_turn : (m q c : ℕ) (by : PassedOn layout marks owner deaf_node m q c) → ((p : ℕ) → has by.ports p ≡ true → is_marked (marks m p) ≡ true) →
      (p : ℕ) × (has by.ports p ≡ true) × (turn (marks m q) (marks m p) ≡ true)
  unfolding turn
  wrote_turn m q c by all-marked = go (cases_Bool (is_up (marks m q)))
    where
      turns : (p : ℕ) → has by.ports p ≡ true → (is_up (marks m q) && is_up (marks m p)) ≡ false → turn (marks m q) (marks m p) ≡ true
      turns p h one = and_from (is_marked (marks m q) && is_marked (marks m p)) _ (and_from (is_marked (marks m q)) _ by.marked (all-marked p h)) (not_from_false _ one)

      go : (is_up (marks m q) ≡ true) ⊎ (is_up (marks m q) ≡ false) → (p : ℕ) × (has by.ports p ≡ true) × (turn (marks m q) (marks m p) ≡ true)
      go (inl up) =
          let found = all_up_false marks m by.ports (by.mixed up) in
          (found.0, found.2, turns found.0 found.2 (and_right (is_up (marks m q)) _ found.3))
      go (inr not_up) =
          let found = wrote_port m by.ports by.earlier by.wrote_earlier in
          (found.0, found.1, turns found.0 found.1 (and_left (is_up (marks m q)) _ not_up))

  pub deaf_who : (n : ℕ) → final layout marks owner deaf_node n ≡ deaf → (n ≡ owner) ⊎ (deaf_node n ≡ true)
  deaf_who n e = go (cases_eq n owner) (cases_Bool (deaf_node n))
    where
      go : (n ≡ owner) ⊎ (n ≡ owner → ⊥) → (deaf_node n ≡ true) ⊎ (deaf_node n ≡ false) → (n ≡ owner) ⊎ (deaf_node n ≡ true)
      go (inl same) w = inl same
      go (inr other) (inl ignores) = inr ignores
      go (inr other) (inr hears) = absurd (at_hears layout marks owner deaf_node (spread layout marks owner deaf_node).cycles n (or_from (eqb n owner) (deaf_node n) (ne_eqb n owner other) hears) (sym (final_at n) ∙ e))

  -- An entry is there from its cycle on.
  pub wrote_then : (n : ℕ) (ports : Ports) (c : ℕ) → final layout marks owner deaf_node n ≡ wrote ports c → at layout marks owner deaf_node c n ≡ wrote ports c
  wrote_then n ports c e = rw found.1 (at_suc layout marks owner deaf_node found.0 n found.3.inside ∙ now ∙ ap (λ w. wrote w (suc found.0)) (sym found.3.ports_are))
    where
      found : (b : ℕ) × (c ≡ suc b) × (c ≤ (spread layout marks owner deaf_node).cycles) × Born layout marks owner deaf_node n ports b
      found = wrote_born n ports c e

      now : next_cell layout marks owner found.0 (cells_at layout marks owner deaf_node found.0) n
          ≡ wrote (ports_where (gets layout marks owner found.0 (cells_at layout marks owner deaf_node found.0) n)) (suc found.0)
      now = next_reached layout marks owner found.0 (cells_at layout marks owner deaf_node found.0) n found.3.waited (ap some_port (sym found.3.ports_are) ∙ found.3.some_flag)

  pub got_arrives : (n p c : ℕ) → p < 4 → n < layout.count → (n ≡ owner → ⊥) → deaf_node n ≡ false →
      gets layout marks owner c (cells_at layout marks owner deaf_node c) n p ≡ true → Arrived layout marks owner deaf_node n p (suc c)
  got_arrives n p c port-below below other hears flag = go (at layout marks owner deaf_node c n) refl
    where
      cells : List Cell
      cells = cells_at layout marks owner deaf_node c

      flags : Ports
      flags = ports_where (gets layout marks owner c cells n)

      go : (cell : Cell) → cell_of cells n ≡ cell → Arrived layout marks owner deaf_node n p (suc c)
      go waiting was = record {
        ports = flags;
        when = suc c;
        wrote_when = written (suc c) n flags (suc c) (at_suc layout marks owner deaf_node c n below ∙ next_reached layout marks owner c cells n was (where_some (gets layout marks owner c cells n) p port-below flag));
        not_later = omega arith;
        has_if_now = λ now. where_at (gets layout marks owner c cells n) p port-below ∙ flag;
      }
      go deaf was = absurd (at_hears layout marks owner deaf_node c n (or_from (eqb n owner) (deaf_node n) (ne_eqb n owner other) hears) was)
      go (wrote ports k) was = record {
        ports = ports;
        when = k;
        wrote_when = written c n ports k was;
        not_later = omega (arith, (at_born layout marks owner deaf_node c n ports k was).2);
        has_if_now = λ now. absurd (omega (arith, (at_born layout marks owner deaf_node c n ports k was).2));
      }

  -- A flag that is sent arrives, unless the far end ignores flags.
  pub arrives : (n p m q c : ℕ) → layout.far n p ≡ Some (m, q) → OwnerSent marks owner m q c ⊎ PassedOn layout marks owner deaf_node m q c →
      (n ≡ owner → ⊥) → deaf_node n ≡ false → Arrived layout marks owner deaf_node n p c
  arrives n p m q c cable sender other hears = go sender
    where
      ends_in : (n < layout.count) × (p < 4)
      ends_in = sound.in_range m q n p (sound.returns n p m q cable)

      go : OwnerSent marks owner m q c ⊎ PassedOn layout marks owner deaf_node m q c → Arrived layout marks owner deaf_node n p c
      go (inl sent) = rw sent.first_cycle (got_arrives n p 0 ends_in.1 ends_in.0 other hears
          (gets_since layout marks owner 0 (cells_at layout marks owner deaf_node 0) n p m q cable
          ∙ owner_sends marks owner 0 (cells_at layout marks owner deaf_node 0) m q sent.is_owner
          ∙ and_from (eqb 0 0) (is_marked (marks m q)) refl (rw sent.is_owner sent.owner_marked)))
      go (inr sent) =
          let next : c ≡ suc sent.earlier = omega (arith, sent.one_later) in
          rw next (got_arrives n p sent.earlier ends_in.1 ends_in.0 other hears
          (gets_since layout marks owner sent.earlier (cells_at layout marks owner deaf_node sent.earlier) n p m q cable
          ∙ sends_since marks owner sent.earlier (cells_at layout marks owner deaf_node sent.earlier) m q sent.not_owner (record {
            ports = sent.ports;
            wrote_now = wrote_then m sent.ports sent.earlier sent.wrote_earlier;
            no_flag = sent.no_flag;
            marked = sent.marked;
            mixed = sent.mixed;
          })))
