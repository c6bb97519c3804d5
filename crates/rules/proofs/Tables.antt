-- Readings of sets of ports and of tables: what each port, and each place, of one is.
use Rattle.std.proofs.Common.{◌≡◌, ℕ, zero, suc, ◌<◌, ◌≤◌, Bool, true, false, not, ◌&&◌, ◌||◌, eqb, ◌⊎◌, length, get_or, refl, ◌∙◌, inl, inr, arith}
use lib.ListN.{get_or-eq_default}
use Rattle.std.proofs.lemmas.Bool.{both_ways, not-true, not-false, eqb-false, ne_eqb, and_parts, and_cases, or_cases, or_parts, or_left, or_right, cases_Bool}
use Rattle.std.proofs.lemmas.List.FromFn.{length-map-range_with_len, get_or-map-range_with_len}
use Rattle.rules.specs.Ports.{Ports, has, ports_where, some_port, without, table}
use Rattle.rules.specs.Flood.{Marks, is_up, all_up}

-- Tables

pub table_length : {X : Type 0} (n : ℕ) (f : ℕ → X) → length (table n f) ≡ n
unfolding table
table_length n f = length-map-range_with_len f 0 n

pub table_at : {X : Type 0} (n : ℕ) (f : ℕ → X) (i : ℕ) (d : X) → i < n → get_or (table n f) i d ≡ f i
unfolding table
table_at n f i d below = get_or-map-range_with_len f 0 n i i d below (omega arith)

pub table_past : {X : Type 0} (n : ℕ) (f : ℕ → X) (i : ℕ) (d : X) → n ≤ i → get_or (table n f) i d ≡ d
table_past n f i d past = get_or-eq_default (table n f) d (omega (arith, table_length n f))

-- Sets of ports

pub where_at : (f : ℕ → Bool) (p : ℕ) → p < 4 → has (ports_where f) p ≡ f p
unfolding ports_where
where_at f zero below = refl
where_at f (suc zero) below = refl
where_at f (suc (suc zero)) below = refl
where_at f (suc (suc (suc zero))) below = refl
where_at f (suc (suc (suc (suc p)))) below = absurd (omega arith)

pub where_past : (f : ℕ → Bool) (p : ℕ) → 4 ≤ p → has (ports_where f) p ≡ false
unfolding ports_where
where_past f zero past = absurd (omega arith)
where_past f (suc zero) past = absurd (omega arith)
where_past f (suc (suc zero)) past = absurd (omega arith)
where_past f (suc (suc (suc zero))) past = absurd (omega arith)
where_past f (suc (suc (suc (suc p)))) past = refl

-- A port of the set is a port, and the test holds of it.
pub where_has : (f : ℕ → Bool) (p : ℕ) → has (ports_where f) p ≡ true → (p < 4) × (f p ≡ true)
unfolding ports_where
where_has f zero e = (omega arith, e)
where_has f (suc zero) e = (omega arith, e)
where_has f (suc (suc zero)) e = (omega arith, e)
where_has f (suc (suc (suc zero))) e = (omega arith, e)
where_has f (suc (suc (suc (suc p)))) e = absurd (both_ways false refl e)

pub some_port_has : (ports : Ports) → some_port ports ≡ true → (p : ℕ) × (p < 4) × (has ports p ≡ true)
unfolding some_port
some_port_has ports e = three (or_cases (has ports 0 || has ports 1 || has ports 2) (has ports 3) e)
  where
    one : (has ports 0 ≡ true) ⊎ (has ports 1 ≡ true) → (p : ℕ) × (p < 4) × (has ports p ≡ true)
    one (inl h) = (0, omega arith, h)
    one (inr h) = (1, omega arith, h)

    two : ((has ports 0 || has ports 1) ≡ true) ⊎ (has ports 2 ≡ true) → (p : ℕ) × (p < 4) × (has ports p ≡ true)
    two (inl h) = one (or_cases (has ports 0) (has ports 1) h)
    two (inr h) = (2, omega arith, h)

    three : ((has ports 0 || has ports 1 || has ports 2) ≡ true) ⊎ (has ports 3 ≡ true) → (p : ℕ) × (p < 4) × (has ports p ≡ true)
    three (inl h) = two (or_cases (has ports 0 || has ports 1) (has ports 2) h)
    three (inr h) = (3, omega arith, h)

pub has_some_port : (ports : Ports) (p : ℕ) → p < 4 → has ports p ≡ true → some_port ports ≡ true
unfolding some_port
has_some_port ports zero below h = or_left (has ports 0 || has ports 1 || has ports 2) (has ports 3) (or_left (has ports 0 || has ports 1) (has ports 2) (or_left (has ports 0) (has ports 1) h))
has_some_port ports (suc zero) below h = or_left (has ports 0 || has ports 1 || has ports 2) (has ports 3) (or_left (has ports 0 || has ports 1) (has ports 2) (or_right (has ports 0) (has ports 1) h))
has_some_port ports (suc (suc zero)) below h = or_left (has ports 0 || has ports 1 || has ports 2) (has ports 3) (or_right (has ports 0 || has ports 1) (has ports 2) h)
has_some_port ports (suc (suc (suc zero))) below h = or_right (has ports 0 || has ports 1 || has ports 2) (has ports 3) h
has_some_port ports (suc (suc (suc (suc p)))) below h = absurd (omega arith)

pub where_some : (f : ℕ → Bool) (p : ℕ) → p < 4 → f p ≡ true → some_port (ports_where f) ≡ true
where_some f p below h = has_some_port (ports_where f) p below (where_at f p below ∙ h)

pub none_where : (f : ℕ → Bool) (p : ℕ) → some_port (ports_where f) ≡ false → p < 4 → f p ≡ false
none_where f p none below = go (cases_Bool (f p))
  where
    go : (f p ≡ true) ⊎ (f p ≡ false) → f p ≡ false
    go (inl h) = absurd (both_ways (some_port (ports_where f)) none (where_some f p below h))
    go (inr h) = h

-- A set less one port

pub without_at : (ports : Ports) (q p : ℕ) → p < 4 → has (without ports q) p ≡ (has ports p && not (eqb p q))
unfolding without
without_at ports q p below = where_at (λ r. has ports r && not (eqb r q)) p below

pub without_has : (ports : Ports) (q p : ℕ) → has (without ports q) p ≡ true → (p < 4) × (has ports p ≡ true) × (p ≡ q → ⊥)
unfolding without
without_has ports q p h =
    let here = where_has (λ r. has ports r && not (eqb r q)) p h in
    let parts = and_parts (has ports p) (not (eqb p q)) here.1 in
    (here.0, parts.0, eqb-false p q (not-true (eqb p q) parts.1))

pub without_other : (ports : Ports) (q p : ℕ) → p < 4 → (p ≡ q → ⊥) → has (without ports q) p ≡ has ports p
without_other ports q p below other = without_at ports q p below ∙ rw (ne_eqb p q other) (and_true' (has ports p))
  where
    and_true' : (b : Bool) → (b && not false) ≡ b
    and_true' true = refl
    and_true' false = refl

-- Whether all ports of a set are up

-- One port's part of `all_up`.
abbrev up_if_has : Marks → ℕ → Ports → ℕ → Bool
up_if_has marks n ports p = not (has ports p) || is_up (marks n p)

up_if_true : (marks : Marks) (n : ℕ) (ports : Ports) (p : ℕ) → up_if_has marks n ports p ≡ true → has ports p ≡ true → is_up (marks n p) ≡ true
up_if_true marks n ports p e h = go (or_cases (not (has ports p)) (is_up (marks n p)) e)
  where
    go : (not (has ports p) ≡ true) ⊎ (is_up (marks n p) ≡ true) → is_up (marks n p) ≡ true
    go (inl x) = absurd (both_ways (has ports p) (not-true (has ports p) x) h)
    go (inr x) = x

up_if_false : (marks : Marks) (n : ℕ) (ports : Ports) (p : ℕ) → up_if_has marks n ports p ≡ false → (has ports p ≡ true) × (is_up (marks n p) ≡ false)
up_if_false marks n ports p e =
    let parts = or_parts (not (has ports p)) (is_up (marks n p)) e in
    (not-false (has ports p) parts.0, parts.1)

pub all_up_true : (marks : Marks) (n : ℕ) (ports : Ports) (p : ℕ) → all_up marks n ports ≡ true → p < 4 → has ports p ≡ true → is_up (marks n p) ≡ true
unfolding all_up
all_up_true marks n ports p all below h = up_if_true marks n ports p (at p below) h
  where
    u : ℕ → Bool
    u r = up_if_has marks n ports r

    three : ((u 0 && u 1 && u 2) ≡ true) × (u 3 ≡ true)
    three = and_parts (u 0 && u 1 && u 2) (u 3) all

    two : ((u 0 && u 1) ≡ true) × (u 2 ≡ true)
    two = and_parts (u 0 && u 1) (u 2) three.0

    one : (u 0 ≡ true) × (u 1 ≡ true)
    one = and_parts (u 0) (u 1) two.0

    at : (r : ℕ) → r < 4 → u r ≡ true
    at zero less = one.0
    at (suc zero) less = one.1
    at (suc (suc zero)) less = two.1
    at (suc (suc (suc zero))) less = three.1
    at (suc (suc (suc (suc r)))) less = absurd (omega arith)

pub all_up_false : (marks : Marks) (n : ℕ) (ports : Ports) → all_up marks n ports ≡ false →
    (p : ℕ) × (p < 4) × (has ports p ≡ true) × (is_up (marks n p) ≡ false)
unfolding all_up
all_up_false marks n ports e = three (and_cases (u 0 && u 1 && u 2) (u 3) e)
  where
    u : ℕ → Bool
    u r = up_if_has marks n ports r

    Found : Type 0
    Found = (p : ℕ) × (p < 4) × (has ports p ≡ true) × (is_up (marks n p) ≡ false)

    at : (r : ℕ) → r < 4 → u r ≡ false → Found
    at r less x = (r, less, (up_if_false marks n ports r x).0, (up_if_false marks n ports r x).1)

    one : (u 0 ≡ false) ⊎ (u 1 ≡ false) → Found
    one (inl x) = at 0 (omega arith) x
    one (inr x) = at 1 (omega arith) x

    two : ((u 0 && u 1) ≡ false) ⊎ (u 2 ≡ false) → Found
    two (inl x) = one (and_cases (u 0) (u 1) x)
    two (inr x) = at 2 (omega arith) x

    three : ((u 0 && u 1 && u 2) ≡ false) ⊎ (u 3 ≡ false) → Found
    three (inl x) = two (and_cases (u 0 && u 1) (u 2) x)
    three (inr x) = at 3 (omega arith) x

pub not_all_up : (marks : Marks) (n : ℕ) (ports : Ports) (p : ℕ) → p < 4 → has ports p ≡ true → is_up (marks n p) ≡ false → all_up marks n ports ≡ false
not_all_up marks n ports p below h up = go (cases_Bool (all_up marks n ports))
  where
    go : (all_up marks n ports ≡ true) ⊎ (all_up marks n ports ≡ false) → all_up marks n ports ≡ false
    go (inl e) = absurd (both_ways (is_up (marks n p)) up (all_up_true marks n ports p e below h))
    go (inr e) = e
