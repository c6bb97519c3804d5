-- Counts of the packets at each port: one packet more, one packet fewer, and whether there is any.
use Rattle.std.proofs.Common.{◌≡◌, ℕ, ◌+◌, ◌-◌, ◌<◌, ◌≤◌, Bool, true, false, cond, not, ◌&&◌, ◌||◌, eqb, ◌⊎◌, List, [], ◌∷◌, ◌++◌, length, get_or, take, set, replicate, Some, None, Option, sym, refl, ap, ◌∙◌, subst, inl, inr, arith}
use Rattle.std.proofs.lemmas.List.{get_or-set_same, get_or-set_other, get_or-replicate, length-replicate, take_more, append-nil}
use Rattle.std.proofs.lemmas.Bool.{cases_eq, eq-eqb, ne_eqb, and_right, and_left, and_from}
use Rattle.rules.specs.declared.Packet.{Packet}
use Rattle.rules.specs.Step.{stands_at, taken}
use Rattle.traffic.specs.Inside.{Inside}
use Rattle.traffic.specs.Occupied.{one_at, standing_at, Counts, Room, CountedIn, Arrives}
use Rattle.traffic.specs.declared.types.Occupancy.{Occupancy}

-- One packet

abbrev at_port : ℕ → Option ℕ → Bool
at_port p None = false
at_port p (Some q) = eqb q p

module _ (n p : ℕ) (x : Packet) where
  stands : stands_at n p x ≡ (eqb x.node n && at_port p x.standing)
  unfolding stands_at
  stands = go x.standing
    where
      go : (s : Option ℕ) → (eqb x.node n && elim s [ None ↦ false | Some q ↦ eqb q p ]) ≡ (eqb x.node n && at_port p s)
      go None = refl
      go (Some q) = refl

  pub none_at_home : ((q : ℕ) → x.standing ≡ Some q → ⊥) → one_at n p x ≡ 0
  none_at_home home = ap (λ (b : Bool). cond b 1 0)
      (stands ∙ and_right (eqb x.node n) (at_port p x.standing) (go x.standing home))
    where
      go : (s : Option ℕ) → ((q : ℕ) → s ≡ Some q → ⊥) → at_port p s ≡ false
      go None h = refl
      go (Some q) h = absurd (h q refl)

  pub one_here : x.node ≡ n → x.standing ≡ Some p → one_at n p x ≡ 1
  one_here e s = ap (λ (b : Bool). cond b 1 0)
      (stands ∙ and_from (eqb x.node n) (at_port p x.standing) (eq-eqb x.node n e) (ap (at_port p) s ∙ eq-eqb p p refl))

  pub none_elsewhere : (q : ℕ) → x.standing ≡ Some q → (n ≡ x.node → p ≡ q → ⊥) → one_at n p x ≡ 0
  none_elsewhere q s apart = ap (λ (b : Bool). cond b 1 0) (stands ∙ go (cases_eq x.node n))
    where
      go : (x.node ≡ n) ⊎ (x.node ≡ n → ⊥) → (eqb x.node n && at_port p x.standing) ≡ false
      go (inl e) =
          and_right (eqb x.node n) (at_port p x.standing)
          (ap (at_port p) s ∙ ne_eqb q p (λ f. apart (sym e) (sym f)))
      go (inr e) = and_left (eqb x.node n) (at_port p x.standing) (ne_eqb x.node n e)

-- A list of packets

module _ (n p : ℕ) where
  pub standing_among : (xs : List Packet) (x : Packet) (ys : List Packet) →
      standing_at n p (xs ++ x ∷ ys) ≡ one_at n p x + standing_at n p (xs ++ ys)
  unfolding standing_at
  standing_among [] x ys = refl
  standing_among (z ∷ xs) x ys =
      let e : standing_at n p (xs ++ x ∷ ys) ≡ one_at n p x + standing_at n p (xs ++ ys) = standing_among xs x ys in
      omega arith

  one_most : (x : Packet) → one_at n p x ≤ 1
  one_most x = go (stands_at n p x)
    where
      go : (b : Bool) → cond {A = ℕ} b 1 0 ≤ 1
      go true = omega arith
      go false = omega arith

  pub standing_few : (xs : List Packet) → standing_at n p xs ≤ length xs
  unfolding standing_at
  standing_few [] = omega arith
  standing_few (x ∷ xs) = omega (arith, one_most x, standing_few xs)

  pub empty_there : (xs : List Packet) → eqb (standing_at n p xs) 0 ≡ not (taken n p xs)
  unfolding standing_at taken
  empty_there [] = refl
  empty_there (x ∷ xs) = go (stands_at n p x) (empty_there xs)
    where
      go : (b : Bool) → eqb (standing_at n p xs) 0 ≡ not (taken n p xs) →
          eqb (cond b 1 0 + standing_at n p xs) 0 ≡ not (b || taken n p xs)
      go true e = ne_eqb (1 + standing_at n p xs) 0 (λ e. omega arith)
      go false e =
          let same : 0 + standing_at n p xs ≡ standing_at n p xs = omega arith in
          ap (λ (k : ℕ). eqb k 0) same ∙ e

-- The place of a port in a table of counts

abbrev cell : List (List ℕ) → ℕ → ℕ → ℕ
cell counts n p = get_or (get_or counts n []) p 0

abbrev stored : List (List ℕ) → ℕ → ℕ → ℕ → List (List ℕ)
stored counts n p v = set counts n (set (get_or counts n []) p v)

abbrev Fours : List (List ℕ) → Type 0
Fours counts = (k : ℕ) → k < 64 → length (get_or counts k []) ≡ 4

pub fours_none : Fours (replicate 64 (replicate 4 0))
fours_none k h = ap length (get_or-replicate 64 k (replicate 4 0) [] h) ∙ length-replicate {A = ℕ} 4 0

module _ (counts : List (List ℕ)) (x : Packet) (q : ℕ) (there : x.standing ≡ Some q) (low : q < 4)
    (within : x.node < length counts) (wide : length (get_or counts x.node []) ≡ 4) where
  here_or_not : (n p : ℕ) → ((n ≡ x.node) × (p ≡ q)) ⊎ (n ≡ x.node → p ≡ q → ⊥)
  here_or_not n p = go (cases_eq n x.node) (cases_eq p q)
    where
      go : (n ≡ x.node) ⊎ (n ≡ x.node → ⊥) → (p ≡ q) ⊎ (p ≡ q → ⊥) → ((n ≡ x.node) × (p ≡ q)) ⊎ (n ≡ x.node → p ≡ q → ⊥)
      go (inl e) (inl f) = inl (e, f)
      go (inl e) (inr f) = inr (λ e' f'. f f')
      go (inr e) other = inr (λ e' f'. e e')

  stored_here : (n p v : ℕ) → n ≡ x.node → p ≡ q → cell (stored counts x.node q v) n p ≡ v
  stored_here n p v e f =
      ap (λ (m : ℕ). cell (stored counts x.node q v) m p) e
      ∙ ap (λ (r : ℕ). cell (stored counts x.node q v) x.node r) f
      ∙ ap (λ (row : List ℕ). get_or row q 0) (get_or-set_same counts x.node (set (get_or counts x.node []) q v) [] within)
      ∙ get_or-set_same (get_or counts x.node []) q v 0 (omega arith)

  stored_there : (n p v : ℕ) → (n ≡ x.node → p ≡ q → ⊥) → cell (stored counts x.node q v) n p ≡ cell counts n p
  stored_there n p v apart = go (cases_eq n x.node)
    where
      go : (n ≡ x.node) ⊎ (n ≡ x.node → ⊥) → cell (stored counts x.node q v) n p ≡ cell counts n p
      go (inl e) =
          ap (λ (m : ℕ). cell (stored counts x.node q v) m p) e
          ∙ ap (λ (row : List ℕ). get_or row p 0) (get_or-set_same counts x.node (set (get_or counts x.node []) q v) [] within)
          ∙ get_or-set_other (get_or counts x.node []) q p v 0 (apart e)
          ∙ sym (ap (λ (m : ℕ). cell counts m p) e)
      go (inr e) = ap (λ (row : List ℕ). get_or row p 0) (get_or-set_other counts x.node n (set (get_or counts x.node []) q v) [] e)

  pub one_more : (n p : ℕ) → cell (stored counts x.node q (cell counts x.node q + 1)) n p ≡ one_at n p x + cell counts n p
  one_more n p = go (here_or_not n p)
    where
      go : ((n ≡ x.node) × (p ≡ q)) ⊎ (n ≡ x.node → p ≡ q → ⊥) →
          cell (stored counts x.node q (cell counts x.node q + 1)) n p ≡ one_at n p x + cell counts n p
      go (inl e) =
          let one : one_at n p x ≡ 1 = one_here n p x (sym e.0) (there ∙ ap (λ (k : ℕ). Some k) (sym e.1)) in
          let was : cell counts n p ≡ cell counts x.node q = ap (λ (m : ℕ). cell counts m p) e.0 ∙ ap (λ (r : ℕ). cell counts x.node r) e.1 in
          stored_here n p (cell counts x.node q + 1) e.0 e.1 ∙ omega arith
      go (inr e) =
          let none : one_at n p x ≡ 0 = none_elsewhere n p x q there e in
          stored_there n p (cell counts x.node q + 1) e ∙ omega arith

  pub one_fewer : (n p : ℕ) → 1 ≤ cell counts x.node q →
      one_at n p x + cell (stored counts x.node q (cell counts x.node q - 1)) n p ≡ cell counts n p
  one_fewer n p some = go (here_or_not n p)
    where
      go : ((n ≡ x.node) × (p ≡ q)) ⊎ (n ≡ x.node → p ≡ q → ⊥) →
          one_at n p x + cell (stored counts x.node q (cell counts x.node q - 1)) n p ≡ cell counts n p
      go (inl e) =
          let one : one_at n p x ≡ 1 = one_here n p x (sym e.0) (there ∙ ap (λ (k : ℕ). Some k) (sym e.1)) in
          let was : cell counts n p ≡ cell counts x.node q = ap (λ (m : ℕ). cell counts m p) e.0 ∙ ap (λ (r : ℕ). cell counts x.node r) e.1 in
          let is = stored_here n p (cell counts x.node q - 1) e.0 e.1 in
          omega arith
      go (inr e) =
          let none : one_at n p x ≡ 0 = none_elsewhere n p x q there e in
          let is = stored_there n p (cell counts x.node q - 1) e in
          omega arith

-- Occupancies

pub empty_counted : (occupancy : Occupancy) (n p : ℕ) (xs : List Packet) → Counts occupancy xs → n < 64 → p < 4 →
    eqb (cell occupancy.standing n p) 0 ≡ not (taken n p xs)
empty_counted occupancy n p xs counts h k = ap (λ (c : ℕ). eqb c 0) (counts n p h k) ∙ empty_there n p xs

pub room_for_few : (occupancy : Occupancy) (xs : List Packet) → Counts occupancy xs → length xs < 65535 → Room occupancy
room_for_few occupancy xs h few n p l k = omega (arith, h n p l k, standing_few n p xs)

pub counted_in : (occupancy : Occupancy) (xs : List Packet) (x : Packet) (ys : List Packet) → Inside x →
    Counts occupancy (xs ++ x ∷ ys) → CountedIn occupancy x
counted_in occupancy xs x ys inside h p s =
    let low : p < 4 = inside.1 p s in
    omega (arith, h x.node p inside.0 low, standing_among x.node p xs x ys, one_here x.node p x refl s)

pub counts_none : (n p : ℕ) → n < 64 → p < 4 → cell (replicate 64 (replicate 4 0)) n p ≡ standing_at n p []
unfolding standing_at
counts_none n p l k = ap (λ (row : List ℕ). get_or row p 0) (get_or-replicate 64 n (replicate 4 0) [] l) ∙ get_or-replicate 4 p 0 0 k

pub counts_push : (before after : Occupancy) (places : List Packet) (i : ℕ) (d : Packet) → i < length places →
    Arrives before (get_or places i d) after → Counts before (take i places) → Counts after (take (i + 1) places)
counts_push before after places i d h arrives counts =
    subst (Counts after) (sym (take_more places i d h))
    (arrives (take i places) [] (subst (Counts before) (sym (append-nil (take i places))) counts))
