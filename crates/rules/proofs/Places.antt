-- Where packets stand: which port has one, and lists in which no two share a port.
use Rattle.std.proofs.Common.{◌≡◌, ℕ, Bool, true, false, eqb, ◌⊎◌, List, [], ◌∷◌, ◌++◌, sym, refl, ap, ◌∙◌, inl, inr, Some, None, Option}
use Rattle.std.specs.List.{ContainsAt as Has}
use Rattle.std.proofs.lemmas.Bool.{both_ways, and_parts, or_cases, or_parts, eqb-true}
use Rattle.std.proofs.ByRecursion.{has_append_left, has_append_right}
use Rattle.rules.specs.declared.Packet.{Packet}
use Rattle.rules.specs.Flood.{is_marked}
use Rattle.rules.specs.State.{Node, mark_of}
use Rattle.rules.specs.Step.{permitted, stands_at, taken, moved_to}
use Rattle.rules.proofs.Invariant.{Apart}
use Rattle.rules.proofs.Members.{has_none, has_first, has_later, has_cases, has_append_cases}
use Rattle.rules.proofs.Rank.{turn_to_marked}

-- A port that a packet may take is marked.
pub permitted_marked : (nodes : List Node) (n : ℕ) (from : Option ℕ) (p : ℕ) → permitted nodes n from p ≡ true →
    is_marked (mark_of nodes n p) ≡ true
unfolding permitted
permitted_marked nodes n None p may = may
permitted_marked nodes n (Some a) p may = turn_to_marked (mark_of nodes n a) (mark_of nodes n p) may

-- One packet

pub stands_node : (n p : ℕ) (x : Packet) → stands_at n p x ≡ true → x.node ≡ n
unfolding stands_at
stands_node n p x h = eqb-true x.node n (and_parts (eqb x.node n) (elim x.standing [ None ↦ false | Some q ↦ eqb q p ]) h).0

pub stands_port : (n p : ℕ) (x : Packet) → stands_at n p x ≡ true → x.standing ≡ Some p
unfolding stands_at
stands_port n p x h = go x.standing refl (and_parts (eqb x.node n) (elim x.standing [ None ↦ false | Some q ↦ eqb q p ]) h).1
  where
    go : (where' : Option ℕ) → x.standing ≡ where' → (elim where' as (λ z. Bool) [ None ↦ false | Some q ↦ eqb q p ]) ≡ true → x.standing ≡ Some p
    go None is e = absurd (both_ways false refl e)
    go (Some q) is e = is ∙ ap Some (eqb-true q p e)

pub stands_moved : (n p m q : ℕ) (x : Packet) → stands_at n p (moved_to m q x) ≡ true → (n ≡ m) × (p ≡ q)
unfolding stands_at
stands_moved n p m q x h =
    let parts = and_parts (eqb m n) (eqb q p) h in
    (sym (eqb-true m n parts.0), sym (eqb-true q p parts.1))

-- A list of packets

pub taken_by : (n p : ℕ) (xs : List Packet) → taken n p xs ≡ true → (x : Packet) × Has xs x × (stands_at n p x ≡ true)
unfolding taken
taken_by n p [] h = absurd (both_ways false refl h)
taken_by n p (x ∷ xs) h = go (λ k. taken_by n p xs k) (or_cases (stands_at n p x) (taken n p xs) h)
  where
    go : (taken n p xs ≡ true → (y : Packet) × Has xs y × (stands_at n p y ≡ true)) →
        (stands_at n p x ≡ true) ⊎ (taken n p xs ≡ true) → (y : Packet) × Has (x ∷ xs) y × (stands_at n p y ≡ true)
    go again (inl here) = (x, has_first x xs, here)
    go again (inr later) = let found = again later in (found.0, has_later x xs found.0 found.1, found.2)

pub not_taken : (n p : ℕ) (xs : List Packet) → taken n p xs ≡ false → (x : Packet) → Has xs x → stands_at n p x ≡ true → ⊥
unfolding taken
not_taken n p [] free x h stands = has_none x h
not_taken n p (y ∷ xs) free x h stands =
    go (λ k. not_taken n p xs (or_parts (stands_at n p y) (taken n p xs) free).1 x k stands) (has_cases y xs x h)
  where
    go : (Has xs x → ⊥) → (y ≡ x) ⊎ Has xs x → ⊥
    go again (inl e) =
        both_ways (stands_at n p x) (rw e at (or_parts (stands_at n p y) (taken n p xs) free).0) stands
    go again (inr k) = again k

pub has_around : {X : Type 0} (front : List X) (x : X) (old : List X) (y : X) → Has (front ++ old) y → Has (front ++ x ∷ old) y
has_around front x old y h = go (has_append_cases front old y h)
  where
    go : Has front y ⊎ Has old y → Has (front ++ x ∷ old) y
    go (inl k) = has_append_left front (x ∷ old) y k
    go (inr k) = has_append_right front (x ∷ old) y (has_later x old y k)

pub has_around_cases : {X : Type 0} (front : List X) (x : X) (old : List X) (y : X) → Has (front ++ x ∷ old) y → (x ≡ y) ⊎ Has (front ++ old) y
has_around_cases front x old y h = go (has_append_cases front (x ∷ old) y h)
  where
    at : (x ≡ y) ⊎ Has old y → (x ≡ y) ⊎ Has (front ++ old) y
    at (inl e) = inl e
    at (inr k) = inr (has_append_right front old y k)

    go : Has front y ⊎ Has (x ∷ old) y → (x ≡ y) ⊎ Has (front ++ old) y
    go (inl k) = inr (has_append_left front old y k)
    go (inr k) = at (has_cases x old y k)

-- Two packets that stand at no port together.
abbrev pub ApartFrom : Packet → List Packet → Type 0
ApartFrom x xs = (y : Packet) (n p : ℕ) → Has xs y → stands_at n p x ≡ true → stands_at n p y ≡ true → ⊥

pub apart_without : (front : List Packet) (x : Packet) (old : List Packet) → Apart (front ++ x ∷ old) → Apart (front ++ old)
apart_without [] x old apart = apart.1
apart_without (z ∷ front) x old apart =
    ((λ y n p h. apart.0 y n p (has_around front x old y h)), apart_without front x old apart.1)

pub apart_with : (front : List Packet) (x : Packet) (old : List Packet) → Apart (front ++ old) → ApartFrom x (front ++ old) → Apart (front ++ x ∷ old)
apart_with [] x old apart from = (from, apart)
apart_with (z ∷ front) x old apart from =
    (one, apart_with front x old apart.1 (λ y n p h. from y n p (has_later z (front ++ old) y h)))
  where
    one : ApartFrom z (front ++ x ∷ old)
    one y n p h here there = go (has_around_cases front x old y h)
      where
        go : (x ≡ y) ⊎ Has (front ++ old) y → ⊥
        go (inl e) = from z n p (has_first z (front ++ old)) (rw e there) here
        go (inr k) = apart.0 y n p k here there
