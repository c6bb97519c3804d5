-- The laws of sets of ports: what a set holds, when two are equal, and when one is vacant.
use Rattle.std.proofs.Common.{◌≡◌, ℕ, zero, suc, ◌<◌, Bool, true, false, not, cond, eqb, ◌&&◌, ◌||◌, List, [], ◌∷◌, length, get_or, ◌+◌, refl, ap, ◌∙◌, sym, arith}
use Rattle.std.proofs.lemmas.Bool.{false≢true, true≢false}
use Rattle.std.proofs.lemmas.Bool.Decides.{nat_tests}
use Rattle.std.proofs.Math.Nat.{ℕ_set}
use Rattle.chooser.specs.declared.ports.PortSet.{PortSet}
use Rattle.std.specs.Prelude.{count_by}
use Rattle.chooser.specs.PortSets.{has, ports_where, vacant, bit, how_many}

four_told : (on : List Bool) (four : length on ≡ 4) → ◌≡◌ {A = PortSet} (record { on = on; four = four }) (ports_where (λ p. get_or on p false))
four_told (a ∷ b ∷ c ∷ d ∷ []) four = λ i. record { on = a ∷ b ∷ c ∷ d ∷ []; four = ℕ_set 4 4 four refl i }
four_told [] four = absurd (omega arith)
four_told (a ∷ []) four = absurd (omega arith)
four_told (a ∷ b ∷ []) four = absurd (omega arith)
four_told (a ∷ b ∷ c ∷ []) four = absurd (omega arith)
four_told (a ∷ b ∷ c ∷ d ∷ e ∷ on) four = absurd (omega arith)

-- a set is told by what it holds
pub told : (s : PortSet) → s ≡ ports_where (has s)
told s = four_told s.on s.four

pub has_where : (test : ℕ → Bool) (p : ℕ) → p < 4 → has (ports_where test) p ≡ test p
has_where test zero h = refl
has_where test (suc zero) h = refl
has_where test (suc (suc zero)) h = refl
has_where test (suc (suc (suc zero))) h = refl
has_where test (suc (suc (suc (suc p)))) h = absurd (omega arith)

has_past : (test : ℕ → Bool) (p : ℕ) → has (ports_where test) p ≡ true → p < 4
has_past test zero h = omega arith
has_past test (suc zero) h = omega arith
has_past test (suc (suc zero)) h = omega arith
has_past test (suc (suc (suc zero))) h = omega arith
has_past test (suc (suc (suc (suc p)))) h = absurd (false≢true h)

pub has_below : (s : PortSet) (p : ℕ) → has s p ≡ true → p < 4
has_below s p h = has_past (has s) p (ap (λ (t : PortSet). has t p) (sym (told s)) ∙ h)

pub where_same : (f g : ℕ → Bool) → ((p : ℕ) → p < 4 → f p ≡ g p) → ports_where f ≡ ports_where g
where_same f g h =
    let n = h 0 (omega arith) in
    let e = h 1 (omega arith) in
    let s = h 2 (omega arith) in
    let w = h 3 (omega arith) in
    cc

pub same_ports : (s t : PortSet) → ((p : ℕ) → p < 4 → has s p ≡ has t p) → s ≡ t
same_ports s t h = told s ∙ where_same (has s) (has t) h ∙ sym (told t)

pub told_by : (on : List Bool) (four : length on ≡ 4) (test : ℕ → Bool) → ((p : ℕ) → p < 4 → get_or on p false ≡ test p) → ◌≡◌ {A = PortSet} (record { on = on; four = four }) (ports_where test)
told_by on four test h = four_told on four ∙ where_same (λ p. get_or on p false) test h

-- adding a port, and taking one out, are marking it
pub added : (s : PortSet) (port : ℕ) → ports_where (λ p. cond (eqb p port) true (has s p)) ≡ ports_where (λ p. has s p || eqb p port)
added s port = where_same (λ p. cond (eqb p port) true (has s p)) (λ p. has s p || eqb p port) (λ p below. go (eqb p port) (has s p))
  where
    go : (is here : Bool) → cond is true here ≡ here || is
    go true true = refl
    go true false = refl
    go false true = refl
    go false false = refl

pub taken_out : (s : PortSet) (port : ℕ) → ports_where (λ p. cond (eqb p port) false (has s p)) ≡ ports_where (λ p. has s p && not (eqb p port))
taken_out s port = where_same (λ p. cond (eqb p port) false (has s p)) (λ p. has s p && not (eqb p port)) (λ p below. go (eqb p port) (has s p))
  where
    go : (is here : Bool) → cond is false here ≡ here && not is
    go true true = refl
    go true false = refl
    go false true = refl
    go false false = refl

pub has_not_vacant : (s : PortSet) (p : ℕ) → has s p ≡ true → vacant s ≡ false
has_not_vacant s p h = let b = has_below s p h in go p b h
  where
    go : (p : ℕ) → p < 4 → has s p ≡ true → vacant s ≡ false
    go zero b h = grind (arith, nat_tests)
    go (suc zero) b h = grind (arith, nat_tests)
    go (suc (suc zero)) b h = grind (arith, nat_tests)
    go (suc (suc (suc zero))) b h = grind (arith, nat_tests)
    go (suc (suc (suc (suc p)))) b h = absurd (omega arith)

not_vacant : (a b c d : Bool) → not (a || (b || (c || d))) ≡ false → let s = ports_where (λ p. get_or (a ∷ b ∷ c ∷ d ∷ []) p false) in (p : ℕ) × (p < 4) × (has s p ≡ true)
not_vacant true b c d h = (0, omega arith, refl)
not_vacant false true c d h = (1, omega arith, refl)
not_vacant false false true d h = (2, omega arith, refl)
not_vacant false false false true h = (3, omega arith, refl)
not_vacant false false false false h = absurd (true≢false h)

pub not_vacant_has : (s : PortSet) → vacant s ≡ false → (p : ℕ) × (p < 4) × (has s p ≡ true)
not_vacant_has s h = let found = not_vacant (has s 0) (has s 1) (has s 2) (has s 3) h in (found.0, found.1, ap (λ (t : PortSet). has t found.0) (told s) ∙ found.2)

counted : (a b c d : Bool) → count_by (λ on. on) (a ∷ b ∷ c ∷ d ∷ []) ≡ bit a + bit b + bit c + bit d
counted a b c d = grind (arith, nat_tests)

pub how_many_counted : (s : PortSet) → count_by (λ on. on) s.on ≡ how_many s
how_many_counted s = ap (λ (t : PortSet). count_by (λ on. on) t.on) (told s) ∙ counted (has s 0) (has s 1) (has s 2) (has s 3)
