-- What follows of every sound layout.
use Rattle.std.specs.Prelude.{◌≡◌, ℕ, ◌<◌, Some, None, Option, ◌≢◌}
use Rattle.std.proofs.Math.Logic.{∥∥₁_elim, ∥∥₁_map}
use mathlib.Core.HLevel.{⊥_prop}
use mathlib.Core.HLevel.{×_prop}
use Rattle.std.proofs.Math.Bridge.{le_prop}
use Rattle.std.proofs.Math.Nat.{ℕ_set}
use Rattle.std.proofs.Common.{arith}
use Rattle.wiring.specs.Layout.{Layout, Sound}

pub none_is_not_some : {A : Type 0} {x : A} → None ≢ Some x
none_is_not_some e = let z : ◌≡◌ {A = ℕ} 0 1 = cc in omega arith

-- Two wirings are one if they have as many nodes and each port leads to the same end.
pub same_layout : (l k : Layout) → l.count ≡ k.count → ((n p : ℕ) → l.far n p ≡ k.far n p) → l ≡ k
same_layout l k e f = λ i. record { count = e i; far = λ n p. f n p i }

-- Nothing leads out of a node or a port out of range.
pub only_inside : (l : Layout) → Sound l → (n p m q : ℕ) → l.far n p ≡ Some (m, q) → (n < l.count) × (p < 4)
only_inside l s n p m q e = s.in_range m q n p (s.returns n p m q e)

-- A far end that is known to be there, and not how, is there.
some_again : (o : Option (ℕ × ℕ)) (n p : ℕ) → ∥ o ≡ Some (n, p) ∥₁ → o ≡ Some (n, p)
some_again None n p t = absurd (∥∥₁_elim t ⊥_prop none_is_not_some)
some_again (Some x) n p t =
    let a : x.0 ≡ n = ∥∥₁_elim t (ℕ_set x.0 n) (λ e. cc) in
    let b : x.1 ≡ p = ∥∥₁_elim t (ℕ_set x.1 p) (λ e. cc) in
    λ i. Some (a i, b i)

-- The facts come back out of a truncation, since each is a proposition.
pub sound_again : (l : Layout) → ∥ Sound l ∥₁ → Sound l
sound_again l t = record {
  some_nodes = ∥∥₁_elim t le_prop (λ s. s.some_nodes);
  few_nodes = ∥∥₁_elim t le_prop (λ s. s.few_nodes);
  in_range = λ n p m q e. ∥∥₁_elim t (×_prop le_prop le_prop) (λ s. s.in_range n p m q e);
  returns = λ n p m q e. some_again (l.far m q) n p (∥∥₁_map t (λ s. s.returns n p m q e));
  no_self = λ n p m q e same. ∥∥₁_elim t ⊥_prop (λ s. s.no_self n p m q e same);
}
