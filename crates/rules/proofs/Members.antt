-- What a list has, by its first element and the others.
use Rattle.std.proofs.Common.{◌≡◌, zero, suc, ◌⊎◌, List, [], ◌∷◌, ◌++◌, refl, inl, inr, arith}
use Rattle.std.specs.List.{ContainsAt as Has, AllByRecursion}

module _ {X : Type 0} where
  pub has_none : (x : X) → Has [] x → ⊥
  has_none x (k, below, at) = omega arith

  pub has_first : (x : X) (xs : List X) → Has (x ∷ xs) x
  has_first x xs = (0, omega arith, λ d. refl)

  pub has_later : (y : X) (xs : List X) (x : X) → Has xs x → Has (y ∷ xs) x
  has_later y xs x (k, below, at) = (suc k, omega arith, λ d. at d)

  pub has_cases : (y : X) (xs : List X) (x : X) → Has (y ∷ xs) x → (y ≡ x) ⊎ Has xs x
  has_cases y xs x (zero, below, at) = inl (at y)
  has_cases y xs x (suc k, below, at) = inr (k, omega arith, λ d. at d)

  pub has_append_cases : (xs ys : List X) (x : X) → Has (xs ++ ys) x → Has xs x ⊎ Has ys x
  has_append_cases [] ys x h = inr h
  has_append_cases (y ∷ xs) ys x h = go (λ k. has_append_cases xs ys x k) (has_cases y (xs ++ ys) x h)
    where
      deeper : Has xs x ⊎ Has ys x → Has (y ∷ xs) x ⊎ Has ys x
      deeper (inl a) = inl (has_later y xs x a)
      deeper (inr b) = inr b

      go : (Has (xs ++ ys) x → Has xs x ⊎ Has ys x) → (y ≡ x) ⊎ Has (xs ++ ys) x → Has (y ∷ xs) x ⊎ Has ys x
      go again (inl e) = inl (0, omega arith, λ d. e)
      go again (inr k) = deeper (again k)

  pub all_from_has : (P : X → Type 0) (xs : List X) → ((x : X) → Has xs x → P x) → AllByRecursion P xs
  all_from_has P [] f = tt
  all_from_has P (x ∷ xs) f = (f x (has_first x xs), all_from_has P xs (λ y h. f y (has_later x xs y h)))
