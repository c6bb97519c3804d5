-- An array made by a closure that its calls leave as it was: each element is the answer at its index.
use Rattle.std.proofs.Common.{◌≡◌, ℕ, zero, suc, ◌+◌, ◌<◌, ◌≤◌, List, get_or, sym, subst, inl, inr, arith}
use Rattle.std.proofs.lemmas.Bool.{cases_lt}
use Rattle.std.specs.Array.{IsFromFnResult, IsFromFnResultFrom}
use Rattle.std.specs.Fn.{Called, Mut}

module _ {F B : Type 0} (g : Mut F (ℕ × Unit {0}) B) (P : ℕ → B → Type 0) (f : F) (h : (i : ℕ) (y : B) (q : F) → Called g f (i, tt) y q → P i y × (q ≡ f)) where
  made_from : (ys : List B) (d : B) (i n k : ℕ) → IsFromFnResultFrom g f ys i n → i ≤ k → k < i + n → P k (get_or ys k d)
  made_from ys d i zero k made low high = absurd (omega arith)
  made_from ys d i (suc n) k (q, y, there, told, rest) low high =
      let answer = h i y q told in
      elim (cases_lt i k) [
        | inl later ↦ made_from ys d (i + 1) n k (subst (λ (p : F). IsFromFnResultFrom g p ys (i + 1) n) answer.1 rest) (omega arith) (omega arith)
        | inr here ↦
            let same : i ≡ k = omega arith in
            subst (λ (j : ℕ). P j (get_or ys j d)) same (subst (P i) (sym (there.1 d)) answer.0)
      ]

  pub made_same : (ys : List B) (n : ℕ) (d : B) → IsFromFnResult g f ys n → (k : ℕ) → k < n → P k (get_or ys k d)
  made_same ys n d made k low = made_from ys d 0 n k made.each (omega arith) (omega arith)
