-- Arrays that stand for lists of a wall's state: the first `count` places, each through a view.
use Rattle.std.proofs.Common.{◌≡◌, ℕ, ◌+◌, ◌<◌, ◌≤◌, ◌≢◌, List, [], ◌∷◌, ◌++◌, map, length, get_or, take, set, sym, ap, ◌∙◌, subst, arith, below_more}
use lib.ListN.{length-map, get_or-map}
use Rattle.std.proofs.lemmas.List.{get_or-take, length-take-le, get_or-set_same, get_or-set_other, map-append, take_more, take-set}
use Rattle.std.proofs.lemmas.List.FromFn.{fill_by_all}
use Rattle.rules.specs.Ports.{table}

module _ {X Y : Type 0} (view : X → Y) where
  -- Place by place the same as a function of the index: the list of its values.
  pub view_table : (d : X) (e : Y) → view d ≡ e → (xs : List X) (count : ℕ) (f : ℕ → Y) → count ≤ length xs →
      ((k : ℕ) → k < count → view (get_or xs k d) ≡ f k) → map view (take count xs) ≡ table count f
  unfolding table
  view_table d e same xs count f long each =
      fill_by_all f (map view (take count xs)) count (view d)
      (length-map (take count xs) view ∙ length-take-le count xs long)
      (λ k h. get_or-map view (take count xs) k d ∙ ap view (get_or-take count xs k d h) ∙ each k h)

  -- One place more.
  pub view_more : (xs : List X) (i : ℕ) (v : X) → i < length xs → map view (take (i + 1) (set xs i v)) ≡ map view (take i xs) ++ view v ∷ []
  view_more xs i v h =
      let l : i < length (set xs i v) = simp lib.ListN.length-set h in
      ap (map view) (take_more (set xs i v) i v l)
      ∙ ap (map view) (rw (take-set xs i v, get_or-set_same xs i v v h))
      ∙ map-append view (take i xs) (v ∷ [])

  -- A loop that writes place i, after the places below it were written.
  pub fill_more : (d : X) (xs : List X) (i : ℕ) (v : X) (f : ℕ → Y) → i < length xs →
      ((k : ℕ) → k < i → view (get_or xs k d) ≡ f k) → view v ≡ f i → (k : ℕ) → k < i + 1 → view (get_or (set xs i v) k d) ≡ f k
  fill_more d xs i v f l below here =
      below_more (λ k. view (get_or (set xs i v) k d) ≡ f k) i
      (λ k h. let ne : k ≢ i = omega arith in ap view (get_or-set_other xs i k v d ne) ∙ below k h)
      (ap view (get_or-set_same xs i v d l) ∙ here)

module _ {X : Type 0} (d : X) (xs : List X) (i : ℕ) (v : X) where
  -- What holds of each place below i and of what is written there holds below i + 1.
  pub below_written : (P : ℕ → X → Type 0) → i < length xs → ((k : ℕ) → k < i → P k (get_or xs k d)) → P i v → (k : ℕ) → k < i + 1 → P k (get_or (set xs i v) k d)
  below_written P l below here =
      below_more (λ k. P k (get_or (set xs i v) k d)) i
      (λ k h. let ne : k ≢ i = omega arith in subst (P k) (sym (get_or-set_other xs i k v d ne)) (below k h))
      (subst (P i) (sym (get_or-set_same xs i v d l)) here)

  -- What holds of each place from i on still holds behind it.
  pub rest_written : (P : ℕ → X → Type 0) → ((k : ℕ) → i ≤ k → P k (get_or xs k d)) → (k : ℕ) → i + 1 ≤ k → P k (get_or (set xs i v) k d)
  rest_written P rest k h = let ne : k ≢ i = omega arith in subst (P k) (sym (get_or-set_other xs i k v d ne)) (rest k (omega arith))
