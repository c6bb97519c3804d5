-- A text that grows by an item at a time.
use Rattle.std.proofs.Common.{◌≡◌, ℕ, ◌+◌, ◌<◌, ◌≤◌, List, [], ◌++◌, length, get_or, take, sym, ap, ◌∙◌}
use Rattle.std.specs.List.{flat_map}
use Rattle.std.proofs.lemmas.List.{append-nil, take_more, take_all, flat_map_more}

module _ {X : Type 0} (item : X → List ℕ) (first : List ℕ) (xs : List X) where
  pub rows_none : first ≡ first ++ flat_map item (take 0 xs)
  rows_none = sym (append-nil first)

  pub rows_more : (i : ℕ) (d : X) (text row more : List ℕ) → i < length xs → text ≡ first ++ flat_map item (take i xs) → row ≡ item (get_or xs i d) → more ≡ text ++ row → more ≡ first ++ flat_map item (take (i + 1) xs)
  rows_more i d text row more lt e f g =
      g ∙ (λ k. e k ++ f k) ∙ flat_map_more item first (take i xs) (get_or xs i d) ∙ ap (λ ys. first ++ flat_map item ys) (sym (take_more xs i d lt))

  pub rows_all : (i : ℕ) (text : List ℕ) → length xs ≤ i → text ≡ first ++ flat_map item (take i xs) → text ≡ first ++ flat_map item xs
  rows_all i text all e = e ∙ ap (λ ys. first ++ flat_map item ys) (take_all i xs all)

-- The same with nothing before the first item.
module _ {X : Type 0} (item : X → List ℕ) (xs : List X) where
  pub items_more : (i : ℕ) (d : X) → i < length xs → flat_map item (take i xs) ++ item (get_or xs i d) ≡ flat_map item (take (i + 1) xs)
  items_more i d lt = flat_map_more item [] (take i xs) (get_or xs i d) ∙ ap (flat_map item) (sym (take_more xs i d lt))

  pub items_all : (i : ℕ) → length xs ≤ i → flat_map item (take i xs) ≡ flat_map item xs
  items_all i all = ap (flat_map item) (take_all i xs all)
