-- Gathering the raised hands and the packets, one at a time.
use Rattle.std.proofs.Common.{◌≡◌, ℕ, zero, suc, ◌+◌, ◌<◌, ◌≤◌, Bool, false, cond, List, [], ◌∷◌, ◌++◌, map, filter, length, take, Some, Option, sym, refl, ap, ◌∙◌, add-one, arith}
use Rattle.std.specs.List.{slice_get, filter_map, cons_option, range_with_len}
use Rattle.std.proofs.lemmas.Bool.{lt-leb}
use Rattle.std.proofs.lemmas.List.{map-id}
use Rattle.std.proofs.lemmas.List.FromFn.{filter_of_map_range_with_len_more}
use Rattle.std.specs.Option.{option_to_list}
use Rattle.std.specs.Result.{result_unwrap_or}
use Rattle.wiring.specs.Layout.{Layout}
use Rattle.rules.specs.State.{Node, node_of}
use Rattle.wall.specs.Answers.{checked, asked_of}
use Rattle.play.specs.Asks.{hands_below}

-- What is told of a node's hand: whether it is up, and of a node that the wall has not, that it is not.
abbrev pub up_told : Layout → List Node → ℕ → Bool
up_told layout nodes n = result_unwrap_or (asked_of layout n (node_of nodes n).hand) false

told : (layout : Layout) (nodes : List Node) (n : ℕ) → n < layout.count → up_told layout nodes n ≡ (node_of nodes n).hand
told layout nodes n lt = ap (λ b. result_unwrap_or (checked b (node_of nodes n).hand) false) (lt-leb layout.count n lt)

told_below : (layout : Layout) (nodes : List Node) (k : ℕ) → k ≤ layout.count →
    filter (up_told layout nodes) (map (λ n. n) (range_with_len 0 k)) ≡ hands_below nodes k
unfolding hands_below
told_below layout nodes zero few = refl
told_below layout nodes (suc k) few =
    let less : k ≤ layout.count = omega arith in
    let lt : k < layout.count = omega arith in
    let same : 0 + k ≡ k = omega arith in
    ap (λ m. filter (up_told layout nodes) (map (λ n. n) (range_with_len 0 m))) (sym (add-one k))
    ∙ filter_of_map_range_with_len_more (up_told layout nodes) (λ n. n) 0 k k same
    ∙ (λ i. told_below layout nodes k less i ++ cond (told layout nodes k lt i) (k ∷ []) [])

-- The nodes of whom it is told that their hands are up.
pub hands_told : (layout : Layout) (nodes : List Node) (n : ℕ) → n ≡ layout.count → filter (up_told layout nodes) (range_with_len 0 n) ≡ hands_below nodes layout.count
hands_told layout nodes n e =
    let few : layout.count ≤ layout.count = omega arith in
    ap (λ m. filter (up_told layout nodes) (range_with_len 0 m)) e
    ∙ sym (ap (filter (up_told layout nodes)) (map-id (range_with_len 0 layout.count)))
    ∙ told_below layout nodes layout.count few

gathered : {X : Type 0} (f : ℕ → Option X) (a : ℕ) (xs : List X) → ((i : ℕ) → f (a + i) ≡ slice_get xs i) → filter_map f (range_with_len a (length xs)) ≡ xs
gathered f a [] h = refl
gathered f a (x ∷ xs) h =
    let first : a ≡ a + 0 = omega arith in
    let here : f a ≡ Some x = ap f first ∙ h 0 in
    (λ i. cons_option (here i) (filter_map f (range_with_len (a + 1) (length xs))))
    ∙ ap (λ ys. x ∷ ys) (gathered f (a + 1) xs (λ i. let next : (a + 1) + i ≡ a + suc i = omega arith in ap f next ∙ h (suc i)))

-- The items of a list, taken by number, are the list.
pub by_number : {X : Type 0} (xs : List X) (n : ℕ) → n ≡ length xs → filter_map (slice_get xs) (range_with_len 0 n) ≡ xs
by_number xs n e = ap (λ m. filter_map (slice_get xs) (range_with_len 0 m)) e ∙ gathered (slice_get xs) 0 xs (λ i. let same : 0 + i ≡ i = omega arith in ap (slice_get xs) same)

-- One item more, also past the end.
pub take_nth : {X : Type 0} (xs : List X) (i : ℕ) → take (suc i) xs ≡ take i xs ++ option_to_list (slice_get xs i)
take_nth [] zero = refl
take_nth [] (suc i) = refl
take_nth (x ∷ xs) zero = refl
take_nth (x ∷ xs) (suc i) = ap (λ ys. x ∷ ys) (take_nth xs i)
