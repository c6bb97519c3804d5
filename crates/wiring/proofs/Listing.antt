-- The list of a wiring's cables, one node more at a time.
use Rattle.std.proofs.Common.{◌≡◌, ℕ, ◌+◌, Bool, true, false, cond, ltb, [], ◌∷◌, length, Some, None, Option, refl, sym, ap, ◌∙◌, add-one, arith, length-append}
use Rattle.std.specs.Prelude.{zero, suc, count_by, map, sum}
use Rattle.std.specs.List.{range_with_len}
use Rattle.std.proofs.lemmas.Bool.Decides.{nat_tests}
use Rattle.std.proofs.lemmas.List.FromFn.{sum_by-map-range_with_len_more}
use Rattle.wiring.specs.declared.cable.Cable.{Cable}
use Rattle.wiring.specs.Layout.{Layout}
use Rattle.wiring.specs.Listing.{from_lower, begins, node_cables, cables_below}

begun : (n p : ℕ) (far : Option (ℕ × ℕ)) → length (from_lower n p far) ≡ cond (begins n far) 1 0
begun n p None = refl
begun n p (Some end) = go (ltb n end.0)
  where
    go : (b : Bool) → length {A = Cable} (cond b (record { start = (n, p); end = end } ∷ []) []) ≡ cond b 1 0
    go true = refl
    go false = refl

pub node_counted : (l : Layout) (n : ℕ) → count_by (λ p. begins n (l.far n p)) (range_with_len 0 4) ≡ length (node_cables l n)
node_counted l n = simp (length-append, begun) (grind (arith, nat_tests))

pub below_none : (l : Layout) → 0 ≡ length (cables_below l 0)
unfolding cables_below
below_none l = refl

pub below_more : (l : Layout) (k : ℕ) → length (cables_below l (k + 1)) ≡ length (cables_below l k) + length (node_cables l k)
unfolding cables_below
below_more l k = ap (λ n. length (cables_below l n)) (add-one k) ∙ length-append (cables_below l k) (node_cables l k)

pub nodes_counted : (l : Layout) (n : ℕ) → sum (map (λ k. length (node_cables l k)) (range_with_len 0 n)) ≡ length (cables_below l n)
unfolding cables_below
nodes_counted l zero = refl
nodes_counted l (suc n) =
    let cables : ℕ → ℕ = λ k. length (node_cables l k) in
    ap (λ k. sum (map cables (range_with_len 0 k))) (sym (add-one n))
    ∙ sum_by-map-range_with_len_more (λ x. x) cables 0 n n (omega arith)
    ∙ ap (λ k. k + cables n) (nodes_counted l n)
    ∙ sym (below_more l n)
    ∙ ap (λ k. length (cables_below l k)) (add-one n)
