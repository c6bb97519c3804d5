-- The lines of a report, one more at a time.
use Rattle.std.proofs.Common.{◌≡◌, ℕ, ◌+◌, List, ◌++◌, sym, ap, ◌∙◌, append_assoc, add-one}
use Rattle.std.proofs.lemmas.List.{append-nil}
use Rattle.wiring.specs.Layout.{Layout}
use Rattle.filecheck.specs.Report.{node_line, lines_below}

module _ (l : Layout) (first : List ℕ) where
  pub lines_none : first ≡ first ++ lines_below l 0
  unfolding lines_below
  lines_none = sym (append-nil first)

  pub lines_more : (k : ℕ) (text line more : List ℕ) → text ≡ first ++ lines_below l k → line ≡ node_line l k → more ≡ text ++ line → more ≡ first ++ lines_below l (k + 1)
  unfolding lines_below
  lines_more k text line more e f g = g ∙ (λ i. e i ++ f i) ∙ append_assoc first (lines_below l k) (node_line l k) ∙ ap (λ n. first ++ lines_below l n) (sym (add-one k))
