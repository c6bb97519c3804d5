use Rattle.std.proofs.Common.{◌≡◌, ℕ, Option, ◌∙◌}
use Rattle.std.proofs.lemmas.Result.{IfOk-weaker}
use Rattle.filecheck.specs.Report.{line_text}
use Rattle.filecheck.proofs.report.node_line.Goals as goal

same_line : (n : ℕ) {a b c d a' b' c' d' : Option (ℕ × ℕ)} → a ≡ a' → b ≡ b' → c ≡ c' → d ≡ d' → line_text n a b c d ≡ line_text n a' b' c' d'
same_line n e f g h = λ i. line_text n (e i) (f i) (g i) (h i)

pub returns : goal.returns
returns g c =
    IfOk-weaker c.line.result _ _
    (λ s e. e ∙ same_line c.args.node c.far_end.ensures c.far_end-2.ensures c.far_end-3.ensures c.far_end-4.ensures)
    c.line.ensures
