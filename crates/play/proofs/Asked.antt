-- What a wall answers about a number brought down to 255 is what it answers about the number.
use Rattle.std.proofs.Common.{◌≡◌, ℕ, ◌<◌, ◌≤◌, min, Bool, leb, ◌⊎◌, List, Decides, Ok, Option, Result, sym, ap, ◌∙◌, subst, ap₂, inl, inr, arith}
use Rattle.std.proofs.lemmas.Bool.{cases_lt, le-leb, or_left, or_right}
use Rattle.wiring.specs.Layout.{Layout}
use Rattle.chooser.specs.declared.ports.PortSet.{PortSet}
use Rattle.rules.specs.declared.Mark.{Mark}
use Rattle.rules.specs.declared.Mode.{Mode as NodeMode}
use Rattle.rules.specs.declared.Refusal.{Refusal}
use Rattle.rules.specs.Promise as promise
use Rattle.rules.specs.State.{State, Entry, node_of, entry_of}
use Rattle.script.specs.declared.line.Question.{Question}
use Rattle.script.specs.declared.line.Question.TheVariants as question-variants
use Rattle.script.specs.declared.line.Question.TheVariants.{Mode, Marks, Calm}
use Rattle.reply.specs.declared.types.Answer.{Answer}
use Rattle.reply.specs.declared.types.Answer.TheVariants as answer-variants
use Rattle.reply.specs.Text.{answer_line}
use Rattle.wall.specs.Answers.{checked, asked_of, entry_pair, entry_answer}
use Rattle.play.specs.Asks.{mode_told, entry_told, marks_told, Asks}

module _ (layout : Layout) (few : layout.count ≤ 64) where
  pub asked_clamped : {T : Type 0} (f : ℕ → T) (n : ℕ) → asked_of layout (min n 255) (f (min n 255)) ≡ asked_of layout n (f n)
  asked_clamped f n = go (cases_lt n 255)
    where
      go : (n < 255) ⊎ (255 ≤ n) → asked_of layout (min n 255) (f (min n 255)) ≡ asked_of layout n (f n)
      go (inl a) = ap (λ m. asked_of layout m (f m)) (omega arith)
      go (inr a) =
          ap (λ b. checked b (f (min n 255))) (le-leb layout.count (min n 255) (omega arith))
          ∙ sym (ap (λ b. checked b (f n)) (le-leb layout.count n (omega arith)))

  pub entry_clamped : (f : ℕ → ℕ → Entry) (n d : ℕ) → entry_answer layout (min n 255) (min d 255) (f (min n 255) (min d 255)) ≡ entry_answer layout n d (f n d)
  entry_clamped f n d = go (cases_lt n 255) (cases_lt d 255)
    where
      go : (n < 255) ⊎ (255 ≤ n) → (d < 255) ⊎ (255 ≤ d) → entry_answer layout (min n 255) (min d 255) (f (min n 255) (min d 255)) ≡ entry_answer layout n d (f n d)
      go (inl a) (inl b) = ap₂ (λ x y. entry_answer layout x y (f x y)) (omega arith) (omega arith)
      go (inl a) (inr b) =
          ap (λ t. checked t (entry_pair (f (min n 255) (min d 255)))) (or_right (leb layout.count (min n 255)) _ (le-leb layout.count (min d 255) (omega arith)))
          ∙ sym (ap (λ t. checked t (entry_pair (f n d))) (or_right (leb layout.count n) _ (le-leb layout.count d (omega arith))))
      go (inr a) b =
          ap (λ t. checked t (entry_pair (f (min n 255) (min d 255)))) (or_left _ (leb layout.count (min d 255)) (le-leb layout.count (min n 255) (omega arith)))
          ∙ sym (ap (λ t. checked t (entry_pair (f n d))) (or_left _ (leb layout.count d) (le-leb layout.count n (omega arith))))

  -- The line of each question about a node.

  module _ (s : State) (question : Question) (answer : Result Answer Refusal) (text : List ℕ) where
    pub asks_mode : (n a : ℕ) (r : Result NodeMode Refusal) → text ≡ answer_line (Mode n) answer → question ≡ Mode n → a ≡ min n 255 → r ≡ asked_of layout a (node_of s.nodes a).mode → answer ≡ mode_told r → Asks layout s question text
    asks_mode n a r line is e f g =
        let same = f ∙ ap (λ m. asked_of layout m (node_of s.nodes m).mode) e ∙ asked_clamped (λ m. (node_of s.nodes m).mode) n in
        subst (λ q. Asks layout s q text) (sym is) (line ∙ ap (answer_line (Mode n)) (g ∙ ap mode_told same))

    pub asks_marks : (n a : ℕ) (r : Result (List Mark) Refusal) → text ≡ answer_line (Marks n) answer → question ≡ Marks n → a ≡ min n 255 → r ≡ asked_of layout a (node_of s.nodes a).marks → answer ≡ marks_told r → Asks layout s question text
    asks_marks n a r line is e f g =
        let same = f ∙ ap (λ m. asked_of layout m (node_of s.nodes m).marks) e ∙ asked_clamped (λ m. (node_of s.nodes m).marks) n in
        subst (λ q. Asks layout s q text) (sym is) (line ∙ ap (answer_line (Marks n)) (g ∙ ap marks_told same))

    pub asks_entry : (n d a b : ℕ) (r : Result (Option (PortSet × ℕ)) Refusal) → text ≡ answer_line (question-variants.Entry n d) answer → question ≡ question-variants.Entry n d → a ≡ min n 255 → b ≡ min d 255 → r ≡ entry_answer layout a b (entry_of s.nodes a b) → answer ≡ entry_told r → Asks layout s question text
    asks_entry n d a b r line is e f g h =
        let same = g ∙ ap₂ (λ x y. entry_answer layout x y (entry_of s.nodes x y)) e f ∙ entry_clamped (entry_of s.nodes) n d in
        subst (λ q. Asks layout s q text) (sym is) (line ∙ ap (answer_line (question-variants.Entry n d)) (h ∙ ap entry_told same))

    pub asks_calm : (calm : Bool) → text ≡ answer_line question answer → question ≡ Calm → Decides calm (promise.Calm layout s) → answer ≡ Ok (answer-variants.Calm calm) → Asks layout s question text
    asks_calm calm line is told e = subst (λ q. Asks layout s q text) (sym is) (calm, told, line ∙ (λ i. answer_line (is i) (e i)))
