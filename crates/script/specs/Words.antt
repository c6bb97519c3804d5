-- The words of a line: what stands between blanks, up to a comment.
use Rattle.std.specs.Prelude.{ℕ, Bool, not, ◌||◌, List, take, drop, ◌==◌}
use Rattle.std.specs.List.{prefix_len}

-- A space, a tab or a carriage return.
abbrev pub is_blank : ℕ → Bool
is_blank b = b == 32 || b == 9 || b == 13

-- A line less its comment: up to the first `#`.
unfoldable pub code_of : List ℕ → List ℕ
code_of line = take (prefix_len (λ b. not (b == 35)) line) line

abbrev pub past_blanks : List ℕ → List ℕ
past_blanks text = drop (prefix_len is_blank text) text

-- The first word of a text, nothing where it has none, and what follows that.
unfoldable pub first_word : List ℕ → List ℕ
first_word text = take (prefix_len (λ b. not (is_blank b)) (past_blanks text)) (past_blanks text)

unfoldable pub past_word : List ℕ → List ℕ
past_word text = drop (prefix_len (λ b. not (is_blank b)) (past_blanks text)) (past_blanks text)
