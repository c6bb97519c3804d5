-- Texts that are written part by part.
use Rattle.std.proofs.Common.{◌≡◌, ℕ, zero, suc, ◌+◌, ◌≤◌, List, [], ◌++◌, codes, decimal, sym, ap, ◌∙◌, append_assoc, add-one, le_antisymm, slice_index_or}
use Rattle.std.specs.Fmt.{digits}
use Rattle.chooser.specs.declared.ports.PortSet.{PortSet}
use Rattle.rules.specs.declared.Mark.{Mark}
use Rattle.rules.specs.declared.Mark.TheVariants.{Unmarked}
use Rattle.reply.specs.Text.{port_digit, ports_text, mark_text, marks_text}

-- The ports of a set below n, as ascending digits.
abbrev pub ports_below : PortSet → ℕ → List ℕ
ports_below ports zero = []
ports_below ports (suc n) = ports_below ports n ++ port_digit ports n (decimal n)

pub ports_more : (ports : PortSet) (n : ℕ) → ports_below ports n ++ port_digit ports n (decimal n) ≡ ports_below ports (n + 1)
ports_more ports n = ap (ports_below ports) (sym (add-one n))

grouped : (a b c d : List ℕ) → a ++ b ++ c ++ d ≡ a ++ (b ++ (c ++ d))
grouped a b c d = simp append_assoc

ports_four : (ports : PortSet) → ports_below ports 4 ≡ ports_text ports
unfolding digits
ports_four ports = grouped (port_digit ports 0 (codes "0")) (port_digit ports 1 (codes "1")) (port_digit ports 2 (codes "2")) (port_digit ports 3 (codes "3"))

pub ports_all : (ports : PortSet) (n : ℕ) → 4 ≤ n → n ≤ 4 → ports_below ports n ≡ ports_text ports
ports_all ports n past within = ap (ports_below ports) (le_antisymm within past) ∙ ports_four ports

-- The letters of the first n marks.
abbrev pub marks_below : List Mark → ℕ → List ℕ
marks_below marks zero = []
marks_below marks (suc n) = marks_below marks n ++ mark_text (slice_index_or marks n Unmarked)

pub marks_more : (marks : List Mark) (n : ℕ) → marks_below marks n ++ mark_text (slice_index_or marks n Unmarked) ≡ marks_below marks (n + 1)
marks_more marks n = ap (marks_below marks) (sym (add-one n))

pub marks_all : (marks : List Mark) (n : ℕ) → 4 ≤ n → n ≤ 4 → marks_below marks n ≡ marks_text marks
marks_all marks n past within = ap (marks_below marks) (le_antisymm within past)
