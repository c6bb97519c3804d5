-- A page taken apart into lines and words.
use Rattle.std.proofs.Common.{◌≡◌, ℕ, zero, suc, ◌+◌, ◌/◌, ◌%◌, Bool, true, false, cond, eqb, List, [], ◌∷◌, ◌++◌, get_or, Some, None, codes, Option, sym, refl, ap, ◌∙◌, arith}
use Rattle.std.proofs.lemmas.List.{append-nil, append_assoc}
use Rattle.std.proofs.lemmas.Bool.{ne_eqb}
use Rattle.chooser.specs.PortSets.{has}
use Rattle.chooser.specs.declared.ports.PortSet.{PortSet}
use Rattle.rules.specs.declared.Mark.{Mark}
use Rattle.rules.specs.declared.Mark.TheVariants.{Unmarked, Up, Down}
use Rattle.rules.specs.declared.Mode.{Mode}
use Rattle.rules.specs.declared.Mode.TheVariants.{New, Recovering, Serving}
use Rattle.rules.specs.Numbers.{mode_letter, mark_letter}
use Rattle.rules.specs.State.{Node, entry_of}
use Rattle.wall.specs.Answers.{entry_pair}
use Rattle.pagetext.specs.Text.{numeral, root_text, marks_text, with_node, with_port, with_line, with_entry, with_entries}
use Rattle.pagetext.specs.Reading.{Read, unread, read_byte, read_bytes}
use Rattle.pagetext.proofs.Figures.{by_digits}

abbrev Words : Type 0
Words = List (List ℕ)

abbrev at : List Words → Words → List ℕ → Read
at lines words word = record { lines = lines; words = words; word = word }

read_append : (r : Read) (xs ys : List ℕ) → read_bytes r (xs ++ ys) ≡ read_bytes (read_bytes r xs) ys
unfolding read_bytes
read_append r [] ys = refl
read_append r (x ∷ xs) ys = read_append (read_byte r x) xs ys

-- One more text behind a text that was read.
on : (before xs : List ℕ) (p q : Read) → read_bytes unread before ≡ p → read_bytes p xs ≡ q → read_bytes unread (before ++ xs) ≡ q
on before xs p q e f = read_append unread before xs ∙ ap (λ r. read_bytes r xs) e ∙ f

-- Words: bytes that are neither a space nor a line feed

data Plain : List ℕ → Type 0 where
  none : Plain []
  also : {b : ℕ} {bs : List ℕ} → eqb b 32 ≡ false → eqb b 10 ≡ false → Plain bs → Plain (b ∷ bs)

plain_byte : (ls : List Words) (ws : Words) (w : List ℕ) (b : ℕ) → eqb b 32 ≡ false → eqb b 10 ≡ false → read_byte (at ls ws w) b ≡ at ls ws (w ++ (b ∷ []))
plain_byte ls ws w b e f = rw (e, f)

plain_word : (ls : List Words) (ws : Words) (w more : List ℕ) → Plain more → read_bytes (at ls ws w) more ≡ at ls ws (w ++ more)
unfolding read_bytes
plain_word ls ws w [] none = ap (at ls ws) (sym (append-nil w))
plain_word ls ws w (b ∷ bs) (also e f h) =
    ap (λ r. read_bytes r bs) (plain_byte ls ws w b e f) ∙ plain_word ls ws (w ++ (b ∷ [])) bs h ∙ ap (at ls ws) (append_assoc w (b ∷ []) bs)

digit : (d : ℕ) {bs : List ℕ} → Plain bs → Plain ((48 + d) ∷ bs)
digit d h = also (ne_eqb (48 + d) 32 (λ e. omega arith)) (ne_eqb (48 + d) 10 (λ e. omega arith)) h

numeral_plain : (n : ℕ) → Plain (numeral n)
numeral_plain n =
    by_digits Plain n
    (λ a. digit (n % 10) none)
    (λ a b. digit (n / 10 % 10) (digit (n % 10) none))
    (λ a b. digit (n / 100 % 10) (digit (n / 10 % 10) (digit (n % 10) none)))
    (λ a b. digit (n / 1000 % 10) (digit (n / 100 % 10) (digit (n / 10 % 10) (digit (n % 10) none))))
    (λ a. digit (n / 1000 / 10 % 10) (digit (n / 1000 % 10) (digit (n / 100 % 10) (digit (n / 10 % 10) (digit (n % 10) none)))))

letter_plain : (mode : Mode) → Plain (mode_letter mode ∷ [])
letter_plain New = also refl refl none
letter_plain (Recovering root left) = also refl refl none
letter_plain (Serving root) = also refl refl none

root_plain : (mode : Mode) → Plain (root_text mode)
root_plain New = also refl refl none
root_plain (Recovering root left) = numeral_plain root
root_plain (Serving root) = numeral_plain root

mark_plain : (m : Mark) {bs : List ℕ} → Plain bs → Plain (mark_letter m ∷ bs)
mark_plain Unmarked h = also refl refl h
mark_plain Up h = also refl refl h
mark_plain Down h = also refl refl h

marks_plain : (marks : List Mark) → Plain (marks_text marks)
marks_plain marks =
    mark_plain (get_or marks 0 Unmarked) (mark_plain (get_or marks 1 Unmarked) (mark_plain (get_or marks 2 Unmarked) (mark_plain (get_or marks 3 Unmarked) none)))

-- The words of each line

abbrev pub node_words : ℕ → Mode → List Mark → Words
node_words node mode marks =
    codes "NODE" ∷ numeral node ∷ (mode_letter mode ∷ []) ∷ codes "ROOT" ∷ root_text mode ∷ codes "MARK" ∷ marks_text marks ∷ []

-- The fixed words, each with the spaces around it.
pub nothing_read : read_bytes unread [] ≡ unread
unfolding read_bytes
nothing_read = refl

module _ (ls : List Words) where
  node_word : read_bytes (at ls [] []) (codes "NODE ") ≡ at ls (codes "NODE" ∷ []) []
  unfolding read_bytes
  node_word = refl

  to_word : read_bytes (at ls [] []) (codes "TO ") ≡ at ls (codes "TO" ∷ []) []
  unfolding read_bytes
  to_word = refl

  module _ (ws : Words) (w : List ℕ) where
    space : read_bytes (at ls ws w) (codes " ") ≡ at ls (ws ++ (w ∷ [])) []
    unfolding read_bytes
    space = refl

    root_word : read_bytes (at ls ws w) (codes " ROOT ") ≡ at ls (ws ++ (w ∷ []) ++ (codes "ROOT" ∷ [])) []
    unfolding read_bytes
    root_word = refl

    mark_word : read_bytes (at ls ws w) (codes " MARK ") ≡ at ls (ws ++ (w ∷ []) ++ (codes "MARK" ∷ [])) []
    unfolding read_bytes
    mark_word = refl

    port_word : read_bytes (at ls ws w) (codes " PORT ") ≡ at ls (ws ++ (w ∷ []) ++ (codes "PORT" ∷ [])) []
    unfolding read_bytes
    port_word = refl

    hops_word : read_bytes (at ls ws w) (codes " HOPS ") ≡ at ls (ws ++ (w ∷ []) ++ (codes "HOPS" ∷ [])) []
    unfolding read_bytes
    hops_word = refl

    line_end : read_bytes (at ls ws w) (codes "\n") ≡ at (ls ++ ((ws ++ (w ∷ [])) ∷ [])) [] []
    unfolding read_bytes
    line_end = refl

pub node_read :
    (before : List ℕ) (ls : List Words) (node : ℕ) (mode : Mode) (marks : List Mark) →
    read_bytes unread before ≡ at ls [] [] →
    read_bytes unread (with_node before node mode marks) ≡ at (ls ++ (node_words node mode marks ∷ [])) [] []
node_read before ls node mode marks e =
    let a = on before (codes "NODE ") (at ls [] []) _ e (node_word ls) in
    let b = on _ (numeral node) _ _ a (plain_word ls _ [] (numeral node) (numeral_plain node)) in
    let c = on _ (codes " ") _ _ b (space ls _ _) in
    let d = on _ (mode_letter mode ∷ []) _ _ c (plain_word ls _ [] (mode_letter mode ∷ []) (letter_plain mode)) in
    let f = on _ (codes " ROOT ") _ _ d (root_word ls _ _) in
    let g = on _ (root_text mode) _ _ f (plain_word ls _ [] (root_text mode) (root_plain mode)) in
    let h = on _ (codes " MARK ") _ _ g (mark_word ls _ _) in
    let k = on _ (marks_text marks) _ _ h (plain_word ls _ [] (marks_text marks) (marks_plain marks)) in
    on _ (codes "\n") _ _ k (line_end ls _ _)

abbrev port_digit : PortSet → ℕ → List ℕ
port_digit ports p = cond (has ports p) ((48 + p) ∷ []) []

abbrev pub port_digits : PortSet → List ℕ
port_digits ports = port_digit ports 0 ++ port_digit ports 1 ++ port_digit ports 2 ++ port_digit ports 3

port_read :
    (before : List ℕ) (ls : List Words) (ws : Words) (w : List ℕ) (ports : PortSet) (p : ℕ) →
    read_bytes unread before ≡ at ls ws w →
    read_bytes unread (with_port before ports p) ≡ at ls ws (w ++ port_digit ports p)
port_read before ls ws w ports p e = go (has ports p)
  where
    go : (b : Bool) → read_bytes unread (cond b (before ++ ((48 + p) ∷ [])) before) ≡ at ls ws (w ++ cond b ((48 + p) ∷ []) [])
    go true = on before ((48 + p) ∷ []) _ _ e (plain_word ls ws w ((48 + p) ∷ []) (digit p none))
    go false = e ∙ ap (at ls ws) (sym (append-nil w))

abbrev pub line_words : ℕ → PortSet → ℕ → Words
line_words destination ports count =
    codes "TO" ∷ numeral destination ∷ codes "PORT" ∷ port_digits ports ∷ codes "HOPS" ∷ numeral count ∷ []

line_read :
    (before : List ℕ) (ls : List Words) (destination : ℕ) (ports : PortSet) (count : ℕ) →
    read_bytes unread before ≡ at ls [] [] →
    read_bytes unread (with_line before destination ports count) ≡ at (ls ++ (line_words destination ports count ∷ [])) [] []
line_read before ls destination ports count e =
    let words : Words = codes "TO" ∷ numeral destination ∷ codes "PORT" ∷ [] in
    let a = on before (codes "TO ") (at ls [] []) _ e (to_word ls) in
    let b = on _ (numeral destination) _ _ a (plain_word ls _ [] (numeral destination) (numeral_plain destination)) in
    let c = on _ (codes " PORT ") _ _ b (port_word ls _ _) in
    let d = port_read _ ls words _ ports 3 (port_read _ ls words _ ports 2 (port_read _ ls words _ ports 1 (port_read _ ls words [] ports 0 c))) in
    let f = on _ (codes " HOPS ") _ _ d (hops_word ls _ _) in
    let g = on _ (numeral count) _ _ f (plain_word ls _ [] (numeral count) (numeral_plain count)) in
    on _ (codes "\n") _ _ g (line_end ls _ _)

abbrev pub entry_words : ℕ → Option (PortSet × ℕ) → List Words
entry_words d None = []
entry_words d (Some e) = line_words d e.0 e.1 ∷ []

unfoldable pub entries_words : List Node → ℕ → ℕ → List Words
entries_words nodes node zero = []
entries_words nodes node (suc k) = entries_words nodes node k ++ entry_words k (entry_pair (entry_of nodes node k))

entry_read :
    (before : List ℕ) (ls : List Words) (d : ℕ) (entry : Option (PortSet × ℕ)) →
    read_bytes unread before ≡ at ls [] [] →
    read_bytes unread (with_entry before d entry) ≡ at (ls ++ entry_words d entry) [] []
entry_read before ls d None e = e ∙ ap (λ l. at l [] []) (sym (append-nil ls))
entry_read before ls d (Some entry) e = line_read before ls d entry.0 entry.1 e

pub entries_read :
    (before : List ℕ) (ls : List Words) (nodes : List Node) (node k : ℕ) →
    read_bytes unread before ≡ at ls [] [] →
    read_bytes unread (with_entries before nodes node k) ≡ at (ls ++ entries_words nodes node k) [] []
unfolding with_entries entries_words
entries_read before ls nodes node zero e = e ∙ ap (λ l. at l [] []) (sym (append-nil ls))
entries_read before ls nodes node (suc k) e =
    entry_read (with_entries before nodes node k) (ls ++ entries_words nodes node k) k (entry_pair (entry_of nodes node k))
    (entries_read before ls nodes node k e)
    ∙ ap (λ l. at l [] []) (append_assoc ls (entries_words nodes node k) (entry_words k (entry_pair (entry_of nodes node k))))
