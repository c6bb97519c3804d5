-- A page says just what there is to tell of its node, so two nodes with one page agree.
use Rattle.std.proofs.Common.{◌≡◌, ℕ, zero, suc, ◌<◌, ◌≤◌, Bool, true, false, cond, eqb, List, [], ◌∷◌, ◌++◌, map, get_or, Some, None, Option, sym, refl, ap, ◌∙◌, ⊎_elim, arith}
use Rattle.std.proofs.lemmas.List.{map-append}
use Rattle.std.proofs.lemmas.Bool.{eq-eqb, ne_eqb, cases_eq, cond-true, cond-false}
use Rattle.chooser.specs.PortSets.{has, ports_where}
use Rattle.chooser.specs.declared.ports.PortSet.{PortSet}
use Rattle.chooser.proofs.PortSets.{told as ports_told}
use Rattle.rules.specs.declared.Mark.{Mark}
use Rattle.rules.specs.declared.Mark.TheVariants.{Unmarked, Up, Down}
use Rattle.rules.specs.declared.Mode.{Mode}
use Rattle.rules.specs.declared.Mode.TheVariants.{New, Recovering, Serving}
use Rattle.rules.specs.Numbers.{mode_letter, mark_letter}
use Rattle.rules.specs.State.{State, Node, node_of, entry_of}
use Rattle.wall.specs.Answers.{entry_pair}
use Rattle.pagetext.specs.Text.{root_text, marks_text, with_node, page_text}
use Rattle.pagetext.specs.Reading.{recovering, serving, Line, doing_of, four_marks, listed_entry, listed, shown, unread, read_bytes, number_from, doing_said, mark_said, ports_said, line_said, page_said, read_page}
use Rattle.pagetext.specs.Laws.{ByteRoot, ByteCount, ReadBackLaw, SamePageLaw}
use Rattle.pagetext.proofs.Figures.{numeral_reads}
use Rattle.pagetext.proofs.Splitting.{nothing_read, node_words, node_read, port_digits, line_words, entry_words, entries_words, entries_read}

mode_back : (mode : Mode) → ByteRoot mode → doing_said (mode_letter mode) (number_from 0 (root_text mode)) ≡ doing_of mode
mode_back New h = refl
mode_back (Recovering root left) h = ap recovering (numeral_reads root (omega arith))
mode_back (Serving root) h = ap serving (numeral_reads root (omega arith))

mark_back : (m : Mark) → mark_said (mark_letter m) ≡ m
mark_back Unmarked = refl
mark_back Up = refl
mark_back Down = refl

marks_back : (marks : List Mark) → map mark_said (marks_text marks) ≡ four_marks marks
marks_back marks = λ i. mark_back (get_or marks 0 Unmarked) i ∷ mark_back (get_or marks 1 Unmarked) i ∷ mark_back (get_or marks 2 Unmarked) i ∷ mark_back (get_or marks 3 Unmarked) i ∷ []

abbrev four_digits : (a b c d : Bool) → List ℕ
four_digits a b c d = cond a (48 ∷ []) [] ++ cond b (49 ∷ []) [] ++ cond c (50 ∷ []) [] ++ cond d (51 ∷ []) []

abbrev holding : (a b c d : Bool) → PortSet
holding a b c d = ports_where (λ p. get_or (a ∷ b ∷ c ∷ d ∷ []) p false)

set_back : (a b c d : Bool) → ports_said (four_digits a b c d) ≡ holding a b c d
set_back true true true true = refl
set_back true true true false = refl
set_back true true false true = refl
set_back true true false false = refl
set_back true false true true = refl
set_back true false true false = refl
set_back true false false true = refl
set_back true false false false = refl
set_back false true true true = refl
set_back false true true false = refl
set_back false true false true = refl
set_back false true false false = refl
set_back false false true true = refl
set_back false false true false = refl
set_back false false false true = refl
set_back false false false false = refl

ports_back : (ports : PortSet) → ports_said (port_digits ports) ≡ ports
ports_back ports = set_back (has ports 0) (has ports 1) (has ports 2) (has ports 3) ∙ sym (ports_told ports)

line_back : (d : ℕ) (ports : PortSet) (count : ℕ) → d < 256 → count < 256 → line_said (line_words d ports count) ≡ record { destination = d; ports = ports; count = count }
line_back d ports count h k =
    let e = numeral_reads d (omega arith) in
    let f = numeral_reads count (omega arith) in
    λ i. record { destination = e i; ports = ports_back ports i; count = f i }

entry_back : (d : ℕ) (entry : Option (PortSet × ℕ)) → d < 256 → ByteCount entry → map line_said (entry_words d entry) ≡ listed_entry d entry
entry_back d None h k = refl
entry_back d (Some e) h k = ap (λ l. l ∷ []) (line_back d e.0 e.1 h k)

table_back :
    (nodes : List Node) (node k : ℕ) → k < 256 → ((d : ℕ) → d < k → ByteCount (entry_pair (entry_of nodes node d))) →
    map line_said (entries_words nodes node k) ≡ listed nodes node k
unfolding entries_words listed
table_back nodes node zero h bytes = refl
table_back nodes node (suc k) h bytes =
    map-append line_said (entries_words nodes node k) (entry_words k (entry_pair (entry_of nodes node k)))
    ∙ (λ i. table_back nodes node k (omega arith) (λ d less. bytes d (omega arith)) i ++ entry_back k (entry_pair (entry_of nodes node k)) (omega arith) (bytes k (omega arith)) i)

lines_are :
    (count : ℕ) (s : State) (node : ℕ) →
    (read_bytes unread (page_text count s node)).lines
    ≡ node_words node (node_of s.nodes node).mode (node_of s.nodes node).marks ∷ entries_words s.nodes node count
lines_are count s node =
    let mode = (node_of s.nodes node).mode in
    let marks = (node_of s.nodes node).marks in
    ap (λ r. r.lines) (entries_read (with_node [] node mode marks) (node_words node mode marks ∷ []) s.nodes node count (node_read [] [] node mode marks nothing_read))

pub reads_back : ReadBackLaw
reads_back count s node h =
    let number = numeral_reads node (omega (arith, h.node_byte)) in
    let mode = mode_back (node_of s.nodes node).mode h.root_byte in
    let marks = marks_back (node_of s.nodes node).marks in
    let table = table_back s.nodes node count h.few_nodes h.count_bytes in
    ap page_said (lines_are count s node) ∙ (λ i. record { node = number i; doing = mode i; marks = marks i; table = table i })

-- The entry for a destination among the lines of a table.
told : ℕ → List Line → Option (PortSet × ℕ)
told d [] = None
told d (l ∷ ls) = cond (eqb l.destination d) (Some (l.ports, l.count)) (told d ls)

cond_before : {X : Type 0} (t : Bool) (a b c x : X) → (b ≡ x → c ≡ x) → cond t a b ≡ x → cond t a c ≡ x
cond_before true a b c x h e = e
cond_before false a b c x h e = h e

cond_after : {X : Type 0} (t : Bool) (a : X) (b c x : Option X) → (b ≡ None → c ≡ x) → cond t (Some a) b ≡ None → cond t (Some a) c ≡ x
cond_after true a b c x h e = cc
cond_after false a b c x h e = h e

told_before : (d : ℕ) (xs : List Line) (x : Option (PortSet × ℕ)) (ys : List Line) → told d xs ≡ x → told d ys ≡ None → told d (xs ++ ys) ≡ x
unfolding told
told_before d [] x ys e f = f ∙ e
told_before d (l ∷ ls) x ys e f = cond_before (eqb l.destination d) (Some (l.ports, l.count)) (told d ls) (told d (ls ++ ys)) x (λ h. told_before d ls x ys h f) e

told_after : (d : ℕ) (xs : List Line) (x : Option (PortSet × ℕ)) (ys : List Line) → told d xs ≡ None → told d ys ≡ x → told d (xs ++ ys) ≡ x
unfolding told
told_after d [] x ys e f = f
told_after d (l ∷ ls) x ys e f = cond_after (eqb l.destination d) (l.ports, l.count) (told d ls) (told d (ls ++ ys)) x (λ h. told_after d ls x ys h f) e

told_own : (d : ℕ) (entry : Option (PortSet × ℕ)) → told d (listed_entry d entry) ≡ entry
unfolding told
told_own d None = refl
told_own d (Some e) = cond-true (eqb d d) (Some (e.0, e.1)) None (eq-eqb d d refl)

told_other : (d k : ℕ) (entry : Option (PortSet × ℕ)) → (k ≡ d → ⊥) → told d (listed_entry k entry) ≡ None
unfolding told
told_other d k None h = refl
told_other d k (Some e) h = cond-false (eqb k d) (Some (e.0, e.1)) None (ne_eqb k d h)

module _ (nodes : List Node) (node : ℕ) where
  told_none : (k d : ℕ) → k ≤ d → told d (listed nodes node k) ≡ None
  unfolding told listed
  told_none zero d h = refl
  told_none (suc k) d h =
      told_after d (listed nodes node k) None (listed_entry k (entry_pair (entry_of nodes node k)))
      (told_none k d (omega arith)) (told_other d k (entry_pair (entry_of nodes node k)) (λ e. omega arith))

  told_entry : (k d : ℕ) → d < k → told d (listed nodes node k) ≡ entry_pair (entry_of nodes node d)
  unfolding listed
  told_entry zero d h = absurd (omega arith)
  told_entry (suc k) d h =
      ⊎_elim
      (λ (e : k ≡ d). told_after d (listed nodes node k) (entry_pair (entry_of nodes node d)) (listed_entry k (entry_pair (entry_of nodes node k)))
      (told_none k d (omega arith))
      (ap (λ n. told d (listed_entry n (entry_pair (entry_of nodes node n)))) e ∙ told_own d (entry_pair (entry_of nodes node d))))
      (λ (e : k ≡ d → ⊥). told_before d (listed nodes node k) (entry_pair (entry_of nodes node d)) (listed_entry k (entry_pair (entry_of nodes node k)))
      (told_entry k d (omega (arith, e))) (told_other d k (entry_pair (entry_of nodes node k)) e))
      (cases_eq k d)

pub same_page : SamePageLaw
same_page count s node s' node' h h' e =
    let same : shown count s node ≡ shown count s' node' = sym (reads_back count s node h) ∙ ap read_page e ∙ reads_back count s' node' h' in
    record {
      nodes = ap (λ x. x.node) same;
      modes = ap (λ x. x.doing) same;
      marks = ap (λ x. x.marks) same;
      entries = λ d less. sym (told_entry s.nodes node count d less) ∙ ap (λ x. told d x.table) same ∙ told_entry s'.nodes node' count d less;
    }
