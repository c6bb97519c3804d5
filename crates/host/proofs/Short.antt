-- No page is long: each of its lines is short, and there are few of them.
use Rattle.std.proofs.Common.{ℕ, zero, suc, ◌+◌, ◌*◌, ◌≤◌, Bool, true, false, cond, ltb, List, [], ◌∷◌, ◌++◌, length, Some, None, codes, Option, arith, length-append}
use Rattle.chooser.specs.PortSets.{has}
use Rattle.chooser.specs.declared.ports.PortSet.{PortSet}
use Rattle.rules.specs.declared.Mark.{Mark}
use Rattle.rules.specs.declared.Mode.{Mode}
use Rattle.rules.specs.declared.Mode.TheVariants.{New, Recovering, Serving}
use Rattle.rules.specs.State.{State, Node, node_of, entry_of}
use Rattle.wall.specs.Answers.{entry_pair}
use Rattle.pagetext.specs.Text.{numeral, root_text, with_node, with_port, with_ports, with_entry, with_entries, page_text}

either_short : {n : ℕ} (b : Bool) (xs ys : List ℕ) → length xs ≤ n → length ys ≤ n → length (cond b xs ys) ≤ n
either_short true xs ys h k = h
either_short false xs ys h k = k

numeral_short : (n : ℕ) → length (numeral n) ≤ 5
numeral_short n =
    either_short (ltb n 10) _ _ (omega arith)
    (either_short (ltb n 100) _ _ (omega arith)
    (either_short (ltb n 1000) _ _ (omega arith)
    (either_short (ltb n 10000) _ _ (omega arith) (omega arith))))

root_short : (mode : Mode) → length (root_text mode) ≤ 5
root_short New = omega arith
root_short (Recovering root left) = numeral_short root
root_short (Serving root) = numeral_short root

node_short : (before : List ℕ) (node : ℕ) (mode : Mode) (marks : List Mark) → length (with_node before node mode marks) ≤ length before + 34
node_short before node mode marks = simp length-append (omega (arith, numeral_short node, root_short mode))

port_short : (before : List ℕ) (ports : PortSet) (p : ℕ) → length (with_port before ports p) ≤ length before + 1
port_short before ports p = either_short (has ports p) (before ++ ((48 + p) ∷ [])) before (simp length-append (omega arith)) (omega arith)

ports_short : (before : List ℕ) (ports : PortSet) → length (with_ports before ports) ≤ length before + 4
ports_short before ports =
    let a = with_port before ports 0 in
    let b = with_port a ports 1 in
    let c = with_port b ports 2 in
    omega (arith, port_short before ports 0, port_short a ports 1, port_short b ports 2, port_short c ports 3)

entry_short : (before : List ℕ) (destination : ℕ) (e : Option (PortSet × ℕ)) → length (with_entry before destination e) ≤ length before + 30
entry_short before destination None = omega arith
entry_short before destination (Some e) =
    let start = before ++ codes "TO " ++ numeral destination ++ codes " PORT " in
    let begun : length start ≤ length before + 14 = simp length-append (omega (arith, numeral_short destination)) in
    simp length-append (omega (arith, ports_short start e.0, numeral_short e.1))

entries_short : (before : List ℕ) (nodes : List Node) (node k : ℕ) → length (with_entries before nodes node k) ≤ length before + 30 * k
unfolding with_entries
entries_short before nodes node zero = omega arith
entries_short before nodes node (suc k) =
    let one = entry_short (with_entries before nodes node k) k (entry_pair (entry_of nodes node k)) in
    omega (arith, one, entries_short before nodes node k)

pub page_short : (count : ℕ) (s : State) (node : ℕ) → count ≤ 64 → length (page_text count s node) ≤ 2048
page_short count s node few =
    let mode = (node_of s.nodes node).mode in
    let marks = (node_of s.nodes node).marks in
    omega (arith, node_short [] node mode marks, entries_short (with_node [] node mode marks) s.nodes node count)
