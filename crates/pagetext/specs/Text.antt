-- The text of pages. A definition whose name begins `with-` puts its text behind the text that stands before.
use Rattle.std.specs.Prelude.{ℕ, zero, suc, ◌+◌, ◌/◌, ◌%◌, cond, List, [], ◌∷◌, ◌++◌, Some, None, codes, Option, nat_lt, slice_index_or}
use Rattle.fault.specs.Fault.{fault_number, fault_place}
use Rattle.fault.specs.declared.WallFault.{WallFault}
use Rattle.chooser.specs.PortSets.{has}
use Rattle.chooser.specs.declared.ports.PortSet.{PortSet}
use Rattle.rules.specs.declared.Mark.{Mark}
use Rattle.rules.specs.declared.Mark.TheVariants.{Unmarked}
use Rattle.rules.specs.declared.Mode.{Mode}
use Rattle.rules.specs.declared.Mode.TheVariants.{New, Recovering, Serving}
use Rattle.rules.specs.Numbers.{mode_letter, mark_letter}
use Rattle.rules.specs.State.{State, Node, node_of, entry_of}
use Rattle.wall.specs.Answers.{entry_pair}

-- The last decimal digits of a number.
abbrev pub ones : ℕ → ℕ
ones n = 48 + n % 10

abbrev pub tens : ℕ → ℕ
tens n = 48 + n / 10 % 10

abbrev pub hundreds : ℕ → ℕ
hundreds n = 48 + n / 100 % 10

abbrev pub thousands : ℕ → ℕ
thousands n = 48 + n / 1000 % 10

-- A number below 100000 in decimal digits.
abbrev pub numeral : ℕ → List ℕ
numeral n =
    cond (nat_lt n 10) (ones n ∷ [])
    (cond (nat_lt n 100) (tens n ∷ ones n ∷ [])
    (cond (nat_lt n 1000) (hundreds n ∷ tens n ∷ ones n ∷ [])
    (cond (nat_lt n 10000) (thousands n ∷ hundreds n ∷ tens n ∷ ones n ∷ [])
    (tens (n / 1000) ∷ thousands n ∷ hundreds n ∷ tens n ∷ ones n ∷ []))))

-- The root of a node; a dash for a new node, which has none.
abbrev pub root_text : Mode → List ℕ
root_text New = codes "-"
root_text (Recovering root left) = numeral root
root_text (Serving root) = numeral root

-- The marks of the ports 0 to 3.
abbrev pub marks_text : List Mark → List ℕ
marks_text marks =
    mark_letter (slice_index_or marks 0 Unmarked) ∷ mark_letter (slice_index_or marks 1 Unmarked)
    ∷ mark_letter (slice_index_or marks 2 Unmarked) ∷ mark_letter (slice_index_or marks 3 Unmarked) ∷ []

-- The first line: the node's number, mode, root and marks.
abbrev pub with_node : List ℕ → ℕ → Mode → List Mark → List ℕ
with_node before node mode marks =
    before ++ codes "NODE " ++ numeral node ++ codes " " ++ (mode_letter mode ∷ [])
    ++ codes " ROOT " ++ root_text mode ++ codes " MARK " ++ marks_text marks ++ codes "\n"

-- A port's digit, if the port is in the set.
abbrev pub with_port : List ℕ → PortSet → ℕ → List ℕ
with_port before ports p = cond (has ports p) (before ++ ((48 + p) ∷ [])) before

-- The ports of a set, as ascending digits.
abbrev pub with_ports : List ℕ → PortSet → List ℕ
with_ports before ports = with_port (with_port (with_port (with_port before ports 0) ports 1) ports 2) ports 3

-- The line of an entry: destination, ports and count.
abbrev pub with_line : List ℕ → ℕ → PortSet → ℕ → List ℕ
with_line before destination ports count =
    with_ports (before ++ codes "TO " ++ numeral destination ++ codes " PORT ") ports
    ++ codes " HOPS " ++ numeral count ++ codes "\n"

-- What a table has for a destination: no line where it has nothing.
abbrev pub with_entry : List ℕ → ℕ → Option (PortSet × ℕ) → List ℕ
with_entry before destination None = before
with_entry before destination (Some e) = with_line before destination e.0 e.1

-- The entries of a node for the destinations below k, by rising destination.
unfoldable pub with_entries : List ℕ → List Node → ℕ → ℕ → List ℕ
with_entries before nodes node zero = before
with_entries before nodes node (suc k) =
    with_entry (with_entries before nodes node k) k (entry_pair (entry_of nodes node k))

-- The page of a node in a wall of so many nodes, behind the text that stands before.
abbrev pub with_page : List ℕ → ℕ → List Node → ℕ → List ℕ
with_page before count nodes node =
    with_entries (with_node before node (node_of nodes node).mode (node_of nodes node).marks) nodes node count

-- The page of a node in a wall of so many nodes.
abbrev pub page_text : ℕ → State → ℕ → List ℕ
page_text count s node = with_page [] count s.nodes node

-- The first line of what is printed of a wall: how many nodes it has.
abbrev pub with_wall : List ℕ → ℕ → List ℕ
with_wall before count = before ++ codes "WALL " ++ numeral count ++ codes "\n"

-- The pages of the nodes below k, by rising node.
unfoldable pub with_pages : List ℕ → ℕ → List Node → ℕ → List ℕ
with_pages before count nodes zero = before
with_pages before count nodes (suc k) = with_page (with_pages before count nodes k) count nodes k

-- The line of a wall file that is refused: the refusal's number and place.
abbrev pub with_refused : List ℕ → WallFault → List ℕ
with_refused before fault =
    before ++ codes "REFUSED " ++ numeral (fault_number fault) ++ codes " AT " ++ numeral (fault_place fault) ++ codes "\n"
