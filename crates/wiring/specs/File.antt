-- What the reader of a wall file answers, and what it makes of the file.
use Rattle.std.specs.Prelude.{◌≡◌, ℕ, zero, suc, ◌+◌, ◌*◌, Bool, cond, not, ◌&&◌, ◌||◌, List, [], ◌∷◌, length, is_some, Some, None, Ok, Err, Option, Result, ◌==◌, nat_le, nat_lt, slice_index, slice_index_or}
use Rattle.wiring.specs.Layout.{Layout}
use Rattle.wiring.specs.Cables.{Table, slot, bare, join, cabled}
use Rattle.wiring.specs.declared.cable.Cable.{Cable}
use Rattle.fault.specs.declared.CableProblem.{CableProblem}
use Rattle.fault.specs.declared.CableProblem.TheVariants.{NoSuchNode, NoSuchPort, OneNode, PortTaken}
use Rattle.fault.specs.declared.CableFault.{CableFault}
use Rattle.fault.specs.declared.HeaderFault.{HeaderFault}
use Rattle.fault.specs.declared.HeaderFault.TheVariants as header
use Rattle.fault.specs.declared.WallFault.{WallFault}
use Rattle.fault.specs.declared.WallFault.TheVariants as wall

-- The header: the mark TWL, version 1 in two bytes with the high one first, the node count and the
-- cable count. Its checks, in their order, and the first fault that one of them finds.
abbrev pub nodes_said : List ℕ → ℕ
nodes_said bytes = slice_index bytes 5

abbrev pub cables_said : List ℕ → ℕ
cables_said bytes = slice_index bytes 6

-- The first letter that is not that of TWL.
abbrev pub mark_fault : List ℕ → Option HeaderFault
mark_fault bytes =
    cond (not (slice_index bytes 0 == 0x54)) (Some (header.Mark 0))
    (cond (not (slice_index bytes 1 == 0x57)) (Some (header.Mark 1))
    (cond (not (slice_index bytes 2 == 0x4C)) (Some (header.Mark 2)) None))

abbrev pub header_fault : List ℕ → Option HeaderFault
header_fault bytes =
    cond (nat_lt (length bytes) 7) (Some (header.Short (length bytes)))
    (cond (not (slice_index bytes 0 == 0x54)) (Some (header.Mark 0))
    (cond (not (slice_index bytes 1 == 0x57)) (Some (header.Mark 1))
    (cond (not (slice_index bytes 2 == 0x4C)) (Some (header.Mark 2))
    (cond (not (slice_index bytes 3 == 0 && slice_index bytes 4 == 1)) (Some header.Version)
    (cond (nodes_said bytes == 0 || nat_lt 64 (nodes_said bytes)) (Some header.NodeCount)
    (cond (nat_lt 128 (cables_said bytes)) (Some header.CableCount)
    (cond (not (length bytes == 7 + 4 * cables_said bytes)) (Some header.Length) None)))))))

-- Cable i is the four bytes from 7 + 4i: node, port, node, port.
abbrev pub cable_at : List ℕ → ℕ → Cable
cable_at bytes i = record {
  start = (slice_index bytes (7 + 4 * i), slice_index bytes (7 + 4 * i + 1));
  end = (slice_index bytes (7 + 4 * i + 2), slice_index bytes (7 + 4 * i + 3));
}

-- k cables from cable i on
unfoldable pub cables_from : List ℕ → ℕ → ℕ → List Cable
cables_from bytes i zero = []
cables_from bytes i (suc k) = cable_at bytes i ∷ cables_from bytes (i + 1) k

abbrev pub taken : Table → ℕ × ℕ → Bool
taken ends end = is_some (slice_index_or ends (slot end) None)

-- What is wrong with a node and a port of a cable, at this byte and the next.
abbrev pub end_problem : ℕ → ℕ × ℕ → ℕ → Option (CableProblem × ℕ)
end_problem nodes end byte =
    cond (nat_le nodes end.0) (Some (NoSuchNode, byte)) (cond (nat_le 4 end.1) (Some (NoSuchPort, byte + 1)) None)

abbrev pub taken_problem : Table → ℕ × ℕ → ℕ → Option (CableProblem × ℕ)
taken_problem ends end byte = cond (taken ends end) (Some (PortTaken, byte)) None

-- What is wrong with a cable, laid over a table, and at which of its four bytes.
abbrev pub problem : ℕ → Table → Cable → Option (CableProblem × ℕ)
problem nodes ends c =
    cond (nat_le nodes c.start.0) (Some (NoSuchNode, 0))
    (cond (nat_le 4 c.start.1) (Some (NoSuchPort, 1))
    (cond (nat_le nodes c.end.0) (Some (NoSuchNode, 2))
    (cond (nat_le 4 c.end.1) (Some (NoSuchPort, 3))
    (cond (c.start.0 == c.end.0) (Some (OneNode, 0))
    (cond (taken ends c.start) (Some (PortTaken, 1))
    (cond (taken ends c.end) (Some (PortTaken, 3)) None))))))

-- An answer is passed on: a good one to what comes next, a fault into the fault of a layer above.
abbrev pub on_ok : {A B E : Type 0} → Result A E → (A → Result B E) → Result B E
on_ok (Ok x) next = next x
on_ok (Err f) next = Err f

abbrev pub on_err : {A E F : Type 0} → Result A E → (E → F) → Result A F
on_err (Ok x) above = Ok x
on_err (Err f) above = Err (above f)

abbrev pub refused_or : {A F : Type 0} → Option F → A → Result A F
refused_or (Some f) x = Err f
refused_or None x = Ok x

-- Cable i laid over a table.
abbrev pub cable_fault : ℕ → Option (CableProblem × ℕ) → Option CableFault
cable_fault i (Some p) = Some (record { problem = p.0; index = i; place = 7 + 4 * i + p.1 })
cable_fault i None = None

abbrev pub lay : ℕ → ℕ → Table → Cable → Result Table CableFault
lay nodes i ends c = refused_or (cable_fault i (problem nodes ends c)) (join ends c)

-- Cables laid one after another, from cable i on, up to the first that is refused.
unfoldable pub lay_all : ℕ → ℕ → Table → List Cable → Result Table CableFault
lay_all nodes i ends [] = Ok ends
lay_all nodes i ends (c ∷ cs) = on_ok (lay nodes i ends c) (λ ends'. lay_all nodes (i + 1) ends' cs)

-- A call that works on a table in place answers and leaves what is given here.
abbrev pub Gives : {A F : Type 0} → Result A F → Result (Unit {0}) F → A → Type 0
Gives given (Ok _) after = given ≡ Ok after
Gives given (Err f) after = given ≡ Err f

-- The table that a file gives, or its fault.
abbrev pub read_table : List ℕ → Result Table HeaderFault
read_table bytes =
    on_ok (refused_or (header_fault bytes) bare)
    (λ ends. on_err (lay_all (nodes_said bytes) 0 ends (cables_from bytes 0 (cables_said bytes))) header.Cable)

-- The wiring that a file gives, or its fault.
abbrev pub read_file : List ℕ → Result Layout WallFault
read_file bytes = on_err (on_ok (read_table bytes) (λ ends. Ok (cabled (nodes_said bytes) ends))) wall.Header
