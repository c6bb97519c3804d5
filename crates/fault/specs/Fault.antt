-- The number, layer, index and place of every fault.
use Rattle.std.specs.Prelude.{ℕ}
use Rattle.fault.specs.declared.CableProblem.{CableProblem}
use Rattle.fault.specs.declared.CableProblem.TheVariants.{NoSuchNode, NoSuchPort, OneNode, PortTaken}
use Rattle.fault.specs.declared.HeaderFault.{HeaderFault}
use Rattle.fault.specs.declared.HeaderFault.TheVariants.{Short, Mark, Version, NodeCount, CableCount, Length, Cable}
use Rattle.fault.specs.declared.WallFault.{WallFault}
use Rattle.fault.specs.declared.WallFault.TheVariants.{MeshSide, Header}
use Rattle.fault.specs.declared.Layer.{Layer}
use Rattle.fault.specs.declared.Layer.TheVariants.{InHeader, InCable, InWall}

-- The refusals are numbered: 1 to 6 are the header's, 7 to 10 a cable's, from 11 on the wall's.
abbrev pub problem_number : CableProblem → ℕ
problem_number NoSuchNode = 7
problem_number NoSuchPort = 8
problem_number OneNode = 9
problem_number PortTaken = 10

abbrev pub header_number : HeaderFault → ℕ
header_number (Short n) = 1
header_number (Mark at) = 2
header_number Version = 3
header_number NodeCount = 4
header_number CableCount = 5
header_number Length = 6
header_number (Cable f) = problem_number f.problem

abbrev pub fault_number : WallFault → ℕ
fault_number MeshSide = 11
fault_number (Header f) = header_number f

-- Which layer found the fault.
abbrev pub header_layer : HeaderFault → Layer
header_layer (Short n) = InHeader
header_layer (Mark at) = InHeader
header_layer Version = InHeader
header_layer NodeCount = InHeader
header_layer CableCount = InHeader
header_layer Length = InHeader
header_layer (Cable f) = InCable

abbrev pub fault_layer : WallFault → Layer
fault_layer MeshSide = InWall
fault_layer (Header f) = header_layer f

-- Which cable is at fault, counted from 0; 0 where no cable is.
abbrev pub header_index : HeaderFault → ℕ
header_index (Short n) = 0
header_index (Mark at) = 0
header_index Version = 0
header_index NodeCount = 0
header_index CableCount = 0
header_index Length = 0
header_index (Cable f) = f.index

abbrev pub fault_index : WallFault → ℕ
fault_index MeshSide = 0
fault_index (Header f) = header_index f

-- Which byte of the file is at fault, counted from 0; a short file is at fault where it ends.
abbrev pub header_place : HeaderFault → ℕ
header_place (Short n) = n
header_place (Mark at) = at
header_place Version = 3
header_place NodeCount = 5
header_place CableCount = 6
header_place Length = 6
header_place (Cable f) = f.place

abbrev pub fault_place : WallFault → ℕ
fault_place MeshSide = 0
fault_place (Header f) = header_place f
