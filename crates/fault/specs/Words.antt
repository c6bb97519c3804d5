-- What is said of a fault.
use Rattle.std.specs.Prelude.{ℕ, List, ◌++◌, codes, decimal}
use Rattle.fault.specs.Fault.{fault_number, fault_layer, fault_index, fault_place}
use Rattle.fault.specs.declared.CableProblem.{CableProblem}
use Rattle.fault.specs.declared.CableProblem.TheVariants.{NoSuchNode, NoSuchPort, OneNode, PortTaken}
use Rattle.fault.specs.declared.HeaderFault.{HeaderFault}
use Rattle.fault.specs.declared.HeaderFault.TheVariants.{Short, Mark, Version, NodeCount, CableCount, Length, Cable}
use Rattle.fault.specs.declared.WallFault.{WallFault}
use Rattle.fault.specs.declared.WallFault.TheVariants.{MeshSide, Header}
use Rattle.fault.specs.declared.Layer.{Layer}
use Rattle.fault.specs.declared.Layer.TheVariants.{InHeader, InCable, InWall}

abbrev pub layer_words : Layer → List ℕ
layer_words InHeader = codes "header"
layer_words InCable = codes "cable"
layer_words InWall = codes "wall"

abbrev pub problem_words : CableProblem → List ℕ
problem_words NoSuchNode = codes "a cable's node is not below the node count"
problem_words NoSuchPort = codes "a cable's port is above 3"
problem_words OneNode = codes "a cable has both ends on one node"
problem_words PortTaken = codes "a cable's port is already taken"

abbrev pub header_words : HeaderFault → List ℕ
header_words (Short n) = codes "the file ends before its header does"
header_words (Mark at) = codes "the file does not begin with the mark TWL"
header_words Version = codes "the version is not 1"
header_words NodeCount = codes "the node count is not 1 to 64"
header_words CableCount = codes "the cable count is above 128"
header_words Length = codes "the length does not fit the cable count"
header_words (Cable f) = problem_words f.problem

abbrev pub fault_words : WallFault → List ℕ
fault_words MeshSide = codes "a side of the mesh is not 1 to 8"
fault_words (Header f) = header_words f

-- In full: the words, then the number, layer, index and place.
abbrev pub fault_text : WallFault → List ℕ
fault_text f =
    fault_words f
    ++ (codes " (number " ++ (decimal (fault_number f)
    ++ (codes ", layer " ++ (layer_words (fault_layer f)
    ++ (codes ", index " ++ (decimal (fault_index f)
    ++ (codes ", place " ++ (decimal (fault_place f) ++ codes ")"))))))))
