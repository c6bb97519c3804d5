use Rattle.std.proofs.Common.{◌≡◌, ◌-◌}
use Rattle.wiring.specs.Cables.{bare}
use Rattle.wiring.specs.File.{nodes_said, cables_said, cables_from, lay_all}
use Rattle.wiring.proofs.file.read_list.Given as goal

-- what is left to lay gives what all of it gives from the start
abbrev pub invariant-loop-index : goal.invariant-loop-index
invariant-loop-index l =
    (l.list.count ≡ nodes_said l.bytes)
    × (lay_all (nodes_said l.bytes) l.index l.list.ends (cables_from l.bytes l.index (cables_said l.bytes - l.index))
    ≡ lay_all (nodes_said l.bytes) 0 bare (cables_from l.bytes 0 (cables_said l.bytes)))
