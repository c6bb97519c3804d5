-- Whether one port is offered to a packet, and what the chooser is asked.
use Rattle.std.specs.Prelude.{ℕ, Bool, ◌&&◌, List}
use Rattle.wiring.specs.Layout.{Layout}
use Rattle.rules.specs.declared.Packet.{Packet}
use Rattle.rules.specs.Ports.{Ports, has}
use Rattle.rules.specs.State.{Node, live_of}
use Rattle.rules.specs.Step.{permitted, far_port_empty}

-- A port is offered that is in the entry, by a permitted turn, with a live cable and an empty far
-- port.
abbrev pub port_offered : Layout → List Node → List Packet → Packet → Ports → ℕ → Bool
port_offered layout nodes others x ports p =
    has ports p && permitted nodes x.node x.standing p && live_of nodes x.node p
    && far_port_empty layout others x.node p
