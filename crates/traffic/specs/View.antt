-- What the places of a flight stand for, and with a board the state of a wall.
use Rattle.std.specs.Prelude.{ℕ, List, take}
use Rattle.rules.specs.declared.Packet.{Packet}
use Rattle.rules.specs.State.{State}
use Rattle.board.specs.declared.types.Board.{Board}
use Rattle.board.specs.View.{nodes_view}
use Rattle.traffic.specs.declared.types.Flight.{Flight}

-- The packets in flight, by rising number.
abbrev pub packets_view : Flight → List Packet
packets_view flight = take flight.count flight.places

-- The state of a wall with these node records, this next owner and these packets.
abbrev pub state : Board → ℕ → Flight → State
state board owner flight = record {
  nodes = nodes_view board;
  owner = owner;
  last = flight.last;
  packets = packets_view flight;
}
