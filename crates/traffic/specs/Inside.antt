-- Where a packet can stand: at a node below 64, at home or at one of four ports.
use Rattle.std.specs.Prelude.{◌<◌, None}
use Rattle.std.specs.Option.{ForSome}
use Rattle.rules.specs.declared.Packet.{Packet}

abbrev pub Inside : Packet → Type 0
Inside x = (x.node < 64) × ForSome x.standing (λ p. p < 4)

-- What an empty place holds.
abbrev pub nowhere : Packet
nowhere = record { number = 0; source = 0; destination = 0; word = 0; node = 0; standing = None }
