-- A step on the code's values, while the packets are taken one after another.
use Rattle.std.specs.Prelude.{◌≡◌, ℕ, ◌+◌, ◌<◌, ◌≤◌, List, ◌++◌, length, take, drop}
use Rattle.tray.specs.declared.types.Tray.{Tray}
use Rattle.tray.specs.Filled as tray
use Rattle.rules.specs.declared.Outcome.{Outcome}
use Rattle.rules.specs.declared.Packet.{Packet}
use Rattle.rules.specs.declared.StepCounts.{StepCounts}
use Rattle.rules.specs.Ports.{Ports}
use Rattle.rules.specs.Step.{Middle, apply}
use Rattle.traffic.specs.declared.types.Fate.{Fate}
use Rattle.traffic.specs.declared.types.Flight.{Flight}
use Rattle.traffic.specs.declared.types.Sweep.{Sweep}
use Rattle.traffic.specs.Choosing.{fate_view, LandsInside}
use Rattle.traffic.specs.Occupied.{Counts, Room}
use Rattle.traffic.specs.Inside.{Inside}
use Rattle.traffic.specs.View.{packets_view}

-- The packets taken so far.
abbrev pub tallied : StepCounts → ℕ
tallied counts = counts.moved + counts.delivered + counts.returned + counts.waited

-- The packets taken that stay in flight stand in the first places.
abbrev pub staying : Flight → Sweep → List Packet
staying flight sweep = take sweep.stayed flight.places

-- The packets from place i on are still to come.
abbrev pub to_come : Flight → ℕ → List Packet
to_come flight i = drop i (packets_view flight)

-- These values, with what was put into the tray since it stood at `first`, are a step in the middle.
pub record Shows (first : Tray Outcome) (mid : Middle) (flight : Flight) (sweep : Sweep) (held : Tray Outcome) : Type 0 where
  pub flying_are : mid.flying ≡ staying flight sweep
  pub counts_are : mid.counts ≡ sweep.counts
  pub puts : tray.Puts mid.outcomes first held

-- The packets behind the next free place stand as they stood.
pub record BehindStays (stayed : ℕ) (before after : Flight) : Type 0 where
  pub places_stay : drop (stayed + 1) after.places ≡ drop (stayed + 1) before.places
  pub count_stays : after.count ≡ before.count
  pub last_stays : after.last ≡ before.last

-- A packet's fate is put into effect, whatever was asked.
pub record Applies (fate : Fate) (x : Packet) (flight : Flight) (sweep : Sweep) (held : Tray Outcome)
    (flight' : Flight) (sweep' : Sweep) (held' : Tray Outcome) : Type 0 where
  pub shows : (first : Tray Outcome) (mid : Middle) (ask : Ports × ℕ) →
      Shows first mid flight sweep held → Shows first (apply (fate_view fate) x ask mid) flight' sweep' held'

-- There is a place for the packet, in the first places, the occupancy, the tray and the counts.
pub record ReadyFor (fate : Fate) (x : Packet) (sweep : Sweep) (held : Tray Outcome) : Type 0 where
  pub place : sweep.stayed < 256
  pub inside : Inside x
  pub lands : LandsInside (fate_view fate)
  pub room : Room sweep.occupancy
  pub free : 1 ≤ length (tray.rest held)
  pub few : tallied sweep.counts < 65535

-- An occupancy that counts the packets that stay and some others goes on to count them.
pub record OccupancyFollows (flight : Flight) (sweep : Sweep) (flight' : Flight) (sweep' : Sweep) : Type 0 where
  pub counts_on : (others : List Packet) →
      Counts sweep.occupancy (staying flight sweep ++ others) → Counts sweep'.occupancy (staying flight' sweep' ++ others)

-- One packet more was taken: at most one more stays, and at most one place of the tray is used.
pub record Onward (sweep : Sweep) (held : Tray Outcome) (sweep' : Sweep) (held' : Tray Outcome) : Type 0 where
  pub stayed_more : sweep'.stayed ≤ sweep.stayed + 1
  pub tallied_more : tallied sweep'.counts ≡ tallied sweep.counts + 1
  pub free_fewer : length (tray.rest held) ≤ length (tray.rest held') + 1
