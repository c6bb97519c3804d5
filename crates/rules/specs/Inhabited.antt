-- That the laws are about something: sound wirings, calm walls and others, quiet runs long enough,
-- runs that deliver, and circles where marks are wrong.
use Rattle.std.specs.Prelude.{◌≡◌, ◌-◌, ◌*◌, ◌≤◌, true, false, List, [], ◌∷◌}
use Rattle.std.specs.List.{ContainsAt as Has}
use Rattle.wiring.specs.Layout.{Layout, Sound}
use Rattle.rules.specs.declared.Ending.TheVariants.{Delivered}
use Rattle.rules.specs.declared.Mark.TheVariants.{Down}
use Rattle.rules.specs.declared.Mode.TheVariants.{Serving}
use Rattle.rules.specs.Ports.{Ports}
use Rattle.rules.specs.State.{Node, State, power_up}
use Rattle.rules.specs.Runs.{Event, Run}
use Rattle.rules.specs.Promise.{Circle, Calm, Quiet, slots_in, posts_in, outcomes_in, crossings}
use Rattle.rules.specs.Laws.{Reachable}
use Rattle.rules.specs.Walls.{triangle, square, pair}

-- A run from power-up that posts a packet, takes it over a cable and delivers it.
pub record Delivery (layout : Layout) : Type 0 where
  pub log : List Event
  pub end : State
  pub run : Run layout (power_up layout) log end
  pub quiet : Quiet log
  pub posts : posts_in log ≡ 1
  pub crosses : crossings 1 log ≡ 1
  pub delivers : Has (outcomes_in log) (record { number = 1; ending = Delivered; node = 1; word = 5 })

-- A quiet run from power-up with as many slots as calm takes to return.
pub record LongQuiet (layout : Layout) : Type 0 where
  pub log : List Event
  pub end : State
  pub run : Run layout (power_up layout) log end
  pub quiet : Quiet log
  pub slots : 3 * layout.count - 2 ≤ slots_in log

-- The triangle with every port of a cable marked down: no run reaches it.
abbrev pub all_down : Ports → Node
all_down live = record { mode = Serving 0; hand = false; live = live; marks = Down ∷ Down ∷ Down ∷ Down ∷ []; row = [] }

abbrev pub wrongly_marked : State
wrongly_marked = record {
  nodes = all_down (false ∷ true ∷ true ∷ false ∷ []) ∷ all_down (false ∷ false ∷ true ∷ true ∷ []) ∷ all_down (true ∷ true ∷ false ∷ false ∷ []) ∷ [];
  owner = 0;
  last = 0;
  packets = [];
}

pub record Inhabited : Type 0 where
  pub sound_mesh : Sound square
  pub calm_reached : (s : State) × Reachable pair s × Calm pair s
  pub uncalm_reached : (s : State) × Reachable pair s × (Calm pair s → ⊥)
  pub long_quiet : LongQuiet pair
  pub delivery : Delivery pair
  pub circle_if_wrong : Circle triangle wrongly_marked
