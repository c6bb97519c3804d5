-- Twelve worked walls: small walls with what the rules say of each, computed from the rules' own
-- definitions.
use Rattle.std.specs.Prelude.{◌≡◌, ℕ, zero, suc, Bool, true, false, cond, List, [], ◌∷◌, Some, None, Ok, Err, Result}
use Rattle.std.specs.List.{AllByRecursion}
use Rattle.wiring.specs.Layout.{Layout}
use Rattle.wiring.specs.Grid.{grid}
use Rattle.wiring.specs.Cables.{bare, cabled, lone}
use Rattle.wiring.specs.File.{read_file}
use Rattle.fault.specs.Fault.{fault_number, fault_place}
use Rattle.fault.specs.declared.WallFault.{WallFault}
use Rattle.rules.specs.declared.Act.TheVariants.{Root}
use Rattle.rules.specs.declared.Mark.{Mark}
use Rattle.rules.specs.declared.Mark.TheVariants.{Unmarked, Up, Down}
use Rattle.rules.specs.declared.Mode.{Mode}
use Rattle.rules.specs.declared.Mode.TheVariants.{Recovering, Serving}
use Rattle.rules.specs.declared.StepCounts.{StepCounts}
use Rattle.rules.specs.Ports.{Ports, has}
use Rattle.rules.specs.State.{State, Entry, entry, node_of, entry_of, power_up}
use Rattle.rules.specs.Slot.{slot}
use Rattle.rules.specs.Calls.{cut_refused, after_cut, hand_refused, after_hand, post_refused, after_post}
use Rattle.rules.specs.Step.{Middle, step_with, after_step}
use Rattle.rules.specs.Promise.{Calm}

-- Words for walls

-- So many slots, one after another.
unfoldable pub slots : Layout → ℕ → State → State
slots layout zero s = s
slots layout (suc k) s = slots layout k (slot layout s).after

-- A wall so many slots after power-up.
abbrev pub slots_up : Layout → ℕ → State
slots_up layout k = slots layout k (power_up layout)

abbrev pub mode_in : State → ℕ → Mode
mode_in s n = (node_of s.nodes n).mode

abbrev pub hand_in : State → ℕ → Bool
hand_in s n = (node_of s.nodes n).hand

abbrev pub marks_in : State → ℕ → List Mark
marks_in s n = (node_of s.nodes n).marks

abbrev pub entry_in : State → ℕ → ℕ → Entry
entry_in s n x = entry_of s.nodes n x

-- Sets of ports, by their ports.
abbrev pub ports_1_2 : Ports
ports_1_2 = false ∷ true ∷ true ∷ false ∷ []

abbrev pub port_2 : Ports
port_2 = false ∷ false ∷ true ∷ false ∷ []

abbrev pub port_3 : Ports
port_3 = false ∷ false ∷ false ∷ true ∷ []

-- A step's counts: moved, delivered, returned and waited.
abbrev pub counts : ℕ → ℕ → ℕ → ℕ → StepCounts
counts moved delivered returned waited = record { moved = moved; delivered = delivered; returned = returned; waited = waited }

-- The lowest port of an offer; 0 where nothing is offered.
abbrev pub lowest : Ports → ℕ
lowest ports = cond (has ports 0) 0 (cond (has ports 1) 1 (cond (has ports 2) 2 (cond (has ports 3) 3 0)))

-- Every pick of a step is the lowest port of its offer.
abbrev pub Lowest : Middle → Type 0
Lowest mid = AllByRecursion (λ ask. ask.1 ≡ lowest ask.0) mid.asked

-- The triangle

-- Three nodes, each cabled to the two others, as a wall file.
abbrev pub triangle_file : List ℕ
triangle_file =
    0x54 ∷ 0x57 ∷ 0x4C ∷ 0x00 ∷ 0x01 ∷ 0x03 ∷ 0x03 ∷
    0x00 ∷ 0x01 ∷ 0x01 ∷ 0x03 ∷
    0x00 ∷ 0x02 ∷ 0x02 ∷ 0x00 ∷
    0x01 ∷ 0x02 ∷ 0x02 ∷ 0x01 ∷ []

-- The wiring of a file that is accepted.
abbrev pub wiring_of : Result Layout WallFault → Layout
wiring_of (Ok layout) = layout
wiring_of (Err fault) = lone

abbrev pub accepts : Result Layout WallFault → Bool
accepts (Ok layout) = true
accepts (Err fault) = false

abbrev pub triangle : Layout
triangle = wiring_of (read_file triangle_file)

-- The square: a mesh of 2 by 2

abbrev pub square : Layout
square = grid 2 2

abbrev pub square_cut : State
square_cut = after_cut square (slots_up square 4) 0 1

abbrev pub square_cut_later : State
square_cut_later = after_cut square (slots_up square 5) 0 1

-- Three posts from 0 to 3, and four steps with these picks.
abbrev pub posted_once : State
posted_once = after_post (slots_up square 4) 0 3 7

abbrev pub posted_twice : State
posted_twice = after_post posted_once 0 3 8

abbrev pub posted_thrice : State
posted_thrice = after_post posted_twice 0 3 9

abbrev pub step_one : Middle
step_one = step_with square posted_thrice (1 ∷ 2 ∷ 0 ∷ [])

abbrev pub after_one : State
after_one = after_step posted_thrice step_one

abbrev pub step_two : Middle
step_two = step_with square after_one (2 ∷ 1 ∷ 1 ∷ [])

abbrev pub after_two : State
after_two = after_step after_one step_two

abbrev pub step_three : Middle
step_three = step_with square after_two (0 ∷ 0 ∷ 2 ∷ [])

abbrev pub after_three : State
after_three = after_step after_two step_three

abbrev pub step_four : Middle
step_four = step_with square after_three (0 ∷ [])

-- The pair: a mesh of 2 by 1

abbrev pub pair : Layout
pair = grid 2 1

abbrev pub pair_raised : State
pair_raised = after_hand (slots_up pair 1) 1

abbrev pub pair_posted : State
pair_posted = after_post (slots_up pair 2) 0 1 5

abbrev pub pair_cut : State
pair_cut = after_cut pair pair_posted 0 1

abbrev pub pair_waits : Middle
pair_waits = step_with pair pair_cut (0 ∷ [])

abbrev pub pair_settled : State
pair_settled = slots pair 3 (after_step pair_cut pair_waits)

abbrev pub pair_returns : Middle
pair_returns = step_with pair pair_settled (0 ∷ [])

-- One node, as a wall file.
abbrev pub lone_file : List ℕ → List ℕ
lone_file more = 0x54 ∷ 0x57 ∷ 0x4C ∷ 0x00 ∷ 0x01 ∷ 0x01 ∷ 0x00 ∷ more

-- A file is refused with this number, at this place.
abbrev pub RefusedAt : Result Layout WallFault → ℕ → ℕ → Type 0
RefusedAt (Ok layout) number place = ⊥
RefusedAt (Err fault) number place = (fault_number fault ≡ number) × (fault_place fault ≡ place)

-- The worked walls

pub record WorkedWalls : Type 0 where
  -- 1. Mesh 3 by 2, node 4: where its ports lead.
  pub mesh_far_ends :
      ((grid 3 2).far 4 0 ≡ Some (1, 2))
      × ((grid 3 2).far 4 1 ≡ Some (5, 3))
      × ((grid 3 2).far 4 2 ≡ None)
      × ((grid 3 2).far 4 3 ≡ Some (3, 1))
  -- 2. The triangle, read from its file: after five slots all serve root 0, with these marks.
  pub triangle_marks :
      (accepts (read_file triangle_file) ≡ true)
      × (mode_in (slots_up triangle 5) 0 ≡ Serving 0)
      × (mode_in (slots_up triangle 5) 1 ≡ Serving 0)
      × (mode_in (slots_up triangle 5) 2 ≡ Serving 0)
      × (marks_in (slots_up triangle 5) 0 ≡ Unmarked ∷ Down ∷ Down ∷ Unmarked ∷ [])
      × (marks_in (slots_up triangle 5) 1 ≡ Unmarked ∷ Unmarked ∷ Down ∷ Up ∷ [])
      × (marks_in (slots_up triangle 5) 2 ≡ Up ∷ Up ∷ Unmarked ∷ Unmarked ∷ [])
  -- 3. Mesh 2 by 2, root 0: node 0 for 3 has ports 1 and 2, count 2.
  pub two_ports :
      (mode_in (slots_up square 4) 0 ≡ Serving 0)
      × (entry_in (slots_up square 4) 0 3 ≡ entry ports_1_2 2)
  -- 4. There, node 1 for 2 has port 3, count 2.
  pub one_port : entry_in (slots_up square 4) 1 2 ≡ entry port_3 2
  -- 5. Mesh 2 by 2, four slots, cut node 0 port 1, four slots: node 0 for 1 has port 2, count 3.
  pub long_way :
      (cut_refused square (slots_up square 4) 0 1 ≡ None)
      × (entry_in (slots square 4 square_cut) 0 1 ≡ entry port_2 3)
  -- 6. Mesh 2 by 2, five slots, the same cut, one slot: the root is 1, the hand of 0 is down.
  pub next_root :
      (cut_refused square (slots_up square 5) 0 1 ≡ None)
      × ((slot square square_cut_later).answer.owner ≡ 1)
      × ((slot square square_cut_later).answer.act ≡ Root)
      × (mode_in (slots square 1 square_cut_later) 0 ≡ Recovering 1 3)
      × (hand_in square_cut_later 0 ≡ true)
      × (hand_in (slots square 1 square_cut_later) 0 ≡ false)
  -- 7. Mesh 1 by 1: calm after one slot, 0 cycles.
  pub lone_node :
      Calm (grid 1 1) (slots_up (grid 1 1) 1)
      × ((slot (grid 1 1) (power_up (grid 1 1))).answer.cycles ≡ 0)
  -- 8. Mesh 2 by 1, one slot, a hand at 1: calm after four more, not after three.
  pub hand_stays_up :
      (hand_refused pair 1 ≡ None)
      × (Calm pair (slots pair 3 pair_raised) → ⊥)
      × Calm pair (slots pair 4 pair_raised)
  -- 9. Mesh 2 by 2, calm, lowest port, three posts from 0 to 3: step one moves 2, waits 1.
  pub three_posts :
      Calm square (slots_up square 4)
      × (post_refused square (slots_up square 4) 0 3 ≡ None)
      × (post_refused square posted_once 0 3 ≡ None)
      × (post_refused square posted_twice 0 3 ≡ None)
      × Lowest step_one
      × (step_one.counts ≡ counts 2 0 0 1)
  -- 10. Step two moves 3; step three moves 1, delivers 2; step four delivers 1.
  pub three_deliveries :
      Lowest step_two
      × (step_two.counts ≡ counts 3 0 0 0)
      × Lowest step_three
      × (step_three.counts ≡ counts 1 2 0 0)
      × Lowest step_four
      × (step_four.counts ≡ counts 0 1 0 0)
  -- 11. Mesh 2 by 1, two slots, post 0 to 1, cut it, step: waits 1. Three slots, step: returns 1.
  pub one_return :
      (post_refused pair (slots_up pair 2) 0 1 ≡ None)
      × (cut_refused pair pair_posted 0 1 ≡ None)
      × Lowest pair_waits
      × (pair_waits.counts ≡ counts 0 0 0 1)
      × Lowest pair_returns
      × (pair_returns.counts ≡ counts 0 0 1 0)
  -- 12. TWL, 00 01 01 00 is accepted; with one more byte it is refused by 6 at 6.
  pub one_node_file :
      (read_file (lone_file []) ≡ Ok (cabled 1 bare))
      × ((byte : ℕ) → RefusedAt (read_file (lone_file (byte ∷ []))) 6 6)
