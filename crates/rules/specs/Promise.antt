-- What a wall promises of every state that a run of calls can reach.
use Rattle.std.specs.Prelude.{◌≡◌, ℕ, zero, suc, ◌+◌, ◌-◌, ◌*◌, ◌<◌, ◌≤◌, Bool, true, false, cond, ◌&&◌, List, [], ◌∷◌, ◌++◌, length, Some, ◌==◌, ◌≢◌}
use Rattle.std.specs.List.{ContainsAt as Has}
use Rattle.wiring.specs.Layout.{Layout}
use Rattle.rules.specs.declared.Ending.{Ending}
use Rattle.rules.specs.declared.Ending.TheVariants.{Delivered, Returned}
use Rattle.rules.specs.declared.Mode.{Mode}
use Rattle.rules.specs.declared.Mode.TheVariants.{New, Recovering, Serving}
use Rattle.rules.specs.declared.Outcome.{Outcome}
use Rattle.rules.specs.declared.Packet.{Packet}
use Rattle.rules.specs.Ports.{Ports}
use Rattle.rules.specs.State.{State, entry, node_of, mark_of, live_of, entry_of}
use Rattle.rules.specs.Step.{turn}
use Rattle.rules.specs.Runs.{Call, cut, hand, slot_call, post, step, Reply, refused, done, slotted, numbered, stepped, Event, Run}

-- Walks and circles

-- A walk over k live cables.
pub data Way (layout : Layout) (s : State) : ℕ → ℕ → ℕ → Type 0 where
  stay : {n : ℕ} → Way layout s n n zero
  cross : {n p m q l k : ℕ} →
      live_of s.nodes n p ≡ true → layout.far n p ≡ Some (m, q) → Way layout s m l k → Way layout s n l (suc k)

-- Two nodes are joined when a way over live cables links them.
abbrev pub Joined : Layout → State → ℕ → ℕ → Type 0
Joined layout s n m = (k : ℕ) × Way layout s n m k

-- k crossings over live cables, from standing at port a of node n to standing at port b of node
-- m, with every turn permitted.
pub data Turns (layout : Layout) (s : State) : ℕ → ℕ → ℕ → ℕ → ℕ → Type 0 where
  rest : {n a : ℕ} → Turns layout s n a n a zero
  on : {n a p m q l b k : ℕ} →
      turn (mark_of s.nodes n a) (mark_of s.nodes n p) ≡ true →
      live_of s.nodes n p ≡ true → layout.far n p ≡ Some (m, q) →
      Turns layout s m q l b k → Turns layout s n a l b (suc k)

-- One or more permitted crossings that come back to where they began.
abbrev pub Circle : Layout → State → Type 0
Circle layout s = (n : ℕ) × (a : ℕ) × (k : ℕ) × Turns layout s n a n a (suc k)

-- Calm and quiet

abbrev pub Recovers : Mode → Type 0
Recovers New = ⊥
Recovers (Recovering root left) = Unit {0}
Recovers (Serving root) = ⊥

-- No hand is up and no node recovers.
pub record Calm (layout : Layout) (s : State) : Type 0 where
  pub hands_down : (n : ℕ) → n < layout.count → (node_of s.nodes n).hand ≡ false
  pub none_recovers : (n : ℕ) → n < layout.count → Recovers (node_of s.nodes n).mode → ⊥

-- Whether a reply accepts its call.
abbrev pub accepted : Reply → Bool
accepted (refused reason) = false
accepted done = true
accepted (slotted answer) = true
accepted (numbered number) = true
accepted (stepped counts outcomes crossed) = true

abbrev pub disturbs : Call → Bool
disturbs (cut n p) = true
disturbs (hand n) = true
disturbs slot_call = false
disturbs (post source destination word) = false
disturbs (step free) = false

-- No cut or hand in it is accepted.
abbrev pub Quiet : List Event → Type 0
Quiet [] = Unit {0}
Quiet (e ∷ log) = ((disturbs e.call && accepted e.reply) ≡ false) × Quiet log

-- Counting in a log

abbrev pub count_where : (Event → Bool) → List Event → ℕ
count_where test [] = 0
count_where test (e ∷ log) = cond (test e) 1 0 + count_where test log

abbrev pub is_slot : Event → Bool
is_slot e = elim e.reply [ refused r ↦ false | done ↦ false | slotted a ↦ true | numbered k ↦ false | stepped c o x ↦ false ]

abbrev pub is_step : Event → Bool
is_step e = elim e.reply [ refused r ↦ false | done ↦ false | slotted a ↦ false | numbered k ↦ false | stepped c o x ↦ true ]

abbrev pub is_post : Event → Bool
is_post e = elim e.reply [ refused r ↦ false | done ↦ false | slotted a ↦ false | numbered k ↦ true | stepped c o x ↦ false ]

abbrev pub slots_in : List Event → ℕ
slots_in = count_where is_slot

abbrev pub steps_in : List Event → ℕ
steps_in = count_where is_step

abbrev pub posts_in : List Event → ℕ
posts_in = count_where is_post

-- What a log's steps put into their trays, in order.
abbrev pub outcomes_of : Reply → List Outcome
outcomes_of (refused reason) = []
outcomes_of done = []
outcomes_of (slotted answer) = []
outcomes_of (numbered number) = []
outcomes_of (stepped counts outcomes crossed) = outcomes

abbrev pub outcomes_in : List Event → List Outcome
outcomes_in [] = []
outcomes_in (e ∷ log) = outcomes_of e.reply ++ outcomes_in log

abbrev pub crossed_of : Reply → List ℕ
crossed_of (refused reason) = []
crossed_of done = []
crossed_of (slotted answer) = []
crossed_of (numbered number) = []
crossed_of (stepped counts outcomes crossed) = crossed

abbrev pub times_in : ℕ → List ℕ → ℕ
times_in number [] = 0
times_in number (k ∷ ks) = cond (k == number) 1 0 + times_in number ks

-- How many cables a packet crosses in a log.
abbrev pub crossings : ℕ → List Event → ℕ
crossings number [] = 0
crossings number (e ∷ log) = times_in number (crossed_of e.reply) + crossings number log

-- How many outcomes a packet has in a list.
abbrev pub outcomes_for : ℕ → List Outcome → ℕ
outcomes_for number [] = 0
outcomes_for number (o ∷ os) = cond (o.number == number) 1 0 + outcomes_for number os

-- The outcome of a packet that leaves the wall at a node.
abbrev pub ended : Ending → ℕ → Packet → Outcome
ended ending node x = record { number = x.number; ending = ending; node = node; word = x.word }

-- Every accepted step with packets in flight moves, delivers or returns one.
abbrev pub Busy : Reply → Type 0
Busy (refused reason) = Unit {0}
Busy done = Unit {0}
Busy (slotted answer) = Unit {0}
Busy (numbered number) = Unit {0}
Busy (stepped counts outcomes crossed) = 1 ≤ counts.moved + counts.delivered + counts.returned

pub record Promise (layout : Layout) (s : State) : Type 0 where
  -- No circle: no permitted crossings over live cables come back to where they began.
  pub no_circle : Circle layout s → ⊥
  -- Complete tables: in a calm wall a node has an entry for another exactly when they are joined.
  pub entry_if_joined : Calm layout s → (x y : ℕ) → x < layout.count → y < layout.count → (x ≢ y) →
      Joined layout s x y → (ports : Ports) × (count : ℕ) × (entry_of s.nodes x y ≡ entry ports count)
  pub joined_if_entry : Calm layout s → (x y : ℕ) → x < layout.count → y < layout.count → (x ≢ y) →
      (ports : Ports) (count : ℕ) → entry_of s.nodes x y ≡ entry ports count → Joined layout s x y
  -- Hops: at every moment of a quiet run from a calm wall, a packet that the rest of the run
  -- delivers elsewhere crosses just as many cables as its node's entry counts, fewer than N.
  pub hops : Calm layout s → (before rest : List Event) (now end : State) →
      Run layout s before now → Run layout now rest end → Quiet before → Quiet rest →
      (x : Packet) (y : ℕ) → Has now.packets x → (x.node ≢ y) → Has (outcomes_in rest) (ended Delivered y x) →
      (ports : Ports) × (entry_of now.nodes x.node y ≡ entry ports (crossings x.number rest)) × (crossings x.number rest < layout.count)
  -- Progress: in a quiet run from a calm wall, each accepted step with packets in flight moves,
  -- delivers or returns one.
  pub progress : Calm layout s → (before : List Event) (now next : State) (free : ℕ) (reply : Reply) →
      Run layout s before now → Quiet before → 1 ≤ length now.packets →
      Run layout now (record { call = step free; reply = reply } ∷ []) next → Busy reply
  -- Calm returns: every quiet run with at least 3N - 2 slots ends calm.
  pub calm_returns : (log : List Event) (end : State) → Run layout s log end → Quiet log →
      3 * layout.count - 2 ≤ slots_in log → Calm layout end
  -- Clearing: from a calm wall with k packets in flight, a quiet run with at least k * N accepted
  -- steps and no accepted post ends with none in flight.
  pub clearing : Calm layout s → (log : List Event) (end : State) → Run layout s log end → Quiet log →
      posts_in log ≡ 0 → length s.packets * layout.count ≤ steps_in log → end.packets ≡ []
  -- Fate: in such a run each of those packets is put into a tray exactly once: delivered if live
  -- cables joined its node to its destination, else returned.
  pub once : Calm layout s → (log : List Event) (end : State) → Run layout s log end → Quiet log →
      posts_in log ≡ 0 → length s.packets * layout.count ≤ steps_in log →
      (x : Packet) → Has s.packets x → outcomes_for x.number (outcomes_in log) ≡ 1
  pub delivered_if_joined : Calm layout s → (log : List Event) (end : State) → Run layout s log end → Quiet log →
      posts_in log ≡ 0 → length s.packets * layout.count ≤ steps_in log →
      (x : Packet) → Has s.packets x → Joined layout s x.node x.destination →
      Has (outcomes_in log) (ended Delivered x.destination x)
  pub returned_if_not : Calm layout s → (log : List Event) (end : State) → Run layout s log end → Quiet log →
      posts_in log ≡ 0 → length s.packets * layout.count ≤ steps_in log →
      (x : Packet) → Has s.packets x → (Joined layout s x.node x.destination → ⊥) →
      Has (outcomes_in log) (ended Returned x.node x)

-- Every state that a run from power-up reaches keeps the promise.
abbrev pub Promised : Layout → State → Type 0
Promised layout s = (log : List Event) (reached : State) → Run layout s log reached → Promise layout reached
