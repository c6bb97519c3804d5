-- The packets taken one after another.
use Rattle.std.proofs.Common.{◌≡◌, ℕ, ◌+◌, ◌-◌, ◌<◌, ◌≤◌, true, false, List, [], ◌∷◌, ◌++◌, length, get_or, take, drop, sym, refl, ap, ◌∙◌, subst, arith}
use Rattle.std.proofs.lemmas.List.{append-nil, append_assoc, length-append, drop_all, length-take-le, length-drop, drop-drop, drop-take, drop_more, get_or-take}
use Rattle.wiring.specs.Layout.{Layout, Sound}
use Rattle.chooser.specs.declared.ports.PortSet.{PortSet}
use Rattle.chooser.specs.PortSets.{vacant, has as chooser-has}
use Rattle.tray.specs.declared.types.Tray.{Tray}
use Rattle.tray.specs.Filled.{rest}
use Rattle.tray.proofs.Filled.{puts_none}
use Rattle.rules.specs.declared.Outcome.{Outcome}
use Rattle.rules.specs.declared.Packet.{Packet}
use Rattle.rules.specs.declared.StepCounts.{StepCounts}
use Rattle.rules.specs.Ports.{Ports}
use Rattle.rules.specs.State.{Node, State}
use Rattle.board.specs.declared.types.Board.{Board}
use Rattle.board.specs.View.{nodes_view}
use Rattle.rules.specs.Step.{Middle, Fate, waits, delivered, returned, crosses, no_counts, start, apply, take_one, sweep, step_with, after_step, fate, offer_for}
use Rattle.traffic.specs.declared.types.Fate as code
use Rattle.traffic.specs.declared.types.Occupancy.{Occupancy}
use Rattle.traffic.specs.declared.types.Flight.{Flight}
use Rattle.traffic.specs.declared.types.Sweep.{Sweep}
use Rattle.traffic.specs.Choosing.{fate_view, Asked, Answered, Decided}
use Rattle.traffic.specs.Occupied.{Counts, CountedIn, Departs}
use Rattle.traffic.specs.Inside.{Inside, nowhere}
use Rattle.traffic.specs.Stepping.{StepDone}
use Rattle.traffic.specs.Sweeping.{staying, to_come, tallied, Shows, BehindStays, ReadyFor, Applies, OccupancyFollows, Onward}
use Rattle.traffic.specs.View.{packets_view}
use Rattle.traffic.proofs.Asking.{answered_more, in_offers}
use Rattle.traffic.proofs.Decisions.{lands_inside}
use Rattle.traffic.proofs.Occupancies.{counted_in, room_for_few}
use Rattle.traffic.proofs.Standing.{in_flight}

-- The packets to come

pub next_to_come : (flight : Flight) (i : ℕ) → i < flight.count →
    to_come flight i ≡ get_or flight.places i nowhere ∷ to_come flight (i + 1)
next_to_come flight i h =
    drop_more (packets_view flight) i nowhere (omega (arith, in_flight flight))
    ∙ ap (λ (x : Packet). x ∷ to_come flight (i + 1)) (get_or-take flight.count flight.places i nowhere h)

drop_same : {X : Type 0} (xs ys : List X) (k j : ℕ) → k ≤ j → drop k xs ≡ drop k ys → drop j xs ≡ drop j ys
drop_same xs ys k j h e =
    let split : k + (j - k) ≡ j = omega arith in
    ap (λ (n : ℕ). drop n xs) (sym split) ∙ sym (drop-drop (j - k) k xs) ∙ ap (drop (j - k)) e
    ∙ drop-drop (j - k) k ys ∙ ap (λ (n : ℕ). drop n ys) split

front_of_rest : {X : Type 0} (xs : List X) (j n : ℕ) → j ≤ n → drop j (take n xs) ≡ take (n - j) (drop j xs)
front_of_rest xs j n h =
    let split : j + (n - j) ≡ n = omega arith in
    ap (λ (m : ℕ). drop j (take m xs)) (sym split) ∙ drop-take j (n - j) xs

pub to_come_stays : (flight flight' : Flight) (stayed j : ℕ) → BehindStays stayed flight flight' → stayed + 1 ≤ j → j ≤ flight.count →
    to_come flight' j ≡ to_come flight j
to_come_stays flight flight' stayed j behind h k =
    ap (λ (n : ℕ). drop j (take n flight'.places)) behind.count_stays
    ∙ front_of_rest flight'.places j flight.count k
    ∙ ap (take (flight.count - j)) (drop_same flight'.places flight.places (stayed + 1) j h behind.places_stay)
    ∙ sym (front_of_rest flight.places j flight.count k)

pub few_others : (flight : Flight) (sweep : Sweep) (i : ℕ) → sweep.stayed ≤ i → i < flight.count →
    length (staying flight sweep ++ to_come flight (i + 1)) < 65535
few_others flight sweep i h k =
    omega (
      arith,
      length-append (staying flight sweep) (to_come flight (i + 1)),
      length-take-le sweep.stayed flight.places (omega arith),
      length-drop (i + 1) (packets_view flight),
      in_flight flight,
    )

-- Before the packet at place i is taken: the occupancy counts those that stay and those to come,
-- every packet before i is in the counts, and the tray has a place for each one to come.
pub record Ready (flight : Flight) (sweep : Sweep) (held : Tray Outcome) (i : ℕ) : Type 0 where
  pub started : sweep.stayed ≤ i
  pub counted : Counts sweep.occupancy (staying flight sweep ++ to_come flight i)
  pub tally : tallied sweep.counts ≡ i
  pub room : flight.count ≤ i + length (rest held)

-- One packet

module _ (flight : Flight) (sweep : Sweep) (held : Tray Outcome) (i : ℕ) (ready : Ready flight sweep held i) (within : i < flight.count) where
  abbrev next : Packet
  next = get_or flight.places i nowhere

  abbrev others : List Packet
  others = staying flight sweep ++ to_come flight (i + 1)

  -- The same with the packet at place i no longer counted.
  abbrev less_one : Occupancy → Sweep
  less_one occupancy = record { occupancy = occupancy; stayed = sweep.stayed; counts = sweep.counts }

  pub counted_next : Counts sweep.occupancy (staying flight sweep ++ next ∷ to_come flight (i + 1))
  counted_next = subst (λ (xs : List Packet). Counts sweep.occupancy (staying flight sweep ++ xs)) (next_to_come flight i within) ready.counted

  pub ready_to_depart : Inside next × CountedIn sweep.occupancy next
  ready_to_depart = (
    flight.inside i,
    counted_in sweep.occupancy (staying flight sweep) next (to_come flight (i + 1)) (flight.inside i) counted_next,
  )

  module _ (occupancy : Occupancy) (departs : Departs sweep.occupancy next occupancy) where
    counted_others : Counts occupancy others
    counted_others = departs (staying flight sweep) (to_come flight (i + 1)) counted_next

    module _ {C : Type 0} (picks : C → PortSet → ℕ → C → Type 0) (layout : Layout) (nodes : List Node) (f : code.Fate) (c c' : C)
        (decides : (xs : List Packet) → Counts occupancy xs → Decided picks layout nodes xs next (fate_view f) c c') where
      pub decided : Decided picks layout nodes others next (fate_view f) c c'
      decided = decides others counted_others

      pub ready_to_apply : Sound layout → ReadyFor f next (less_one occupancy) held
      ready_to_apply sound = record {
        place = omega (arith, ready.started, flight.few);
        inside = flight.inside i;
        lands = lands_inside picks layout nodes others next sound (fate_view f) c c' decided;
        room = room_for_few occupancy others counted_others (few_others flight sweep i ready.started within);
        free = omega (arith, ready.room);
        few = omega (arith, ready.tally, flight.few);
      }

      module _ (flight' : Flight) (sweep' : Sweep) (held' : Tray Outcome) where
        pub ready_next : OccupancyFollows flight (less_one occupancy) flight' sweep' →
            BehindStays sweep.stayed flight flight' → Onward (less_one occupancy) held sweep' held' → Ready flight' sweep' held' (i + 1)
        ready_next follows behind onward = record {
          started = omega (arith, ready.started, onward.stayed_more);
          counted = subst (λ (xs : List Packet). Counts sweep'.occupancy (staying flight' sweep' ++ xs))
              (sym (to_come_stays flight flight' sweep.stayed (i + 1) behind (omega (arith, ready.started)) (omega arith)))
              (follows.counts_on (to_come flight (i + 1)) counted_others);
          tally = omega (arith, onward.tallied_more, ready.tally);
          room = omega (arith, onward.free_fewer, ready.room, behind.count_stays);
        }

        pub takes_effect : Applies f next flight (less_one occupancy) held flight' sweep' held' →
            (first : Tray Outcome) (mid : Middle) → Shows first mid flight sweep held →
            Shows first (take_one layout nodes next (to_come flight (i + 1)) decided.pick mid) flight' sweep' held'
        unfolding take_one
        takes_effect applies first mid shows =
            let after = to_come flight (i + 1) in
            subst (λ (g : Fate). Shows first (apply g next (offer_for layout nodes (mid.flying ++ after) next, decided.pick) mid) flight' sweep' held')
            (decided.fated ∙ ap (λ (xs : List Packet). fate layout nodes (xs ++ after) decided.pick next) (sym shows.flying_are))
            (applies.shows first mid (offer_for layout nodes (mid.flying ++ after) next, decided.pick)
            (record { flying_are = shows.flying_are; counts_are = shows.counts_are; puts = shows.puts }))

-- All packets

apply_asks : (f : Fate) (x : Packet) (ask : Ports × ℕ) (mid : Middle) → (apply f x ask mid).asked ≡ mid.asked ++ ask ∷ []
unfolding apply
apply_asks waits x ask mid = refl
apply_asks delivered x ask mid = refl
apply_asks returned x ask mid = refl
apply_asks (crosses m q) x ask mid = refl

take_one_asks : (layout : Layout) (nodes : List Node) (x : Packet) (rest : List Packet) (pick : ℕ) (mid : Middle) →
    (take_one layout nodes x rest pick mid).asked ≡ mid.asked ++ (offer_for layout nodes (mid.flying ++ rest) x, pick) ∷ []
unfolding take_one
take_one_asks layout nodes x rest pick mid =
    apply_asks (fate layout nodes (mid.flying ++ rest) pick x) x (offer_for layout nodes (mid.flying ++ rest) x, pick) mid

sweep_next : (layout : Layout) (nodes : List Node) (x : Packet) (rest : List Packet) (pick : ℕ) (more : List ℕ) (mid : Middle) →
    sweep layout nodes (x ∷ rest) (pick ∷ more) mid ≡ sweep layout nodes rest more (take_one layout nodes x rest pick mid)
unfolding sweep
sweep_next layout nodes x rest pick more mid = refl

sweep_none : (layout : Layout) (nodes : List Node) (picks : List ℕ) (mid : Middle) → sweep layout nodes [] picks mid ≡ mid
unfolding sweep
sweep_none layout nodes picks mid = refl

-- The packets before place i were taken: what the values show, by which picks it came about, and
-- that these are the chooser's answers.
pub record Swept {C : Type 0} (picks : C → PortSet → ℕ → C → Type 0) (layout : Layout) (nodes : List Node) (i : ℕ)
    (flight : Flight) (held : Tray Outcome) (c : C)
    (flight' : Flight) (sweep' : Sweep) (held' : Tray Outcome) (c' : C) : Type 0 where
  pub ready : Ready flight' sweep' held' i
  pub mid : Middle
  pub picked : List ℕ
  pub shows : Shows held mid flight' sweep' held'
  pub swept : (more : List ℕ) →
      sweep layout nodes (packets_view flight) (picked ++ more) start ≡ sweep layout nodes (to_come flight' i) more mid
  pub answered : Answered picks mid.asked c c'
  pub count_stays : flight'.count ≡ flight.count
  pub last_stays : flight'.last ≡ flight.last

module _ {C : Type 0} (picks : C → PortSet → ℕ → C → Type 0) (layout : Layout) (nodes : List Node)
    (flight : Flight) (held : Tray Outcome) (c : C) where
  pub swept_none : (occupancy : Occupancy) (none : StepCounts) → Counts occupancy (packets_view flight) → none ≡ no_counts → flight.count ≤ length (rest held) →
      Swept picks layout nodes 0 flight held c flight (record { occupancy = occupancy; stayed = 0; counts = none }) held c
  swept_none occupancy none counts e room = record {
    ready = record { started = omega arith; counted = counts; tally = ap tallied e; room = omega arith };
    mid = start;
    picked = [];
    shows = record { flying_are = refl; counts_are = sym e; puts = puts_none held };
    swept = λ more. refl;
    answered = refl;
    count_stays = refl;
    last_stays = refl;
  }

  module _ (i : ℕ) (flight₁ : Flight) (sweep₁ : Sweep) (held₁ : Tray Outcome) (c₁ : C)
      (so_far : Swept picks layout nodes i flight held c flight₁ sweep₁ held₁ c₁) where
    module _ (within : i < flight₁.count) (occupancy : Occupancy)
        (departs : Departs sweep₁.occupancy (get_or flight₁.places i nowhere) occupancy) (f : code.Fate) (c' : C)
        (decides : (xs : List Packet) → Counts occupancy xs → Decided picks layout nodes xs (get_or flight₁.places i nowhere) (fate_view f) c₁ c')
        (flight' : Flight) (sweep' : Sweep) (held' : Tray Outcome) where
      abbrev x : Packet
      x = get_or flight₁.places i nowhere

      abbrev after : List Packet
      after = to_come flight₁ (i + 1)

      abbrev less : Sweep
      less = record { occupancy = occupancy; stayed = sweep₁.stayed; counts = sweep₁.counts }

      pub swept_more : Applies f x flight₁ less held₁ flight' sweep' held' → BehindStays sweep₁.stayed flight₁ flight' →
          OccupancyFollows flight₁ less flight' sweep' → Onward less held₁ sweep' held' →
          Swept picks layout nodes (i + 1) flight held c flight' sweep' held' c'
      swept_more applies behind follows onward =
          let took : Decided picks layout nodes (staying flight₁ sweep₁ ++ after) x (fate_view f) c₁ c' =
          decided flight₁ sweep₁ held₁ i so_far.ready within occupancy departs picks layout nodes f c₁ c' decides in
          record {
            ready = ready_next flight₁ sweep₁ held₁ i so_far.ready within occupancy departs picks layout nodes f c₁ c' decides
                flight' sweep' held' follows behind onward;
            mid = take_one layout nodes x after took.pick so_far.mid;
            picked = so_far.picked ++ took.pick ∷ [];
            shows = takes_effect flight₁ sweep₁ held₁ i so_far.ready within occupancy departs picks layout nodes f c₁ c' decides
                flight' sweep' held' applies held so_far.mid so_far.shows;
            swept = λ more.
                ap (λ (ps : List ℕ). sweep layout nodes (packets_view flight) ps start) (append_assoc so_far.picked (took.pick ∷ []) more)
                ∙ so_far.swept (took.pick ∷ more)
                ∙ ap (λ (xs : List Packet). sweep layout nodes xs (took.pick ∷ more) so_far.mid) (next_to_come flight₁ i within)
                ∙ sweep_next layout nodes x after took.pick more so_far.mid
                ∙ ap (λ (xs : List Packet). sweep layout nodes xs more (take_one layout nodes x after took.pick so_far.mid))
                (sym (to_come_stays flight₁ flight' sweep₁.stayed (i + 1) behind (omega (arith, so_far.ready.started)) (omega arith)));
            answered = subst (λ (asks : List (Ports × ℕ)). Answered picks asks c c')
                (sym (take_one_asks layout nodes x after took.pick so_far.mid))
                (answered_more picks so_far.mid.asked _ c c₁ c' so_far.answered
                (subst (λ (xs : List Packet). Asked picks (offer_for layout nodes (xs ++ after) x, took.pick) c₁ c')
                (sym so_far.shows.flying_are) took.asked));
            count_stays = behind.count_stays ∙ so_far.count_stays;
            last_stays = behind.last_stays ∙ so_far.last_stays;
          }

    none_to_come : flight₁.count ≤ i → to_come flight₁ i ≡ []
    none_to_come h = drop_all i (packets_view flight₁) (omega (arith, in_flight flight₁))

    pub whole : i ≡ flight.count → sweep layout nodes (packets_view flight) so_far.picked start ≡ so_far.mid
    whole e =
        ap (λ (ps : List ℕ). sweep layout nodes (packets_view flight) ps start) (sym (append-nil so_far.picked))
        ∙ so_far.swept []
        ∙ ap (λ (xs : List Packet). sweep layout nodes xs [] so_far.mid) (none_to_come (omega (arith, so_far.count_stays)))
        ∙ sweep_none layout nodes [] so_far.mid

-- The whole step

module _ {C : Type 0} (picks : C → PortSet → ℕ → C → Type 0) (layout : Layout) (board : Board)
    (flight : Flight) (held : Tray Outcome) (c : C) (i : ℕ) (flight₁ : Flight) (sweep₁ : Sweep) (held₁ : Tray Outcome) (c₁ : C)
    (swept : Swept picks layout (nodes_view board) i flight held c flight₁ sweep₁ held₁ c₁) where
  abbrev state_with : ℕ → ℕ → List Packet → State
  state_with owner last packets = record { nodes = nodes_view board; owner = owner; last = last; packets = packets }

  pub step_done : ((before after : C) (offer : PortSet) (port : ℕ) → picks before offer port after → vacant offer ≡ false → chooser-has offer port ≡ true) →
      flight.count ≤ length (rest held) → i ≡ flight.count →
      (flight' : Flight) → flight'.last ≡ flight₁.last → packets_view flight' ≡ staying flight₁ sweep₁ →
      StepDone picks layout board sweep₁.counts flight held c flight' held₁ c₁
  unfolding step_with after_step
  step_done inside h all flight' last packets =
      let mid_is : sweep layout (nodes_view board) (packets_view flight) swept.picked start ≡ swept.mid =
      whole picks layout (nodes_view board) flight held c i flight₁ sweep₁ held₁ c₁ swept all in
      record {
        room = omega (arith, in_flight flight);
        outcomes = swept.mid.outcomes;
        crossed = swept.mid.crossed;
        asked = swept.mid.asked;
        steps = λ owner. record {
          picks = swept.picked;
          counts_are = sym swept.shows.counts_are ∙ ap (λ (m : Middle). m.counts) (sym mid_is);
          outcomes_are = ap (λ (m : Middle). m.outcomes) (sym mid_is);
          crossed_are = ap (λ (m : Middle). m.crossed) (sym mid_is);
          asked_are = ap (λ (m : Middle). m.asked) (sym mid_is);
          after_is =
              ap (λ (n : ℕ). state_with owner n (packets_view flight')) (last ∙ swept.last_stays)
              ∙ ap (state_with owner flight.last) (packets ∙ sym swept.shows.flying_are ∙ ap (λ (m : Middle). m.flying) (sym mid_is));
          in_offers = in_offers picks inside swept.mid.asked c c₁ swept.answered;
        };
        puts = swept.shows.puts;
        answered = swept.answered;
      }
