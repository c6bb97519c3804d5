-- The five calls, from what the plain parts do.
use Rattle.std.proofs.Common.{◌≡◌, ℕ, ◌≤◌, leb, List, [], length, Some, None, Ok, Err, Option, Result, sym, refl, ap, ◌∙◌, subst, ap₂, subst₂, MatchResult}
use Rattle.wiring.specs.Layout.{Layout, Sound}
use Rattle.rules.specs.declared.Refusal.{Refusal}
use Rattle.rules.specs.declared.SlotAnswer.{SlotAnswer}
use Rattle.rules.specs.declared.Outcome.{Outcome}
use Rattle.rules.specs.declared.Refusal.TheVariants.{NodeOutOfRange}
use Rattle.rules.specs.declared.StepCounts.{StepCounts}
use Rattle.rules.specs.Ports.{Ports, table}
use Rattle.rules.specs.State.{Node, State, fresh, power_up}
use Rattle.rules.specs.Slot.{slot}
use Rattle.rules.specs.Calls.{refuse_if, cut_refused, after_cut, cut_end, changed, raised, hand_refused, after_hand, with_nodes}
use Rattle.rules.specs.Runs.{Call, Reply, refused, slotted, stepped, cut, hand, slot_call, step, Does, cuts, hands, slots, step_refused, steps, Steps}
use Rattle.rules.proofs.CallCases.{cut_does}
use Rattle.flood.specs.View.{wired}
use Rattle.chooser.specs.declared.ports.PortSet.{PortSet}
use Rattle.tray.specs.declared.types.Tray.{Tray}
use Rattle.tray.specs.Filled.{rest}
use Rattle.board.specs.declared.types.Board.{Board}
use Rattle.board.specs.Settled.{Settled}
use Rattle.board.specs.View.{nodes_at, nodes_view, board_state}
use Rattle.traffic.specs.declared.types.Flight.{Flight}
use Rattle.traffic.specs.Stepping.{StepDone, StepRefused}
use Rattle.traffic.specs.View.{packets_view, state as traffic-state}
use Rattle.wall.specs.declared.inner.Core.{Core}
use Rattle.wall.specs.Steps.{StepCall}
use Rattle.wall.specs.View.{core_state, state_of, done_reply}

-- The state of a wall over a wiring with this layout, from the parts of its plain record.
abbrev pub state_at : Layout → Board → ℕ → Flight → State
state_at layout board owner flight = record {
  nodes = nodes_at layout.count board.nodes;
  owner = owner;
  last = flight.last;
  packets = packets_view flight;
}

-- Where the board's count is the layout's, the state is the plain one.
pub fitted_state : (layout : Layout) (board : Board) (owner : ℕ) (flight : Flight) → board.count ≡ layout.count → state_at layout board owner flight ≡ traffic-state board owner flight
unfolding nodes_view
fitted_state layout board owner flight same =
    ap (λ (count : ℕ). record { nodes = nodes_at count board.nodes; owner = owner; last = flight.last; packets = packets_view flight }) (sym same)

-- A fitted board has the node count of the layout.
pub fits : (layout : Layout) (core : Core) (count : ℕ) → Sound layout → count ≡ layout.count → (1 ≤ count → count ≤ 64 → core.board.count ≡ count) → core.board.count ≡ layout.count
fits layout core count sound same fitted = fitted (rw same sound.some_nodes) (rw same sound.few_nodes) ∙ same

-- A cut or a hand looks at the nodes alone, and changes them alone.
cut_refused_nodes : (layout : Layout) (s t : State) (n p : ℕ) → t.nodes ≡ s.nodes → cut_refused layout t n p ≡ cut_refused layout s n p
unfolding cut_refused with_nodes
cut_refused_nodes layout s t n p same = ap (λ (nodes : List Node). cut_refused layout (with_nodes s nodes) n p) same

cut_nothing : (layout : Layout) (s : State) (n p : ℕ) → layout.far n p ≡ None → after_cut layout s n p ≡ s
unfolding after_cut
cut_nothing layout s n p e = rw (e, after_cut) refl

after_cut_nodes : (layout : Layout) (s t : State) (n p : ℕ) → t.nodes ≡ s.nodes → with_nodes s (after_cut layout t n p).nodes ≡ after_cut layout s n p
unfolding with_nodes
after_cut_nodes layout s t n p same = go (layout.far n p) refl
  where
    go : (o : Option (ℕ × ℕ)) → layout.far n p ≡ o → with_nodes s (after_cut layout t n p).nodes ≡ after_cut layout s n p
    go None e =
        ap (λ (x : State). with_nodes s x.nodes) (cut_nothing layout t n p e) ∙ ap (with_nodes s) same ∙ sym (cut_nothing layout s n p e)
    go (Some end) e =
        ap (λ (x : State). with_nodes s x.nodes) (cut_does layout t n p end.0 end.1 e)
        ∙ ap (λ (nodes : List Node). with_nodes s (changed (cut_end end.1) end.0 (changed (cut_end p) n nodes))) same
        ∙ sym (cut_does layout s n p end.0 end.1 e)

cut_settled : (layout : Layout) (s t after : State) (n p : ℕ) (nodes : List Node) (r : Result (Unit {0}) Refusal) (Same : Type 0) → t.nodes ≡ s.nodes → after ≡ with_nodes s nodes →
    (Same → nodes ≡ s.nodes) → Settled (cut_refused layout t n p) r (λ _. nodes ≡ (after_cut layout t n p).nodes) Same → Does layout s (cut n p) (done_reply r) after
unfolding with_nodes
cut_settled layout s t after n p nodes r Same same is stays settled = go (cut_refused layout t n p) r refl settled
  where
    refusal : (o : Option Refusal) → cut_refused layout t n p ≡ o → cut_refused layout s n p ≡ o
    refusal o e = sym (cut_refused_nodes layout s t n p same) ∙ e

    go : (o : Option Refusal) (r : Result (Unit {0}) Refusal) → cut_refused layout t n p ≡ o → Settled o r (λ _. nodes ≡ (after_cut layout t n p).nodes) Same → Does layout s (cut n p) (done_reply r) after
    go None (Ok answer) e h = cuts (rw (refusal None e) (refl, is ∙ ap (with_nodes s) h ∙ after_cut_nodes layout s t n p same))
    go None (Err reason) e h = absurd h
    go (Some reason) (Ok answer) e h = absurd h
    go (Some reason) (Err given) e h = cuts (rw (refusal (Some reason) e) (ap refused h.0, is ∙ ap (with_nodes s) (stays h.1)))

hand_settled : (layout : Layout) (s t after : State) (n : ℕ) (nodes : List Node) (r : Result (Unit {0}) Refusal) (Same : Type 0) → t.nodes ≡ s.nodes → after ≡ with_nodes s nodes →
    (Same → nodes ≡ s.nodes) → Settled (hand_refused layout n) r (λ _. nodes ≡ (after_hand t n).nodes) Same → Does layout s (hand n) (done_reply r) after
unfolding with_nodes after_hand
hand_settled layout s t after n nodes r Same same is stays settled = go (hand_refused layout n) r refl settled
  where
    go : (o : Option Refusal) (r : Result (Unit {0}) Refusal) → hand_refused layout n ≡ o → Settled o r (λ _. nodes ≡ (after_hand t n).nodes) Same → Does layout s (hand n) (done_reply r) after
    go None (Ok answer) e h = hands (rw e (refl, is ∙ ap (with_nodes s) h ∙ ap (λ (xs : List Node). with_nodes s (changed raised n xs)) same))
    go None (Err reason) e h = absurd h
    go (Some reason) (Ok answer) e h = absurd h
    go (Some reason) (Err given) e h = hands (rw e (ap refused h.0, is ∙ ap (with_nodes s) (stays h.1)))

-- A call on the board of a fitted wall, whose packets and owner stay.
module _ (layout : Layout) (before mid : Core) (board : Board) (fitted : mid.board.count ≡ layout.count)
    (state_is : state_of layout mid ≡ state_of layout before) (same_count : board.count ≡ mid.board.count) where
  abbrev after : State
  after = state_at layout board mid.owner mid.flight

  mid_is : core_state mid ≡ state_of layout before
  unfolding state_of
  mid_is = sym (fitted_state layout mid.board mid.owner mid.flight fitted) ∙ state_is

  nodes_are : nodes_view mid.board ≡ (state_of layout before).nodes
  nodes_are = ap (λ (s : State). s.nodes) mid_is

  after_is : after ≡ with_nodes (state_of layout before) (nodes_view board)
  unfolding with_nodes
  after_is =
      fitted_state layout board mid.owner mid.flight (same_count ∙ fitted)
      ∙ ap (λ (s : State). record { nodes = nodes_view board; owner = s.owner; last = s.last; packets = s.packets }) mid_is

  pub cut_call : (ends : List (Option (ℕ × ℕ))) → wired layout.count ends ≡ layout → (n p : ℕ) (r : Result (Unit {0}) Refusal) →
      Settled (cut_refused (wired mid.board.count ends) (board_state mid.board) n p) r (λ _. nodes_view board ≡ (after_cut (wired mid.board.count ends) (board_state mid.board) n p).nodes) (board ≡ mid.board) →
      Does layout (state_of layout before) (cut n p) (done_reply r) after
  cut_call ends spells n p r settled =
      cut_settled layout (state_of layout before) (board_state mid.board) after n p (nodes_view board) r (board ≡ mid.board) nodes_are after_is
      (λ e. ap nodes_view e ∙ nodes_are)
      (subst (λ (w : Layout). Settled (cut_refused w (board_state mid.board) n p) r (λ _. nodes_view board ≡ (after_cut w (board_state mid.board) n p).nodes) (board ≡ mid.board))
      (ap (λ (k : ℕ). wired k ends) fitted ∙ spells) settled)

  pub hand_call : (n : ℕ) (r : Result (Unit {0}) Refusal) →
      Settled (hand_refused (wired mid.board.count []) n) r (λ _. nodes_view board ≡ (after_hand (board_state mid.board) n).nodes) (board ≡ mid.board) →
      Does layout (state_of layout before) (hand n) (done_reply r) after
  unfolding hand_refused
  hand_call n r settled =
      hand_settled layout (state_of layout before) (board_state mid.board) after n (nodes_view board) r (board ≡ mid.board) nodes_are after_is
      (λ e. ap nodes_view e ∙ nodes_are)
      (subst (λ (k : ℕ). Settled (refuse_if (leb k n) NodeOutOfRange None) r (λ _. nodes_view board ≡ (after_hand (board_state mid.board) n).nodes) (board ≡ mid.board)) fitted settled)

-- A slot on the plain part of a fitted wall.
pub slot_did : (layout : Layout) (before mid : Core) (board : Board) (owner : ℕ) (flight : Flight) (ends : List (Option (ℕ × ℕ))) (answer : SlotAnswer) → mid.board.count ≡ layout.count →
    state_of layout mid ≡ state_of layout before → wired layout.count ends ≡ layout → answer ≡ (slot (wired mid.board.count ends) (core_state mid)).answer →
    traffic-state board owner flight ≡ (slot (wired mid.board.count ends) (core_state mid)).after → board.count ≡ mid.board.count →
    Does layout (state_of layout before) slot_call (slotted answer) (state_at layout board owner flight)
unfolding state_of
slot_did layout before mid board owner flight ends answer fitted state_is spells ea es same_count =
    let w = ap (λ (k : ℕ). wired k ends) fitted ∙ spells in
    let s = sym (fitted_state layout mid.board mid.owner mid.flight fitted) ∙ state_is in
    slots
    (ap slotted (ea ∙ ap₂ (λ (l : Layout) (t : State). (slot l t).answer) w s))
    (fitted_state layout board owner flight (same_count ∙ fitted) ∙ es ∙ ap₂ (λ (l : Layout) (t : State). (slot l t).after) w s)

-- A call on the packets of a fitted wall, whose nodes and owner stay.
module _ (layout : Layout) (before mid : Core) (flight : Flight) (fitted : mid.board.count ≡ layout.count)
    (state_is : state_of layout mid ≡ state_of layout before) where
  abbrev later : State
  later = state_at layout mid.board mid.owner flight

  before_is : core_state mid ≡ state_of layout before
  unfolding state_of
  before_is = sym (fitted_state layout mid.board mid.owner mid.flight fitted) ∙ state_is

  later_is : traffic-state mid.board mid.owner flight ≡ later
  later_is = sym (fitted_state layout mid.board mid.owner flight fitted)

  pub moved_over : (call : Call) (reply : Reply) → Does layout (core_state mid) call reply (traffic-state mid.board mid.owner flight) →
      Does layout (state_of layout before) call reply later
  moved_over call reply does = subst₂ (λ (s t : State). Does layout s call reply t) before_is later_is does

  pub steps_over : (counts : StepCounts) (outcomes : List Outcome) (crossed : List ℕ) (asked : List (Ports × ℕ)) →
      Steps layout (core_state mid) counts outcomes crossed asked (traffic-state mid.board mid.owner flight) →
      Steps layout (state_of layout before) counts outcomes crossed asked later
  steps_over counts outcomes crossed asked did = subst₂ (λ (s t : State). Steps layout s counts outcomes crossed asked t) before_is later_is did

  pub step_did : {C : Type 0} (picks : C → PortSet → ℕ → C → Type 0) (lent lent' : Tray Outcome) (c c' : C) (r : Result StepCounts Refusal) →
      MatchResult r (λ counts. StepDone picks layout mid.board counts mid.flight lent c flight lent' c') (λ reason. StepRefused reason mid.flight lent c flight lent' c') →
      StepCall picks layout r (state_of layout before) lent c later lent' c'
  step_did picks lent lent' c c' (Ok counts) d = record {
    outcomes = d.outcomes;
    crossed = d.crossed;
    asked = d.asked;
    does = moved_over (step (length (rest lent))) (stepped counts d.outcomes d.crossed) (steps d.room (d.steps mid.owner) refl);
    steps = steps_over counts d.outcomes d.crossed d.asked (d.steps mid.owner);
    puts = d.puts;
    answered = d.answered;
  }
  step_did picks lent lent' c c' (Err reason) d = record {
    does = moved_over (step (length (rest lent))) (refused reason) (step_refused d.too_small (ap refused d.why) (ap (traffic-state mid.board mid.owner) d.flight_stays));
    tray_stays = d.tray_stays;
    chooser_stays = d.chooser_stays;
  }

-- The state at power-up.
pub powered : (layout : Layout) (board : Board) (flight : Flight) (ends : List (Option (ℕ × ℕ))) (count : ℕ) → wired layout.count ends ≡ layout → count ≡ layout.count → board.count ≡ count →
    nodes_view board ≡ table count (fresh (wired count ends)) → flight.last ≡ 0 → packets_view flight ≡ [] → state_at layout board 0 flight ≡ power_up layout
unfolding power_up
powered layout board flight ends count spells same fitted nodes last packets =
    let filled = nodes ∙ ap (λ (k : ℕ). table k (fresh (wired k ends))) same in
    fitted_state layout board 0 flight (fitted ∙ same) ∙ rw (filled, last, packets, spells) refl
