-- Quiet runs from a calm wall: the nodes stay as they are, and the packets change only by posts
-- and steps.
use Rattle.std.proofs.Common.{◌≡◌, ℕ, ◌+◌, ◌%◌, ◌<◌, Bool, false, ◌&&◌, List, [], ◌∷◌, map, length, Some, None, Option, sym, refl, ap, ◌∙◌, subst, arith, MatchOption}
use Rattle.std.specs.List.{ContainsAt as Has, AllByRecursion}
use Rattle.std.proofs.lemmas.Bool.{both_ways, cond-false}
use Rattle.std.proofs.lemmas.List.{ext_get_or, get_or-map, length-map}
use Rattle.std.proofs.ByRecursion.{all_has_itself, All-weaker}
use Rattle.wiring.specs.Layout.{Layout, Sound}
use Rattle.rules.specs.declared.Act.TheVariants.{Silent}
use Rattle.rules.specs.declared.Mode.{Mode}
use Rattle.rules.specs.declared.Mode.TheVariants.{Serving}
use Rattle.rules.specs.declared.Outcome.{Outcome}
use Rattle.rules.specs.declared.Packet.{Packet}
use Rattle.rules.specs.declared.Refusal.{Refusal}
use Rattle.rules.specs.declared.SlotAnswer.{SlotAnswer}
use Rattle.rules.specs.declared.StepCounts.{StepCounts}
use Rattle.rules.specs.Ports.{Ports}
use Rattle.rules.specs.State.{Node, State, absent, node_of}
use Rattle.rules.specs.Slot.{act_of, tick, tick_mode, ends_recovery, at_home, sent_home, slot_end, acted, slot}
use Rattle.rules.specs.Calls.{cut_refused, after_cut, hand_refused, after_hand, post_refused, after_post}
use Rattle.rules.specs.Step.{step_with, after_step}
use Rattle.rules.specs.Runs.{Steps, Call, Reply, refused, done, slotted, numbered, stepped, Does, cuts, hands, slots, posts, step_refused, steps, Event, Run, ends, goes}
use Rattle.rules.specs.Promise.{Recovers, Calm, Quiet, disturbs, accepted, is_step, outcomes_of, crossed_of}
use Rattle.rules.proofs.Invariant.{Invariant, mode_at, hand_at}
use Rattle.rules.proofs.Entries.{calm_serves}

-- A map that changes no element changes nothing.
map_same : {X : Type 0} (f : X → X) (xs : List X) → AllByRecursion (λ x. f x ≡ x) xs → map f xs ≡ xs
map_same f [] all = refl
map_same f (x ∷ xs) all = ap (λ y. y ∷ map f xs) all.0 ∙ ap (λ ys. x ∷ ys) (map_same f xs all.1)

-- Being calm is a matter of the nodes alone.
pub calm_nodes : (layout : Layout) (s now : State) → now.nodes ≡ s.nodes → Calm layout s → Calm layout now
calm_nodes layout s now e calm = record {
  hands_down = λ n h. subst (λ nodes. (node_of nodes n).hand ≡ false) (sym e) (calm.hands_down n h);
  none_recovers = λ n h r. calm.none_recovers n h (subst (λ nodes. Recovers (node_of nodes n).mode) e r);
}

-- A slot in a calm wall

serving_silent : (mode : Mode) (up : Bool) (root : ℕ) → mode ≡ Serving root → up ≡ false → act_of mode up ≡ Silent
serving_silent mode up root e f = ap (λ m. act_of m up) e ∙ ap (act_of (Serving root)) f

serving_ticks : (node : Node) (root : ℕ) → node.mode ≡ Serving root → tick node ≡ node
unfolding tick_mode
serving_ticks node root e = ap with_mode (ap tick_mode e ∙ sym e)
  where
    with_mode : Mode → Node
    with_mode mode = record { mode = mode; hand = node.hand; live = node.live; marks = node.marks; row = node.row }

serving_keeps : (nodes : List Node) (x : Packet) (root : ℕ) → (node_of nodes x.node).mode ≡ Serving root → sent_home nodes x ≡ x
unfolding sent_home ends_recovery
serving_keeps nodes x root e = cond-false (ends_recovery (node_of nodes x.node).mode) (at_home x) x (ap ends_recovery e)

module _ (layout : Layout) (sound : Sound layout) (s : State) (inv : Invariant layout s) (calm : Calm layout s) where
  calm_ticks : map tick s.nodes ≡ s.nodes
  calm_ticks = ext_get_or absent (map tick s.nodes) s.nodes (length-map s.nodes tick) (λ i h. at i (omega (arith, length-map s.nodes tick)))
    where
      at : (i : ℕ) → i < length s.nodes → node_of (map tick s.nodes) i ≡ node_of s.nodes i
      at i h =
          let serves = calm_serves layout sound s inv calm i (omega (arith, inv.shaped.nodes_long)) in
          get_or-map tick s.nodes i absent absent h ∙ serving_ticks (node_of s.nodes i) serves.0 serves.1

  calm_homes : map (sent_home s.nodes) s.packets ≡ s.packets
  calm_homes = map_same (sent_home s.nodes) s.packets
      (All-weaker (Has s.packets) (λ x. sent_home s.nodes x ≡ x) stays s.packets (all_has_itself s.packets))
    where
      stays : (x : Packet) → Has s.packets x → sent_home s.nodes x ≡ x
      stays x has =
          let serves = calm_serves layout sound s inv calm x.node (inv.flying.node_below x has) in
          serving_keeps s.nodes x serves.0 serves.1

  -- The owner is silent, and but for the owner of the next slot nothing changes.
  pub calm_slot : (slot layout s).after ≡ record { nodes = s.nodes; owner = (s.owner + 1) % layout.count; last = s.last; packets = s.packets }
  unfolding slot acted slot_end
  calm_slot =
      let serves = calm_serves layout sound s inv calm s.owner inv.shaped.owner_below in
      ap (λ act. (acted layout s act).after)
      (serving_silent (mode_at s s.owner) (hand_at s s.owner) serves.0 serves.1 (calm.hands_down s.owner inv.shaped.owner_below))
      ∙ ap (λ nodes. record { nodes = nodes; owner = (s.owner + 1) % layout.count; last = s.last; packets = map (sent_home s.nodes) s.packets }) calm_ticks
      ∙ ap (λ packets. record { nodes = s.nodes; owner = (s.owner + 1) % layout.count; last = s.last; packets = packets }) calm_homes

-- What a call leaves in a calm wall, unless it is an accepted cut or hand

-- Nothing happens to the nodes or the packets.
pub record Idle (s : State) (reply : Reply) (next : State) : Type 0 where
  pub same_nodes : next.nodes ≡ s.nodes
  pub same_packets : next.packets ≡ s.packets
  pub same_last : next.last ≡ s.last
  pub none_ended : outcomes_of reply ≡ []
  pub none_crossed : crossed_of reply ≡ []
  pub no_step : (call : Call) → is_step (record { call = call; reply = reply }) ≡ false

-- Nothing, a post or a step.
pub data Change (layout : Layout) (s : State) (reply : Reply) (next : State) : Type 0 where
  idles : Idle s reply next → Change layout s reply next
  gains : (source destination word : ℕ) →
      reply ≡ numbered next.last → next ≡ after_post s source destination word → Change layout s reply next
  moves : {counts : StepCounts} {outcomes : List Outcome} {crossed : List ℕ} {asked : List (Ports × ℕ)} →
      Steps layout s counts outcomes crossed asked next → reply ≡ stepped counts outcomes crossed → Change layout s reply next

refused_idle : (s : State) (reason : Refusal) → Idle s (refused reason) s
refused_idle s reason = record {
  same_nodes = refl;
  same_packets = refl;
  same_last = refl;
  none_ended = refl;
  none_crossed = refl;
  no_step = λ call. refl;
}

idle_refused : (s : State) (reply : Reply) (next : State) (reason : Refusal) → reply ≡ refused reason → next ≡ s → Idle s reply next
idle_refused s reply next reason e f =
    subst (λ r. Idle s r next) (sym e) (subst (λ n. Idle s (refused reason) n) (sym f) (refused_idle s reason))

-- Of a call that disturbs, a quiet run has only refusals.
refused_only : (layout : Layout) (s : State) (reply : Reply) (next changed : State) (check : Option Refusal) →
    MatchOption check ((reply ≡ done) × (next ≡ changed)) (λ reason. (reply ≡ refused reason) × (next ≡ s)) →
    accepted reply ≡ false → Change layout s reply next
refused_only layout s reply next changed None c quiet =
    absurd (both_ways (accepted reply) quiet (ap accepted c.0))
refused_only layout s reply next changed (Some reason) c quiet = idles (idle_refused s reply next reason c.0 c.1)

post_change : (layout : Layout) (s : State) (reply : Reply) (next : State) (source destination word : ℕ) (check : Option Refusal) →
    MatchOption check ((reply ≡ numbered next.last) × (next ≡ after_post s source destination word)) (λ reason. (reply ≡ refused reason) × (next ≡ s)) →
    Change layout s reply next
post_change layout s reply next source destination word None c = gains source destination word c.0 c.1
post_change layout s reply next source destination word (Some reason) c = idles (idle_refused s reply next reason c.0 c.1)

slot_idle : (s : State) (owner : ℕ) (answer : SlotAnswer) →
    Idle s (slotted answer) (record { nodes = s.nodes; owner = owner; last = s.last; packets = s.packets })
slot_idle s owner answer = record {
  same_nodes = refl;
  same_packets = refl;
  same_last = refl;
  none_ended = refl;
  none_crossed = refl;
  no_step = λ call. refl;
}

nodes_after_post : (s : State) (source destination word : ℕ) → (after_post s source destination word).nodes ≡ s.nodes
unfolding after_post
nodes_after_post s source destination word = refl

nodes_after_step : (layout : Layout) (s next : State) (picks : List ℕ) → next ≡ after_step s (step_with layout s picks) → next.nodes ≡ s.nodes
unfolding after_step
nodes_after_step layout s next picks e = ap (λ t. t.nodes) e

pub change_keeps_nodes : (layout : Layout) (s next : State) (reply : Reply) → Change layout s reply next → next.nodes ≡ s.nodes
change_keeps_nodes layout s next reply (idles idle) = idle.same_nodes
change_keeps_nodes layout s next reply (gains source destination word e f) =
    ap (λ t. t.nodes) f ∙ nodes_after_post s source destination word
change_keeps_nodes layout s next reply (moves how e) = nodes_after_step layout s next how.picks how.after_is

module _ (layout : Layout) (sound : Sound layout) where
  pub calm_change : (s next : State) (call : Call) (reply : Reply) → Invariant layout s → Calm layout s →
      Does layout s call reply next → (disturbs call && accepted reply) ≡ false → Change layout s reply next
  calm_change s next call reply inv calm (cuts {n} {p} c) quiet = refused_only layout s reply next (after_cut layout s n p) (cut_refused layout s n p) c quiet
  calm_change s next call reply inv calm (hands {n} c) quiet = refused_only layout s reply next (after_hand s n) (hand_refused layout n) c quiet
  calm_change s next call reply inv calm (slots e f) quiet =
      idles (subst (λ r. Idle s r next) (sym e)
      (subst (Idle s (slotted (slot layout s).answer)) (sym (f ∙ calm_slot layout sound s inv calm))
      (slot_idle s ((s.owner + 1) % layout.count) (slot layout s).answer)))
  calm_change s next call reply inv calm (posts {source} {destination} {word} c) quiet =
      post_change layout s reply next source destination word (post_refused layout s source destination) c
  calm_change s next call reply inv calm (step_refused few e f) quiet = idles (idle_refused s reply next _ e f)
  calm_change s next call reply inv calm (steps few how e) quiet = moves how e

  pub calm_stays :
      ((s next : State) (call : Call) (reply : Reply) → Invariant layout s → Does layout s call reply next → Invariant layout next) →
      (s end : State) (log : List Event) → Invariant layout s → Calm layout s → Run layout s log end → Quiet log →
      (end.nodes ≡ s.nodes) × Calm layout end × Invariant layout end
  calm_stays keeps s end [] inv calm ends quiet = (refl, calm, inv)
  calm_stays keeps s end (e ∷ log) inv calm (goes {next = next} {call = call} {reply = reply} does run) quiet =
      let same = change_keeps_nodes layout s next reply (calm_change s next call reply inv calm does quiet.0) in
      let rest = calm_stays keeps next end log (keeps s next call reply inv does) (calm_nodes layout s next same calm) run quiet.1 in
      (rest.0 ∙ same, rest.1, rest.2)
