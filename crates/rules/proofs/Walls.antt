-- The worked walls: each is computed from the rules, all in one definition.
use Rattle.std.proofs.Common.{◌≡◌, ℕ, zero, suc, ◌<◌, ◌≤◌, Bool, true, false, not, ◌&&◌, ◌⊎◌, List, refl, inl, inr, arith, lit<}
use Rattle.std.proofs.lemmas.Bool.{both_ways, not-true, and_parts, cases_lt}
use Rattle.wiring.specs.Layout.{Layout}
use Rattle.wiring.specs.File.{cables_from, lay_all}
use Rattle.rules.specs.declared.Mode.{Mode}
use Rattle.rules.specs.declared.Mode.TheVariants.{New, Recovering, Serving}
use Rattle.rules.specs.Ports.{ports_where, some_port, without, table}
use Rattle.rules.specs.State.{Node, State, node_of, fresh, power_up}
use Rattle.rules.specs.Flood.{all_up, passes_on, sends, gets, next_cell, cycle, reached, spread_from, spread}
use Rattle.rules.specs.Root.{distances, root_mark, enlisted, rooted}
use Rattle.rules.specs.Slot.{broadcast, informed, heard, tick_mode, ends_recovery, sent_home, slot_end, spoken, acted, slot}
use Rattle.rules.specs.Calls.{cut_refused, cut_end, changed, with_nodes, after_cut, hand_refused, raised, after_hand, post_refused, after_post}
use Rattle.rules.specs.Step.{turn, permitted, stands_at, taken, far_port_empty, offered, crossing, offer_for, fate, apply, take_one, sweep, step_with, after_step}
use Rattle.rules.specs.Promise.{Recovers, Calm}
use Rattle.rules.specs.Walls.{slots, WorkedWalls}

-- Calm, as a test of the first k nodes

unfoldable pub settled : Mode → Bool
settled New = true
settled (Recovering root left) = false
settled (Serving root) = true

unfoldable pub rests : Node → Bool
rests node = not node.hand && settled node.mode

unfoldable pub all_rest : List Node → ℕ → Bool
all_rest nodes zero = true
all_rest nodes (suc k) = rests (node_of nodes k) && all_rest nodes k

rest_each : (nodes : List Node) (k : ℕ) → all_rest nodes k ≡ true → (n : ℕ) → n < k → rests (node_of nodes n) ≡ true
unfolding all_rest
rest_each nodes zero all n below = absurd (omega arith)
rest_each nodes (suc k) all n below =
    let parts = and_parts (rests (node_of nodes k)) (all_rest nodes k) all in
    go parts.0 (rest_each nodes k parts.1 n) (cases_lt n k)
  where
    go : rests (node_of nodes k) ≡ true → (n < k → rests (node_of nodes n) ≡ true) → (n < k) ⊎ (k ≤ n) → rests (node_of nodes n) ≡ true
    go here before (inl less) = before less
    go here before (inr most) = let same : n ≡ k = omega arith in rw same here

settled_rests : (mode : Mode) → settled mode ≡ true → Recovers mode → ⊥
unfolding settled
settled_rests New e recovers = recovers
settled_rests (Recovering root left) e recovers = both_ways false refl e
settled_rests (Serving root) e recovers = recovers

pub calm_tested : (layout : Layout) (s : State) → all_rest s.nodes layout.count ≡ true → Calm layout s
unfolding rests
calm_tested layout s all = record {
  hands_down = λ n below. not-true (node_of s.nodes n).hand (parts n below).0;
  none_recovers = λ n below. settled_rests (node_of s.nodes n).mode (parts n below).1;
}
  where
    parts : (n : ℕ) → n < layout.count → (not (node_of s.nodes n).hand ≡ true) × (settled (node_of s.nodes n).mode ≡ true)
    parts n below = and_parts (not (node_of s.nodes n).hand) (settled (node_of s.nodes n).mode) (rest_each s.nodes layout.count all n below)

-- The walls

pub worked_walls : WorkedWalls
unfolding settled rests all_rest cables_from lay_all ports_where some_port without table fresh power_up all_up passes_on sends gets next_cell cycle reached spread_from spread distances root_mark enlisted rooted broadcast informed heard tick_mode ends_recovery sent_home slot_end spoken acted slot cut_refused cut_end changed with_nodes after_cut hand_refused raised after_hand post_refused after_post turn permitted stands_at taken far_port_empty offered crossing offer_for fate apply take_one sweep step_with after_step slots
worked_walls = record {
  mesh_far_ends = (refl, refl, refl, refl);
  triangle_marks = (refl, refl, refl, refl, refl, refl, refl);
  two_ports = (refl, refl);
  one_port = refl;
  long_way = (refl, refl);
  next_root = (refl, refl, refl, refl, refl, refl);
  lone_node = (calm_tested _ _ refl, refl);
  hand_stays_up = (refl, (λ calm. calm.none_recovers 1 (lit< tt) tt), calm_tested _ _ refl);
  three_posts = (calm_tested _ _ refl, refl, refl, refl, (refl, (refl, (refl, tt))), refl);
  three_deliveries = ((refl, (refl, (refl, tt))), refl, (refl, (refl, (refl, tt))), refl, (refl, tt), refl);
  one_return = (refl, refl, (refl, tt), refl, (refl, tt), refl);
  one_node_file = (refl, (λ byte. (refl, refl)));
}
