-- The laws, from the invariant of every wall that a run can reach.
use Rattle.wiring.specs.Layout.{Layout, Sound}
use Rattle.rules.specs.State.{State}
use Rattle.rules.specs.Laws.{Reachable, PromiseLaw, DistanceLaw, RootLaw, FloodLaw, CountsLaw}
use Rattle.rules.proofs.Distance.{LiveBoth, distances_least}
use Rattle.rules.proofs.Rooted.{rooted_law}
use Rattle.rules.proofs.FirstFlag as flags
use Rattle.rules.proofs.Sweep.{stepped, counts_add_up}
use Rattle.rules.proofs.Promised.{reached_keeps, promised}

live_both : (layout : Layout) (sound : Sound layout) (s : State) → Reachable layout s → LiveBoth layout s.nodes
live_both layout sound s reachable = (reached_keeps layout sound reachable.1).cabled.live_both

pub distance_law : DistanceLaw
distance_law layout sound s reachable = distances_least layout sound s (live_both layout sound s reachable)

pub root_law : RootLaw
root_law layout sound s reachable = rooted_law layout sound s (live_both layout sound s reachable)

pub flood_law : FloodLaw
flood_law = flags.flood_law

pub counts_law : CountsLaw
counts_law layout sound s after counts outcomes crossed asked steps =
    counts_add_up layout s counts outcomes crossed after (stepped layout sound s after counts outcomes crossed asked steps)

pub promise_law : PromiseLaw
promise_law = promised
