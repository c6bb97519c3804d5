-- A packet's fate put into effect, on a step in the middle.
use Rattle.std.proofs.Common.{◌≡◌, ℕ, ◌+◌, ◌≤◌, List, [], ◌∷◌, ◌++◌, length, take, refl, sym, ap, ◌∙◌, subst, arith}
use Rattle.std.proofs.lemmas.List.{append_assoc}
use Rattle.tray.specs.declared.types.Tray.{Tray}
use Rattle.tray.specs.Filled.{rest, Puts}
use Rattle.tray.proofs.Filled.{puts_more, free_after}
use Rattle.rules.specs.declared.Ending.{Ending}
use Rattle.rules.specs.declared.Ending.TheVariants as ending
use Rattle.rules.specs.declared.Outcome.{Outcome}
use Rattle.rules.specs.declared.Packet.{Packet}
use Rattle.rules.specs.declared.StepCounts.{StepCounts}
use Rattle.rules.specs.Step.{apply, moved_to}
use Rattle.traffic.specs.declared.types.Occupancy.{Occupancy}
use Rattle.traffic.specs.declared.types.Fate.{Fate}
use Rattle.traffic.specs.declared.types.Fate.TheVariants.{Waits, Delivered, Returned, Crosses}
use Rattle.traffic.specs.declared.types.Flight.{Flight}
use Rattle.traffic.specs.declared.types.Sweep.{Sweep}
use Rattle.traffic.specs.Occupied.{Counts, Arrives}
use Rattle.traffic.specs.Sweeping.{staying, BehindStays, Applies, OccupancyFollows}

abbrev outcome : Packet → Ending → Outcome
outcome x ending = record { number = x.number; ending = ending; node = x.node; word = x.word }

-- The counts with one packet more.
abbrev more_moved : StepCounts → StepCounts
more_moved c = record c { moved = c.moved + 1 }

abbrev more_delivered : StepCounts → StepCounts
more_delivered c = record c { delivered = c.delivered + 1 }

abbrev more_returned : StepCounts → StepCounts
more_returned c = record c { returned = c.returned + 1 }

abbrev more_waited : StepCounts → StepCounts
more_waited c = record c { waited = c.waited + 1 }

module _ (fate : Fate) (x : Packet) (flight : Flight) (sweep : Sweep) (held : Tray Outcome) (flight' : Flight) (sweep' : Sweep) where
  -- What a fate does to a step in the middle, it does under its own name.
  named : (known : Fate) (held' : Tray Outcome) → fate ≡ known →
      Applies known x flight sweep held flight' sweep' held' → Applies fate x flight sweep held flight' sweep' held'
  named known held' e = subst (λ (f : Fate). Applies f x flight sweep held flight' sweep' held') (sym e)

  pub waits_applied : fate ≡ Waits → sweep'.counts ≡ more_waited sweep.counts →
      staying flight' sweep' ≡ staying flight sweep ++ x ∷ [] → Applies fate x flight sweep held flight' sweep' held
  unfolding apply
  waits_applied e counts stays = named Waits held e (record {
    shows = λ first mid ask shows. record {
      flying_are = ap (λ (xs : List Packet). xs ++ x ∷ []) shows.flying_are ∙ sym stays;
      counts_are = ap more_waited shows.counts_are ∙ sym counts;
      puts = shows.puts;
    };
  })

  pub crosses_applied : (m q : ℕ) → fate ≡ Crosses m q → sweep'.counts ≡ more_moved sweep.counts →
      staying flight' sweep' ≡ staying flight sweep ++ moved_to m q x ∷ [] → Applies fate x flight sweep held flight' sweep' held
  unfolding apply
  crosses_applied m q e counts stays = named (Crosses m q) held e (record {
    shows = λ first mid ask shows. record {
      flying_are = ap (λ (xs : List Packet). xs ++ moved_to m q x ∷ []) shows.flying_are ∙ sym stays;
      counts_are = ap more_moved shows.counts_are ∙ sym counts;
      puts = shows.puts;
    };
  })

  module _ (held' : Tray Outcome) (same : staying flight' sweep' ≡ staying flight sweep) where
    pub delivered_applied : fate ≡ Delivered → sweep'.counts ≡ more_delivered sweep.counts →
        Puts (outcome x ending.Delivered ∷ []) held held' → Applies fate x flight sweep held flight' sweep' held'
    unfolding apply
    delivered_applied e counts put = named Delivered held' e (record {
      shows = λ first mid ask shows. record {
        flying_are = shows.flying_are ∙ sym same;
        counts_are = ap more_delivered shows.counts_are ∙ sym counts;
        puts = puts_more shows.puts put;
      };
    })

    pub returned_applied : fate ≡ Returned → sweep'.counts ≡ more_returned sweep.counts →
        Puts (outcome x ending.Returned ∷ []) held held' → Applies fate x flight sweep held flight' sweep' held'
    unfolding apply
    returned_applied e counts put = named Returned held' e (record {
      shows = λ first mid ask shows. record {
        flying_are = shows.flying_are ∙ sym same;
        counts_are = ap more_returned shows.counts_are ∙ sym counts;
        puts = puts_more shows.puts put;
      };
    })

pub one_put : (o : Outcome) (held held' : Tray Outcome) → 1 ≤ length (rest held) → Puts (o ∷ []) held held' → length (rest held) ≤ length (rest held') + 1
one_put o held held' h put = omega (arith, free_after put)

pub occupancy_kept : (flight : Flight) (sweep : Sweep) (flight' : Flight) (sweep' : Sweep) (x : Packet) → Arrives sweep.occupancy x sweep'.occupancy →
    staying flight' sweep' ≡ staying flight sweep ++ x ∷ [] → OccupancyFollows flight sweep flight' sweep'
occupancy_kept flight sweep flight' sweep' x arrives e = record {
  counts_on = λ others counts.
      subst (Counts sweep'.occupancy) (sym (ap (λ (xs : List Packet). xs ++ others) e ∙ append_assoc (staying flight sweep) (x ∷ []) others))
      (arrives (staying flight sweep) others counts);
}

pub behind_none : (flight : Flight) (stayed : ℕ) → BehindStays stayed flight flight
behind_none flight stayed = record { places_stay = refl; count_stays = refl; last_stays = refl }

pub occupancy_same : (flight : Flight) (sweep sweep' : Sweep) → sweep'.occupancy ≡ sweep.occupancy → sweep'.stayed ≡ sweep.stayed →
    OccupancyFollows flight sweep flight sweep'
occupancy_same flight sweep sweep' o s = record {
  counts_on = λ others counts.
      subst (λ (n : ℕ). Counts sweep'.occupancy (take n flight.places ++ others)) (sym s)
      (subst (λ (occupancy : Occupancy). Counts occupancy (staying flight sweep ++ others)) (sym o) counts);
}
