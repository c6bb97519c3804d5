-- The runs, walls and circles that the laws are about, given one by one.
use Rattle.std.proofs.Common.{ℕ, zero, suc, List, [], ◌∷◌, ◌++◌, refl, lit<, lit≤}
use Rattle.wiring.specs.Layout.{Layout}
use Rattle.wiring.specs.File.{cables_from, lay_all}
use Rattle.wiring.specs.GridLemmas.{grid_sound}
use Rattle.rules.specs.declared.Ending.TheVariants.{Delivered}
use Rattle.rules.specs.Ports.{ports_where, some_port, without, table}
use Rattle.rules.specs.State.{State, fresh, power_up}
use Rattle.rules.specs.Flood.{all_up, passes_on, sends, gets, next_cell, cycle, reached, spread_from, spread}
use Rattle.rules.specs.Root.{distances, root_mark, enlisted, rooted}
use Rattle.rules.specs.Slot.{broadcast, informed, heard, tick_mode, ends_recovery, sent_home, slot_end, spoken, acted, slot}
use Rattle.rules.specs.Calls.{post_refused, after_post}
use Rattle.rules.specs.Step.{turn, permitted, stands_at, taken, far_port_empty, offered, crossing, offer_for, fate, apply, take_one, sweep, step_with, after_step}
use Rattle.rules.specs.Runs.{slot_call, post, step, slotted, numbered, stepped, slots, posts, steps, Event, Run, ends, goes}
use Rattle.rules.specs.Promise.{rest, on}
use Rattle.rules.specs.Walls as walls
use Rattle.rules.specs.Walls.{pair, pair_posted, slots_up, counts}
use Rattle.rules.specs.Inhabited.{Inhabited}
use Rattle.rules.proofs.Members.{has_first}
use Rattle.rules.proofs.Walls.{settled, rests, all_rest, calm_tested}

-- Slots one after another are a run.

slot_log : Layout → ℕ → State → List Event
slot_log layout zero s = []
slot_log layout (suc k) s = record { call = slot_call; reply = slotted (slot layout s).answer } ∷ slot_log layout k (slot layout s).after

slots_run : (layout : Layout) (k : ℕ) (s end : State) (log : List Event) → Run layout (walls.slots layout k s) log end → Run layout s (slot_log layout k s ++ log) end
unfolding slot_log walls.slots
slots_run layout zero s end log run = run
slots_run layout (suc k) s end log run = goes (slots refl refl) (slots_run layout k (slot layout s).after end log run)

-- A packet posted on the pair crosses its cable in one step and is delivered in the next.

crossed_over : State
crossed_over = after_step pair_posted (step_with pair pair_posted (1 ∷ []))

handed_out : State
handed_out = after_step crossed_over (step_with pair crossed_over (0 ∷ []))

flight_log : List Event
flight_log =
    record { call = post 0 1 5; reply = numbered 1 }
    ∷ record { call = step 256; reply = stepped (counts 1 0 0 0) [] (1 ∷ []) }
    ∷ record { call = step 256; reply = stepped (counts 0 1 0 0) (record { number = 1; ending = Delivered; node = 1; word = 5 } ∷ []) [] }
    ∷ []

pub inhabited : Inhabited
unfolding slot_log walls.slots crossed_over handed_out flight_log settled rests all_rest cables_from lay_all ports_where some_port without table fresh power_up all_up passes_on sends gets next_cell cycle reached spread_from spread distances root_mark enlisted rooted broadcast informed heard tick_mode ends_recovery sent_home slot_end spoken acted slot post_refused after_post turn permitted stands_at taken far_port_empty offered crossing offer_for fate apply take_one sweep step_with after_step
inhabited = record {
  sound_mesh = grid_sound 2 2 (lit≤ tt) (lit≤ tt) (lit≤ tt) (lit≤ tt);
  calm_reached = (slots_up pair 2, (_, slots_run pair 2 (power_up pair) (slots_up pair 2) [] ends), calm_tested pair (slots_up pair 2) refl);
  uncalm_reached = (slots_up pair 1, (_, slots_run pair 1 (power_up pair) (slots_up pair 1) [] ends), (λ calm. calm.none_recovers 0 (lit< tt) tt));
  long_quiet = record {
    log = slot_log pair 4 (power_up pair) ++ [];
    end = slots_up pair 4;
    run = slots_run pair 4 (power_up pair) (slots_up pair 4) [] ends;
    quiet = (refl, (refl, (refl, (refl, tt))));
    slots = lit≤ tt;
  };
  delivery = record {
    log = slot_log pair 2 (power_up pair) ++ flight_log;
    end = handed_out;
    run = slots_run pair 2 (power_up pair) handed_out flight_log
        (goes {s = slots_up pair 2} {next = pair_posted} (posts {source = 0} {destination = 1} {word = 5} {reply = numbered 1} {after = pair_posted} (refl, refl))
        (goes {next = crossed_over} (steps (lit≤ tt) (record { picks = 1 ∷ []; counts_are = refl; outcomes_are = refl; crossed_are = refl; asked_are = refl; after_is = refl; in_offers = ((λ some. refl), tt) }) refl)
        (goes {next = handed_out} (steps (lit≤ tt) (record { picks = 0 ∷ []; counts_are = refl; outcomes_are = refl; crossed_are = refl; asked_are = refl; after_is = refl; in_offers = ((λ some. some), tt) }) refl)
        ends)));
    quiet = (refl, (refl, (refl, (refl, (refl, tt)))));
    posts = refl;
    crosses = refl;
    delivers = has_first _ [];
  };
  circle_if_wrong = (
    0,
    2,
    2,
    on {p = 1} refl refl refl
        (on {p = 2} refl refl refl
        (on {p = 0} refl refl refl rest)),
  );
}
