use Rattle.std.proofs.Common.{◌≡◌, ℕ, ◌+◌, ◌-◌, ◌<◌, false, get_or, sym, refl, ap, ◌∙◌, arith}
use Rattle.rules.specs.Flood.{reached, spread_from}
use Rattle.flood.specs.View.{wired, marks_view, cells_view}
use Rattle.flood.proofs.Cycles.{spread_begins, spread_ends, spread_stops, spread_goes}
use Rattle.flood.proofs.cycle.broadcast.Goals as goal

pub cycle-init : goal.cycle-init
cycle-init c = (
  c.start-cells.ensures.long,
  omega arith,
  spread_begins (wired c.args.wave.now.count c.args.wave.now.ends.at) (marks_view c.args.wave.now.marks) c.args.wave.now.owner
      (λ n. get_or c.args.deaf.now n false) (cells_view c.args.wave.now.count c.start-cells.result) c.start-cells.ensures.cells,
)

pub cycle-preserved : goal.cycle-preserved
cycle-preserved c =
    let w = wired c.args.wave.now.count c.args.wave.now.ends.at in
    let m = marks_view c.args.wave.now.marks in
    let more : 0 < c.args.wave.now.count - c.cycle.cycle = omega arith in
    let fuel : (c.args.wave.now.count - c.cycle.cycle) - 1 ≡ c.args.wave.now.count - (c.cycle.cycle + 1) = omega arith in (
      c.in-Some.ensures.long,
      omega arith,
      c.cycle.invariant.2 ∙ spread_goes w m c.args.wave.now.owner _ c.cycle.cycle _ _ more c.in-Some.ensures.cells (ap (reached (c.cycle.cycle + 1)) c.in-Some.ensures.cells ∙ sym c.in-Some.ensures.reached)
          ∙ ap (λ (f : ℕ). spread_from w m c.args.wave.now.owner f (c.cycle.cycle + 1) (cells_view c.args.wave.now.count c.in-Some.next)) fuel,
    )

pub returns-then-cycle-wave-clause-value : goal.returns-then-cycle-wave-clause-value
returns-then-cycle-wave-clause-value c =
    c.cycle.invariant.2 ∙ spread_ends (wired c.args.wave.now.count c.args.wave.now.ends.at) (marks_view c.args.wave.now.marks) c.args.wave.now.owner _ _ _ (omega arith)

pub returns-in-None-clause-value : goal.returns-in-None-clause-value
returns-in-None-clause-value c =
    let more : 0 < c.args.wave.now.count - c.cycle.cycle = omega arith in
    c.cycle.invariant.2 ∙ spread_stops (wired c.args.wave.now.count c.args.wave.now.ends.at) (marks_view c.args.wave.now.marks) c.args.wave.now.owner
    _ c.cycle.cycle _ _ more refl (sym c.in-None.ensures.reached)
