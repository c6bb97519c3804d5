use Rattle.std.proofs.Common.{refl, arith, rules}
use Rattle.board.specs.View.{nodes_view}
use Rattle.traffic.proofs.Sweeping.{ready_to_depart, ready_to_apply, swept_none, swept_more, step_done}
use Rattle.traffic.proofs.types.Flight.step.Goals as goal

pub loop-i-init : goal.loop-i-init
loop-i-init g c =
    swept_none g.C.Chooser.picks (g.W.Wiring.layout c.args.wiring.now) (nodes_view c.args.board.now)
    c.args.self.now c.args.tray.now c.args.chooser.now c.of.result c.default.result c.of.ensures (search rules) (omega arith)

pub depart-requires : goal.depart-requires
depart-requires g c =
    ready_to_depart c.loop-i.self c.loop-i.sweep c.loop-i.tray c.loop-i.i c.loop-i.invariant.ready
    (omega (arith, c.loop-i.invariant.count_stays))

pub apply-requires : goal.apply-requires
apply-requires g c =
    ready_to_apply c.loop-i.self c.loop-i.sweep c.loop-i.tray c.loop-i.i c.loop-i.invariant.ready
    (omega (arith, c.loop-i.invariant.count_stays)) c.depart.new.self c.depart.ensures
    g.C.Chooser.picks (g.W.Wiring.layout c.args.wiring.now) (nodes_view c.args.board.now)
    c.decide-fate.result c.loop-i.chooser c.decide-fate.new.chooser c.decide-fate.ensures (g.met.W.Wiring.sound c.args.wiring.now)

pub loop-i-preserved : goal.loop-i-preserved
loop-i-preserved g c =
    swept_more g.C.Chooser.picks (g.W.Wiring.layout c.args.wiring.now) (nodes_view c.args.board.now)
    c.args.self.now c.args.tray.now c.args.chooser.now c.loop-i.i
    c.loop-i.self c.loop-i.sweep c.loop-i.tray c.loop-i.chooser c.loop-i.invariant
    (omega (arith, c.loop-i.invariant.count_stays)) c.depart.new.self c.depart.ensures
    c.decide-fate.result c.decide-fate.new.chooser c.decide-fate.ensures
    c.apply.new.self c.apply.new.sweep c.apply.new.tray
    c.apply.ensures.applies c.apply.ensures.behind c.apply.ensures.occupied c.apply.ensures.onward

pub returns : goal.returns
returns g c =
    step_done g.C.Chooser.picks (g.W.Wiring.layout c.args.wiring.now) c.args.board.now
    c.args.self.now c.args.tray.now c.args.chooser.now c.loop-i.i
    c.loop-i.self c.loop-i.sweep c.loop-i.tray c.loop-i.chooser c.loop-i.invariant
    g.met.C.Chooser.inside (omega arith) (omega arith) _ refl refl
