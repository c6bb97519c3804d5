use Rattle.traffic.proofs.Decisions.{some_offered, crosses_landed}
use Rattle.traffic.proofs.types.Scene.cross.Goals as goal

pub returns : goal.returns
returns g c =
    crosses_landed g.C.Chooser.picks (g.W.Wiring.layout c.args.self.now.wiring.now) c.args.node c.args.offer _ c.from-ports.ensures
    c.ask.result c.args.chooser.now c.ask.new.chooser
    (some_offered c.args.offer _ c.from-ports.ensures _ c.is_empty.ensures c.if-is_empty.false) c.ask.ensures _ c.far_end.ensures _ c.landed.ensures
