use Rattle.std.proofs.Common.{ap, sym, ◌∙◌}
use Rattle.std.proofs.lemmas.Bool.{ne_eqb, not-true}
use Rattle.rules.specs.Calls.{not_serving}
use Rattle.board.specs.View.{nodes_view}
use Rattle.traffic.proofs.Decisions.{decided_crossing}
use Rattle.traffic.proofs.types.Scene.decide.Goals as goal

pub returns-in-Some : goal.returns-in-Some
returns-in-Some g c others counts =
    decided_crossing (g.W.Wiring.layout c.args.self.now.wiring.now) (nodes_view c.args.self.now.board.now) others c.args.x
    g.C.Chooser.picks c.args.chooser.now
    (ap not_serving (sym c.mode_at.ensures) ∙ not-true (not_serving c.mode_at.result) (sym c.serves.ensures ∙ c.if-not-serves.false))
    (ne_eqb c.args.x.node c.args.x.destination c.if-x.false)
    c.in-Some.way.ports c.offered.result c.in-Some.way.count _ c.cross.new.chooser c.in-Some.ensures (c.offered.ensures others counts) c.cross.ensures
