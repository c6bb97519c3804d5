use Rattle.std.proofs.Common.{sym, refl, ◌∙◌}
use Rattle.rules.specs.Calls.{with_nodes}
use Rattle.rules.proofs.CallCases.{cut_outside, cut_no_port, cut_no_cable, cut_cable, cut_does}
use Rattle.flood.specs.View.{wired}
use Rattle.board.specs.View.{board_state}
use Rattle.board.proofs.types.Board.cut.Goals as goal

pub returns-then-node-self : goal.returns-then-node-self
returns-then-node-self c = record { rule = rw (cut_outside (wired c.args.self.now.count c.args.ends.now.at) (board_state c.args.self.now) c.args.node c.args.port c.if-node-self.true) (refl, refl); count = refl }

pub returns-then-port-ge4 : goal.returns-then-port-ge4
returns-then-port-ge4 c = record { rule = rw (cut_no_port (wired c.args.self.now.count c.args.ends.now.at) (board_state c.args.self.now) c.args.node c.args.port c.if-node-self.false c.if-port-ge4.true) (refl, refl); count = refl }

pub returns-in_default : goal.returns-in_default
returns-in_default c =
    let none = sym c.far_end.ensures ∙ c.in_default.is in
    record {
      rule = rw (cut_no_cable (wired c.args.self.now.count c.args.ends.now.at) (board_state c.args.self.now) c.args.node c.args.port c.if-node-self.false c.if-port-ge4.false none) (refl, refl);
      count = refl;
    }

pub returns : goal.returns
unfolding with_nodes
returns c =
    let some = sym c.far_end.ensures ∙ c.in-Some.is in
    let w = wired c.args.self.now.count c.args.ends.now.at in
    let s = board_state c.args.self.now in
    record {
      rule = rw (cut_cable w s c.args.node c.args.port _ c.if-node-self.false c.if-port-ge4.false some, cut_does w s c.args.node c.args.port _ _ some) c.cut_cable.ensures.rule;
      count = c.cut_cable.ensures.count;
    }
