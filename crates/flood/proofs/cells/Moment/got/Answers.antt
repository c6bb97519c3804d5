use Rattle.std.proofs.Common.{sym, ◌∙◌}
use Rattle.flood.specs.View.{wired}
use Rattle.flood.proofs.Arrays.{fit_at, far_read, gets_none, gets_some}
use Rattle.flood.proofs.cells.Moment.got.Goals as goal

pub invariant_of-sent : goal.invariant_of-sent
invariant_of-sent c =
    let fits = fit_at c.args.self.now.wave.now.ends.at _ _ _ c.args.self.now.wave.now.ends.in_range c.in-Some.is in
    record { node_few = fits.0; port_few = fits.1 }

pub returns-in-None : goal.returns-in-None
returns-in-None c =
    sym (gets_none (wired c.args.self.now.wave.now.count c.args.self.now.wave.now.ends.at) _ _ _ _ _ _
    (far_read c.args.self.now.wave.now.ends.at c.args.to.node c.args.to.port c.args.to.node_few c.args.to.port_few ∙ c.in-None.is))

pub returns-in-Some : goal.returns-in-Some
returns-in-Some c =
    c.sent.ensures ∙ sym (gets_some (wired c.args.self.now.wave.now.count c.args.self.now.wave.now.ends.at) _ _ _ _ _ _ _ _
    (far_read c.args.self.now.wave.now.ends.at c.args.to.node c.args.to.port c.args.to.node_few c.args.to.port_few ∙ c.in-Some.is))
