use Rattle.std.proofs.Common.{is_ok, sym, ap, ◌∙◌}
use Rattle.std.proofs.Math.Logic.{∥∥₁_map}
use Rattle.wiring.specs.File.{problem}
use Rattle.wiring.proofs.Laying.{unrefused, fits, join_size, join_sound}
use Rattle.wiring.proofs.cables.CableList.lay.Goals as goal

pub invariant_of-self : goal.invariant_of-self
invariant_of-self c =
    let l = c.args.self.now in
    let good = ap is_ok (sym c.check.ensures) ∙ sym c.map_err.ensures.variant ∙ ap is_ok c.in_ok-map_err.was in
    let f = fits l.count l.ends c.args.cable (unrefused (problem l.count l.ends c.args.cable) _ good) in
    rw c.join.ensures (record {
      few = l.few;
      size = join_size l.ends c.args.cable l.size;
      sound = ∥∥₁_map l.sound (join_sound l.count l.few l.ends l.size c.args.cable f);
    })
