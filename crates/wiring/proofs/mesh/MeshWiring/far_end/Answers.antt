use Rattle.std.proofs.Common.{arith}
use Rattle.wiring.specs.GridLemmas.{inside}
use Rattle.wiring.proofs.mesh.MeshWiring.far_end.Goals as goal

pub node_at-requires : goal.node_at-requires
node_at-requires c =
    let m = c.args.self.now in
    let here = inside m.columns m.rows c.args.node m.some_columns (omega arith) in
    record { in_row = omega arith; in_column = omega arith }

pub node_at-requires-in-1 : goal.node_at-requires-in-1
node_at-requires-in-1 c =
    let m = c.args.self.now in
    let here = inside m.columns m.rows c.args.node m.some_columns (omega arith) in
    record { in_row = omega arith; in_column = omega arith }

pub node_at-requires-in-3 : goal.node_at-requires-in-3
node_at-requires-in-3 c =
    let m = c.args.self.now in
    let here = inside m.columns m.rows c.args.node m.some_columns (omega arith) in
    record { in_row = omega arith; in_column = omega arith }
