use Rattle.std.proofs.lemmas.Nat.{mul-le, mul-add-lt}
use Rattle.std.proofs.Common.{arith}
use Rattle.wiring.proofs.mesh.Mesh.node_at.Goals as goal

pub overflow_add-result : goal.overflow_add-result
overflow_add-result c =
    let m = c.args.self.now in
    omega (arith, mul-add-lt c.args.row m.columns c.args.column m.rows c.requires.in_row c.requires.in_column, mul-le m.columns m.rows 8 8 m.few_columns m.few_rows)

pub overflow_mul-result : goal.overflow_mul-result
overflow_mul-result c =
    let m = c.args.self.now in
    omega (arith, mul-add-lt c.args.row m.columns c.args.column m.rows c.requires.in_row c.requires.in_column, mul-le m.columns m.rows 8 8 m.few_columns m.few_rows)
