use Rattle.std.proofs.Common.{rules}
use Rattle.wiring.specs.GridLemmas.{sides_fit}
use Rattle.wiring.proofs.mesh.MeshWiring.node_count.Goals as goal

pub overflow_mul-result : goal.overflow_mul-result
overflow_mul-result c = search (rules, sides_fit)
