use Rattle.std.proofs.Common.{refl}
use Rattle.wiring.specs.File.{cables_from, lay_all}
use Rattle.wiring_tests.proofs.worked_examples.Goals as goal

pub returns : goal.returns
unfolding cables_from lay_all
returns c = record { north = refl; east = refl; south = refl; west = refl; smallest = refl; longer = refl }
