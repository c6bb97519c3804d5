use Rattle.std.proofs.Common.{rules}
use Rattle.std.proofs.lemmas.Slice.{overwrites}
use Rattle.tray.proofs.calls.write_all.Goals as goal

pub returns : goal.returns
returns g c = record {
  front = search (rules, overwrites);
  back = search (rules, overwrites);
}
