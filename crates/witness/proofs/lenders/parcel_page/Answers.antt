use Rattle.std.proofs.Common.{rules}
use Rattle.tray.proofs.Filled.{memory_is}
use Rattle.witness.proofs.lenders.parcel_page.Goals as goal

pub returns : goal.returns
returns c = let whole = memory_is c.put-3.new.self in search rules
