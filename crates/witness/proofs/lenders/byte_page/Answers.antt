use Rattle.std.proofs.Common.{rules}
use Rattle.tray.proofs.Filled.{memory_is}
use Rattle.witness.proofs.lenders.byte_page.Goals as goal

pub returns : goal.returns
returns c = let whole = memory_is c.put_all.new.self in search rules
