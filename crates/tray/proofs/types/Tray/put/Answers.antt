use Rattle.std.proofs.Common.{rules}
use Rattle.tray.proofs.Filled.{used_and_free}
use Rattle.tray.proofs.types.Tray.put.Goals as goal

pub write_one-requires : goal.write_one-requires
write_one-requires g c = let fits = used_and_free c.args.self.now in search rules

pub overflow_add-self : goal.overflow_add-self
overflow_add-self g c = let fits = used_and_free c.args.self.now in search rules

pub invariant_of-self : goal.invariant_of-self
invariant_of-self g c = let fits = used_and_free c.args.self.now in search rules
