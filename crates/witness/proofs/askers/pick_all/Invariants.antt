use Rattle.std.proofs.Common.{ℕ, List, take}
use Rattle.tray.specs.Filled.{Puts}
use Rattle.witness.specs.Asked.{Asked}
use Rattle.witness.proofs.askers.pick_all.Given as goal

abbrev pub invariant-loop-offer : goal.invariant-loop-offer
invariant-loop-offer g l =
    (ports : List ℕ)
    × Asked g.C.Chooser.picks l.initial.chooser (take l.offer-index l.offers) ports l.chooser
    × Puts ports l.initial.tray l.tray
