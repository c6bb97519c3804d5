use Rattle.std.proofs.Common.{◌≡◌, ◌<◌, [], ◌∷◌, ◌++◌, length, take, refl, arith, rules}
use Rattle.std.proofs.lemmas.List.{take_more, take_all, length-take-le}
use Rattle.tray.proofs.Filled.{puts_none, puts_more, puts_fitting, free_after}
use Rattle.witness.proofs.Asked.{asked_more, asked_length}
use Rattle.witness.proofs.askers.pick_all.Goals as goal

pub loop-offer-init : goal.loop-offer-init
loop-offer-init g c = ([], refl, puts_none _)

pub loop-offer-preserved : goal.loop-offer-preserved
loop-offer-preserved g c =
    let offers = c.args.offers.now in
    let i = c.loop-offer.offer-index in
    let h = c.loop-offer.invariant in
    let below : i < length offers = omega arith in
    let count : length h.0 ≡ i =
    rw (length-take-le i offers (omega arith)) at (asked_length _ (take i offers) h.0 _ _ h.1) in
    let left = free_after h.2 in (
      h.0 ++ c.pick-port.result ∷ [],
      rw (take_more offers i c.offer-item.result below, ← c.offer-item.is) (asked_more _ (take i offers) h.0 _ _ _ _ _ h.1 c.pick-port.ensures),
      puts_more h.2 (puts_fitting c.put.ensures (omega arith)),
    )

pub returns : goal.returns
returns g c =
    let h = c.loop-offer.invariant in
    let whole = rw (take_all c.loop-offer.offer-index c.args.offers.now (omega arith)) at h.1 in
    record { answer = search rules; outcome = (h.0, whole, h.2) }
