-- The places of a flight: how many packets stand in them, and that they all stand inside the wall.
use Rattle.std.proofs.Common.{◌≡◌, ◌<◌, None, Some, Option, ℕ, zero, suc, List, [], ◌∷◌, length, get_or, take, set, replicate, arith, lit<}
use Rattle.rules.specs.declared.Packet.{Packet}
use Rattle.std.proofs.lemmas.List.{length-take-le}
use Rattle.traffic.specs.Inside.{Inside, nowhere}
use Rattle.traffic.specs.View.{packets_view}
use Rattle.traffic.specs.declared.types.Flight.{Flight}

home : (p : ℕ) → ◌≡◌ {A = Option ℕ} None (Some p) → p < 4
home p e = cc

pub nowhere_inside : (n k : ℕ) → Inside (get_or (replicate n nowhere) k nowhere)
nowhere_inside zero k = (lit< tt, home)
nowhere_inside (suc n) zero = (lit< tt, home)
nowhere_inside (suc n) (suc k) = nowhere_inside n k

pub inside_set : (xs : List Packet) (i : ℕ) (x : Packet) →
    ((k : ℕ) → Inside (get_or xs k nowhere)) → Inside x → (k : ℕ) → Inside (get_or (set xs i x) k nowhere)
inside_set [] i x all here k = all k
inside_set (y ∷ ys) zero x all here zero = here
inside_set (y ∷ ys) zero x all here (suc k) = all (suc k)
inside_set (y ∷ ys) (suc i) x all here zero = all zero
inside_set (y ∷ ys) (suc i) x all here (suc k) = inside_set ys i x (λ j. all (suc j)) here k

pub packets_inside : (flight : Flight) (k : ℕ) → Inside (get_or (packets_view flight) k nowhere)
packets_inside flight k = go flight.places flight.count k flight.inside
  where
    go : (xs : List Packet) (n j : ℕ) → ((i : ℕ) → Inside (get_or xs i nowhere)) → Inside (get_or (take n xs) j nowhere)
    go xs zero j all = (lit< tt, home)
    go [] (suc n) j all = (lit< tt, home)
    go (x ∷ xs) (suc n) zero all = all 0
    go (x ∷ xs) (suc n) (suc j) all = go xs n j (λ i. all (suc i))

pub in_flight : (flight : Flight) → length (packets_view flight) ≡ flight.count
in_flight flight = length-take-le flight.count flight.places (omega arith)
