-- Walks over live cables: carried from one state to another, and what they keep.
use Rattle.std.proofs.Common.{◌≡◌, ℕ, true}
use Rattle.wiring.specs.Layout.{Layout}
use Rattle.rules.specs.declared.Mode.TheVariants.{Recovering}
use Rattle.rules.specs.State.{State}
use Rattle.rules.specs.Promise.{Way, stay, cross}
use Rattle.rules.proofs.Invariant.{mode_at, live_at, Cable}

-- A walk is one in any state with the same live cables.
pub way_same : {layout : Layout} {s after : State} {n m k : ℕ} → ((a p : ℕ) → live_at s a p ≡ true → live_at after a p ≡ true) →
    Way layout s n m k → Way layout after n m k
way_same {layout} {s} {after} live way = go way
  where
    go : {n m k : ℕ} → Way layout s n m k → Way layout after n m k
    go stay = stay
    go (cross {n = a} {p = p} on cable way') = cross (live a p on) cable (go way')

-- What passes along live cables passes along walks.
pub way_carries : {layout : Layout} {s : State} {n m k : ℕ} (P : ℕ → Type 0) →
    ((a p b q : ℕ) → Cable layout a p b q → live_at s a p ≡ true → P a → P b) →
    Way layout s n m k → P n → P m
way_carries {layout} {s} P along way = go way
  where
    go : {n m k : ℕ} → Way layout s n m k → P n → P m
    go stay here = here
    go (cross {n = a} {p = p} {m = b} {q = q} on cable way') here = go way' (along a p b q cable on here)

-- Everyone that a recovering node is joined to is in its recovery.
pub way_recovers : {layout : Layout} {s : State} {n m k : ℕ} (root left : ℕ) →
    ((a p b q : ℕ) → Cable layout a p b q → live_at s a p ≡ true → mode_at s a ≡ Recovering root left → mode_at s b ≡ Recovering root left) →
    Way layout s n m k → mode_at s n ≡ Recovering root left → mode_at s m ≡ Recovering root left
way_recovers {s} root left along way here = way_carries (λ a. mode_at s a ≡ Recovering root left) along way here
