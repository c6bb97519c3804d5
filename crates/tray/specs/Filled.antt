-- What a tray holds, and what a put does to it.
use Rattle.std.specs.Prelude.{◌≡◌, ℕ, cond, List, ◌++◌, length, take, drop, Ok, Err, Result, MatchResult, nat_le}
use Rattle.tray.specs.declared.types.Tray.{Tray}
use Rattle.tray.specs.declared.types.TrayFull.{TrayFull}

-- the number of the refusal; its layer is the wall's, its index and its place are 0
abbrev pub tray_full_number : ℕ
tray_full_number = 15

-- the refusal
abbrev pub tray_full : TrayFull
tray_full = record {}

module _ {T : Type 0} where
  -- the elements that were put in, in order
  unfoldable pub filled : Tray T → List T
  filled t = take t.used t.slots.now

  -- what stands at the free places
  unfoldable pub rest : Tray T → List T
  rest t = drop t.used t.slots.now

  -- xs stand behind what was filled before, over the first free places of the same memory; the others are as they were
  pub record Puts (xs : List T) (before after : Tray T) : Type 0 where
    pub filled_after : filled after ≡ filled before ++ xs
    pub rest_after : rest after ≡ drop (length xs) (rest before)
    pub lent_after : after.slots.ghost_name ≡ before.slots.ghost_name

  -- the answer is Ok exactly when each of xs has a free place; then all of them are put in, else the tray is as it was
  pub record AllOrNone (xs : List T) (before after : Tray T) (r : Result (Unit {0}) TrayFull) : Type 0 where
    pub answer : r ≡ cond (nat_le (length xs) (length (rest before))) (Ok tt) (Err tray_full)
    pub outcome : MatchResult r (λ _. Puts xs before after) (λ _. after ≡ before)
