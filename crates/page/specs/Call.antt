-- What the page call answers, and what it leaves in the tray.
use Rattle.std.specs.Prelude.{◌≡◌, ℕ, ◌<◌, ◌≤◌, cond, length, Ok, Err, Result, MatchResult, nat_le, nat_lt}
use Rattle.tray.specs.declared.types.Tray.{Tray}
use Rattle.tray.specs.Filled.{filled, rest, Puts}
use Rattle.rules.specs.declared.Refusal.{Refusal}
use Rattle.rules.specs.declared.Refusal.TheVariants.{NodeOutOfRange, TrayTooSmall}
use Rattle.rules.specs.State.{State}
use Rattle.pagetext.specs.Reading.{shown, read_page}
use Rattle.page.specs.Sheet.{Writes}
use Rattle.pagetext.specs.Text.{with_page, page_text}

-- The length of a page, or why there is none: first the node is looked at, then the free places.
abbrev pub page_answer : (count node long free : ℕ) → Result ℕ Refusal
page_answer count node long free =
    cond (nat_le count node) (Err NodeOutOfRange) (cond (nat_lt free long) (Err TrayTooSmall) (Ok long))

-- The page stands whole in the tray, or the tray is as it was.
pub record PageCall (count : ℕ) (s : State) (node : ℕ) (r : Result ℕ Refusal) (before after : Tray ℕ) : Type 0 where
  pub answer : r ≡ page_answer count node (length (page_text count s node)) (length (rest before))
  pub outcome : MatchResult r (λ _. Puts (page_text count s node) before after) (λ _. after ≡ before)

-- A page was written on a sheet, and what it says is what there is to tell of the node; or there is no such node.
abbrev pub Composed : (count : ℕ) → State → (node : ℕ) → Result (Unit {0}) Refusal → Tray ℕ → Tray ℕ → Type 0
Composed count s node r before after =
    MatchResult r
    (λ _. (node < count)
    × Writes 1629 (with_page (filled before) count s.nodes node) before after
    × (read_page (page_text count s node) ≡ shown count s node))
    (λ reason. (reason ≡ NodeOutOfRange) × (count ≤ node))
