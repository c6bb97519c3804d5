-- What is made of a wall file: all its pages, or one of them.
use Rattle.std.specs.Prelude.{◌≡◌, ℕ, ◌-◌, ◌*◌, Bool, cond, List, [], length, is_ok, Ok, Err, Result, MatchResult, nat_le}
use Rattle.tray.specs.declared.types.Tray.{Tray}
use Rattle.tray.specs.declared.types.TrayFull.{TrayFull}
use Rattle.tray.specs.Filled.{filled, rest, Puts, tray_full}
use Rattle.fault.specs.Fault.{fault_number}
use Rattle.fault.specs.declared.WallFault.{WallFault}
use Rattle.wiring.specs.Layout.{Layout}
use Rattle.wiring.specs.File.{on_err}
use Rattle.rules.specs.Numbers.{refusal_number}
use Rattle.rules.specs.State.{State}
use Rattle.rules.specs.Walls.{slots_up}
use Rattle.page.specs.declared.types.PageFault.{PageFault}
use Rattle.page.specs.declared.types.PageFault.TheVariants.{File, Call}
use Rattle.page.specs.Sheet.{Writes}
use Rattle.pagetext.specs.Text.{page_text, with_wall, with_pages, with_refused}
use Rattle.page.specs.Call.{page_answer}

-- A wall of N nodes, 2N - 1 slots after power-up.
unfoldable pub settled_state : Layout → State
settled_state layout = slots_up layout (2 * layout.count - 1)

abbrev pub page_fault_number : PageFault → ℕ
page_fault_number (File fault) = fault_number fault
page_fault_number (Call refusal) = refusal_number refusal

-- The page of a node in the wall that a file spells; of a refused file nothing.
abbrev pub file_page_text : Result Layout WallFault → ℕ → List ℕ
file_page_text (Ok layout) node = page_text layout.count (settled_state layout) node
file_page_text (Err fault) node = []

-- The length of that page, or why there is none: first the file is looked at, then the call.
abbrev pub file_answer : Result Layout WallFault → (node free : ℕ) → Result ℕ PageFault
file_answer (Ok layout) node free =
    on_err (page_answer layout.count node (length (page_text layout.count (settled_state layout) node)) free) Call
file_answer (Err fault) node free = Err (File fault)

-- The page stands whole in the tray, or the tray is as it was.
pub record FilePage (reading : Result Layout WallFault) (node : ℕ) (r : Result ℕ PageFault) (before after : Tray ℕ) : Type 0 where
  pub answer : r ≡ file_answer reading node (length (rest before))
  pub outcome : MatchResult r (λ _. Puts (file_page_text reading node) before after) (λ _. after ≡ before)

-- What is printed of a wall file, behind the text that stands before.
abbrev pub with_printed : List ℕ → Result Layout WallFault → List ℕ
with_printed before (Ok layout) =
    with_pages (with_wall before layout.count) layout.count (settled_state layout).nodes layout.count
with_printed before (Err fault) = with_refused before fault

abbrev pub printed_text : Result Layout WallFault → List ℕ
printed_text reading = with_printed [] reading

-- That text was written on a sheet, and the answer says whether the file is good.
pub record Prints (reading : Result Layout WallFault) (good : Bool) (before after : Tray ℕ) : Type 0 where
  pub good_is : good ≡ is_ok reading
  pub written : Writes 104264 (with_printed (filled before) reading) before after

-- The text stands whole in the tray, and the answer says whether the file is good; or the tray is as it was.
pub record PagesCall (reading : Result Layout WallFault) (r : Result Bool TrayFull) (before after : Tray ℕ) : Type 0 where
  pub answer :
      r ≡ cond (nat_le (length (printed_text reading)) (length (rest before))) (Ok (is_ok reading)) (Err tray_full)
  pub outcome : MatchResult r (λ _. Puts (printed_text reading) before after) (λ _. after ≡ before)
