-- What a host is answered, and what it finds in its memory.
use Rattle.std.specs.Prelude.{ℕ, ◌≤◌, List, ◌++◌, length, drop, ℤ, pos, neg_ℤ, Ok, Err, Result, ◌≢◌}
use Rattle.rules.specs.declared.Refusal.TheVariants.{TrayTooSmall}
use Rattle.page.specs.declared.types.PageFault.{PageFault}
use Rattle.page.specs.declared.types.PageFault.TheVariants.{Call}
use Rattle.page.specs.Pages.{page_fault_number, file_answer, file_page_text}
use Rattle.wiring.specs.File.{read_file}

-- A host asks for the page of a node of the wall that a file spells, and has room for so many bytes: the page's
-- length, or why there is none.
unfoldable pub asked : (file : List ℕ) (node room : ℕ) → Result ℕ PageFault
asked file node room = file_answer (read_file file) node room

-- So much room, or more, is never too little.
abbrev pub Enough : ℕ → Type 0
Enough most = (file : List ℕ) (node room : ℕ) → most ≤ room → asked file node room ≢ Err (Call TrayTooSmall)

-- It is told the length, or the refusal's number made negative.
abbrev pub told : Result ℕ PageFault → ℤ
told (Ok long) = pos long
told (Err fault) = neg_ℤ (pos (page_fault_number fault))

-- A page at the front of the memory, and behind it what stood there before; at a refusal all is as it was.
abbrev pub laid_over : Result ℕ PageFault → (page before : List ℕ) → List ℕ
laid_over (Ok long) page before = page ++ drop (length page) before
laid_over (Err fault) page before = before

unfoldable pub place_after : (file : List ℕ) (node : ℕ) (before : List ℕ) → List ℕ
place_after file node before = laid_over (asked file node (length before)) (file_page_text (read_file file) node) before
