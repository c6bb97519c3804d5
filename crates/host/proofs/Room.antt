-- A place of 2048 bytes has room for any page.
use Rattle.std.proofs.Common.{◌≡◌, ℕ, ◌≤◌, Bool, true, false, cond, ltb, leb, List, length, IfOk, Ok, Err, Result, refl, arith}
use Rattle.std.proofs.lemmas.Bool.{le-ltb}
use Rattle.fault.specs.declared.WallFault.{WallFault}
use Rattle.rules.specs.declared.Refusal.TheVariants.{NodeOutOfRange, TrayTooSmall}
use Rattle.wiring.specs.Layout.{Layout}
use Rattle.wiring.specs.File.{read_file, on_err}
use Rattle.page.specs.declared.types.PageFault.{PageFault}
use Rattle.page.specs.declared.types.PageFault.TheVariants.{Call}
use Rattle.page.specs.Pages.{file_answer, file_page_text, settled_state}
use Rattle.host.specs.Host.{asked, Enough}
use Rattle.host.proofs.Narrowed.{few_nodes}
use Rattle.host.proofs.Short.{page_short}

-- The answer, by the two tests that it is made of.
abbrev by_tests : (past tight : Bool) (long : ℕ) → Result ℕ PageFault
by_tests past tight long = on_err (cond past (Err NodeOutOfRange) (cond tight (Err TrayTooSmall) (Ok long))) Call

tight_only : (past tight : Bool) (long : ℕ) → tight ≡ false → by_tests past tight long ≡ Err (Call TrayTooSmall) → ⊥
tight_only true tight long f e = cc
tight_only false true long f e = cc
tight_only false false long f e = cc

long_only : (past tight : Bool) (long : ℕ) → long ≤ 2048 → IfOk (by_tests past tight long) (λ n. n ≤ 2048)
long_only true tight long h = tt
long_only false true long h = tt
long_only false false long h = h

module _ (file : List ℕ) (node room : ℕ) where
  page_fits : (l : Layout) → read_file file ≡ Ok l → length (file_page_text (Ok l) node) ≤ 2048
  page_fits l e = page_short l.count (settled_state l) node (few_nodes file l e)

  asked_short : IfOk (asked file node room) (λ n. n ≤ 2048)
  unfolding asked
  asked_short = go (read_file file) refl
    where
      go : (reading : Result Layout WallFault) → read_file file ≡ reading → IfOk (file_answer reading node room) (λ n. n ≤ 2048)
      go (Ok l) e = long_only (leb l.count node) (ltb room (length (file_page_text (Ok l) node))) _ (page_fits l e)
      go (Err f) e = tt

  asked_roomy : 2048 ≤ room → asked file node room ≡ Err (Call TrayTooSmall) → ⊥
  unfolding asked
  asked_roomy h = go (read_file file) refl
    where
      go : (reading : Result Layout WallFault) → read_file file ≡ reading → file_answer reading node room ≡ Err (Call TrayTooSmall) → ⊥
      go (Ok l) e refused =
          let fits = page_fits l e in
          tight_only (leb l.count node) (ltb room (length (file_page_text (Ok l) node))) _ (le-ltb room (length (file_page_text (Ok l) node)) (omega arith)) refused
      go (Err f) e refused = cc

pub short_answer :
    (file : List ℕ) (node room : ℕ) (r : Result ℕ PageFault) →
    r ≡ asked file node room →
    IfOk r (λ n. n ≤ 2048)
short_answer file node room r e = rw e (asked_short file node room)

pub enough : Enough 2048
enough file node room h = asked_roomy file node room h
