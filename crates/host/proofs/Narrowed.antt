-- A node's number that does not fit a byte is refused as 255 is, since no wall has so many nodes.
use Rattle.std.proofs.Common.{◌≡◌, ℕ, ◌<◌, ◌≤◌, min, ◌⊎◌, List, Ok, Err, Result, sym, refl, ap, ◌∙◌, subst, inl, inr, arith}
use Rattle.std.specs.Result.{OkIff, result_unwrap_or}
use native.Mathlib.Nat.{min-eq_left, min-eq_right}
use Rattle.std.proofs.lemmas.Bool.{cases_lt, le-leb}
use Rattle.fault.specs.declared.HeaderFault.{HeaderFault}
use Rattle.fault.specs.declared.WallFault.{WallFault}
use Rattle.rules.specs.declared.Refusal.TheVariants.{NodeOutOfRange}
use Rattle.page.specs.declared.types.PageFault.TheVariants.{Call}
use Rattle.page.specs.Pages.{file_answer, file_page_text}
use Rattle.wiring.specs.Layout.{Layout}
use Rattle.wiring.specs.Cables.{Table}
use Rattle.wiring.specs.File.{read_table, read_file}
use Rattle.wiring.proofs.Spelled.{read_spelling, file_read, file_refused}

-- The byte that a node's number is narrowed to.
pub narrowed : {E : Type 0} (node : ℕ) (r : Result ℕ E) → OkIff r (node < 256) node → result_unwrap_or r 255 ≡ min node 255
narrowed node (Ok byte) h = omega (arith, h.0, h.1)
narrowed node (Err e) h = omega (arith, h)

pub few_nodes : (file : List ℕ) (l : Layout) → read_file file ≡ Ok l → l.count ≤ 64
few_nodes file l e = go (read_table file) refl
  where
    ok_one : {a b : Layout} → ◌≡◌ {A = Result Layout WallFault} (Ok a) (Ok b) → a ≡ b
    ok_one e = cc

    go : (r : Result Table HeaderFault) → read_table file ≡ r → l.count ≤ 64
    go (Ok ends) t = subst (λ (x : Layout). x.count ≤ 64) (ok_one (sym (file_read file ends t) ∙ e)) (read_spelling file ends t).spells.few_nodes
    go (Err f) t = cc (file_refused file f t)

past_the_nodes : (l : Layout) (node room : ℕ) → l.count ≤ node → file_answer (Ok l) node room ≡ Err (Call NodeOutOfRange)
past_the_nodes l node room h = simp (le-leb l.count node h)

module _ (node room : ℕ) where
  pub answer_narrowed :
      (reading : Result Layout WallFault) →
      ((l : Layout) → reading ≡ Ok l → l.count ≤ 64) →
      file_answer reading (min node 255) room ≡ file_answer reading node room
  answer_narrowed (Err f) few = refl
  answer_narrowed (Ok l) few = go (cases_lt node 255)
    where
      go : (node < 255) ⊎ (255 ≤ node) → file_answer (Ok l) (min node 255) room ≡ file_answer (Ok l) node room
      go (inl h) = ap (λ (n : ℕ). file_answer (Ok l) n room) (min-eq_left {n = node} {m = 255} (omega arith))
      go (inr h) =
          let small = few l refl in
          let cut : min node 255 ≡ 255 = min-eq_right h in
          past_the_nodes l (min node 255) room (omega arith) ∙ sym (past_the_nodes l node room (omega arith))

  pub text_narrowed :
      (reading : Result Layout WallFault) (long : ℕ) →
      ((l : Layout) → reading ≡ Ok l → l.count ≤ 64) →
      file_answer reading node room ≡ Ok long →
      file_page_text reading (min node 255) ≡ file_page_text reading node
  text_narrowed (Err f) long few e = refl
  text_narrowed (Ok l) long few e = go (cases_lt node 255)
    where
      go : (node < 255) ⊎ (255 ≤ node) → file_page_text (Ok l) (min node 255) ≡ file_page_text (Ok l) node
      go (inl h) = ap (λ (n : ℕ). file_page_text (Ok l) n) (min-eq_left {n = node} {m = 255} (omega arith))
      go (inr h) =
          let small = few l refl in
          cc (past_the_nodes l node room (omega arith))
