-- What stands in the host's memory once the tray over it has been filled, in the host's words.
use Rattle.std.proofs.Common.{◌≡◌, ℕ, min, List, [], ◌++◌, length, drop, Ok, Err, Result, sym, refl, ap, ◌∙◌}
use Rattle.std.proofs.lemmas.Result.{MatchResult-at_ok, MatchResult-at_err}
use Rattle.tray.specs.declared.types.Tray.{Tray}
use Rattle.tray.specs.Filled.{filled, rest, Puts}
use Rattle.tray.proofs.Filled.{memory_is}
use Rattle.wiring.specs.File.{read_file}
use Rattle.page.specs.declared.types.PageFault.{PageFault}
use Rattle.page.specs.Pages.{file_answer, file_page_text, FilePage}
use Rattle.host.specs.Host.{asked, laid_over, place_after}
use Rattle.host.proofs.Narrowed.{few_nodes, answer_narrowed, text_narrowed}

-- The answer and the memory are what the host is promised, and the memory is still the one that was lent.
pub record Landed (file : List ℕ) (node : ℕ) (before : List ℕ) (r : Result ℕ PageFault) (start end : Tray ℕ) : Type 0 where
  pub answered : r ≡ asked file node (length before)
  pub memory : end.slots.now ≡ place_after file node before
  pub lent : end.slots.ghost_name ≡ start.slots.ghost_name

-- A tray with nothing in it, over that memory, was given the page of the narrowed number.
module _ (file : List ℕ) (node : ℕ) (before : List ℕ) (r : Result ℕ PageFault) (start end : Tray ℕ) (none : filled start ≡ []) (all : rest start ≡ before) (did : FilePage (read_file file) (min node 255) r start end) where
  reply : r ≡ asked file node (length before)
  unfolding asked
  reply =
      did.answer
      ∙ ap (λ (xs : List ℕ). file_answer (read_file file) (min node 255) (length xs)) all
      ∙ answer_narrowed node (length before) (read_file file) (few_nodes file)

  laid : (page : List ℕ) → Puts page start end → end.slots.now ≡ page ++ drop (length page) before
  laid page p =
      memory_is end
      ∙ ap (λ (xs : List ℕ). xs ++ rest end) (p.filled_after ∙ ap (λ (xs : List ℕ). xs ++ page) none)
      ∙ ap (λ (xs : List ℕ). page ++ xs) (p.rest_after ∙ ap (drop (length page)) all)

  landed_as : (s : Result ℕ PageFault) → r ≡ s → Landed file node before r start end
  unfolding asked place_after
  landed_as (Ok long) e =
      let page = file_page_text (read_file file) (min node 255) in
      let puts = MatchResult-at_ok (λ _. Puts page start end) (λ _. end ≡ start) long e did.outcome in
      let shown : asked file node (length before) ≡ Ok long = sym reply ∙ e in
      record {
        answered = reply;
        memory =
            laid page puts
            ∙ ap (λ (p : List ℕ). p ++ drop (length p) before) (text_narrowed node (length before) (read_file file) long (few_nodes file) shown)
            ∙ ap (λ (s : Result ℕ PageFault). laid_over s (file_page_text (read_file file) node) before) (sym shown);
        lent = puts.lent_after;
      }
  landed_as (Err f) e =
      let page = file_page_text (read_file file) (min node 255) in
      let same = MatchResult-at_err (λ _. Puts page start end) (λ _. end ≡ start) f e did.outcome in
      let shown : asked file node (length before) ≡ Err f = sym reply ∙ e in
      record {
        answered = reply;
        memory =
            ap (λ (t : Tray ℕ). t.slots.now) same
            ∙ memory_is start
            ∙ ap (λ (xs : List ℕ). xs ++ rest start) none
            ∙ all
            ∙ ap (λ (s : Result ℕ PageFault). laid_over s (file_page_text (read_file file) node) before) (sym shown);
        lent = ap (λ (t : Tray ℕ). t.slots.ghost_name) same;
      }

  pub landed : Landed file node before r start end
  landed = landed_as r refl
