-- Reading so many numbers from the left.
use Rattle.std.proofs.Common.{◌≡◌, ℕ, suc, ◌+◌, ◌-◌, ◌<◌, ◌≤◌, Bool, true, false, List, [], ◌∷◌, ◌++◌, length, take, Some, None, Option, sym, refl, ap, ◌∙◌, append_assoc, append-nil, arith, length-set}
use Rattle.std.proofs.Math.ListN.{set}
use Rattle.std.proofs.lemmas.List.{take_all, take_more_set}
use Rattle.std.specs.Bool.{then_some}
use Rattle.std.specs.Option.{option_map}
use Rattle.script.specs.Words.{first_word, past_word}
use Rattle.script.specs.Numbers.{number_of, put_before}
use Rattle.script.specs.Lines.{no_word, numbers_of}

-- The first i of n numbers are read, and the others are those of `rest`.
pub record Sofar (n : ℕ) (text rest items : List ℕ) (i : ℕ) : Type 0 where
  pub inside : i ≤ n
  pub long : length items ≡ n
  pub reads : (k : ℕ) → i + k ≡ n → numbers_of n text ≡ option_map (λ ns. take i items ++ ns) (numbers_of k rest)

same : (o : Option (List ℕ)) → o ≡ option_map (λ ns. [] ++ ns) o
same None = refl
same (Some ns) = refl

pub none : (n : ℕ) (text items : List ℕ) → length items ≡ n → Sofar n text text items 0
none n text items e = record { inside = omega arith; long = e; reads = λ k f. ap (λ m. numbers_of m text) (omega arith) ∙ same (numbers_of k text) }

put : (ns : List ℕ) (n : ℕ) (o : Option (List ℕ)) → option_map (λ rest. ns ++ rest) (put_before (Some n) o) ≡ option_map (λ rest. (ns ++ n ∷ []) ++ rest) o
put ns n None = refl
put ns n (Some rest) = ap Some (sym (append_assoc ns (n ∷ []) rest))

kept : (ns items : List ℕ) (b : Bool) → ns ≡ items → then_some b items ≡ option_map (λ rest. ns ++ rest) (then_some b [])
kept ns items true e = ap Some (sym (append-nil ns ∙ e))
kept ns items false e = refl

module _ (n : ℕ) (text rest items : List ℕ) (i : ℕ) (h : Sofar n text rest items i) where
  pub more : (v : ℕ) (after : List ℕ) → i < n → Some v ≡ number_of (first_word rest) → after ≡ past_word rest → Sofar n text after (set items i v) (i + 1)
  unfolding numbers_of
  more v after lt e f =
      let long = h.long in
      let grown = take_more_set items i v (omega arith) in
      record {
        inside = omega arith;
        long = length-set items i v ∙ h.long;
        reads = λ k m.
            h.reads (suc k) (omega arith)
            ∙ ap (λ o. option_map (λ ns. take i items ++ ns) (put_before o (numbers_of k (past_word rest)))) (sym e)
            ∙ put (take i items) v (numbers_of k (past_word rest))
            ∙ (λ j. option_map (λ ns. sym grown j ++ ns) (numbers_of k (sym f j)));
      }

  pub bad_number : i < n → None ≡ number_of (first_word rest) → None ≡ numbers_of n text
  unfolding numbers_of
  bad_number lt e =
      let long = h.long in
      let k = n - (i + 1) in
      sym (h.reads (suc k) (omega arith) ∙ ap (λ o. option_map (λ ns. take i items ++ ns) (put_before o (numbers_of k (past_word rest)))) (sym e))

  pub all_read : (r : Option (List ℕ)) → n ≤ i → r ≡ then_some (no_word rest) items → r ≡ numbers_of n text
  unfolding numbers_of
  all_read r all e =
      let long = h.long in
      let inside = h.inside in
      e ∙ kept (take i items) items (no_word rest) (take_all i items (omega arith)) ∙ sym (h.reads 0 (omega arith))
