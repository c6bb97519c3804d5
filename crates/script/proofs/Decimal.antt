-- A word of decimal digits is what the library parses.
use Rattle.std.proofs.Common.{◌≡◌, ℕ, ◌<◌, Bool, true, false, ◌&&◌, List, [], ◌∷◌, Some, None, Ok, Err, Result, Bor, MatchResult, sym, refl, ap, ◌∙◌, arith, subst}
use Rattle.std.specs.Char.{is_ascii_digit}
use Rattle.std.specs.List.{list_all}
use Rattle.std.specs.Result.{result_ok}
use Rattle.std.specs.Str.{all_ascii_digits, IsAscii, IsUtf8}
use Rattle.std.specs.Str.Parse.{digits_value, ParsesUnsigned}
use Rattle.std.proofs.lemmas.Bool.{lt-ltb, ltb-true, and_left, and_right, and_from, and_parts, cond-true, cond-false}
use Rattle.std.proofs.lemmas.Bool.Decides.{nat_tests}
use Rattle.std.proofs.lemmas.Str.{IsUtf8-from_ascii}
use Rattle.std.proofs.lemmas.Str.Ascii.{IsAscii-nil, IsAscii-cons}
use Rattle.std.proofs.lemmas.Str.Parse.{IsNumeralModel, numerals_by_value, tells_all_ascii_digits, parse_digits}
use Rattle.script.specs.Numbers.{is_number, number_of}

pub all_digits : (word : List ℕ) → list_all is_ascii_digit word ≡ all_ascii_digits word
all_digits [] = refl
all_digits (c ∷ cs) = ap (λ b. is_ascii_digit c && b) (all_digits cs)

pub no_number : (word : List ℕ) → false ≡ list_all is_ascii_digit word → None ≡ number_of word
unfolding number_of
no_number word e = sym (cond-false _ _ _ (and_right _ _ (and_left _ _ (sym (e ∙ all_digits word)))))

small : (c : ℕ) → is_ascii_digit c ≡ true → c < 128
small c e = grind (arith, nat_tests)

ascii : (word : List ℕ) → all_ascii_digits word ≡ true → IsAscii word
ascii [] e = IsAscii-nil
ascii (c ∷ cs) e = let parts = and_parts (is_ascii_digit c) (all_ascii_digits cs) e in IsAscii-cons c cs (small c parts.0) (ascii cs parts.1)

pub utf8 : (word : List ℕ) → true ≡ list_all is_ascii_digit word → IsUtf8 word
utf8 word e = IsUtf8-from_ascii word (ascii word (sym (e ∙ all_digits word)))

own : IsNumeralModel (λ ds. all_ascii_digits ds ≡ true) (digits_value 10)
own = numerals_by_value _ tells_all_ascii_digits

module _ {E : Type 0} (word : List ℕ) where
  parsed_digits : (r : Result ℕ E) → all_ascii_digits word ≡ true → ParsesUnsigned 32 10 word r → result_ok r ≡ number_of word
  unfolding number_of
  parsed_digits (Ok n) d h =
      let p = parse_digits own {E = E} 32 word (Ok n) h d in
      ap Some p.1 ∙ sym (cond-true _ _ _ (and_from _ _ (lt-ltb _ _ p.0.0) (and_from _ _ d (lt-ltb _ _ p.0.1))))
  parsed_digits (Err e) d h = sym (cond-false _ _ _ (go (is_number word) refl))
    where
      go : (b : Bool) → is_number word ≡ b → is_number word ≡ false
      go false n = n
      go true n =
          let parts = and_parts _ _ n in
          let inner = and_parts _ _ parts.1 in
          absurd (parse_digits own {E = E} 32 word (Err e) h d (ltb-true _ _ parts.0, ltb-true _ _ inner.1))

  pub parsed : (text : List ℕ) (r : Result ℕ E) → true ≡ list_all is_ascii_digit word → text ≡ word → ParsesUnsigned 32 10 text r → result_ok r ≡ number_of word
  parsed text r d e h = parsed_digits r (sym (d ∙ all_digits word)) (subst (λ t. ParsesUnsigned 32 10 t r) e h)

-- The text of a word, where it is one.
pub text_is : {E : Type 0} (P : Type 0) (Q : E → Type 0) (word : List ℕ) (r : Result (Bor (List ℕ)) E) (s : Bor (List ℕ)) → Some s ≡ result_ok r → MatchResult r (λ t. (t.now ≡ word) × P) Q → s.now ≡ word
text_is P Q word (Ok t) s e h = let same : s ≡ t = cc in ap (λ x. x.now) same ∙ h.0
text_is P Q word (Err x) s e h = cc

pub no_text : {E : Type 0} (P : Bor (List ℕ) → Type 0) (Q : E → Type 0) (word : List ℕ) (r : Result (Bor (List ℕ)) E) → true ≡ list_all is_ascii_digit word → None ≡ result_ok r → MatchResult r P (λ e. (¬ (IsUtf8 word)) × Q e) → ⊥
no_text P Q word (Ok t) d e h = cc
no_text P Q word (Err x) d e h = h.0 (utf8 word d)
