-- The numbers of a page: each is read back, and is written as std writes it.
use Rattle.std.proofs.Common.{◌≡◌, ℕ, ◌+◌, ◌*◌, ◌/◌, ◌%◌, ◌<◌, ◌≤◌, ltb, List, [], ◌∷◌, ◌++◌, decimal, sym, ap, ◌∙◌, arith}
use Rattle.std.proofs.lemmas.Bool.{ltb-true, ltb-false, cond_both}
use Rattle.std.proofs.lemmas.Fmt.{decimal_digit, decimal_step}
use Rattle.pagetext.specs.Text.{ones, tens, hundreds, thousands, numeral}
use Rattle.pagetext.specs.Reading.{number_from}
use Rattle.pagetext.specs.Laws.{DecimalLaw}

-- Of a numeral it is enough to look at each count of digits.
pub by_digits :
    (P : List ℕ → Type 0) (n : ℕ) →
    (n < 10 → P (ones n ∷ [])) →
    (10 ≤ n → n < 100 → P (tens n ∷ ones n ∷ [])) →
    (100 ≤ n → n < 1000 → P (hundreds n ∷ tens n ∷ ones n ∷ [])) →
    (1000 ≤ n → n < 10000 → P (thousands n ∷ hundreds n ∷ tens n ∷ ones n ∷ [])) →
    (10000 ≤ n → P (tens (n / 1000) ∷ thousands n ∷ hundreds n ∷ tens n ∷ ones n ∷ [])) →
    P (numeral n)
by_digits P n a b c d e =
    cond_both (ltb n 10) _ _ P (λ x. a (ltb-true n 10 x))
    (λ x. cond_both (ltb n 100) _ _ P (λ y. b (ltb-false n 10 x) (ltb-true n 100 y))
    (λ y. cond_both (ltb n 1000) _ _ P (λ z. c (ltb-false n 100 y) (ltb-true n 1000 z))
    (λ z. cond_both (ltb n 10000) _ _ P (λ w. d (ltb-false n 1000 z) (ltb-true n 10000 w)) (λ w. e (ltb-false n 10000 w)))))

-- What digits are worth.
worth : (a b c d e : ℕ) → number_from 0 ((48 + a) ∷ (48 + b) ∷ (48 + c) ∷ (48 + d) ∷ (48 + e) ∷ []) ≡ 10000 * a + 1000 * b + 100 * c + 10 * d + e
unfolding number_from
worth a b c d e = omega arith

worth_less : (b c d e : ℕ) → number_from 0 ((48 + b) ∷ (48 + c) ∷ (48 + d) ∷ (48 + e) ∷ []) ≡ 1000 * b + 100 * c + 10 * d + e
unfolding number_from
worth_less b c d e = omega arith

worth_three : (c d e : ℕ) → number_from 0 ((48 + c) ∷ (48 + d) ∷ (48 + e) ∷ []) ≡ 100 * c + 10 * d + e
unfolding number_from
worth_three c d e = omega arith

worth_two : (d e : ℕ) → number_from 0 ((48 + d) ∷ (48 + e) ∷ []) ≡ 10 * d + e
unfolding number_from
worth_two d e = omega arith

worth_one : (e : ℕ) → number_from 0 ((48 + e) ∷ []) ≡ e
unfolding number_from
worth_one e = omega arith

pub numeral_reads : (n : ℕ) → n < 100000 → number_from 0 (numeral n) ≡ n
numeral_reads n h =
    let a : n ≡ 10 * (n / 10) + n % 10 = omega arith in
    let b : n / 10 ≡ 10 * (n / 100) + n / 10 % 10 = omega arith in
    let c : n / 100 ≡ 10 * (n / 1000) + n / 100 % 10 = omega arith in
    let d : n / 1000 ≡ 10 * (n / 1000 / 10) + n / 1000 % 10 = omega arith in
    let e : n / 1000 / 10 % 10 ≡ n / 1000 / 10 = omega arith in
    by_digits (λ ds. number_from 0 ds ≡ n) n
    (λ x. worth_one (n % 10) ∙ omega arith)
    (λ x y. worth_two (n / 10 % 10) (n % 10) ∙ omega arith)
    (λ x y. worth_three (n / 100 % 10) (n / 10 % 10) (n % 10) ∙ omega arith)
    (λ x y. worth_less (n / 1000 % 10) (n / 100 % 10) (n / 10 % 10) (n % 10) ∙ omega arith)
    (λ x. worth (n / 1000 / 10 % 10) (n / 1000 % 10) (n / 100 % 10) (n / 10 % 10) (n % 10) ∙ omega arith)

two : (n : ℕ) → 10 ≤ n → n < 100 → decimal n ≡ tens n ∷ ones n ∷ []
two n a b =
    decimal_step n a (omega arith) ∙ ap (λ ds. ds ++ (ones n ∷ [])) (decimal_digit (n / 10) (omega arith) ∙ ap (λ d. d ∷ []) (omega arith))

three : (n : ℕ) → 100 ≤ n → n < 1000 → decimal n ≡ hundreds n ∷ tens n ∷ ones n ∷ []
three n a b =
    decimal_step n (omega arith) (omega arith)
    ∙ ap (λ ds. ds ++ (ones n ∷ [])) (two (n / 10) (omega arith) (omega arith) ∙ ap (λ d. d ∷ tens n ∷ []) (omega arith))

four : (n : ℕ) → 1000 ≤ n → n < 10000 → decimal n ≡ thousands n ∷ hundreds n ∷ tens n ∷ ones n ∷ []
four n a b =
    let e : hundreds (n / 10) ≡ thousands n = omega arith in
    let f : tens (n / 10) ≡ hundreds n = omega arith in
    decimal_step n (omega arith) (omega arith)
    ∙ ap (λ ds. ds ++ (ones n ∷ [])) (three (n / 10) (omega arith) (omega arith) ∙ (λ i. e i ∷ f i ∷ tens n ∷ []))

five : (n : ℕ) → 10000 ≤ n → n < 100000 → decimal n ≡ tens (n / 1000) ∷ thousands n ∷ hundreds n ∷ tens n ∷ ones n ∷ []
five n a b =
    let e : thousands (n / 10) ≡ tens (n / 1000) = omega arith in
    let f : hundreds (n / 10) ≡ thousands n = omega arith in
    let g : tens (n / 10) ≡ hundreds n = omega arith in
    decimal_step n (omega arith) (omega arith)
    ∙ ap (λ ds. ds ++ (ones n ∷ [])) (four (n / 10) (omega arith) (omega arith) ∙ (λ i. e i ∷ f i ∷ g i ∷ tens n ∷ []))

pub decimals : DecimalLaw
decimals n h =
    by_digits (λ ds. ds ≡ decimal n) n
    (λ a. sym (decimal_digit n a ∙ ap (λ d. d ∷ []) (omega arith)))
    (λ a b. sym (two n a b)) (λ a b. sym (three n a b)) (λ a b. sym (four n a b)) (λ a. sym (five n a h))
