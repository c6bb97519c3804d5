-- The laws of writing on a sheet.
use Rattle.std.proofs.Common.{◌≡◌, ℕ, ◌+◌, ◌^◌, ◌<◌, ◌≤◌, List, ◌++◌, length, Result, decimal, sym, refl, ap, ◌∙◌, arith, length-append}
use Rattle.std.proofs.lemmas.Fmt.{length-decimal-le}
use Rattle.tray.specs.declared.types.Tray.{Tray}
use Rattle.tray.specs.declared.types.TrayFull.{TrayFull}
use Rattle.tray.specs.Filled.{filled, rest, AllOrNone}
use Rattle.tray.proofs.Filled.{puts_fitting, free_after}
use Rattle.page.specs.Sheet.{Writes}
use Rattle.pagetext.specs.Text.{numeral}
use Rattle.pagetext.proofs.Figures.{decimals}

-- What fits is written.
pub writes_fitting :
    {xs : List ℕ} {a b : Tray ℕ} {r : Result (Unit {0}) TrayFull} →
    AllOrNone xs a b r →
    length xs ≤ length (rest a) →
    Writes (length xs) (filled a ++ xs) a b
writes_fitting {xs} {a} {b} h fits =
    let put = puts_fitting h fits in
    let left = free_after put in
    record {
      text_is = put.filled_after;
      long = omega (arith, ap length put.filled_after ∙ length-append (filled a) xs);
      room = omega arith;
    }

pub writes_none : (a : Tray ℕ) → Writes 0 (filled a) a a
writes_none a = record { text_is = refl; long = omega arith; room = omega arith }

pub writes_more : {m k : ℕ} {first text : List ℕ} {a b c : Tray ℕ} → Writes m first a b → Writes k text b c → Writes (m + k) text a c
writes_more p q = record { text_is = q.text_is; long = omega (arith, p.long, q.long); room = omega (arith, p.room, q.room) }

-- The same text, of which it is known otherwise what it is and how long.
pub writes_same : {m k : ℕ} {text same : List ℕ} {a b : Tray ℕ} → Writes m text a b → m ≤ k → text ≡ same → Writes k same a b
writes_same p h e = record { text_is = p.text_is ∙ e; long = omega (arith, p.long); room = omega (arith, p.room) }

-- A number of at most so many digits.
module _ {most n : ℕ} {digits : List ℕ} (is : digits ≡ decimal n) (some : 0 < most) (small : n < 10 ^ most) (few : n < 2 ^ 16) where
  pub digits_fit : length digits ≤ most
  digits_fit = omega (arith, ap length is, length-decimal-le most n some small (omega arith))

  pub writes_numeral : {a b : Tray ℕ} → Writes (length digits) (filled a ++ digits) a b → Writes most (filled a ++ numeral n) a b
  writes_numeral {a} p = writes_same p digits_fit (ap (λ ds. filled a ++ ds) (is ∙ sym (decimals n (omega arith))))
