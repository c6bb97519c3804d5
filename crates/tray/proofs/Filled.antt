-- The laws by which a caller of a tray reasons on.
use Rattle.std.proofs.Common.{◌≡◌, ℕ, ◌+◌, ◌-◌, ◌≤◌, List, [], ◌++◌, length, drop, Result, sym, refl, ap, ◌∙◌, arith, length-append, length-drop, take-append-drop}
use Rattle.std.proofs.lemmas.List.{append-nil, append_assoc, drop-drop}
use Rattle.std.proofs.lemmas.Result.{MatchResult-at_ok}
use Rattle.std.proofs.lemmas.Bool.{le-leb}
use Rattle.tray.specs.declared.types.Tray.{Tray}
use Rattle.tray.specs.declared.types.TrayFull.{TrayFull}
use Rattle.tray.specs.Filled.{filled, rest, Puts, AllOrNone}

module _ {T : Type 0} where
  -- the places in use and the free ones are all there are
  pub used_and_free : (t : Tray T) → t.used + length (rest t) ≡ length t.slots.now
  unfolding rest
  used_and_free t = simp length-drop (omega arith)

  -- for the lender: its memory is what was put in, and what stands behind that
  pub memory_is : (t : Tray T) → t.slots.now ≡ filled t ++ rest t
  unfolding filled rest
  memory_is t = sym (take-append-drop t.used t.slots.now)

  pub puts_none : (t : Tray T) → Puts [] t t
  puts_none t = record { filled_after = sym (append-nil (filled t)); rest_after = refl; lent_after = refl }

  pub puts_more : {xs ys : List T} {a b c : Tray T} → Puts xs a b → Puts ys b c → Puts (xs ++ ys) a c
  unfolding rest
  puts_more {xs} {ys} {a} p q = record {
    filled_after = q.filled_after ∙ ap (λ (l : List T). l ++ ys) p.filled_after ∙ append_assoc (filled a) xs ys;
    rest_after = q.rest_after ∙ ap (drop (length ys)) p.rest_after ∙ simp (drop-drop, length-append) (ap (λ (n : ℕ). drop n a.slots.now) (omega arith));
    lent_after = q.lent_after ∙ p.lent_after;
  }

  pub free_after : {xs : List T} {a b : Tray T} → Puts xs a b → length (rest b) ≡ length (rest a) - length xs
  free_after {xs} {a} p = ap length p.rest_after ∙ length-drop (length xs) (rest a)

  -- what fits is put in, so a caller that has asked for the free places may let the answer go
  pub puts_fitting :
      {xs : List T} {a b : Tray T} {r : Result (Unit {0}) TrayFull} →
      AllOrNone xs a b r →
      length xs ≤ length (rest a) →
      Puts xs a b
  puts_fitting {xs} {a} {b} h fits =
      MatchResult-at_ok (λ _. Puts xs a b) (λ _. b ≡ a) tt (rw (le-leb (length xs) (length (rest a)) fits) at h.answer) h.outcome
