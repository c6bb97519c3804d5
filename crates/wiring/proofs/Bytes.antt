-- The bytes of a wall file: its header, and its cables four by four.
use Rattle.std.proofs.Common.{◌≡◌, ℕ, zero, suc, ◌+◌, ◌-◌, ◌*◌, ◌≤◌, not, ◌&&◌, ◌||◌, eqb, ltb, List, [], ◌∷◌, ◌++◌, length, get_or, drop, None, sym, refl, ap, ◌∙◌, append_assoc, arith, length-append, length-drop}
use Rattle.std.proofs.lemmas.List.{get_or-append-add}
use Rattle.std.proofs.lemmas.Bool.{not-false, eqb-true, eqb-false, ltb-false, and_parts, or_parts}
use Rattle.std.proofs.lemmas.Bool.Decides.{nat_tests}
use Rattle.wiring.specs.File.{nodes_said, cables_said, header_fault, cable_at, cables_from}
use Rattle.wiring.specs.Spells.{cable_bytes, file_of}
use Rattle.wiring.specs.declared.cable.Cable.{Cable}
use Rattle.wiring.proofs.Laying.{cond_none}

-- The cables that bytes hold, four by four.
grouped : List ℕ → List Cable
grouped [] = []
grouped (a ∷ []) = []
grouped (a ∷ p ∷ []) = []
grouped (a ∷ p ∷ b ∷ []) = []
grouped (a ∷ p ∷ b ∷ q ∷ rest) = record { start = (a, p); end = (b, q) } ∷ grouped rest

grouped_bytes : (cs : List Cable) → grouped (cable_bytes cs) ≡ cs
unfolding grouped
grouped_bytes [] = refl
grouped_bytes (c ∷ cs) = ap (λ ds. c ∷ ds) (grouped_bytes cs)

bytes_grouped : (rest : List ℕ) (k : ℕ) → length rest ≡ 4 * k → cable_bytes (grouped rest) ≡ rest
unfolding grouped
bytes_grouped [] k e = refl
bytes_grouped (a ∷ []) k e = absurd (omega arith)
bytes_grouped (a ∷ p ∷ []) k e = absurd (omega arith)
bytes_grouped (a ∷ p ∷ b ∷ []) k e = absurd (omega arith)
bytes_grouped (a ∷ p ∷ b ∷ q ∷ rest) k e = ap (λ bs. a ∷ p ∷ b ∷ q ∷ bs) (bytes_grouped rest (k - 1) (omega arith))

grouped_length : (rest : List ℕ) (k : ℕ) → length rest ≡ 4 * k → length (grouped rest) ≡ k
unfolding grouped
grouped_length [] k e = omega arith
grouped_length (a ∷ []) k e = absurd (omega arith)
grouped_length (a ∷ p ∷ []) k e = absurd (omega arith)
grouped_length (a ∷ p ∷ b ∷ []) k e = absurd (omega arith)
grouped_length (a ∷ p ∷ b ∷ q ∷ rest) k e = omega (arith, grouped_length rest (k - 1) (omega arith))

pub length_bytes : (cs : List Cable) → length (cable_bytes cs) ≡ 4 * length cs
length_bytes [] = refl
length_bytes (c ∷ cs) = omega (arith, length_bytes cs)

pub all_there : (bytes : List ℕ) (i k : ℕ) → length (cables_from bytes i k) ≡ k
unfolding cables_from
all_there bytes i zero = refl
all_there bytes i (suc k) = ap suc (all_there bytes (i + 1) k)

-- A byte past a front of n bytes.
byte_at : (front rest : List ℕ) (n j at : ℕ) → length front ≡ n → at ≡ n + j → get_or (front ++ rest) at 0 ≡ get_or rest j 0
byte_at front rest n j at h e = let e' : at ≡ length front + j = omega arith in rw e' (get_or-append-add front rest j 0)

from_grouped : (k i : ℕ) (front rest : List ℕ) → length front ≡ 7 + 4 * i → length rest ≡ 4 * k → cables_from (front ++ rest) i k ≡ grouped rest
unfolding grouped cables_from
from_grouped zero i front [] h e = refl
from_grouped zero i front (a ∷ rest) h e = absurd (omega arith)
from_grouped (suc k) i front [] h e = absurd (omega arith)
from_grouped (suc k) i front (a ∷ []) h e = absurd (omega arith)
from_grouped (suc k) i front (a ∷ p ∷ []) h e = absurd (omega arith)
from_grouped (suc k) i front (a ∷ p ∷ b ∷ []) h e = absurd (omega arith)
from_grouped (suc k) i front (a ∷ p ∷ b ∷ q ∷ rest) h e =
    let bytes : List ℕ = a ∷ p ∷ b ∷ q ∷ rest in
    let more : List ℕ = front ++ (a ∷ p ∷ b ∷ q ∷ []) in
    let longer : length more ≡ 7 + 4 * (i + 1) = simp length-append (omega arith) in
    let here : cable_at (front ++ bytes) i ≡ record { start = (a, p); end = (b, q) } =
    (λ j. record {
      start = (byte_at front bytes (7 + 4 * i) 0 (7 + 4 * i) h (omega arith) j, byte_at front bytes (7 + 4 * i) 1 (7 + 4 * i + 1) h refl j);
      end = (byte_at front bytes (7 + 4 * i) 2 (7 + 4 * i + 2) h refl j, byte_at front bytes (7 + 4 * i) 3 (7 + 4 * i + 3) h refl j);
    }) in
    let there : cables_from (front ++ bytes) (i + 1) k ≡ grouped rest =
    ap (λ bs. cables_from bs (i + 1) k) (sym (append_assoc front (a ∷ p ∷ b ∷ q ∷ []) rest)) ∙ from_grouped k (i + 1) more rest longer (omega arith) in
    λ j. here j ∷ there j

-- What a header without a fault says.
pub record Headed (bytes : List ℕ) : Type 0 where
  pub mark_0 : get_or bytes 0 0 ≡ 0x54
  pub mark_1 : get_or bytes 1 0 ≡ 0x57
  pub mark_2 : get_or bytes 2 0 ≡ 0x4C
  pub version_high : get_or bytes 3 0 ≡ 0
  pub version_low : get_or bytes 4 0 ≡ 1
  pub some_nodes : 1 ≤ nodes_said bytes
  pub few_nodes : nodes_said bytes ≤ 64
  pub few_cables : cables_said bytes ≤ 128
  pub whole : length bytes ≡ 7 + 4 * cables_said bytes

pub headed : (bytes : List ℕ) → header_fault bytes ≡ None → Headed bytes
headed bytes e =
    let h₁ = cond_none (ltb (length bytes) 7) _ _ e in
    let h₂ = cond_none (not (eqb (get_or bytes 0 0) 0x54)) _ _ h₁.1 in
    let h₃ = cond_none (not (eqb (get_or bytes 1 0) 0x57)) _ _ h₂.1 in
    let h₄ = cond_none (not (eqb (get_or bytes 2 0) 0x4C)) _ _ h₃.1 in
    let h₅ = cond_none (not (eqb (get_or bytes 3 0) 0 && eqb (get_or bytes 4 0) 1)) _ _ h₄.1 in
    let h₆ = cond_none (eqb (nodes_said bytes) 0 || ltb 64 (nodes_said bytes)) _ _ h₅.1 in
    let h₇ = cond_none (ltb 128 (cables_said bytes)) _ _ h₆.1 in
    let h₈ = cond_none (not (eqb (length bytes) (7 + 4 * cables_said bytes))) _ _ h₇.1 in
    let version = and_parts (eqb (get_or bytes 3 0) 0) (eqb (get_or bytes 4 0) 1) (not-false _ h₅.0) in
    let nodes = or_parts (eqb (nodes_said bytes) 0) (ltb 64 (nodes_said bytes)) h₆.0 in
    record {
      mark_0 = eqb-true (get_or bytes 0 0) 0x54 (not-false _ h₂.0);
      mark_1 = eqb-true (get_or bytes 1 0) 0x57 (not-false _ h₃.0);
      mark_2 = eqb-true (get_or bytes 2 0) 0x4C (not-false _ h₄.0);
      version_high = eqb-true (get_or bytes 3 0) 0 version.0;
      version_low = eqb-true (get_or bytes 4 0) 1 version.1;
      some_nodes = let z = eqb-false (nodes_said bytes) 0 nodes.0 in omega arith;
      few_nodes = ltb-false 64 (nodes_said bytes) nodes.1;
      few_cables = ltb-false 128 (cables_said bytes) h₇.0;
      whole = eqb-true (length bytes) (7 + 4 * cables_said bytes) (not-false _ h₈.0);
    }

-- The other way round.
pub no_fault : (bytes : List ℕ) → Headed bytes → header_fault bytes ≡ None
no_fault bytes h = grind (arith, nat_tests)

seven : (bytes : List ℕ) → 7 ≤ length bytes → bytes ≡ get_or bytes 0 0 ∷ get_or bytes 1 0 ∷ get_or bytes 2 0 ∷ get_or bytes 3 0 ∷ get_or bytes 4 0 ∷ get_or bytes 5 0 ∷ get_or bytes 6 0 ∷ drop 7 bytes
seven [] h = absurd (omega arith)
seven (a ∷ []) h = absurd (omega arith)
seven (a ∷ b ∷ []) h = absurd (omega arith)
seven (a ∷ b ∷ c ∷ []) h = absurd (omega arith)
seven (a ∷ b ∷ c ∷ d ∷ []) h = absurd (omega arith)
seven (a ∷ b ∷ c ∷ d ∷ e ∷ []) h = absurd (omega arith)
seven (a ∷ b ∷ c ∷ d ∷ e ∷ f ∷ []) h = absurd (omega arith)
seven (a ∷ b ∷ c ∷ d ∷ e ∷ f ∷ g ∷ rest) h = refl

-- A file without a fault in its header is that header and its cables, and holds no others.
pub all_written : (bytes : List ℕ) → Headed bytes → bytes ≡ file_of (nodes_said bytes) (cables_from bytes 0 (cables_said bytes))
all_written bytes h =
    let k : ℕ = cables_said bytes in
    let rest : List ℕ = drop 7 bytes in
    let long : length rest ≡ 4 * k = simp length-drop (omega arith) in
    let split = seven bytes (omega arith) in
    let is : cables_from bytes 0 k ≡ grouped rest =
    ap (λ bs. cables_from bs 0 k) split ∙ from_grouped k 0 (get_or bytes 0 0 ∷ get_or bytes 1 0 ∷ get_or bytes 2 0 ∷ get_or bytes 3 0 ∷ get_or bytes 4 0 ∷ get_or bytes 5 0 ∷ k ∷ []) rest refl long in
    let many : k ≡ length (cables_from bytes 0 k) = sym (ap length is ∙ grouped_length rest k long) in
    let tail : rest ≡ cable_bytes (cables_from bytes 0 k) = sym (ap cable_bytes is ∙ bytes_grouped rest k long) in
    split ∙ (λ j. h.mark_0 j ∷ h.mark_1 j ∷ h.mark_2 j ∷ h.version_high j ∷ h.version_low j ∷ nodes_said bytes ∷ many j ∷ tail j)

pub all_read : (nodes : ℕ) (cs : List Cable) → cables_from (file_of nodes cs) 0 (length cs) ≡ cs
all_read nodes cs = from_grouped (length cs) 0 (0x54 ∷ 0x57 ∷ 0x4C ∷ 0 ∷ 1 ∷ nodes ∷ length cs ∷ []) (cable_bytes cs) refl (length_bytes cs) ∙ grouped_bytes cs
