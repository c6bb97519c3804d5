-- The bytes of a word of hexadecimal digits are what the library decodes.
use Rattle.std.proofs.Common.{◌≡◌, ℕ, ◌+◌, ◌*◌, ◌%◌, ◌==◌, Bool, true, false, cond, List, [], ◌∷◌, length, Some, None, Ok, Err, Option, Result, refl, ap, sym, ◌∙◌, arith, mul_comm, subst, ◌⊎◌, inl, inr, Vec, IsErr, IsErrAnd, ◌&&◌, is_some}
use Rattle.std.specs.Char.{is_ascii_hexdigit}
use Rattle.std.specs.List.{list_all}
use Rattle.std.specs.declared.alloc.Global.{Global}
use Rattle.std.proofs.lemmas.Bool.{eqb-true}
use Rattle.script.specs.declared.trouble.Trouble.{Trouble}
use Rattle.script.specs.Troubles.{trouble_of}
use Rattle.std.proofs.lemmas.Bool.Decides.{nat_tests}
use Rattle.hex.specs.declared.error.FromHexError.{FromHexError}
use Rattle.hex.specs.declared.error.FromHexError.TheVariants.{InvalidHexCharacter, OddLength, InvalidStringLength, OutOfMemory}
use Rattle.hex.specs.Hex.{decode_of, decode_pairs, hex_digit_value, pair_value, digit_or_error, ◌>>=◌}
use Rattle.script.specs.Numbers.{hex_digit, hex_byte, put_before, bytes_of, ReadsBytes}

-- What is read, or nothing.
abbrev pub read : {X : Type 0} → Result X FromHexError → Option X
read (Ok x) = Some x
read (Err e) = None

same_digit : (c : ℕ) → hex_digit_value c ≡ hex_digit c
same_digit c = grind (arith, nat_tests)

-- The byte of two digits.
byte_read : (x y : Option ℕ) (h l i : ℕ) → read (digit_or_error h i x >>= (λ a. digit_or_error l (i + 1) y >>= (λ b. Ok (a * 16 + b)))) ≡ hex_byte x y
byte_read None y h l i = refl
byte_read (Some a) None h l i = refl
byte_read (Some a) (Some b) h l i = ap (λ n. Some (n + b)) (mul_comm a 16)

-- A byte before what is read of the rest.
put_read : (byte : Result ℕ FromHexError) (rest : Result (List ℕ) FromHexError) → read (byte >>= (λ b. rest >>= (λ bytes. Ok (b ∷ bytes)))) ≡ put_before (read byte) (read rest)
put_read (Err e) rest = refl
put_read (Ok b) (Err e) = refl
put_read (Ok b) (Ok bytes) = refl

pub pairs_read : (i : ℕ) (word : List ℕ) → bytes_of word ≡ read (decode_pairs i word)
unfolding bytes_of decode_pairs
pairs_read i [] = refl
pairs_read i (d ∷ []) = refl
pairs_read i (h ∷ l ∷ rest) =
    let digits : hex_byte (hex_digit_value h) (hex_digit_value l) ≡ hex_byte (hex_digit h) (hex_digit l) = (λ k. hex_byte (same_digit h k) (same_digit l k)) in
    let byte = byte_read (hex_digit_value h) (hex_digit_value l) h l i ∙ digits in
    (λ k. put_before (sym byte k) (pairs_read (i + 2) rest k)) ∙ sym (put_read (pair_value h l i) (decode_pairs (i + 2) rest))

nothing_before : (b : Option ℕ) → put_before b None ≡ None
nothing_before None = refl
nothing_before (Some b) = refl

odd_none : (word : List ℕ) → length word % 2 ≡ 1 → bytes_of word ≡ None
unfolding bytes_of
odd_none [] e = absurd (omega arith)
odd_none (d ∷ []) e = refl
odd_none (h ∷ l ∷ rest) e = ap (put_before (hex_byte (hex_digit h) (hex_digit l))) (odd_none rest (omega arith)) ∙ nothing_before _

pub word_read : (word : List ℕ) → bytes_of word ≡ read (decode_of word)
word_read word = go (length word % 2 == 1) (eqb-true _ _)
  where
    go : (odd : Bool) → (odd ≡ true → length word % 2 ≡ 1) → bytes_of word ≡ read (cond odd (Err OddLength) (decode_pairs 0 word))
    go true e = odd_none word (e refl)
    go false e = pairs_read 0 word

-- What an error of the digits says of the word.
refused : (word : List ℕ) (e : FromHexError) → (e ≡ OutOfMemory) ⊎ (decode_of word ≡ Err e) → ReadsBytes (bytes_of word) (Err (trouble_of e))
refused word (InvalidHexCharacter c i) (inl same) = cc
refused word (InvalidHexCharacter c i) (inr is) = word_read word ∙ ap read is
refused word OddLength (inl same) = cc
refused word OddLength (inr is) = word_read word ∙ ap read is
refused word InvalidStringLength (inl same) = cc
refused word InvalidStringLength (inr is) = word_read word ∙ ap read is
refused word OutOfMemory why = tt

pub told : (word : List ℕ) (e : FromHexError) (r : Result (Vec ℕ Global) Trouble) → IsErr r × IsErrAnd r (λ t. t ≡ trouble_of e) → (e ≡ OutOfMemory) ⊎ (decode_of word ≡ Err e) → ReadsBytes (bytes_of word) r
told word e (Ok v) h why = absurd h.1
told word e (Err t) h why = subst (λ t. ReadsBytes (bytes_of word) (Err t)) (sym h.1) (refused word e why)

-- Which words write bytes.

some_digit : (c : ℕ) → is_ascii_hexdigit c ≡ is_some (hex_digit c)
some_digit c = grind (arith, nat_tests)

some_put : (x y : Option ℕ) (rest : Option (List ℕ)) → (is_some x && (is_some y && is_some rest)) ≡ is_some (put_before (hex_byte x y) rest)
some_put None y rest = refl
some_put (Some h) None rest = refl
some_put (Some h) (Some l) None = refl
some_put (Some h) (Some l) (Some bytes) = refl

pub even : (word : List ℕ) → length word % 2 ≡ 0 → list_all is_ascii_hexdigit word ≡ is_some (bytes_of word)
unfolding bytes_of
even [] e = refl
even (c ∷ []) e = absurd (omega arith)
even (h ∷ l ∷ rest) e =
    (let less : length rest % 2 ≡ 0 = omega arith in λ k. some_digit h k && (some_digit l k && even rest less k))
    ∙ some_put (hex_digit h) (hex_digit l) (bytes_of rest)

pub odd : (word : List ℕ) → (length word % 2 ≡ 0 → ⊥) → false ≡ is_some (bytes_of word)
odd word e = let one : length word % 2 ≡ 1 = omega arith in sym (ap is_some (odd_none word one))
