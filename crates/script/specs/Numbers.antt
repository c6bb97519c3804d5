-- How numbers are written in a script.
use Rattle.std.specs.Prelude.{◌≡◌, ℕ, ◌+◌, ◌-◌, ◌*◌, ◌^◌, Bool, cond, ◌&&◌, List, [], ◌∷◌, length, Some, None, Ok, Err, vec_items, Option, Result, Vec, nat_le, nat_lt}
use Rattle.std.specs.declared.alloc.Global.{Global}
use Rattle.script.specs.declared.trouble.Trouble.{Trouble}
use Rattle.script.specs.declared.trouble.Trouble.TheVariants.{CannotRead, OutOfMemory}
use Rattle.std.specs.Str.Parse.{digits_value}
use Rattle.std.specs.Str.{all_ascii_digits}

-- Whether a word is a decimal number of 32 bits.
abbrev pub is_number : List ℕ → Bool
is_number word = nat_lt 0 (length word) && (all_ascii_digits word && nat_lt (digits_value 10 word) (2 ^ 32))

-- The number that a word writes.
unfoldable pub number_of : List ℕ → Option ℕ
number_of word = cond (is_number word) (Some (digits_value 10 word)) None

-- The value of a hexadecimal digit, of either case.
abbrev pub hex_digit : ℕ → Option ℕ
hex_digit b =
    cond (nat_le 48 b && nat_le b 57) (Some (b - 48))
    (cond (nat_le 65 b && nat_le b 70) (Some (b - 55))
    (cond (nat_le 97 b && nat_le b 102) (Some (b - 87)) None))

-- The byte that two digits write, the high one first.
abbrev pub hex_byte : Option ℕ → Option ℕ → Option ℕ
hex_byte None low = None
hex_byte (Some h) None = None
hex_byte (Some h) (Some l) = Some (16 * h + l)

-- A number in front of others, where all are known.
abbrev pub put_before : Option ℕ → Option (List ℕ) → Option (List ℕ)
put_before None rest = None
put_before (Some n) None = None
put_before (Some n) (Some rest) = Some (n ∷ rest)

-- The bytes that hexadecimal digits write, two to a byte.
unfoldable pub bytes_of : List ℕ → Option (List ℕ)
bytes_of [] = Some []
bytes_of (h ∷ []) = None
bytes_of (h ∷ l ∷ rest) = put_before (hex_byte (hex_digit h) (hex_digit l)) (bytes_of rest)

-- What a reader of hexadecimal digits answers: the bytes, that it cannot read them, or that memory
-- fails, of which nothing is said.
abbrev pub ReadsBytes : Option (List ℕ) → Result (Vec ℕ Global) Trouble → Type 0
ReadsBytes bytes (Ok v) = bytes ≡ Some (vec_items v)
ReadsBytes bytes (Err CannotRead) = bytes ≡ None
ReadsBytes bytes (Err OutOfMemory) = Unit {0}
