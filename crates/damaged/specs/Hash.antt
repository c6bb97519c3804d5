-- The hash FNV-1a of 64 bits.
use Rattle.std.specs.Prelude.{ℕ, ◌*◌, ◌%◌, ◌^◌, bit_xor}

-- The hash with one byte more: the byte goes into the low bits, and all bits are spread by a product.
abbrev pub hashed_byte : ℕ → ℕ → ℕ
hashed_byte hash byte = bit_xor hash byte * 0x100_0000_01b3 % 2 ^ 64
