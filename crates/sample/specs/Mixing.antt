-- The numbers of a generator: a counter that goes on by a large odd step, modulo 2 ^ 64, and a mixing
-- of its bits by shifts to the right and products modulo 2 ^ 64.
use Rattle.std.specs.Prelude.{ℕ, ◌+◌, ◌*◌, ◌/◌, ◌%◌, ◌^◌}
use Rattle.std.specs.Int.Bits.{bit_xor}

abbrev pub gone_on : ℕ → ℕ
gone_on s = (s + 0x9e37_79b9_7f4a_7c15) % 2 ^ 64

-- a number joined with itself shifted to the right
abbrev pub folded : ℕ → ℕ → ℕ
folded k x = bit_xor x (x / 2 ^ k)

abbrev pub mixed : ℕ → ℕ
mixed x = folded 31 (folded 27 (folded 30 x * 0xbf58_476d_1ce4_e5b9 % 2 ^ 64) * 0x94d0_49bb_1331_11eb % 2 ^ 64)
