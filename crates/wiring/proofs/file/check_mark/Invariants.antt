use Rattle.std.proofs.Common.{◌≡◌, ℕ, ◌<◌, slice_index, [], ◌∷◌}
use Rattle.wiring.proofs.file.check_mark.Given as goal

-- the letters so far are those of TWL
abbrev pub invariant-loop-at : goal.invariant-loop-at
invariant-loop-at l = (k : ℕ) → k < l.at → slice_index l.bytes k ≡ slice_index (0x54 ∷ 0x57 ∷ 0x4C ∷ []) k
