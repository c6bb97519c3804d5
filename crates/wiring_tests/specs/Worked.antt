-- Worked examples of wirings.
use Rattle.std.specs.Prelude.{◌≡◌, [], ◌∷◌, Some, None, Ok, Err}
use Rattle.wiring.specs.Grid.{grid}
use Rattle.wiring.specs.Cables.{cabled, bare}
use Rattle.wiring.specs.File.{read_file}
use Rattle.fault.specs.declared.HeaderFault.TheVariants.{Length}
use Rattle.fault.specs.declared.WallFault.TheVariants.{Header}

-- A mesh of 3 columns and 2 rows, at node 4; and the smallest file, then with one byte more.
pub record Worked : Type 0 where
  pub north : (grid 3 2).far 4 0 ≡ Some (1, 2)
  pub east : (grid 3 2).far 4 1 ≡ Some (5, 3)
  pub south : (grid 3 2).far 4 2 ≡ None
  pub west : (grid 3 2).far 4 3 ≡ Some (3, 1)
  pub smallest : read_file (0x54 ∷ 0x57 ∷ 0x4C ∷ 0 ∷ 1 ∷ 1 ∷ 0 ∷ []) ≡ Ok (cabled 1 bare)
  pub longer : read_file (0x54 ∷ 0x57 ∷ 0x4C ∷ 0 ∷ 1 ∷ 1 ∷ 0 ∷ 0 ∷ []) ≡ Err (Header Length)
