-- Why a line was not read.
use Rattle.hex.specs.declared.error.FromHexError.{FromHexError}
use Rattle.hex.specs.declared.error.FromHexError.TheVariants as hex
use Rattle.script.specs.declared.trouble.Trouble.{Trouble}
use Rattle.script.specs.declared.trouble.Trouble.TheVariants.{CannotRead, OutOfMemory}

-- What an error of the digits means for the line.
abbrev pub trouble_of : FromHexError → Trouble
trouble_of (hex.InvalidHexCharacter c index) = CannotRead
trouble_of hex.OddLength = CannotRead
trouble_of hex.InvalidStringLength = CannotRead
trouble_of hex.OutOfMemory = OutOfMemory
