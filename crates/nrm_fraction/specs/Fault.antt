-- What a fault says: the first number that is too large, or nothing if memory ran out.
use Rattle.std.specs.Prelude.{◌≡◌, ℤ, Option, Some}
use Rattle.nrm_fraction.specs.declared.fault.RowFault.{RowFault}
use Rattle.nrm_fraction.specs.declared.fault.RowFault.TheVariants.{Large, NoMemory}

abbrev pub IsFault : RowFault → Option ℤ → Type 0
IsFault (Large n) found = found ≡ Some n
IsFault NoMemory found = Unit {0}
