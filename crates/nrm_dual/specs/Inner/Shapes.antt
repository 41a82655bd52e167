-- The shape that the code's conditions ask for.
use Rattle.std.specs.Prelude.{length}
use Rattle.nrm_fraction.specs.Large.{size_limit}
use Rattle.nrm_lp.specs.declared.certificate.Certificate.{Certificate}
use Rattle.nrm_lp.specs.Program.{ProgramValue}
use Rattle.nrm_lp.specs.Shape.{HasShape}

-- a certificate has the shape of this program's
abbrev pub HasItsShape : ProgramValue → Certificate → Type 0
HasItsShape a c = HasShape size_limit (length a.bounds) (length a.caps) c
