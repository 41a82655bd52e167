use Rattle.std.proofs.Common.{◌≡◌, drop}
use Rattle.nrm_dual.specs.Reading.{first_missing}
use Rattle.nrm_dual.proofs.sheet.first_missing.Given as goal

abbrev pub invariant-loop-place : goal.invariant-loop-place
invariant-loop-place l = first_missing l.place (drop l.place l.rows) ≡ first_missing 0 l.rows
