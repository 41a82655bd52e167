-- The law of tableaux: what is true of each that there is.
use Rattle.nrm_lp.specs.Facts.{HasPathFacts}
use Rattle.nrm_tableau.specs.Value.{TableauValue, IsOnPath}

abbrev pub OnPathHasFacts : Type 0
OnPathHasFacts = (s : TableauValue) → IsOnPath s → HasPathFacts s.program s.table
