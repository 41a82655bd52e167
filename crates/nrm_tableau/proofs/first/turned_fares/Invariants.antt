-- The entries are those of the fares so far.
use Rattle.nrm_lp.specs.Tableau.{first_value}
use Rattle.nrm_tableau.specs.Inner.Entries.{IsFilled}
use Rattle.nrm_tableau.proofs.first.turned_fares.Given as goal

abbrev pub invariant-loop-product : goal.invariant-loop-product
invariant-loop-product l = IsFilled l.product (first_value l.program) l.entries.items
