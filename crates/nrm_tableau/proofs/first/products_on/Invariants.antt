-- The entries are those of the products so far.
use Rattle.nrm_lp.specs.Tableau.{first_entry}
use Rattle.nrm_tableau.specs.Inner.Entries.{IsFilled}
use Rattle.nrm_tableau.proofs.first.products_on.Given as goal

abbrev pub invariant-loop-product : goal.invariant-loop-product
invariant-loop-product l = IsFilled l.product (first_entry l.program l.leg) l.entries.items
