-- The sets are those of the columns so far.
use Rattle.std.proofs.Common.{◌+◌}
use Rattle.nrm_lp.specs.Tableau.{product_count}
use Rattle.nrm_tableau.proofs.Sets.{CoversTo}
use Rattle.nrm_tableau.proofs.first.first_sets.Given as goal

abbrev pub invariant-loop-product : goal.invariant-loop-product
invariant-loop-product l = CoversTo l.program l.sets.items l.product

abbrev pub invariant-loop-row : goal.invariant-loop-row
invariant-loop-row l = CoversTo l.program l.sets.items (product_count l.program + l.row)
