-- The parts are those of the first tableau of the definitions.
use Rattle.nrm_tableau.proofs.Paths.{first_on_path}
use Rattle.nrm_tableau.proofs.tableau.Tableau.first.Goals as goal

pub invariant_of-result : goal.invariant_of-result
invariant_of-result c = rw (c.in_ok-rows.ensures, c.in_ok-value.ensures, c.in_ok-basis.ensures.basis) (record { path = first_on_path c.args.program.now c.in_ok-basis.ensures.limits; covers = c.in_ok-sets.ensures })
