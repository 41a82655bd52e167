-- The law holds by a test of each of the 60 products.
use Rattle.nrm_gen.proofs.Within.{one-leg-each-way}
use Rattle.nrm_gen.proofs.laws.products_use_one_leg_each_way.Goals as goal

pub returns : goal.returns
returns c = one-leg-each-way
