-- The product of two numbers of a row fits.
use Rattle.nrm_row.proofs.Bits.{product_small}
use Rattle.nrm_row.proofs.numbers.product.Goals as goal

pub returns-clause-bound : goal.returns-clause-bound
returns-clause-bound c = product_small c.args.x c.args.y c.requires.x_small c.requires.y_small
