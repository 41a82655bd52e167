use Rattle.nrm_account.proofs.Parties.{largest-is_sold}
use Rattle.nrm_account.proofs.laws.largest_parties_are_sold.Goals as goal

pub returns : goal.returns
returns c = largest-is_sold
