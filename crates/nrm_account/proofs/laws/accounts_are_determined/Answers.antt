use Rattle.nrm_account.proofs.OneAccount.{accounts-determined}
use Rattle.nrm_account.proofs.laws.accounts_are_determined.Goals as goal

pub returns : goal.returns
returns c = accounts-determined
