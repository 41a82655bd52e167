use Rattle.nrm_account.proofs.OneAccount.{accounts-answer}
use Rattle.nrm_account.proofs.laws.accounts_answer.Goals as goal

pub returns : goal.returns
returns c = accounts-answer
