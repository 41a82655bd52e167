use Rattle.nrm_account.proofs.Accounts.{account-replies}
use Rattle.nrm_account.proofs.laws.accounts_give_replies.Goals as goal

pub returns : goal.returns
returns c = account-replies
