use Rattle.nrm_account.proofs.OwnLines.{accounts-of_lines}
use Rattle.nrm_account.proofs.laws.accounts_are_of_their_lines.Goals as goal

pub returns : goal.returns
returns c = accounts-of_lines
