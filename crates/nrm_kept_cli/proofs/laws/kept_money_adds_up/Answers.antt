-- Money adds up over a store.
use Rattle.nrm_kept_cli.proofs.KeptLaws.{money-adds-up}
use Rattle.nrm_kept_cli.proofs.laws.kept_money_adds_up.Goals as goal

pub returns : goal.returns
returns c = money-adds-up
