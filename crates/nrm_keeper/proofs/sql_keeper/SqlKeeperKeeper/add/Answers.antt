use Rattle.std.proofs.Common.{ap}
use Rattle.nrm_keeper.specs.Told.{ToldRows}
use Rattle.nrm_keeper.proofs.OverMemory.{spoken, adds_in, unchanged_in}
use Rattle.nrm_keeper.proofs.sql_keeper.SqlKeeperKeeper.add.Goals as goal

pub invariant_of-self : goal.invariant_of-self
invariant_of-self c = c.keep-kept.ensures.ends (spoken c.self.inside.connection c.keep-kept.new.conn c.self.invariant)

pub returns-clause-added : goal.returns-clause-added
returns-clause-added c = adds_in c.self.inside.connection c.keep-kept.new.conn c.self.invariant _ (ap (λ (t : ToldRows). t.rows) c.self.view_is) c.args.row c.keep-kept.result c.raised.result c.raised.ensures.answer c.keep-kept.ensures.adds

pub returns-clause-unchanged : goal.returns-clause-unchanged
returns-clause-unchanged c = unchanged_in c.self.inside.connection c.keep-kept.new.conn c.self.invariant _ (ap (λ (t : ToldRows). t.rows) c.self.view_is) c.keep-kept.result c.raised.result c.raised.ensures.answer c.keep-kept.ensures.unchanged

pub returns-clause-shows : goal.returns-clause-shows
returns-clause-shows c = λ _. (tt, returns-clause-added c, returns-clause-unchanged c)
