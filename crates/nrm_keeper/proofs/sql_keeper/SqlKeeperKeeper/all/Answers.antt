use Rattle.std.proofs.Common.{ap}
use Rattle.nrm_keeper.specs.Told.{ToldRows}
use Rattle.nrm_keeper.proofs.OverMemory.{spoken, keeps_in, lists_in, same_in, stays_in}
use Rattle.nrm_keeper.proofs.sql_keeper.SqlKeeperKeeper.all.Goals as goal

pub invariant_of-self : goal.invariant_of-self
invariant_of-self c = c.list-listed.ensures.ends (spoken c.self.inside.connection c.list-listed.new.conn c.self.invariant)

pub returns-clause-listed : goal.returns-clause-listed
returns-clause-listed c = lists_in c.self.inside.connection c.list-listed.new.conn c.self.invariant _ (ap (λ (t : ToldRows). t.rows) c.self.view_is) c.list-listed.result c.raised.result c.raised.ensures.answer c.list-listed.ensures.tells c.list-listed.ensures.lists

pub returns-clause-stays : goal.returns-clause-stays
returns-clause-stays c = keeps_in c.self.inside.connection c.list-listed.new.conn c.self.invariant _ (ap (λ (t : ToldRows). t.rows) c.self.view_is) c.raised.result c.list-listed.ensures.tells

pub returns-clause-unchanged : goal.returns-clause-unchanged
returns-clause-unchanged c = stays_in c.self.inside.connection c.list-listed.new.conn c.self.invariant _ (ap (λ (t : ToldRows). t.rows) c.self.view_is) c.raised.result c.list-listed.ensures.tells

pub returns-clause-shows : goal.returns-clause-shows
returns-clause-shows c = λ _. (tt, same_in c.self.inside.connection c.list-listed.new.conn c.self.invariant _ (ap (λ (t : ToldRows). t.rows) c.self.view_is) c.list-listed.ensures.tells, returns-clause-listed c)
