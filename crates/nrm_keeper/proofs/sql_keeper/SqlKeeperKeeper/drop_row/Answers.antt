use Rattle.std.proofs.Common.{ap}
use Rattle.nrm_keeper.specs.Told.{ToldRows}
use Rattle.nrm_keeper.proofs.OverMemory.{spoken, drops_in, unchanged_in}
use Rattle.nrm_keeper.proofs.sql_keeper.SqlKeeperKeeper.drop_row.Goals as goal

pub invariant_of-self : goal.invariant_of-self
invariant_of-self c = c.drop_kept-dropped.ensures.ends (spoken c.self.inside.connection c.drop_kept-dropped.new.conn c.self.invariant)

pub returns-clause-dropped : goal.returns-clause-dropped
returns-clause-dropped c = drops_in c.self.inside.connection c.drop_kept-dropped.new.conn c.self.invariant _ (ap (λ (t : ToldRows). t.rows) c.self.view_is) c.args.number c.drop_kept-dropped.result c.raised.result c.raised.ensures.answer c.drop_kept-dropped.ensures.drops

pub returns-clause-unchanged : goal.returns-clause-unchanged
returns-clause-unchanged c = unchanged_in c.self.inside.connection c.drop_kept-dropped.new.conn c.self.invariant _ (ap (λ (t : ToldRows). t.rows) c.self.view_is) c.drop_kept-dropped.result c.raised.result c.raised.ensures.answer c.drop_kept-dropped.ensures.unchanged

pub returns-clause-shows : goal.returns-clause-shows
returns-clause-shows c = λ _. (tt, returns-clause-dropped c, returns-clause-unchanged c)
