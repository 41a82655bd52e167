use Rattle.nrm_keeper.proofs.Steady.{was_clean}
use Rattle.nrm_keeper.proofs.AnyState.{create_was_open}
use Rattle.sqlite.specs.Held.{state}
use Rattle.nrm_keeper.proofs.Effects.{settled_from, create_tells, create_holds, create_ends}
use Rattle.nrm_keeper.proofs.statements.create_table.Goals as goal

pub returns-clause-tells : goal.returns-clause-tells
returns-clause-tells g c speaks =
    let settled = settled_from c.args.conn.now.in_transaction c.is_autocommit-settled.result c.is_autocommit-settled.ensures.value speaks.alone c.is_autocommit-settled.ensures.settled in
    create_tells (state g.S.Store c.args.conn.now) (state g.S.Store c.execute.new.self) speaks.alone settled speaks.steady.live c.execute.result (c.execute.ensures.runs speaks.steady.clean)

pub returns-clause-holds : goal.returns-clause-holds
returns-clause-holds g c speaks =
    let settled = settled_from c.args.conn.now.in_transaction c.is_autocommit-settled.result c.is_autocommit-settled.ensures.value speaks.alone c.is_autocommit-settled.ensures.settled in
    create_holds (state g.S.Store c.args.conn.now) (state g.S.Store c.execute.new.self) speaks.alone settled speaks.steady.live c.execute.result (c.execute.ensures.runs speaks.steady.clean)

pub returns-clause-ends : goal.returns-clause-ends
returns-clause-ends g c speaks =
    let settled = settled_from c.args.conn.now.in_transaction c.is_autocommit-settled.result c.is_autocommit-settled.ensures.value speaks.alone c.is_autocommit-settled.ensures.settled in
    create_ends (state g.S.Store c.args.conn.now) (state g.S.Store c.execute.new.self) speaks.alone settled speaks.steady.live c.execute.result (c.execute.ensures.runs speaks.steady.clean)

pub returns-clause-was : goal.returns-clause-was
returns-clause-was g c steady = record {
  clean = was_clean (state g.S.Store c.args.conn.now) (state g.S.Store c.execute.new.self) c.execute.ensures.survives.clean steady.clean;
  live = create_was_open (state g.S.Store c.args.conn.now) (state g.S.Store c.execute.new.self) c.execute.result (c.execute.ensures.runs steady.clean) steady.live;
}
