use Rattle.nrm_keeper.specs.Inner.Table.{delete_text}
use Rattle.sqlite.specs.Held.{state}
use Rattle.nrm_keeper.proofs.Steady.{was_clean}
use Rattle.nrm_keeper.proofs.AnyState.{delete_was_open}
use Rattle.nrm_keeper.proofs.Effects.{settled_from, delete_tells, delete_none, delete_ends, refused_by}
use Rattle.nrm_keeper.proofs.statements.delete_row.Goals as goal

pub returns-clause-drops : goal.returns-clause-drops
returns-clause-drops g c speaks some =
    let settled = settled_from c.args.conn.now.in_transaction c.is_autocommit-settled.result c.is_autocommit-settled.ensures.value speaks.alone c.is_autocommit-settled.ensures.settled in
    delete_tells (state g.S.Store c.args.conn.now) (state g.S.Store c.execute.new.self) speaks.alone settled speaks.steady.live c.args.number c.execute.result (rw c.number_value.ensures at (c.execute.ensures.runs speaks.steady.clean)) some

pub returns-clause-none : goal.returns-clause-none
returns-clause-none g c speaks none =
    let settled = settled_from c.args.conn.now.in_transaction c.is_autocommit-settled.result c.is_autocommit-settled.ensures.value speaks.alone c.is_autocommit-settled.ensures.settled in
    delete_none (state g.S.Store c.args.conn.now) (state g.S.Store c.execute.new.self) speaks.alone settled speaks.steady.live _ c.execute.result (c.execute.ensures.runs speaks.steady.clean) none

pub returns-clause-unchanged : goal.returns-clause-unchanged
returns-clause-unchanged g c speaks =
    let settled = settled_from c.args.conn.now.in_transaction c.is_autocommit-settled.result c.is_autocommit-settled.ensures.value speaks.alone c.is_autocommit-settled.ensures.settled in
    refused_by (state g.S.Store c.args.conn.now) (state g.S.Store c.execute.new.self) speaks.alone settled speaks.steady.live delete_text _ c.execute.result (c.execute.ensures.runs speaks.steady.clean)

pub returns-clause-ends : goal.returns-clause-ends
returns-clause-ends g c speaks =
    let settled = settled_from c.args.conn.now.in_transaction c.is_autocommit-settled.result c.is_autocommit-settled.ensures.value speaks.alone c.is_autocommit-settled.ensures.settled in
    delete_ends (state g.S.Store c.args.conn.now) (state g.S.Store c.execute.new.self) speaks.alone settled speaks.steady.live _ c.execute.result (c.execute.ensures.runs speaks.steady.clean)

pub returns-clause-was : goal.returns-clause-was
returns-clause-was g c steady = record {
  clean = was_clean (state g.S.Store c.args.conn.now) (state g.S.Store c.execute.new.self) c.execute.ensures.survives.clean steady.clean;
  live = delete_was_open _ (state g.S.Store c.args.conn.now) (state g.S.Store c.execute.new.self) c.execute.result (c.execute.ensures.runs steady.clean) steady.live;
}
