use Rattle.sqlite.specs.Held.{state}
use Rattle.nrm_keeper.proofs.Steady.{was_clean}
use Rattle.nrm_keeper.proofs.AnyState.{find_was_open}
use Rattle.nrm_keeper.proofs.Effects.{settled_from, find_tells, find_shows}
use Rattle.nrm_keeper.proofs.statements.find_row.Goals as goal

pub returns-clause-tells : goal.returns-clause-tells
returns-clause-tells g c speaks =
    let settled = settled_from c.args.conn.now.in_transaction c.is_autocommit-settled.result c.is_autocommit-settled.ensures.value speaks.alone c.is_autocommit-settled.ensures.settled in
    find_tells (state g.S.Store c.args.conn.now) (state g.S.Store c.query_all.new.self) speaks.alone settled speaks.steady.live _ c.query_all.result (c.query_all.ensures.ok speaks.steady.clean) (c.query_all.ensures.err speaks.steady.clean)

pub returns-clause-finds : goal.returns-clause-finds
returns-clause-finds g c speaks some =
    let settled = settled_from c.args.conn.now.in_transaction c.is_autocommit-settled.result c.is_autocommit-settled.ensures.value speaks.alone c.is_autocommit-settled.ensures.settled in
    find_shows (state g.S.Store c.args.conn.now) (state g.S.Store c.query_all.new.self) speaks.alone settled speaks.steady.live c.args.number c.query_all.result (rw c.number_value.ensures at (c.query_all.ensures.ok speaks.steady.clean)) some

pub returns-clause-was : goal.returns-clause-was
returns-clause-was g c steady = record {
  clean = was_clean (state g.S.Store c.args.conn.now) (state g.S.Store c.query_all.new.self) c.query_all.ensures.survives.clean steady.clean;
  live = find_was_open _ (state g.S.Store c.args.conn.now) (state g.S.Store c.query_all.new.self) c.query_all.result (c.query_all.ensures.ok steady.clean)
      (c.query_all.ensures.err steady.clean) steady.live;
}
