use Rattle.std.proofs.Common.{arith}
use Rattle.std.proofs.lemmas.Bool.{lt-ltb}
use Rattle.nrm_keeper.specs.Inner.Table.{insert_text}
use Rattle.sqlite.specs.Held.{state}
use Rattle.nrm_keeper.proofs.Steady.{was_clean}
use Rattle.nrm_keeper.proofs.AnyState.{insert_was_open}
use Rattle.nrm_keeper.proofs.Effects.{settled_from, insert_tells, insert_ends, refused_by}
use Rattle.nrm_keeper.proofs.statements.insert_row.Goals as goal

pub returns-clause-adds : goal.returns-clause-adds
returns-clause-adds g c speaks some =
    let settled = settled_from c.args.conn.now.in_transaction c.is_autocommit-settled.result c.is_autocommit-settled.ensures.value speaks.alone c.is_autocommit-settled.ensures.settled in
    insert_tells (state g.S.Store c.args.conn.now) (state g.S.Store c.execute.new.self) speaks.alone settled speaks.steady.live c.args.row.now c.execute.result c.bytes-name.ensures.name (lt-ltb _ _ (omega arith)) (rw (c.number_value.ensures, c.product_value.ensures, c.party_value.ensures) at (c.execute.ensures.runs speaks.steady.clean)) some

pub returns-clause-unchanged : goal.returns-clause-unchanged
returns-clause-unchanged g c speaks =
    let settled = settled_from c.args.conn.now.in_transaction c.is_autocommit-settled.result c.is_autocommit-settled.ensures.value speaks.alone c.is_autocommit-settled.ensures.settled in
    refused_by (state g.S.Store c.args.conn.now) (state g.S.Store c.execute.new.self) speaks.alone settled speaks.steady.live insert_text _ c.execute.result (c.execute.ensures.runs speaks.steady.clean)

pub returns-clause-ends : goal.returns-clause-ends
returns-clause-ends g c speaks =
    let settled = settled_from c.args.conn.now.in_transaction c.is_autocommit-settled.result c.is_autocommit-settled.ensures.value speaks.alone c.is_autocommit-settled.ensures.settled in
    insert_ends (state g.S.Store c.args.conn.now) (state g.S.Store c.execute.new.self) speaks.alone settled speaks.steady.live _ c.execute.result (c.execute.ensures.runs speaks.steady.clean)

pub returns-clause-was : goal.returns-clause-was
returns-clause-was g c steady = record {
  clean = was_clean (state g.S.Store c.args.conn.now) (state g.S.Store c.execute.new.self) c.execute.ensures.survives.clean steady.clean;
  live = insert_was_open _ (state g.S.Store c.args.conn.now) (state g.S.Store c.execute.new.self) c.execute.result (c.execute.ensures.runs steady.clean) steady.live;
}
