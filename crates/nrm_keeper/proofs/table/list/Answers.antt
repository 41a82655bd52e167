use Rattle.std.proofs.Common.{sym, subst, ◌∙◌}
use Rattle.sqlite.specs.Held.{state}
use Rattle.nrm_keeper.specs.Stored.{told}
use Rattle.nrm_keeper.specs.Inner.Statements.{Speaks}
use Rattle.nrm_keeper.proofs.ShownLemmas.{lists_from}
use Rattle.nrm_keeper.proofs.Steady.{first, second}
use Rattle.nrm_keeper.proofs.table.list.Goals as goal
use Rattle.nrm_keeper.proofs.table.list.Goals.{in-Ok, in-Err}

pub returns-in-Ok-found-clause-lists : goal.returns-in-Ok-found-clause-lists
returns-in-Ok-found-clause-lists g c speaks = elim c.match-create_table.branch [
  | in-Ok w ↦
      let old = state g.S.Store c.args.conn.now in
      let mid = state g.S.Store c.create_table.new.conn in
      let new = state g.S.Store w.select_rows-found.new.conn in
      let whole = subst (λ h. Speaks old (state g.S.Store h)) w.conn-is speaks in
      let before = first old mid new w.select_rows-found.ensures.was whole in
      let after = second old mid new (c.create_table.ensures.ends before) whole in
      lists_from (told old.now) (told mid.now) w.select_rows-found.result c.in-Ok-found.found c.deref.result.now c.read_rows.result (c.create_table.ensures.tells before)
      (sym w.found-is ∙ c.in-Ok-found.is) c.deref.ensures.value (w.select_rows-found.ensures.lists after (w.in-Ok.ensures.holds before)) c.read_rows.ensures
  | in-Err w ↦ absurd (let e = sym w.found-is ∙ c.in-Ok-found.is in cc)
]
