use Rattle.std.proofs.Common.{sym, subst, ap, slice_get, ◌∙◌}
use Rattle.sqlite.specs.Held.{state}
use Rattle.nrm_keeper.specs.Stored.{told}
use Rattle.nrm_keeper.specs.Inner.Statements.{Speaks}
use Rattle.nrm_keeper.proofs.ShownLemmas.{finds_from}
use Rattle.nrm_keeper.proofs.Steady.{first, second}
use Rattle.nrm_keeper.proofs.table.row_of.Goals as goal
use Rattle.nrm_keeper.proofs.table.row_of.Goals.{in-Ok, in-Err}

pub returns-in-Ok-read_rows-clause-finds : goal.returns-in-Ok-read_rows-clause-finds
returns-in-Ok-read_rows-clause-finds g c speaks = elim c.match-create_table.branch [
  | in-Ok w ↦
      let old = state g.S.Store c.args.conn.now in
      let mid = state g.S.Store c.create_table.new.conn in
      let new = state g.S.Store w.find_row-found.new.conn in
      let whole = subst (λ h. Speaks old (state g.S.Store h)) w.conn-is speaks in
      let before = first old mid new w.find_row-found.ensures.was whole in
      let after = second old mid new (c.create_table.ensures.ends before) whole in
      finds_from c.args.number (told old.now) (told mid.now) w.find_row-found.result c.in-Ok-found.found c.deref.result.now c.in-Ok-read_rows.rows.items c.copied.result (c.create_table.ensures.tells before)
      (sym w.found-is ∙ c.in-Ok-found.is) c.deref.ensures.value (w.find_row-found.ensures.finds after (w.in-Ok.ensures.holds before)) c.in-Ok-read_rows.ensures
      (c.copied.ensures ∙ c.first.ensures.value ∙ ap (λ l. slice_get l 0) c.deref-in-Ok-read_rows.ensures.value)
  | in-Err w ↦ absurd (let e = sym w.found-is ∙ c.in-Ok-found.is in cc)
]
