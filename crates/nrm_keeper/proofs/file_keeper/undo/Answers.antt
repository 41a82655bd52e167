use Rattle.std.proofs.Common.{None, OnOk, Option, sym, subst}
use Rattle.std.proofs.lemmas.Result.{on_ok_weaker}
use Rattle.nrm_keeper.specs.declared.row.Doubt.{Doubt}
use Rattle.nrm_keeper.specs.Passes.{Passes}
use Rattle.nrm_keeper.specs.Undoing.{Undoes}
use Rattle.nrm_keeper.proofs.FileLemmas.{undone_by}
use Rattle.nrm_keeper.proofs.file_keeper.undo.Goals as goal

pub returns-in-Ok-clause-undoes : goal.returns-in-Ok-clause-undoes
returns-in-Ok-clause-undoes g c = subst (λ (d : Option Doubt). OnOk c.undo_by.result (Passes g.T.Store (Undoes d) c.args.connection.now c.undo_by.new.connection)) (sym c.in-Some.is)
    (on_ok_weaker c.undo_by.result (undone_by None g.T.Store c.in-Some.change c.in-Ok.found c.args.connection.now c.find_in.new.connection c.undo_by.new.connection c.in-Ok.ensures.finds) c.undo_by.ensures.undoes)
