use Rattle.std.proofs.Common.{Ok, Err, Result, OnOk, OnErr}
use Rattle.nrm_keeper.specs.File.{Same}
use Rattle.nrm_keeper.specs.Rows.{Drops}
use Rattle.nrm_keeper.proofs.FileLemmas.{done_after, failed_after, passes_on, shown_change, was_found}
use Rattle.nrm_keeper.proofs.file_keeper.StoreKeeperKeeper.drop_row.Goals as goal

ok_by : {T E P Q : Type 0} (r : Result T E) → (P → Q) → OnOk r P → OnOk r Q
ok_by (Ok x) f h = f h
ok_by (Err e) f h = tt

err_by : {T E P Q : Type 0} (r : Result T E) → (P → Q) → OnErr r P → OnErr r Q
err_by (Ok x) f h = tt
err_by (Err e) f h = f h

pub returns-clause-gone : goal.returns-clause-gone
returns-clause-gone g c = done_after g.O.Opener.first g.T.Store (Drops c.args.number) c.args.self.now c.settle.new.self c.changed.new.self c.self.inside.lost _ c.self.inside.doubt _ c.self.inside.faults c.self.inside.connection c.drop_in-dropped.new.connection c.drop_in-dropped.result c.changed.result
    c.in_default.ensures.done c.self.view_is c.drop_in-dropped.ensures.there
    (ok_by c.drop_in-dropped.result (passes_on g.O.Opener.first g.T.Store (Drops c.args.number) c.self.inside.connection c.find_in.new.connection c.drop_in-dropped.new.connection c.find_in.ensures.same) c.drop_in-dropped.ensures.drops)
    c.changed.ensures.answer c.changed.ensures.file c.changed.ensures.stays

pub returns-clause-same : goal.returns-clause-same
returns-clause-same g c = failed_after g.O.Opener.first g.T.Store c.args.self.now c.settle.new.self c.changed.new.self c.self.inside.lost _ c.self.inside.doubt _ c.self.inside.faults c.self.inside.connection c.drop_in-dropped.new.connection c.drop_in-dropped.result c.changed.result
    c.in_default.ensures.done c.self.view_is
    (err_by c.drop_in-dropped.result (passes_on g.O.Opener.first g.T.Store Same c.self.inside.connection c.find_in.new.connection c.drop_in-dropped.new.connection c.find_in.ensures.same) c.drop_in-dropped.ensures.same)
    c.changed.ensures.answer c.changed.ensures.same

pub returns-clause-shows : goal.returns-clause-shows
returns-clause-shows g c = shown_change g.O.Opener.first (Drops c.args.number) c.args.self.now c.changed.new.self c.changed.result (returns-clause-gone g c) (returns-clause-same g c)

pub changed-requires-clause-was : goal.changed-requires-clause-was
changed-requires-clause-was g c = was_found g.O.Opener.first g.T.Store c.args.number c.in-Ok-Some.row c.self.inside.lost c.self.inside.connection c.find_in.new.connection c.drop_in-dropped.new.connection c.self.inside.doubt c.self.inside.faults c.drop_in-dropped.result
    (rw c.in-Ok-Some.field-0-is at c.in-Ok-Some.ensures.finds) c.drop_in-dropped.ensures.same
