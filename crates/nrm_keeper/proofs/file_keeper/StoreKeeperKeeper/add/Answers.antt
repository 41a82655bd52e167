use Rattle.nrm_keeper.specs.Rows.{Adds}
use Rattle.nrm_keeper.proofs.FileLemmas.{done_after, failed_after, shown_change}
use Rattle.nrm_keeper.proofs.file_keeper.StoreKeeperKeeper.add.Goals as goal

pub returns-clause-kept : goal.returns-clause-kept
returns-clause-kept g c = done_after g.O.Opener.first g.T.Store (Adds c.args.row) c.args.self.now c.settle.new.self c.changed.new.self c.self.inside.lost _ c.self.inside.doubt _ c.self.inside.faults c.self.inside.connection c.keep_in-kept.new.connection c.keep_in-kept.result c.changed.result
    c.in_default.ensures.done c.self.view_is c.keep_in-kept.ensures.there c.keep_in-kept.ensures.adds c.changed.ensures.answer c.changed.ensures.file c.changed.ensures.stays

pub returns-clause-same : goal.returns-clause-same
returns-clause-same g c = failed_after g.O.Opener.first g.T.Store c.args.self.now c.settle.new.self c.changed.new.self c.self.inside.lost _ c.self.inside.doubt _ c.self.inside.faults c.self.inside.connection c.keep_in-kept.new.connection c.keep_in-kept.result c.changed.result
    c.in_default.ensures.done c.self.view_is c.keep_in-kept.ensures.same c.changed.ensures.answer c.changed.ensures.same

pub returns-clause-shows : goal.returns-clause-shows
returns-clause-shows g c = shown_change g.O.Opener.first (Adds c.args.row) c.args.self.now c.changed.new.self c.changed.result (returns-clause-kept g c) (returns-clause-same g c)
