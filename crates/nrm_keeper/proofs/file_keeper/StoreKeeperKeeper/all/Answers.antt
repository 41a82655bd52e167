use Rattle.nrm_keeper.proofs.FileLemmas.{answer_failed, listed_after, shown_list, told_after}
use Rattle.nrm_keeper.proofs.file_keeper.StoreKeeperKeeper.all.Goals as goal

pub returns-clause-rows : goal.returns-clause-rows
returns-clause-rows g c = listed_after g.O.Opener.first g.T.Store c.args.self.now c.settle.new.self c.answered-2.new.self c.self.inside.lost _ c.self.inside.doubt _ c.self.inside.faults c.self.inside.connection c.list_in-listed.new.connection c.list_in-listed.result c.answered-2.result
    c.in_default.ensures.done c.self.view_is c.list_in-listed.ensures.there c.list_in-listed.ensures.lists c.answered-2.ensures.answer c.answered-2.ensures.file c.answered-2.ensures.stays

pub returns-clause-told : goal.returns-clause-told
returns-clause-told g c = told_after g.O.Opener.first g.T.Store c.answered-2.new.self c.self.inside.lost c.self.inside.doubt c.self.inside.faults c.self.inside.connection c.list_in-listed.new.connection c.list_in-listed.result c.answered-2.result
    c.list_in-listed.ensures.lists c.answered-2.ensures.answer c.answered-2.ensures.file

pub returns-clause-shows : goal.returns-clause-shows
returns-clause-shows g c = shown_list g.O.Opener.first c.args.self.now c.answered-2.new.self c.answered-2.result (returns-clause-rows g c) (answer_failed g.O.Opener.first c.args.self.now c.answered-2.new.self c.answered-2.result c.answered-2.ensures.lost)
