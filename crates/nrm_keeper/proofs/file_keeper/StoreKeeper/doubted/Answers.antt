use Rattle.nrm_keeper.proofs.FileLemmas.{failed_from}
use Rattle.nrm_keeper.proofs.file_keeper.StoreKeeper.doubted.Goals as goal

pub returns-then-is_ok-clause-same : goal.returns-then-is_ok-clause-same
returns-then-is_ok-clause-same g c = failed_from g.O.Opener.first g.T.Store c.self.inside.lost c.self.inside.connection c.find_in.new.connection c.self.inside.doubt _ c.self.inside.faults _ _ c.self.view_is c.find_in.ensures.same
