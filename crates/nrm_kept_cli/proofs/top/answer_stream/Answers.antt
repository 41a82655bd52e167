use Rattle.nrm_kept_cli.proofs.KeptRuns.{keeping-means}
use Rattle.nrm_kept_cli.proofs.top.answer_stream.Goals as goal

pub serve_by-requires-clause-meanings : goal.serve_by-requires-clause-meanings
serve_by-requires-clause-meanings g c = keeping-means g.P.Keeper
