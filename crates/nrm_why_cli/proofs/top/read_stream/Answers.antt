use Rattle.nrm_account.proofs.Told.{tells-are}
use Rattle.nrm_why_cli.proofs.top.read_stream.Goals as goal

pub serve_by-requires-clause-meanings : goal.serve_by-requires-clause-meanings
serve_by-requires-clause-meanings g c = tells-are
