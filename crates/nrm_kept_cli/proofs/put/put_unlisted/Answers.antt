use Rattle.nrm_kept_cli.proofs.put.put_unlisted.Goals as goal

pub returns-in-Failed-clause-puts : goal.returns-in-Failed-clause-puts
returns-in-Failed-clause-puts g c = rw c.in-Failed.is c.put_line.ensures.puts
