use Rattle.std.proofs.Common.{inr, refl, ◌∙◌}
use Rattle.nrm_cli.specs.declared.status.Status.TheVariants as status
use Rattle.nrm_cli.proofs.told.put_printed.Goals as goal

pub returns-in-Ok-clause-puts : goal.returns-in-Ok-clause-puts
returns-in-Ok-clause-puts g c =
    inr (status.Done, c.deref.result.now, (refl, c.deref.ensures.value ∙ c.in-Ok.ensures.file), c.put_line.ensures.puts)
