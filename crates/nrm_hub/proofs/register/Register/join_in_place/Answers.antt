-- The spare desk has the name now.
use Rattle.std.proofs.Common.{sym, subst}
use Rattle.nrm_hub.specs.Register.{Joins, RegisterValue, replaced}
use Rattle.nrm_hub.proofs.register.Register.join_in_place.Goals as goal

pub returns-in-Ok-clause-joins : goal.returns-in-Ok-clause-joins
returns-in-Ok-clause-joins c =
    subst (λ (r : RegisterValue). Joins c.args.spare c.args.self.now c.args.name.now r c.in-Some.desk) (sym c.in-Ok.ensures.renamed)
    (replaced c.in-Some.desk c.requires.new c.requires.full c.in-Some.is)
