-- The first row of that number.
use Rattle.std.proofs.Common.{◌∙◌, ◌==◌, rules, tests}
use Rattle.std.proofs.lemmas.Iterator.{YieldsList-from_slice}
use Rattle.std.proofs.lemmas.Iterator.Search.{find_from_yields_List}
use Rattle.nrm_hub.specs.declared.row.Row.{Row}
use Rattle.nrm_hub.proofs.register.row_under.Goals as goal

pub returns-clause-row : goal.returns-clause-row
returns-clause-row c =
    c.copied.ensures ∙ find_from_yields_List (λ (row : Row). row.sequence == c.args.sequence) _ _ c.find.result c.find.ensures.ran
    (YieldsList-from_slice c.args.held.now cc) (λ x b q k. search (rules, tests))
