-- The bytes before the comma are the field.
use Rattle.std.proofs.Common.{◌∙◌, ◌++◌, ℕ, List, ap}
use Rattle.nrm_network.proofs.FrontRows.{after-field}
use Rattle.nrm_network.proofs.front.behind_field.Goals as goal

pub returns : goal.returns
returns c =
    let (begins, rest, size) = c.in_ok-rest.ensures.cases in
    after-field c.args.bytes.now c.args.field.now c.in_ok-rest.rest.now begins rest
    ∙ ap (λ (more : List ℕ). c.args.field.now ++ more) c.in_ok-behind.ensures
