-- A name is looked for among those after it.
use Rattle.std.proofs.Common.{ℕ, ◌≡◌, ◌∙◌, ◌+◌, ◌-◌, ◌&&◌, not, List, bytes_eq, drop, length, sym, ap, arith}
use Rattle.std.specs.List.{list_any}
use Rattle.std.proofs.lemmas.List.{length-drop, take_all}
use Rattle.nrm_model.specs.Limits.{differ}
use Rattle.nrm_network.proofs.RowFields.{field-is, differ-step}
use Rattle.nrm_network.proofs.draft.differ.Goals as goal
use Rattle.nrm_network.proofs.draft.differ.Goals.{After-stands_in}

step : (c : After-stands_in) → differ bytes_eq (drop c.loop-i.i c.args.names.now)
    ≡ not c.stands_in.result && differ bytes_eq (drop (c.loop-i.i + 1) c.args.names.now)
step c =
    let names : List (List ℕ) = c.args.names.now in
    let later = take_all (length names - (c.loop-i.i + 1)) (drop (c.loop-i.i + 1) names)
    (omega (arith, length-drop (c.loop-i.i + 1) names)) in
    let found : c.stands_in.result ≡ list_any (λ y. bytes_eq y c.index-names-i.result) (drop (c.loop-i.i + 1) names) = c.stands_in.ensures
    ∙ ap (λ (xs : List (List ℕ)). list_any (λ y. bytes_eq y c.index-names-i.result) xs) later in
    differ-step names c.loop-i.i c.index-names-i.result c.stands_in.result c.loop-i-test.true
    (field-is names c.loop-i.i c.index-names-i.result c.loop-i-test.true c.index-names-i.is) found

pub returns-then-stands_in : goal.returns-then-stands_in
returns-then-stands_in c = sym (c.loop-i.invariant ∙ rw c.if-stands_in.true at (step (goal.at.returns-then-stands_in c).After-stands_in))

pub loop-i-preserved : goal.loop-i-preserved
loop-i-preserved c = c.loop-i.invariant ∙ rw c.if-stands_in.false at (step (goal.at.loop-i-preserved c).After-stands_in)
