use Rattle.std.proofs.Common.{List, ℕ, ◌∙◌, ◌++◌, [], ◌∷◌, ap}
use Rattle.std.specs.Prelude.{codes, decimal}
use Rattle.nrm_text.specs.Words.{spaced}
use Rattle.nrm_findings.proofs.LegTexts.{three-pushed}
use Rattle.nrm_findings.proofs.cuts.push_cost.Goals as goal

pub returns : goal.returns
returns c =
    let name = c.push_name.ensures.text ∙ ap (λ (l : List ℕ). l ++ c.args.leg.now) c.push_bytes.ensures.text in
    let cost = c.push_spaced.ensures.text ∙ ap (λ (l : List ℕ). l ++ spaced (decimal c.args.cost)) name in
    c.push_bytes-2.ensures.text ∙ ap (λ (l : List ℕ). l ++ 10 ∷ []) cost ∙ three-pushed c.args.text.now (codes "cost") c.args.leg.now (decimal c.args.cost)
