use Rattle.std.proofs.Common.{List, ℕ, ◌∙◌, ◌++◌, [], ◌∷◌, ap, drop, flat_map}
use Rattle.std.specs.Prelude.{codes}
use Rattle.nrm_findings.proofs.LegTexts.{number_word, numbers-behind}
use Rattle.nrm_findings.proofs.values.push_protections.Goals as goal

pub returns : goal.returns
returns c =
    let levels = drop 1 c.args.table.now.protections in
    let name = c.push_name.ensures.text ∙ ap (λ (l : List ℕ). l ++ c.args.leg.now) c.push_bytes.ensures.text in
    let numbers = c.push_levels.ensures.text ∙ ap (λ (l : List ℕ). l ++ flat_map number_word levels) name in
    c.push_bytes-2.ensures.text ∙ ap (λ (l : List ℕ). l ++ 10 ∷ []) numbers ∙ numbers-behind c.args.text.now (codes "protect") c.args.leg.now levels
