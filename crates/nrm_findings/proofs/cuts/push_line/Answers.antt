use Rattle.std.proofs.Common.{List, ℕ, ◌∙◌, ◌++◌, [], ◌∷◌, ap, flat_map}
use Rattle.nrm_findings.proofs.LegTexts.{number_word, numbers-pushed}
use Rattle.nrm_findings.proofs.cuts.push_line.Goals as goal

pub returns-clause-text : goal.returns-clause-text
returns-clause-text c =
    let word = c.push_bytes.ensures.text in
    let space = c.push_bytes-2.ensures.text ∙ ap (λ (l : List ℕ). l ++ 32 ∷ []) word in
    let name = c.push_name.ensures.text ∙ ap (λ (l : List ℕ). l ++ c.args.leg.now) space in
    let numbers = c.push_numbers.ensures.text ∙ ap (λ (l : List ℕ). l ++ flat_map number_word c.args.numbers.now) name in
    c.push_bytes-3.ensures.text ∙ ap (λ (l : List ℕ). l ++ 10 ∷ []) numbers ∙ numbers-pushed c.args.text.now c.args.word.now c.args.leg.now c.args.numbers.now
