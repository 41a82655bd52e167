use Rattle.std.proofs.Common.{List, ℕ, ◌≡◌, ◌∙◌, ◌++◌, [], ◌∷◌, ap, refl, sym}
use Rattle.std.specs.Prelude.{codes, decimal}
use Rattle.nrm_text.specs.Words.{spaced}
use Rattle.nrm_model.specs.Network.{product_of}
use Rattle.nrm_findings.proofs.LegTexts.{three-pushed}
use Rattle.nrm_findings.proofs.values.push_class.Goals as goal

pub returns-clause-text : goal.returns-clause-text
returns-clause-text c =
    let its = product_of c.args.net.now c.args.product in
    let name : c.product_at-its.result.now.name ≡ its.name = rw (sym c.product_at-its.ensures.product) refl in
    let fare : c.product_at-its.result.now.fare ≡ its.fare = rw (sym c.product_at-its.ensures.product) refl in
    let front = c.push_name.ensures.text ∙ (λ n. c.push_bytes.ensures.text n ++ name n) in
    let number = c.push_spaced.ensures.text ∙ (λ n. front n ++ spaced (decimal ((c.from.ensures ∙ fare) n))) in
    c.push_bytes-2.ensures.text ∙ ap (λ (l : List ℕ). l ++ 10 ∷ []) number ∙ three-pushed c.args.text.now (codes "class") its.name (decimal its.fare)
