use Rattle.std.proofs.Common.{List, ℕ, ◌++◌, ◌-◌, ◌+◌, ◌∷◌, [], ◌∙◌, codes, ap, nat_lt, if◌then◌else◌}
use Rattle.nrm_text.specs.Words.{spaced}
use Rattle.nrm_account.specs.Lines.{counted}
use Rattle.nrm_account.proofs.line.leg.Goals as goal

pub returns : goal.returns
returns c =
    let its = c.args.leg.now in
    let covering : List ℕ = if nat_lt its.left (its.needs + its.protected) then counted (codes "short") (its.needs + its.protected - its.left) else spaced (codes "covers") in
    let first = c.push_pair.ensures.text ∙ (λ n. c.named-line.ensures.text n ++ counted (codes "authorised") (c.from.ensures n) ++ counted (codes "sold") (c.from-2.ensures n)) in
    let second = c.push_pair-2.ensures.text ∙ (λ n. first n ++ counted (codes "left") (c.from-3.ensures n) ++ counted (codes "protected") (c.from-4.ensures n)) in
    let third = c.push_counted.ensures.text ∙ (λ n. second n ++ counted (codes "needs") (c.from-5.ensures n)) in
    c.push_bytes.ensures.text ∙ ap (λ (line : List ℕ). line ++ 10 ∷ []) (c.push_covering.ensures.text ∙ ap (λ (line : List ℕ). line ++ covering) third)
