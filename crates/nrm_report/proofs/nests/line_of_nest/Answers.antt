use Rattle.std.proofs.Common.{List, ℕ, ◌≡◌, ◌++◌, ◌∷◌, [], ◌∙◌, codes, decimal, ap, append_assoc, to_z-of_z}
use Rattle.nrm_fraction.specs.Fraction.{◌over◌}
use Rattle.nrm_text.specs.Fractions.{fraction_text}
use Rattle.nrm_text.specs.Words.{spaced, text_line}
use Rattle.nrm_report.proofs.nests.line_of_nest.Goals as goal

-- the pieces of the line, one after another
line-is : (leg product fare bucket : List ℕ)
    → ((((codes "nest" ++ spaced leg ++ spaced product) ++ codes " ") ++ fare) ++ spaced bucket) ++ 10 ∷ [] ≡ text_line (codes "nest" ∷ leg ∷ product ∷ fare ∷ bucket ∷ [])
line-is leg product fare bucket =
    let names : List ℕ = leg ++ 32 ∷ product in
    ap (λ (rest : List ℕ). (codes "nest " ++ rest) ++ 10 ∷ [])
    (append_assoc (names ++ codes " ") fare (32 ∷ bucket) ∙ append_assoc names (codes " ") (fare ++ 32 ∷ bucket)
    ∙ append_assoc leg (32 ∷ product) (32 ∷ (fare ++ 32 ∷ bucket)))

pub returns : goal.returns
returns c =
    let fare = to_z-of_z c.ranges.fare in
    let first = c.push_bytes.ensures.text ∙ ap (λ (line : List ℕ). line ++ codes " ") c.names_on_leg-line.ensures.text in
    let second = c.push_fraction.ensures.text ∙ (λ n. first n ++ fraction_text (fare n over c.args.den)) in
    let third = c.push_spaced.ensures.text ∙ (λ n. second n ++ spaced (decimal (c.from.ensures n))) in
    c.push_bytes-2.ensures.text ∙ ap (λ (line : List ℕ). line ++ 10 ∷ []) third
    ∙ line-is c.args.leg.now c.args.product.now (fraction_text (c.args.fare over c.args.den)) (decimal c.args.bucket)
