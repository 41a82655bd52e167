use Rattle.std.proofs.Common.{List, ℕ, ◌≡◌, ◌++◌, ◌∷◌, [], ◌∙◌, codes, decimal, ap, append_assoc, to_z-of_z}
use Rattle.std.specs.Prelude.{ℤ}
use Rattle.nrm_text.specs.Fractions.{signed_text}
use Rattle.nrm_common_cli.specs.Words.{overflow_line}
use Rattle.nrm_common_cli.proofs.line.line_of_overflow.Goals as goal

-- the pieces of the line, one after another
line-is : (pivots : ℕ) (number : ℤ)
    → ((((codes "overflow after " ++ decimal pivots) ++ codes " pivots at ") ++ signed_text number) ++ 10 ∷ []) ≡ overflow_line pivots number
line-is pivots number =
    ap (λ (line : List ℕ). line ++ 10 ∷ [])
    (append_assoc (codes "overflow after " ++ decimal pivots) (codes " pivots at ") (signed_text number)
    ∙ append_assoc (codes "overflow after ") (decimal pivots) (codes " pivots at " ++ signed_text number))

pub returns : goal.returns
returns c =
    let number = to_z-of_z c.ranges.number in
    let first = c.push_u64.ensures.text ∙ (λ i. c.of_bytes-line.ensures.text i ++ decimal (c.from.ensures i)) in
    let second = c.push_bytes.ensures.text ∙ ap (λ (line : List ℕ). line ++ codes " pivots at ") first in
    let third = c.push_signed.ensures.text ∙ (λ i. second i ++ signed_text (number i)) in
    c.push_bytes-2.ensures.text ∙ ap (λ (line : List ℕ). line ++ 10 ∷ []) third ∙ line-is c.args.pivots c.args.number
