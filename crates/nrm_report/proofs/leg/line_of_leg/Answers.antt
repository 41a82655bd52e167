use Rattle.std.proofs.Common.{List, ℕ, ◌≡◌, ◌++◌, ◌∷◌, [], ◌∙◌, codes, decimal, ap, append_assoc}
use Rattle.nrm_text.specs.Words.{spaced, text_line}
use Rattle.nrm_report.proofs.leg.line_of_leg.Goals as goal

-- the pieces of the line, one after another: the name, and four words, each with its count
pieces : (name a b c d e f g h : List ℕ) → (((((((name ++ a) ++ b) ++ c) ++ d) ++ e) ++ f) ++ g) ++ h ≡ name ++ (a ++ (b ++ (c ++ (d ++ (e ++ (f ++ (g ++ h)))))))
pieces name a b c d e f g h = simp append_assoc

line-is : (name seats authorised sold left : List ℕ)
    → (((((((((codes "leg " ++ name) ++ spaced (codes "seats")) ++ spaced seats) ++ spaced (codes "authorised")) ++ spaced authorised) ++ spaced (codes "sold")) ++ spaced sold)
    ++ spaced (codes "left")) ++ spaced left) ++ 10 ∷ []
    ≡ text_line (codes "leg" ∷ name ∷ codes "seats" ∷ seats ∷ codes "authorised" ∷ authorised ∷ codes "sold" ∷ sold ∷ codes "left" ∷ left ∷ [])
line-is name seats authorised sold left =
    ap (λ (rest : List ℕ). (codes "leg " ++ rest) ++ 10 ∷ [])
    (pieces name (spaced (codes "seats")) (spaced seats) (spaced (codes "authorised")) (spaced authorised) (spaced (codes "sold")) (spaced sold) (spaced (codes "left")) (spaced left))

pub returns : goal.returns
returns c =
    let name = c.push_name.ensures.text ∙ ap (λ (line : List ℕ). line ++ c.args.name.now) c.of_bytes-line.ensures.text in
    let first = c.push_count.ensures.text ∙ (λ n. (name n ++ spaced (codes "seats")) ++ spaced (decimal (c.from.ensures n))) in
    let second = c.push_count-2.ensures.text ∙ (λ n. (first n ++ spaced (codes "authorised")) ++ spaced (decimal (c.from-2.ensures n))) in
    let third = c.push_count-3.ensures.text ∙ (λ n. (second n ++ spaced (codes "sold")) ++ spaced (decimal (c.from-3.ensures n))) in
    let fourth = c.push_count-4.ensures.text ∙ (λ n. (third n ++ spaced (codes "left")) ++ spaced (decimal (c.from-4.ensures n))) in
    c.push_bytes.ensures.text ∙ ap (λ (line : List ℕ). line ++ 10 ∷ []) fourth
    ∙ line-is c.args.name.now (decimal c.args.seats) (decimal c.args.authorised) (decimal c.args.sold) (decimal c.args.left)
