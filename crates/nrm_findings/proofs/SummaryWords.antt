-- The words of a summary, one after another.
use Rattle.std.proofs.Common.{ℕ, ◌≡◌, ◌∙◌, ◌++◌, ◌∷◌, [], List, codes, decimal, drop, refl, sym, ap, append_assoc}
use Rattle.std.specs.Fmt.{digits}
use Rattle.std.specs.List.{join_with_byte}
use Rattle.nrm_text.specs.Words.{spaced, text_line}
use Rattle.nrm_gen.specs.MadeCommands.{command_count}
use Rattle.nrm_findings.specs.Summary.{count_words, summary_words}
use Rattle.nrm_findings.specs.declared.summary.Counts.{Counts}

-- a word more and its number
joined-more : (first : List ℕ) (words : List (List ℕ)) (word digits : List ℕ)
    → (join_with_byte 32 (first ∷ words) ++ 32 ∷ word) ++ 32 ∷ digits ≡ join_with_byte 32 ((first ∷ words) ++ word ∷ digits ∷ [])
joined-more first [] word digits = append_assoc first (32 ∷ word) (32 ∷ digits)
joined-more first (second ∷ more) word digits =
    let rest : List ℕ = join_with_byte 32 (second ∷ more) in
    ap (λ (line : List ℕ). line ++ 32 ∷ digits) (append_assoc first (32 ∷ rest) (32 ∷ word))
    ∙ append_assoc first (32 ∷ (rest ++ 32 ∷ word)) (32 ∷ digits)
    ∙ ap (λ (line : List ℕ). first ++ 32 ∷ line) (joined-more second more word digits)

pub count-more : (first : List ℕ) (words : List (List ℕ)) (word : List ℕ) (count pushed : ℕ) (line line' : List ℕ)
    → line ≡ join_with_byte 32 (first ∷ words)
    → line' ≡ line ++ spaced word ++ spaced (decimal pushed) → pushed ≡ count → line' ≡ join_with_byte 32 ((first ∷ words) ++ word ∷ decimal count ∷ [])
count-more first words word count pushed line line' is goes same =
    goes ∙ (λ i. is i ++ spaced word ++ spaced (decimal (same i))) ∙ joined-more first words word (decimal count)

-- and a word more after the word for it, which is put with the space behind it
word-more : (first : List ℕ) (words : List (List ℕ)) (word next line line' : List ℕ) → line ≡ join_with_byte 32 (first ∷ words)
    → line' ≡ (line ++ (32 ∷ word ++ 32 ∷ [])) ++ next
    → line' ≡ join_with_byte 32 ((first ∷ words) ++ word ∷ next ∷ [])
word-more first words word next line line' is goes =
    goes ∙ append_assoc line (32 ∷ word ++ 32 ∷ []) next ∙ ap (λ (l : List ℕ). line ++ 32 ∷ l) (append_assoc word (32 ∷ []) next) ∙ sym (append_assoc line (32 ∷ word) (32 ∷ next))
    ∙ ap (λ (l : List ℕ). (l ++ 32 ∷ word) ++ 32 ∷ next) is ∙ joined-more first words word next

-- the first words
pub first-words : join_with_byte 32 (codes "made" ∷ codes "lines" ∷ decimal command_count ∷ []) ≡ codes "made lines 10000"
unfolding digits
first-words = refl

-- and the whole line, piece by piece
pub line-is : (counts : Counts) (revenue : ℕ) (hindsight a b d e line : List ℕ) → a ≡ join_with_byte 32 (count_words counts)
    → b ≡ a ++ spaced (codes "revenue") ++ spaced (decimal revenue) → d ≡ b ++ codes " hindsight " → e ≡ d ++ hindsight → line ≡ e ++ 10 ∷ []
    → line ≡ text_line (summary_words counts revenue hindsight)
line-is counts revenue hindsight a b d e line counted_is b_is d_is e_is line_is =
    let rest : List (List ℕ) = drop 1 (count_words counts) in
    let first : b ≡ join_with_byte 32 (count_words counts ++ codes "revenue" ∷ decimal revenue ∷ []) = count-more (codes "made") rest (codes "revenue") revenue revenue a b counted_is b_is refl in
    line_is ∙ ap (λ (l : List ℕ). l ++ 10 ∷ [])
    (word-more (codes "made") (rest ++ codes "revenue" ∷ decimal revenue ∷ []) (codes "hindsight") hindsight b e first (e_is ∙ ap (λ (l : List ℕ). l ++ hindsight) d_is))
