-- A text of five pieces, appended one by one.
use Rattle.std.proofs.Common.{ℕ, ◌≡◌, ◌∙◌, ◌++◌, List, append_assoc}

pub five-pieces : (s t1 t2 t3 t4 t5 a b c d e : List ℕ) → t1 ≡ s ++ a → t2 ≡ t1 ++ b → t3 ≡ t2 ++ c → t4 ≡ t3 ++ d → t5 ≡ t4 ++ e
    → t5 ≡ s ++ (a ++ b ++ c ++ d ++ e)
five-pieces s t1 t2 t3 t4 t5 a b c d e first second third fourth fifth =
    let whole : (((((s ++ a) ++ b) ++ c) ++ d) ++ e) ≡ s ++ (a ++ b ++ c ++ d ++ e) = simp append_assoc in
    fifth ∙ (λ n. fourth n ++ e) ∙ (λ n. (third n ++ d) ++ e) ∙ (λ n. ((second n ++ c) ++ d) ++ e) ∙ (λ n. (((first n ++ b) ++ c) ++ d) ++ e) ∙ whole
