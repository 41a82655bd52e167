-- The value of digits, digit by digit.
use Rattle.std.proofs.Common.{ℕ, ◌≡◌, ◌∙◌, ◌+◌, ◌-◌, ◌*◌, ◌<◌, ◌≤◌, List, [], ◌∷◌, length, get_or, drop, sym, arith}
use Rattle.std.specs.Prelude.{fold}
use Rattle.std.proofs.lemmas.List.{at_drop_more}
use Rattle.nrm_text.specs.Numbers.{value_of}

-- a value only grows as it is gone on with
fold-grows : (a : ℕ) (ds : List ℕ) → a ≤ fold (λ value c. value * 10 + (c - 48)) a ds
fold-grows a [] = omega arith
fold-grows a (d ∷ ds) = let more : a * 10 + (d - 48) ≤ fold (λ value c. value * 10 + (c - 48)) (a * 10 + (d - 48)) ds =
    fold-grows (a * 10 + (d - 48)) ds in omega arith

-- so the value of all digits is at least that of the first ones and the next
pub value_of-above : (value i : ℕ) (digits : List ℕ) → i < length digits
    → fold (λ value c. value * 10 + (c - 48)) value (drop i digits) ≡ value_of digits
    → value * 10 + (get_or digits i 0 - 48) ≤ value_of digits
value_of-above value i digits within so_far =
    let f : ℕ → ℕ → ℕ = λ value c. value * 10 + (c - 48) in
    let step = sym (at_drop_more (fold (λ value c. value * 10 + (c - 48)) value) digits i 0 within) ∙ so_far in
    let grown = fold-grows (value * 10 + (get_or digits i 0 - 48)) (drop (i + 1) digits) in
    omega (arith, step)
