-- The first number that reaches the limit.
use Rattle.std.proofs.Common.{◌≡◌, ℤ, nat_abs, ap, List, ◌∷◌, leb, cond, true, false, Some}
use Rattle.nrm_fraction.specs.Large.{first_reaching, size_limit}

pub reaching_yes : (n : ℤ) (ns : List ℤ) → leb size_limit (nat_abs n) ≡ true → first_reaching size_limit (n ∷ ns) ≡ Some n
reaching_yes n ns h = ap (λ b. cond b (Some n) (first_reaching size_limit ns)) h

pub reaching_no : (n : ℤ) (ns : List ℤ) → leb size_limit (nat_abs n) ≡ false → first_reaching size_limit (n ∷ ns) ≡ first_reaching size_limit ns
reaching_no n ns h = ap (λ b. cond b (Some n) (first_reaching size_limit ns)) h
