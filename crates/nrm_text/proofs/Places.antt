-- The first place of a byte that passes a test.
use Rattle.std.proofs.Common.{ℕ, ◌≡◌, ◌<◌, ◌≤◌, Bool, true, false, nat_lt, List, length, get_or, Some, None, refl, ap, arith}
use Rattle.std.specs.List.{position, position_or_len}
use Rattle.std.proofs.lemmas.Bool.{le-ltb, lt-ltb, ltb-false, ltb-true}
use Rattle.std.proofs.lemmas.List.Sums.{position_or_len_is}

-- a byte that passes, and before which none does
pub placed : (p : ℕ → Bool) (xs : List ℕ) (i : ℕ) → i < length xs → ((k : ℕ) → k < i → p (get_or xs k 0) ≡ false)
    → p (get_or xs i 0) ≡ true → position p xs ≡ Some i
placed p xs i within fails passes =
    let is = position_or_len_is p xs i 0 (omega arith) fails (λ _. passes) in
    let test = lt-ltb (position_or_len p xs) (length xs) (omega (arith, is)) in
    rw test (ap Some is)

-- where none passes there is no place
pub nowhere : (p : ℕ → Bool) (xs : List ℕ) → ((k : ℕ) → k < length xs → p (get_or xs k 0) ≡ false) → position p xs ≡ None
nowhere p xs fails =
    let is = position_or_len_is p xs (length xs) 0 (omega arith) fails (λ short. absurd (omega arith)) in
    let test = le-ltb (position_or_len p xs) (length xs) (omega (arith, is)) in
    rw test refl

-- a place that was found is the first, and within
pub found : (p : ℕ → Bool) (xs : List ℕ) (i : ℕ) → position p xs ≡ Some i → (position_or_len p xs ≡ i) × (i < length xs)
found p xs i is = by (nat_lt (position_or_len p xs) (length xs)) refl
  where
    by : (b : Bool) → nat_lt (position_or_len p xs) (length xs) ≡ b → (position_or_len p xs ≡ i) × (i < length xs)
    by true e =
        let same : Some (position_or_len p xs) ≡ Some i = rw e at is in
        let place : position_or_len p xs ≡ i = cc in
        let within = ltb-true (position_or_len p xs) (length xs) e in
        (place, omega arith)
    by false e = let none : None ≡ Some i = rw e at is in cc

pub missing : (p : ℕ → Bool) (xs : List ℕ) → position p xs ≡ None → length xs ≤ position_or_len p xs
missing p xs is = by (nat_lt (position_or_len p xs) (length xs)) refl
  where
    by : (b : Bool) → nat_lt (position_or_len p xs) (length xs) ≡ b → length xs ≤ position_or_len p xs
    by true e = let some : Some (position_or_len p xs) ≡ None = rw e at is in cc
    by false e = ltb-false (position_or_len p xs) (length xs) e
