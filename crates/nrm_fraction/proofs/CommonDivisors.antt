-- The greatest common divisor of a denominator and numbers divides each of them.
use Rattle.std.proofs.Common.{◌≡◌, ℕ, ◌<◌, ◌≤◌, ℤ, nat_abs, List, [], ◌∷◌}
use Prim.Native.Nat.{◌∣◌}
use Rattle.std.proofs.lemmas.Nat.Gcd.{dvd_trans, dvd_refl, dvd-zero, le_of_dvd}
use native.Mathlib.Nat.{one-dvd}
use Rattle.nrm_number.specs.Gcd.{gcd}
use Rattle.nrm_number.proofs.GcdLaws.{gcd-dvd_left, gcd-dvd_right, gcd_pos, gcd_unique}
use Rattle.nrm_fraction.specs.Large.{gcd_all}

pub gcd_all_pos : (d : ℕ) (ns : List ℤ) → 0 < d → 0 < gcd_all d ns
gcd_all_pos d [] h = h
gcd_all_pos d (n ∷ ns) h = gcd_pos (nat_abs n) (gcd_all d ns) (gcd_all_pos d ns h)

pub gcd_all-dvd : (d : ℕ) (ns : List ℤ) → gcd_all d ns ∣ d
gcd_all-dvd d [] = dvd_refl d
gcd_all-dvd d (n ∷ ns) = dvd_trans (gcd (nat_abs n) (gcd_all d ns)) (gcd-dvd_right (nat_abs n) (gcd_all d ns)) (gcd_all-dvd d ns)

pub gcd_all_le : (d : ℕ) (ns : List ℤ) → 0 < d → gcd_all d ns ≤ d
gcd_all_le d ns h = le_of_dvd h (gcd_all-dvd d ns)

-- g divides each number
abbrev pub DividesAll : ℕ → List ℤ → Type 0
DividesAll g [] = Unit {0}
DividesAll g (n ∷ ns) = (g ∣ nat_abs n) × DividesAll g ns

divides_more : (g f : ℕ) (ns : List ℤ) → g ∣ f → DividesAll f ns → DividesAll g ns
divides_more g f [] p h = tt
divides_more g f (n ∷ ns) p h = (dvd_trans g p h.0, divides_more g f ns p h.1)

pub gcd_all-divides : (d : ℕ) (ns : List ℤ) → DividesAll (gcd_all d ns) ns
gcd_all-divides d [] = tt
gcd_all-divides d (n ∷ ns) =
    (gcd-dvd_left (nat_abs n) (gcd_all d ns), divides_more (gcd (nat_abs n) (gcd_all d ns)) (gcd_all d ns) ns (gcd-dvd_right (nat_abs n) (gcd_all d ns)) (gcd_all-divides d ns))

pub gcd_one : (n : ℕ) → gcd n 1 ≡ 1
gcd_one n = gcd_unique n 1 1 (one-dvd n, dvd_refl 1, λ d p q. q)

-- a number 0 changes nothing
pub gcd_nought : (n : ℕ) → gcd 0 n ≡ n
gcd_nought n = gcd_unique 0 n n (dvd-zero n, dvd_refl n, λ d p q. q)
