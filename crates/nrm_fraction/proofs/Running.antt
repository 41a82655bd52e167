-- The running least common denominator ends at the least common denominator.
use Rattle.std.proofs.Common.{◌≡◌, ℕ, ◌+◌, ◌/◌, ◌*◌, ◌<◌, ◌≤◌, pos, arith, refl, sym, ap, ◌∙◌, List, ◌∷◌, drop, length, get_or, Some, None}
use Rattle.std.proofs.lemmas.List.{drop_all, drop_more}
use Rattle.std.proofs.lemmas.Bool.{lt-leb, le-leb}
use Rattle.std.proofs.lemmas.Nat.Gcd.{dvd_antisymm, dvd_trans, dvd_refl}
use native.Mathlib.Nat.{one-dvd}
use Rattle.nrm_number.specs.Gcd.{gcd, lcm}
use Rattle.nrm_number.proofs.GcdLaws.{dvd-lcm_left, dvd-lcm_right, lcm-dvd, lcm_pos}
use Rattle.nrm_fraction.specs.Fraction.{Fraction, whole}
use Rattle.nrm_fraction.specs.Large.{common, running, first_reaching, size_limit}
use Rattle.nrm_fraction.proofs.Values.{den_pos}
use Rattle.nrm_fraction.proofs.Lowest.{common_pos}
use Rattle.nrm_fraction.proofs.Reaching.{reaching_yes, reaching_no}

-- ---- the least common multiple, as it is computed, and in any order
pub lcm_parts : (a b : ℕ) → a * (b / gcd a b) ≡ lcm a b
unfolding lcm
lcm_parts a b = refl

lcm_one_left : (n : ℕ) → 0 < n → lcm 1 n ≡ n
lcm_one_left n h = dvd_antisymm (lcm-dvd 1 n n h (one-dvd n) (dvd_refl n)) (dvd-lcm_right 1 n)

lcm_one_right : (n : ℕ) → lcm n 1 ≡ n
lcm_one_right n = dvd_antisymm (lcm-dvd n 1 n (omega arith) (dvd_refl n) (one-dvd n)) (dvd-lcm_left n 1)

lcm_turned : (x d c : ℕ) → 0 < x → 0 < d → 0 < c → lcm (lcm x d) c ≡ lcm d (lcm x c)
lcm_turned x d c h k l =
    dvd_antisymm
    (lcm-dvd (lcm x d) c (lcm d (lcm x c)) l (lcm-dvd x d (lcm d (lcm x c)) k (dvd_trans x (dvd-lcm_left x c) (dvd-lcm_right d (lcm x c))) (dvd-lcm_left d (lcm x c))) (dvd_trans c (dvd-lcm_right x c) (dvd-lcm_right d (lcm x c))))
    (lcm-dvd d (lcm x c) (lcm (lcm x d) c) (lcm_pos x c h l) (dvd_trans d (dvd-lcm_right x d) (dvd-lcm_left (lcm x d) c)) (lcm-dvd x c (lcm (lcm x d) c) l (dvd_trans x (dvd-lcm_left x d) (dvd-lcm_left (lcm x d) c)) (dvd-lcm_right (lcm x d) c)))

-- ---- after k fractions of a list, d is their least common denominator, and no running one so far reaches the limit
pub record IsRun (xs : List Fraction) (k d : ℕ) : Type 0 where
  pub some : 0 < d
  pub small : d < size_limit
  pub shared : lcm d (common (drop k xs)) ≡ common xs
  pub rest : first_reaching size_limit (running d (drop k xs)) ≡ first_reaching size_limit (running 1 xs)

pub run_first : (xs : List Fraction) → IsRun xs 0 1
run_first xs = record { some = omega arith; small = omega arith; shared = lcm_one_left (common xs) (common_pos xs); rest = refl }

module _ (xs : List Fraction) (k d : ℕ) (x : Fraction) (run : IsRun xs k d) (within : k < length xs) (is : get_or xs k (whole (pos 0)) ≡ x) where
  split : drop k xs ≡ x ∷ drop (k + 1) xs
  split = drop_more xs k (whole (pos 0)) within ∙ ap (λ y. y ∷ drop (k + 1) xs) is

  pub run_more : lcm x.den d < size_limit → IsRun xs (k + 1) (lcm x.den d)
  run_more l = record {
    some = lcm_pos x.den d (den_pos x) run.some;
    small = l;
    shared = lcm_turned x.den d (common (drop (k + 1) xs)) (den_pos x) run.some (common_pos (drop (k + 1) xs)) ∙ ap (λ ys. lcm d (common ys)) (sym split) ∙ run.shared;
    rest = sym (ap (λ ys. first_reaching size_limit (running d ys)) split ∙ reaching_no (pos (lcm x.den d)) (running (lcm x.den d) (drop (k + 1) xs)) (lt-leb size_limit (lcm x.den d) l)) ∙ run.rest;
  }

pub run_last : (xs : List Fraction) (k d : ℕ) → IsRun xs k d → length xs ≤ k → (d ≡ common xs) × (d < size_limit) × (first_reaching size_limit (running 1 xs) ≡ None)
run_last xs k d run h = (
  sym (lcm_one_right d) ∙ ap (λ ys. lcm d (common ys)) (sym (drop_all k xs h)) ∙ run.shared,
  run.small,
  sym run.rest ∙ ap (λ ys. first_reaching size_limit (running d ys)) (drop_all k xs h),
)
