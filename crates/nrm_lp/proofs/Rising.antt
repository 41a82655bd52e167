-- At each pivot of a path the value row's number rises, where no row made is Large: so a path of such rows ends.
use Rattle.std.proofs.Common.{◌≡◌, ℕ, suc, ◌+◌, ◌*◌, ◌/◌, ◌^◌, ◌<◌, ◌≤◌, pos, ◌*ℤ◌, nat_abs, arith, refl, sym, ap, ◌∙◌, subst, List, [], ◌∷◌, map, length, get_or, Some, None}
use Rattle.std.proofs.lemmas.Int.{unsigned_abs-mul}
use Rattle.std.proofs.lemmas.List.{length-map, get_or-map}
use Prim.Native.Nat.{◌∣◌}
use native.Mathlib.Nat.{le_of_dvd, mul-le-mul_left, le-div_iff_mul-le}
use Rattle.nrm_fraction.specs.Fraction.{Fraction, negative, whole, ◌<ᶠ◌, ◌-ᶠ◌}
use Rattle.nrm_fraction.specs.Large.{common, numerators, large_number}
use Rattle.nrm_lp.specs.Program.{ProgramValue}
use Rattle.nrm_lp.specs.Tableau.{Tableau, row_count, key_columns, entering, pivot}
use Rattle.nrm_fraction.specs.Rows.{at}
use Rattle.nrm_fraction.proofs.Values.{den_pos}
use Rattle.nrm_fraction.proofs.Field.{IsPositive, difference_positive, positive_by, ring_F}
use Rattle.nrm_fraction.proofs.Embed.{den-dvd-common}
use Rattle.nrm_fraction.proofs.Lowest.{common_pos}
use Rattle.nrm_lp.proofs.Positive.{value_rises}
use Rattle.nrm_lp.proofs.Measure.{IsBelow, AreBelow, number, number_below, number_rises}
use Rattle.nrm_lp.proofs.Tables.{table, pivot_is}
use Rattle.nrm_lp.proofs.Pivot.{IsPivot}
use Rattle.nrm_lp.proofs.Rule.{IsSound, IsLeaving}
use Rattle.nrm_lp.proofs.Path.{entering_is}
use Rattle.nrm_number.proofs.Ring.{solve, ◌⊖◌, v0}
use Rattle.nrm_number.proofs.Ring.Expr.{minus, e0}
use Rattle.nrm_lp.proofs.Small.{reach_each}

-- an entry of a row that isn't Large is below the limit
entry_below : (l : ℕ) (xs : List Fraction) (k : ℕ) → large_number l xs ≡ None → k < length xs → IsBelow l (at xs k)
entry_below l xs k h m = record { num_below = omega (arith, sizes, numerator, mul-le-mul_left (nat_abs (at xs k).num) quotient); den_below = omega (arith, le_of_dvd (common_pos xs) divides, reach_each l (pos (common xs) ∷ numerators (common xs) xs) h 0 (omega arith)) }
  where
    divides : (at xs k).den ∣ common xs
    divides = den-dvd-common xs k m (whole (pos 0))

    numerator : nat_abs (get_or (numerators (common xs) xs) k (pos 0)) < l
    numerator = reach_each l (pos (common xs) ∷ numerators (common xs) xs) h (suc k) (omega (arith, length-map xs (λ x. x.num *ℤ pos (common xs / x.den))))

    sizes : nat_abs (get_or (numerators (common xs) xs) k (pos 0)) ≡ nat_abs (at xs k).num * (common xs / (at xs k).den)
    sizes = ap nat_abs (get_or-map (λ x. x.num *ℤ pos (common xs / x.den)) xs k (whole (pos 0)) (pos 0) m) ∙ unsigned_abs-mul (at xs k).num (pos (common xs / (at xs k).den))

    quotient : 1 ≤ common xs / (at xs k).den
    quotient = (le-div_iff_mul-le (den_pos (at xs k))).1 (omega (arith, le_of_dvd (common_pos xs) divides))

pub keys_below : (l : ℕ) (xs : List Fraction) (cs : List ℕ) → large_number l xs ≡ None → ((k : ℕ) → k < length cs → get_or cs k 0 < length xs) → AreBelow l (map (λ c. at xs c) cs)
keys_below l xs [] h within = tt
keys_below l xs (c ∷ cs) h within = (entry_below l xs c h (within 0 (omega arith)), keys_below l xs cs h (λ k m. within (suc k) (omega arith)))

-- the value row's list, of which the measure is made
abbrev pub value_keys : ProgramValue → Tableau → List Fraction
value_keys a t = map (λ c. at t.value c) (key_columns a)

-- the measure of a tableau, and what it stays below
pub value_number : ℕ → ProgramValue → Tableau → ℕ
value_number l a t = number l (value_keys a t)

pub value_bound : ℕ → ProgramValue → ℕ
value_bound l a = (2 * (l * (l * l))) ^ length (key_columns a)

pub value_number_below : (l : ℕ) (a : ProgramValue) (t : Tableau) → AreBelow l (value_keys a t) → value_number l a t < value_bound l a
unfolding value_number value_bound
value_number_below l a t h = subst (λ n. number l (value_keys a t) < (2 * (l * (l * l))) ^ n) (length-map (key_columns a) (λ c. at t.value c)) (number_below l (value_keys a t) h)

pub value_number_rises : (l : ℕ) (a : ProgramValue) (t : Tableau) (s r : ℕ) → IsSound a t → entering t ≡ Some s → IsLeaving a t s r → AreBelow l (value_keys a t) → AreBelow l (value_keys a (pivot t r s)) → value_number l a t < value_number l a (pivot t r s)
unfolding value_number
value_number_rises l a t s r h e w small small' =
    number_rises l (value_keys a t) (value_keys a (pivot t r s))
    (length-map (key_columns a) (λ c. at t.value c) ∙ sym (length-map (key_columns a) (λ c. at (pivot t r s).value c)))
    small
    small'
    (value_rises (row_count a) (key_columns a) (table t) (table (pivot t r s)) r s is_pivot h.positive below)
  where
    is_pivot : IsPivot (row_count a) (table t) (table (pivot t r s)) r s
    is_pivot = subst (λ n. IsPivot n (table t) (table (pivot t r s)) r s) h.shape (pivot_is t r s (subst (λ n. r < n) (sym h.shape) w.row_below) (h.basis_shape ∙ sym h.shape) w.entry)

    found : (i : ℕ) × (s ≡ 0 + i) × (suc i < length t.value) × (at t.value i <ᶠ whole (pos 0))
    found = entering_is 0 t.value s e

    below : IsPositive (negative (at t.value s))
    below =
        positive_by (negative (at t.value s)) (whole (pos 0) -ᶠ at t.value s)
        (difference_positive (at t.value s) (whole (pos 0)) (subst (λ i. at t.value i <ᶠ whole (pos 0)) (sym (found.1 ∙ zero_plus found.0)) found.3))
        (solve ring_F (at t.value s ∷ []) (minus v0) (e0 ⊖ v0) refl)
      where
        zero_plus : (i : ℕ) → 0 + i ≡ i
        zero_plus i = omega arith
