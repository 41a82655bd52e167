-- A row minus a multiple of the unit row, by the numbers x e - a u over one denominator.
use Rattle.std.proofs.Common.{◌≡◌, ℕ, zero, suc, ◌+◌, ◌*◌, ◌^◌, ◌<◌, ◌≤◌, ◌-◌, inr, ℤ, pos, negsuc, ◌-ℤ◌, ◌*ℤ◌, ◌<ℤ◌, nat_abs, arith, refl, sym, ap, ap₂, ◌∙◌, List, [], ◌∷◌, ◌++◌, length, take, drop, get_or, set, leb, true, false, Some, None, append_assoc, append-nil, to_z-of_z}
use Rattle.std.proofs.lemmas.List.{drop_more, drop_all, take_more, take_all, get_or-map, length-map, set_at, get_or_at, length-take-le}
use Rattle.std.proofs.lemmas.Int.{ints}
use Rattle.std.proofs.lemmas.Nat.Gcd.{le_of_dvd}
use mir.Syntax.{w64, w128}
use mir.Val.{to_z, of_z, SFits}
use native.Mathlib.Nat.{mul-pos}
use Rattle.nrm_number.specs.Gcd.{gcd, shrink}
use Rattle.nrm_number.proofs.GcdLaws.{gcd-dvd_left, gcd-dvd_right, nat_abs-shrink, reduced_lowest, reduced_pos}
use Rattle.nrm_number.proofs.Integers.{ring_ℤ}
use Rattle.nrm_number.proofs.Ring.{solve, ◌⊖◌, v0, v1, v2, v3, v4, v5}
use Rattle.nrm_number.proofs.Ring.Expr.{◌⊕◌, ◌⊗◌, minus, e0}
use Rattle.nrm_fraction.specs.Fraction.{Fraction, ◌over◌, ◌*ᶠ◌, ◌-ᶠ◌, negative, whole}
use Rattle.nrm_fraction.specs.Large.{fractions, gcd_all, first_reaching, size_limit, IsSmall}
use Rattle.nrm_fraction.specs.Rows.{minus_times, combine}
use Rattle.nrm_fraction.proofs.Values.{IsValue_over, IsValue_sum, IsValue_product, IsValue_negative, same_value}
use Rattle.nrm_row.specs.Numbers.{IsRow}
use Rattle.nrm_row.specs.Inner.Crossed.{crossed, shrunk}
use Rattle.nrm_row.proofs.LowestTerms.{row_length}
use Rattle.nrm_row.proofs.Divisors.{divisor_done, shrink_back}
use Rattle.nrm_fraction.proofs.CommonDivisors.{gcd_all-dvd}
use Rattle.nrm_fraction.proofs.Reaching.{reaching_yes, reaching_no}
use Rattle.nrm_fraction.proofs.Sizes.{positive_abs, small_same}

-- two rows are as long as their numbers
pub same_lengths : (d ue : ℤ) (us xs : List ℤ) (unit row : List Fraction) → fractions (nat_abs d) xs ≡ row → fractions (nat_abs ue) us ≡ unit → length unit ≡ length row → length us ≡ length xs
same_lengths d ue us xs unit row rx ru l = omega (arith, row_length d xs row rx, row_length ue us unit ru)

-- a / e is the entry's number n over the unit row's denominator f
one_entry : (x n a u : ℤ) (d f e : ℕ) → 0 < d → 0 < f → 0 < e → a *ℤ pos f ≡ n *ℤ pos e → (x *ℤ pos e -ℤ a *ℤ u) over (d * e) ≡ x over d -ᶠ n over d *ᶠ u over f
one_entry x n a u d f e hd hf he same =
    same_value ((x *ℤ pos e -ℤ a *ℤ u) over (d * e)) (x over d -ᶠ n over d *ᶠ u over f) _ _ _ _
    (IsValue_over (x *ℤ pos e -ℤ a *ℤ u) (d * e) (mul-pos hd he))
    (IsValue_sum (x over d) (negative (n over d *ᶠ u over f)) _ _ _ _ (IsValue_over x d hd) (IsValue_negative (n over d *ᶠ u over f) _ _ (IsValue_product (n over d) (u over f) _ _ _ _ (IsValue_over n d hd) (IsValue_over u f hf))))
    (solve ring_ℤ (x ∷ a ∷ u ∷ pos d ∷ pos e ∷ pos f ∷ []) ((v0 ⊗ v4 ⊖ v1 ⊗ v2) ⊗ (v3 ⊗ (v3 ⊗ v5))) ((v0 ⊗ v4 ⊗ v5 ⊖ v1 ⊗ v5 ⊗ v2) ⊗ (v3 ⊗ v3)) refl
    ∙ ap (λ t. (x *ℤ pos e *ℤ pos f -ℤ t *ℤ u) *ℤ (pos d *ℤ pos d)) same
    ∙ solve ring_ℤ (x ∷ n ∷ u ∷ pos d ∷ pos e ∷ pos f ∷ []) ((v0 ⊗ v4 ⊗ v5 ⊖ v1 ⊗ v4 ⊗ v2) ⊗ (v3 ⊗ v3)) ((v0 ⊗ (v3 ⊗ v5) ⊕ minus (v1 ⊗ v2) ⊗ v3) ⊗ (v3 ⊗ v4)) refl)

crossed_are : (n a : ℤ) (d f e : ℕ) (us xs : List ℤ) → 0 < d → 0 < f → 0 < e → a *ℤ pos f ≡ n *ℤ pos e → length us ≡ length xs → fractions (d * e) (crossed a (pos e) us xs) ≡ minus_times (n over d) (fractions f us) (fractions d xs)
crossed_are n a d f e [] [] hd hf he same l = refl
crossed_are n a d f e [] (x ∷ xs) hd hf he same l = absurd (omega arith)
crossed_are n a d f e (u ∷ us) [] hd hf he same l = absurd (omega arith)
crossed_are n a d f e (u ∷ us) (x ∷ xs) hd hf he same l = ap₂ (λ s t. s ∷ t) (one_entry x n a u d f e hd hf he same) (crossed_are n a d f e us xs hd hf he same (omega arith))

-- what is left of a positive denominator is positive
pub reduced_positive : (n ue : ℤ) → pos 0 <ℤ ue → pos 0 <ℤ shrink ue (gcd (nat_abs n) (nat_abs ue))
reduced_positive n (pos zero) h = absurd (omega (arith, ints))
reduced_positive n (pos (suc u)) h = omega (arith, ints, reduced_pos (nat_abs n) (suc u) (omega arith))
reduced_positive n (negsuc u) h = absurd (omega (arith, ints))

pub shared_le : (n ue : ℤ) → pos 0 <ℤ ue → gcd (nat_abs n) (nat_abs ue) ≤ nat_abs ue
shared_le n ue h = le_of_dvd (positive_abs ue h).1 (gcd-dvd_right (nat_abs n) (nat_abs ue))

-- a number and a denominator without what they have in common
pub reduced_same : (n ue : ℤ) → shrink n (gcd (nat_abs n) (nat_abs ue)) *ℤ ue ≡ n *ℤ shrink ue (gcd (nat_abs n) (nat_abs ue))
reduced_same n ue =
    ap (λ z. shrink n g *ℤ z) (sym (shrink_back ue g (gcd-dvd_right (nat_abs n) (nat_abs ue))))
    ∙ solve ring_ℤ (shrink n g ∷ shrink ue g ∷ pos g ∷ []) (v0 ⊗ (v1 ⊗ v2)) (v0 ⊗ v2 ⊗ v1) refl
    ∙ ap (λ z. z *ℤ shrink ue g) (shrink_back n g (gcd-dvd_left (nat_abs n) (nat_abs ue)))
  where
    g : ℕ
    g = gcd (nat_abs n) (nat_abs ue)

pub reduced_ones : (n ue : ℤ) → pos 0 <ℤ ue → gcd (nat_abs (shrink n (gcd (nat_abs n) (nat_abs ue)))) (nat_abs (shrink ue (gcd (nat_abs n) (nat_abs ue)))) ≡ 1
reduced_ones n ue h = ap₂ gcd (nat_abs-shrink n _) (nat_abs-shrink ue _) ∙ reduced_lowest (nat_abs n) (nat_abs ue) (positive_abs ue h).1

-- the combined row, where a / e is the entry's number over the unit row's denominator
pub combined_is : (d ue a e : ℤ) (us xs : List ℤ) (unit row : List Fraction) (col : ℕ) → IsRow d xs → IsRow ue us → fractions (nat_abs d) xs ≡ row → fractions (nat_abs ue) us ≡ unit → length unit ≡ length row → col < length row → pos 0 <ℤ e → a *ℤ ue ≡ get_or xs col (pos 0) *ℤ e → combine col unit row ≡ fractions (nat_abs (d *ℤ e)) (crossed a e us xs)
combined_is d ue a e us xs unit row col x u rx ru l w h same =
    ap₂ (combine col) (sym ru) (sym rx)
    ∙ ap (λ t. minus_times t (fractions (nat_abs ue) us) (fractions (nat_abs d) xs)) (get_or-map (λ n. n over nat_abs d) xs col (pos 0) (whole (pos 0)) (omega (arith, row_length d xs row rx)))
    ∙ sym (crossed_are (get_or xs col (pos 0)) a (nat_abs d) (nat_abs ue) (nat_abs e) us xs (positive_abs d x.positive).1 (positive_abs ue u.positive).1 (positive_abs e h).1
    (ap (λ z. a *ℤ z) (sym (positive_abs ue u.positive).0) ∙ same ∙ ap (λ z. get_or xs col (pos 0) *ℤ z) (positive_abs e h).0) (same_lengths d ue us xs unit row rx ru l))
    ∙ ap₂ (λ s t. fractions (nat_abs (s *ℤ t)) (crossed a t us xs)) (sym (positive_abs d x.positive).0) (sym (positive_abs e h).0)

-- an entry of 0 takes nothing away
nothing_taken : (d e : ℕ) (us xs : List ℤ) → 0 < d → 0 < e → length us ≡ length xs → minus_times (pos 0 over d) (fractions e us) (fractions d xs) ≡ fractions d xs
nothing_taken d e [] [] hd he l = refl
nothing_taken d e [] (x ∷ xs) hd he l = refl
nothing_taken d e (u ∷ us) [] hd he l = absurd (omega arith)
nothing_taken d e (u ∷ us) (x ∷ xs) hd he l = ap₂ (λ s t. s ∷ t) one (nothing_taken d e us xs hd he (omega arith))
  where
    one : x over d -ᶠ pos 0 over d *ᶠ u over e ≡ x over d
    one =
        same_value (x over d -ᶠ pos 0 over d *ᶠ u over e) (x over d) _ _ _ _
        (IsValue_sum (x over d) (negative (pos 0 over d *ᶠ u over e)) _ _ _ _ (IsValue_over x d hd)
        (IsValue_negative (pos 0 over d *ᶠ u over e) _ _ (IsValue_product (pos 0 over d) (u over e) _ _ _ _ (IsValue_over (pos 0) d hd) (IsValue_over u e he))))
        (IsValue_over x d hd)
        (solve ring_ℤ (x ∷ u ∷ pos d ∷ pos e ∷ []) ((v0 ⊗ (v2 ⊗ v3) ⊕ minus (e0 ⊗ v1) ⊗ v2) ⊗ v2) (v0 ⊗ (v2 ⊗ (v2 ⊗ v3))) refl)

pub uncombined_is : (d ue : ℤ) (us xs : List ℤ) (unit row : List Fraction) (col : ℕ) → IsRow d xs → IsRow ue us → fractions (nat_abs d) xs ≡ row → fractions (nat_abs ue) us ≡ unit → length unit ≡ length row → col < length row → get_or xs col (pos 0) ≡ pos 0 → row ≡ combine col unit row
uncombined_is d ue us xs unit row col x u rx ru l w z =
    sym rx
    ∙ sym (nothing_taken (nat_abs d) (nat_abs ue) us xs (positive_abs d x.positive).1 (positive_abs ue u.positive).1 (same_lengths d ue us xs unit row rx ru l))
    ∙ ap (λ t. minus_times t (fractions (nat_abs ue) us) (fractions (nat_abs d) xs)) (sym (get_or-map (λ n. n over nat_abs d) xs col (pos 0) (whole (pos 0)) (omega (arith, row_length d xs row rx)) ∙ ap (λ n. n over nat_abs d) z))
    ∙ ap₂ (combine col) ru rx

-- ---- the common divisor of the denominator and the numbers x e - a u
pub product_positive : (d e : ℤ) → pos 0 <ℤ d → pos 0 <ℤ e → 0 < nat_abs (d *ℤ e)
product_positive (pos zero) e h k = absurd (omega (arith, ints))
product_positive (pos (suc d)) (pos zero) h k = absurd (omega (arith, ints))
product_positive (pos (suc d)) (pos (suc e)) h k = omega arith
product_positive (pos (suc d)) (negsuc e) h k = absurd (omega (arith, ints))
product_positive (negsuc d) e h k = absurd (omega (arith, ints))

pub gcd_all_small : (d : ℕ) (ns : List ℤ) → 0 < d → d < 2 ^ 96 → gcd_all d ns < 2 ^ 96
gcd_all_small d ns h k = omega (arith, le_of_dvd h (gcd_all-dvd d ns))

-- one more number at the front
pub divisor_more : (d g m : ℕ) (a e : ℤ) (us xs : List ℤ) (i : ℕ) → 0 < i → i ≤ length us → length us ≡ length xs → g ≡ gcd_all d (crossed a e (drop i us) (drop i xs)) → m ≡ nat_abs (get_or xs (i - 1) (pos 0) *ℤ e -ℤ a *ℤ get_or us (i - 1) (pos 0)) → gcd m g ≡ gcd_all d (crossed a e (drop (i - 1) us) (drop (i - 1) xs))
divisor_more d g m a e us xs i h k l p q =
    ap₂ gcd q (p ∙ ap (λ j. gcd_all d (crossed a e (drop j us) (drop j xs))) back)
    ∙ ap₂ (λ vs ys. gcd_all d (crossed a e vs ys)) (sym (drop_more us (i - 1) (pos 0) (omega arith))) (sym (drop_more xs (i - 1) (pos 0) (omega arith)))
  where
    back : i ≡ i - 1 + 1
    back = omega arith

-- ---- numbers put into their places, one after another
pub length-crossed : (a e : ℤ) (us xs : List ℤ) → length us ≡ length xs → length (crossed a e us xs) ≡ length xs
length-crossed a e [] [] l = refl
length-crossed a e [] (x ∷ xs) l = absurd (omega arith)
length-crossed a e (u ∷ us) [] l = absurd (omega arith)
length-crossed a e (u ∷ us) (x ∷ xs) l = ap suc (length-crossed a e us xs (omega arith))

get_or-crossed : (a e : ℤ) (us xs : List ℤ) (i : ℕ) → length us ≡ length xs → i < length xs → get_or (crossed a e us xs) i (pos 0) ≡ get_or xs i (pos 0) *ℤ e -ℤ a *ℤ get_or us i (pos 0)
get_or-crossed a e [] [] i l h = absurd (omega arith)
get_or-crossed a e [] (x ∷ xs) i l h = absurd (omega arith)
get_or-crossed a e (u ∷ us) [] i l h = absurd (omega arith)
get_or-crossed a e (u ∷ us) (x ∷ xs) zero l h = refl
get_or-crossed a e (u ∷ us) (x ∷ xs) (suc i) l h = get_or-crossed a e us xs i (omega arith) (omega arith)

pub made_at : (g : ℕ) (a e : ℤ) (us xs : List ℤ) (i : ℕ) → length us ≡ length xs → i < length xs → get_or (shrunk g (crossed a e us xs)) i (pos 0) ≡ shrink (get_or xs i (pos 0) *ℤ e -ℤ a *ℤ get_or us i (pos 0)) g
made_at g a e us xs i l h =
    get_or-map (λ n. shrink n g) (crossed a e us xs) i (pos 0) (pos 0) (omega (arith, length-crossed a e us xs l)) ∙ ap (λ n. shrink n g) (get_or-crossed a e us xs i l h)

pub length-made : (g : ℕ) (a e : ℤ) (us xs : List ℤ) → length us ≡ length xs → length (shrunk g (crossed a e us xs)) ≡ length xs
length-made g a e us xs l = length-map (crossed a e us xs) (λ n. shrink n g) ∙ length-crossed a e us xs l

-- so far the list has the new numbers, and then the old ones
pub record IsPutTo (made old xs : List ℤ) (i : ℕ) : Type 0 where
  pub put : xs ≡ take i made ++ drop i old
  pub reaching : first_reaching size_limit made ≡ first_reaching size_limit (drop i made)

pub put_old : (made old xs : List ℤ) (i : ℕ) → length made ≡ length old → i < length old → IsPutTo made old xs i → get_or xs i (pos 0) ≡ get_or old i (pos 0)
put_old made old xs i l h p =
    ap (λ t. get_or t i (pos 0)) (p.put ∙ ap (λ t. take i made ++ t) (drop_more old i (pos 0) h))
    ∙ get_or_at (take i made) (get_or old i (pos 0)) (drop (i + 1) old) (pos 0) i (length-take-le i made (omega arith))

pub put_large : (made old xs : List ℤ) (i : ℕ) (n : ℤ) → length made ≡ length old → i < length old → n ≡ get_or made i (pos 0) → leb size_limit (nat_abs n) ≡ true → IsPutTo made old xs i → Some n ≡ first_reaching size_limit made
put_large made old xs i n l h e large p =
    sym (p.reaching ∙ ap (first_reaching size_limit) (drop_more made i (pos 0) (omega arith) ∙ ap (λ t. t ∷ drop (i + 1) made) (sym e)) ∙ reaching_yes n (drop (i + 1) made) large)

pub put_more : (made old xs : List ℤ) (i : ℕ) (n : ℤ) → length made ≡ length old → i < length old → n ≡ get_or made i (pos 0) → leb size_limit (nat_abs n) ≡ false → IsPutTo made old xs i → IsPutTo made old (set xs i n) (i + 1)
put_more made old xs i n l h e small p = record {
  put =
      ap (λ t. set t i n) (p.put ∙ ap (λ t. take i made ++ t) (drop_more old i (pos 0) h))
      ∙ set_at (take i made) (get_or old i (pos 0)) (drop (i + 1) old) n i (length-take-le i made (omega arith))
      ∙ sym (append_assoc (take i made) (n ∷ []) (drop (i + 1) old))
      ∙ ap (λ t. t ++ drop (i + 1) old) (ap (λ t. take i made ++ t ∷ []) e ∙ sym (take_more made i (pos 0) (omega arith)));
  reaching = p.reaching ∙ ap (first_reaching size_limit) (drop_more made i (pos 0) (omega arith) ∙ ap (λ t. t ∷ drop (i + 1) made) (sym e)) ∙ reaching_no n (drop (i + 1) made) small;
}

pub put_all : (made old xs : List ℤ) (i : ℕ) → length made ≡ length old → length old ≤ i → IsPutTo made old xs i → (None ≡ first_reaching size_limit made) × (xs ≡ made)
put_all made old xs i l h p = (
  sym (p.reaching ∙ ap (first_reaching size_limit) (drop_all i made (omega arith))),
  p.put ∙ ap₂ (λ s t. s ++ t) (take_all i made (omega arith)) (drop_all i old h) ∙ append-nil made,
)

-- all of a list is written over another
pub written_over : (new old : List ℤ) (len : ℕ) → length new ≡ length old → len ≡ length old → take len (new ++ drop (length new) old) ≡ new
written_over new old len h k =
    ap (λ t. take len (new ++ t)) (drop_all (length new) old (omega arith)) ∙ ap (take len) (append-nil new) ∙ take_all len new (omega arith)

-- the number at a place, from what it is computed of
pub number_is : (g : ℕ) (a e x u n t : ℤ) (us xs : List ℤ) (i : ℕ) → length us ≡ length xs → i < length xs → x ≡ get_or xs i (pos 0) → u ≡ get_or us i (pos 0) → t ≡ x *ℤ e -ℤ a *ℤ u → n ≡ shrink t g → n ≡ get_or (shrunk g (crossed a e us xs)) i (pos 0)
number_is g a e x u n t us xs i l h p q r s =
    s ∙ ap (λ z. shrink z g) (r ∙ ap₂ (λ y w. y *ℤ e -ℤ a *ℤ w) p q) ∙ sym (made_at g a e us xs i l h)

-- a divisor of all that is found early
pub crossed_one : (d g : ℕ) (a e : ℤ) (us xs : List ℤ) (i : ℕ) → length us ≡ length xs → g ≡ gcd_all d (crossed a e (drop i us) (drop i xs)) → g ≡ 1 → g ≡ gcd_all d (crossed a e us xs)
crossed_one d g a e us xs i l p q = divisor_done d g (crossed a e us xs) i (p ∙ ap (gcd_all d) (sym (drop-crossed us xs i l))) (inr q)
  where
    drop-crossed : (us xs : List ℤ) (i : ℕ) → length us ≡ length xs → drop i (crossed a e us xs) ≡ crossed a e (drop i us) (drop i xs)
    drop-crossed us xs zero l = refl
    drop-crossed [] [] (suc i) l = refl
    drop-crossed [] (x ∷ xs) (suc i) l = absurd (omega arith)
    drop-crossed (u ∷ us) [] (suc i) l = absurd (omega arith)
    drop-crossed (u ∷ us) (x ∷ xs) (suc i) l = drop-crossed us xs i (omega arith)

-- ---- what the code's steps give, with its casts
pub number_at_place : (G : ℕ) (A E t n : ℤ) (us old xs : List ℤ) (i : ℕ) → length us ≡ length old → i < length us → IsPutTo (shrunk G (crossed A E us old)) old xs i → SFits w64 (get_or xs i (pos 0)) → SFits w64 (get_or us i (pos 0)) → SFits w128 t → t ≡ to_z w64 (of_z w64 (get_or xs i (pos 0))) *ℤ E -ℤ A *ℤ to_z w64 (of_z w64 (get_or us i (pos 0))) → n ≡ shrink (to_z w128 (of_z w128 t)) G → n ≡ get_or (shrunk G (crossed A E us old)) i (pos 0)
number_at_place G A E t n us old xs i l h p fx fu ft r s =
    number_is G A E (to_z w64 (of_z w64 (get_or xs i (pos 0)))) (to_z w64 (of_z w64 (get_or us i (pos 0)))) n t us old i l (omega arith)
    (to_z-of_z fx ∙ put_old (shrunk G (crossed A E us old)) old xs i (length-made G A E us old l) (omega arith) p) (to_z-of_z fu) r (s ∙ ap (λ z. shrink z G) (to_z-of_z ft))

pub common_read : (d e a g : ℤ) (us xs : List ℤ) → SFits w64 d → SFits w64 e → SFits w64 a → SFits w128 g → g ≡ pos (gcd_all (nat_abs (to_z w64 (of_z w64 d) *ℤ to_z w64 (of_z w64 e))) (crossed (to_z w64 (of_z w64 a)) (to_z w64 (of_z w64 e)) us xs)) → to_z w128 (of_z w128 g) ≡ pos (gcd_all (nat_abs (d *ℤ e)) (crossed a e us xs))
common_read d e a g us xs fd fe fa fg r =
    to_z-of_z fg ∙ r ∙ (λ i. pos (gcd_all (nat_abs (to_z-of_z fd i *ℤ to_z-of_z fe i)) (crossed (to_z-of_z fa i) (to_z-of_z fe i) us xs)))

pub wide_read : (d e g p w : ℤ) (G : ℕ) → SFits w64 d → SFits w64 e → SFits w128 p → SFits w128 w → to_z w128 (of_z w128 g) ≡ pos G → p ≡ to_z w64 (of_z w64 d) *ℤ to_z w64 (of_z w64 e) → w ≡ shrink (to_z w128 (of_z w128 p)) (nat_abs (to_z w128 (of_z w128 g))) → to_z w128 (of_z w128 w) ≡ shrink (d *ℤ e) G
wide_read d e g p w G fd fe fp fw c q r =
    to_z-of_z fw ∙ r ∙ ap₂ (λ t z. shrink t (nat_abs z)) (to_z-of_z fp ∙ q ∙ ap₂ (λ x y. x *ℤ y) (to_z-of_z fd) (to_z-of_z fe)) c

pub crossed_read : (d a e : ℤ) (us xs vs ys : List ℤ) → IsSmall d → IsSmall a → IsSmall e → vs ≡ us → ys ≡ xs → fractions (nat_abs (to_z w64 (of_z w64 d) *ℤ to_z w64 (of_z w64 e))) (crossed (to_z w64 (of_z w64 a)) (to_z w64 (of_z w64 e)) vs ys) ≡ fractions (nat_abs (d *ℤ e)) (crossed a e us xs)
crossed_read d a e us xs vs ys hd ha he v y = (λ i. fractions (nat_abs (small_same d hd i *ℤ small_same e he i)) (crossed (small_same a ha i) (small_same e he i) (v i) (y i)))
