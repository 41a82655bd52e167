-- What is read from the rows of a last tableau: an entry as a fraction, the value of a product, the prices, the numbers.
use Rattle.std.proofs.Common.{◌≡◌, ℕ, ◌+◌, ◌/◌, ◌<◌, ◌≤◌, ℤ, pos, negsuc, ◌*ℤ◌, nat_abs, arith, refl, sym, ap, ap₂, ◌∙◌, List, [], ◌∷◌, ◌++◌, map, take, drop, length, get_or, cond, eqb, eq-eqb, ne_eqb, false, ◌≢◌}
use Prim.Native.Nat.{◌∣◌}
use Rattle.std.specs.Int.RustNames.{int_lt}
use Rattle.std.specs.List.{range_with_len}
use Rattle.std.proofs.Math.Nat.{div-mul_cancel, le-div_iff_mul-le}
use Rattle.std.proofs.lemmas.List.{at_drop_more, drop_all, get_or-drop, get_or-map, get_or-take, length-map, length-take-le, length-drop, take_more}
use Rattle.std.proofs.lemmas.List.FromFn.{fill_by_all, map-range_with_len_more}
use Rattle.nrm_number.proofs.Integers.{ring_ℤ}
use Rattle.nrm_number.proofs.Ring.{solve, v0, v1, v2}
use Rattle.nrm_number.proofs.Ring.Expr.{◌⊗◌}
use Rattle.nrm_fraction.specs.Fraction.{Fraction, ◌over◌, less, whole}
use Rattle.nrm_fraction.specs.Large.{common, numerators}
use Rattle.nrm_fraction.specs.Rows.{at}
use Rattle.nrm_fraction.proofs.Values.{IsValue_over, IsValue_self, same_value}
use Rattle.nrm_fraction.proofs.Lowest.{common_pos}
use Rattle.nrm_fraction.proofs.Embed.{den-dvd-common}
use Rattle.nrm_lp.specs.Closing.{basic_value}
use Rattle.nrm_row.proofs.Entries.{negative_is}

-- ---- the entry of a row is its number over the least common denominator
back_over : (x : Fraction) (d : ℕ) → 0 < d → x.den ∣ d → (x.num *ℤ pos (d / x.den)) over d ≡ x
back_over x d h p =
    same_value ((x.num *ℤ pos (d / x.den)) over d) x (x.num *ℤ pos (d / x.den)) x.num d x.den (IsValue_over (x.num *ℤ pos (d / x.den)) d h) (IsValue_self x)
    (solve ring_ℤ (x.num ∷ pos (d / x.den) ∷ pos x.den ∷ []) (v0 ⊗ v1 ⊗ v2) (v0 ⊗ (v1 ⊗ v2)) refl ∙ ap (λ t. x.num *ℤ pos t) (div-mul_cancel x.den p))

pub number_over : (row : List Fraction) (col : ℕ) → col < length row → get_or (numerators (common row) row) col (pos 0) over common row ≡ at row col
number_over row col l =
    ap (λ n. n over common row) (get_or-map (λ x. x.num *ℤ pos (common row / x.den)) row col (whole (pos 0)) (pos 0) l)
    ∙ back_over (at row col) (common row) (common_pos row) (den-dvd-common row col l (whole (pos 0)))

not_negative : (z : ℤ) → int_lt z (pos 0) ≡ false → pos (nat_abs z) ≡ z
not_negative (pos n) e = refl
not_negative (negsuc n) e = cc

pub entry_read : (row : List Fraction) (col n d : ℕ) → col < length row → less (at row col) (whole (pos 0)) ≡ false → n ≡ nat_abs (get_or (numerators (common row) row) col (pos 0)) → d ≡ common row → pos n over d ≡ at row col
entry_read row col n d l s e f =
    ap₂ (λ m c. pos m over c) e f
    ∙ ap (λ z. z over common row) (not_negative (get_or (numerators (common row) row) col (pos 0)) (negative_is row col l ∙ s))
    ∙ number_over row col l

-- ---- the value of a product, row by row
nought : pos 0 over 1 ≡ whole (pos 0)
unfolding whole
nought = refl

module _ (end j : ℕ) (bs : List ℕ) (rows : List (List Fraction)) (k : ℕ) where
  value_more : k < length bs → k < length rows → basic_value end j (drop k bs) (drop k rows) ≡ cond (eqb (get_or bs k 0) j) (at (get_or rows k []) end) (basic_value end j (drop (k + 1) bs) (drop (k + 1) rows))
  value_more l m = at_drop_more (λ cs. basic_value end j cs (drop k rows)) bs k 0 l ∙ at_drop_more (λ ys. basic_value end j (get_or bs k 0 ∷ drop (k + 1) bs) ys) rows k [] m

  pub value_later : k < length bs → k < length rows → get_or bs k 0 ≢ j → basic_value end j (drop k bs) (drop k rows) ≡ basic_value end j bs rows → basic_value end j (drop (k + 1) bs) (drop (k + 1) rows) ≡ basic_value end j bs rows
  value_later l m d h = sym (value_more l m ∙ ap (λ b. cond b (at (get_or rows k []) end) (basic_value end j (drop (k + 1) bs) (drop (k + 1) rows))) (ne_eqb (get_or bs k 0) j d)) ∙ h

  pub value_none : length bs ≤ k → basic_value end j (drop k bs) (drop k rows) ≡ basic_value end j bs rows → pos 0 over 1 ≡ basic_value end j bs rows
  value_none l h = nought ∙ sym (ap (λ cs. basic_value end j cs (drop k rows)) (drop_all k bs l)) ∙ h

-- one more product
pub values_more : (F : ℕ → Fraction) (k : ℕ) (old new : List Fraction) (made : Fraction) → old ≡ map F (range_with_len 0 k) → made ≡ F k → new ≡ old ++ made ∷ [] → new ≡ map F (range_with_len 0 (k + 1))
values_more F k old new made e f g = g ∙ ap₂ (λ xs x. xs ++ x ∷ []) e f ∙ sym (map-range_with_len_more F 0 k k (omega arith))

-- ---- some of a row's columns, one by one
pub part_at : (xs : List Fraction) (k n : ℕ) → k + n ≤ length xs → take n (drop k xs) ≡ map (λ i. at xs (k + i)) (range_with_len 0 n)
part_at xs k n l =
    fill_by_all (λ i. at xs (k + i)) (take n (drop k xs)) n (whole (pos 0))
    (length-take-le n (drop k xs) (omega (arith, length-drop k xs)))
    (λ i h. get_or-take n (drop k xs) i (whole (pos 0)) h ∙ get_or-drop k xs i (whole (pos 0)))

-- one more number
pub number_more : (ns old new : List ℤ) (k : ℕ) (n : ℤ) → k < length ns → old ≡ take k ns → n ≡ get_or ns k (pos 0) → new ≡ old ++ n ∷ [] → new ≡ take (k + 1) ns
number_more ns old new k n l e f g = g ∙ ap₂ (λ xs x. xs ++ x ∷ []) e f ∙ sym (take_more ns k (pos 0) l)

pub length-numerators : (d : ℕ) (row : List Fraction) → length (numerators d row) ≡ length row
length-numerators d row = length-map row (λ x. x.num *ℤ pos (d / x.den))

-- what isn't less than the divisor has a quotient above 0
pub quotient_some : (m n : ℕ) → 0 < n → n ≤ m → 0 < m / n
quotient_some m n h l = (le-div_iff_mul-le h).1 (omega (arith, l))
