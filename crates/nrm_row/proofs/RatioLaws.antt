-- Ratios of two rows compared by their numbers: the denominators of the rows cancel.
use Rattle.std.proofs.Common.{◌≡◌, ℕ, ◌<◌, ◌≤◌, ◌+◌, ◌-◌, ℤ, pos, ◌*ℤ◌, ◌<ℤ◌, ◌≤ℤ◌, zero, suc, arith, refl, sym, ap, ap₂, ◌∙◌, List, [], ◌∷◌, length, get_or, map, Bool, true, false, cond}
use Rattle.std.specs.List.{range_with_len}
use Rattle.std.proofs.lemmas.List.{get_or-map}
use Rattle.std.proofs.lemmas.Int.{ints, by_lt_z}
use Rattle.std.specs.Int.RustNames.{int_lt}
use Rattle.nrm_number.proofs.Integers.{ring_ℤ}
use Rattle.nrm_number.proofs.Ring.{solve, v0, v1, v2}
use Rattle.nrm_number.proofs.Ring.Expr.{◌⊗◌, e1}
use Rattle.nrm_fraction.specs.Fraction.{◌over◌, ◌*ᶠ◌, ◌/ᶠ◌, inverse, less, whole}
use Rattle.nrm_fraction.specs.Large.{fractions}
use Rattle.nrm_fraction.specs.Lex.{lex_below}
use Rattle.nrm_fraction.specs.Rows.{at, unit_row, ratio_columns, ratios}
use Rattle.nrm_row.specs.Inner.Crossed.{crossed_below}
use Rattle.nrm_fraction.proofs.Values.{IsValue_over, IsValue_product, same_value}
use Rattle.nrm_fraction.proofs.Field.{ring_F, *ᶠ-inverse, positive_value, num_not_nought}
use Rattle.nrm_fraction.proofs.Tests.{less-is}

-- (n / d) / (m / d) is n / m
pub ratio_is : (n : ℤ) (d m : ℕ) → 0 < d → 0 < m → ¬ ((pos m over d).num ≡ pos 0) → n over d /ᶠ pos m over d ≡ n over m
ratio_is n d m h k nz =
    ap (λ t. t *ᶠ inverse (pos m over d)) split
    ∙ solve ring_F (n over m ∷ pos m over d ∷ inverse (pos m over d) ∷ []) (v0 ⊗ v1 ⊗ v2) (v0 ⊗ (v1 ⊗ v2)) refl
    ∙ ap (λ t. n over m *ᶠ t) (*ᶠ-inverse (pos m over d) nz)
    ∙ solve ring_F (n over m ∷ []) (v0 ⊗ e1) v0 refl
  where
    split : n over d ≡ n over m *ᶠ pos m over d
    split =
        same_value (n over d) (n over m *ᶠ pos m over d) _ _ _ _ (IsValue_over n d h) (IsValue_product (n over m) (pos m over d) _ _ _ _ (IsValue_over n m k) (IsValue_over (pos m) d h))
        (solve ring_ℤ (n ∷ pos m ∷ pos d ∷ []) (v0 ⊗ (v1 ⊗ v2)) (v0 ⊗ v1 ⊗ v2) refl)

less_over : (n n' : ℤ) (m m' : ℕ) → 0 < m → 0 < m' → less (n over m) (n' over m') ≡ int_lt (n *ℤ pos m') (n' *ℤ pos m)
less_over n n' m m' h k = less-is (n over m) (n' over m') n n' m m' (IsValue_over n m h) (IsValue_over n' m' k)

-- a positive number over d isn't 0
number_not_nought : (m d : ℕ) → 0 < d → 0 < m → ¬ ((pos m over d).num ≡ pos 0)
number_not_nought m d h k = num_not_nought (pos m over d) (positive_value (pos m over d) (pos m) d (IsValue_over (pos m) d h) (omega (arith, ints)))

-- ---- the ratios of two rows, in the order of a dictionary
-- where two numbers differ, they decide
pub first_differs : (x y : ℤ) (rest : Bool) → ¬ (x ≡ y) → cond (int_lt x y) true (cond (int_lt y x) false rest) ≡ int_lt x y
first_differs x y rest n = by_lt_z x y less more
  where
    less : x <ℤ y → cond (int_lt x y) true (cond (int_lt y x) false rest) ≡ int_lt x y
    less h = let e : true ≡ int_lt x y = omega (arith, ints) in ap (λ b. cond b true (cond (int_lt y x) false rest)) (sym e) ∙ e

    more : y ≤ℤ x → cond (int_lt x y) true (cond (int_lt y x) false rest) ≡ int_lt x y
    more h = by_lt_z y x strictly (λ k. absurd (n (omega (arith, ints))))
      where
        strictly : y <ℤ x → cond (int_lt x y) true (cond (int_lt y x) false rest) ≡ int_lt x y
        strictly k =
            let e : false ≡ int_lt x y = omega (arith, ints) in
            let f : true ≡ int_lt y x = omega (arith, ints) in
            ap₂ (λ b d. cond b true (cond d false rest)) (sym e) (sym f) ∙ e

pub range_more : (i last : ℕ) → i < last → range_with_len i (last - i) ≡ i ∷ range_with_len (i + 1) (last - (i + 1))
range_more i last h = ap (λ n. range_with_len i n) one_more
  where
    one_more : last - i ≡ suc (last - (i + 1))
    one_more = omega arith

-- each column is below the width
abbrev pub AreColumns : ℕ → List ℕ → Type 0
AreColumns width [] = Unit {0}
AreColumns width (c ∷ cs) = (c < width) × AreColumns width cs

range_columns : (a n width : ℕ) → a + n ≤ width → AreColumns width (range_with_len a n)
range_columns a zero width h = tt
range_columns a (suc n) width h = (omega arith, range_columns (a + 1) n width (omega arith))

pub ratio_columns_within : (from width : ℕ) → from < width → AreColumns width (ratio_columns from width)
ratio_columns_within from width h = (omega arith, range_columns from (width - 1 - from) width (omega arith))

-- an entry over the entry at s is its number over the number at s
ratio_at : (D : ℕ) (ns : List ℤ) (s c m : ℕ) → 0 < D → 0 < m → get_or ns s (pos 0) ≡ pos m → s < length ns → c < length ns → at (fractions D ns) c /ᶠ at (fractions D ns) s ≡ get_or ns c (pos 0) over m
ratio_at D ns s c m h k e w v =
    ap₂ (λ x y. x /ᶠ y) (get_or-map (λ n. n over D) ns c (pos 0) (whole (pos 0)) v) (get_or-map (λ n. n over D) ns s (pos 0) (whole (pos 0)) w ∙ ap (λ n. n over D) e)
    ∙ ratio_is (get_or ns c (pos 0)) D m h k (number_not_nought m D h k)

pub crossed_below_is : (D E : ℕ) (xs ys : List ℤ) (s p q : ℕ) (cs : List ℕ) → 0 < D → 0 < E → 0 < p → 0 < q → get_or xs s (pos 0) ≡ pos p → get_or ys s (pos 0) ≡ pos q → length ys ≡ length xs → s < length xs → AreColumns (length xs) cs → crossed_below (pos p) (pos q) xs ys cs ≡ lex_below (ratios cs s (fractions D xs)) (ratios cs s (fractions E ys))
crossed_below_is D E xs ys s p q [] hD hE hp hq ep eq l w a = refl
crossed_below_is D E xs ys s p q (c ∷ cs) hD hE hp hq ep eq l w a =
    (λ i. cond (sym left i) true (cond (sym right i) false (crossed_below_is D E xs ys s p q cs hD hE hp hq ep eq l w a.1 i)))
  where
    x_is : at (fractions D xs) c /ᶠ at (fractions D xs) s ≡ get_or xs c (pos 0) over p
    x_is = ratio_at D xs s c p hD hp ep w a.0

    y_is : at (fractions E ys) c /ᶠ at (fractions E ys) s ≡ get_or ys c (pos 0) over q
    y_is = ratio_at E ys s c q hE hq eq (omega arith) (omega (arith, a.0))

    left : less (at (fractions D xs) c /ᶠ at (fractions D xs) s) (at (fractions E ys) c /ᶠ at (fractions E ys) s) ≡ int_lt (get_or xs c (pos 0) *ℤ pos q) (get_or ys c (pos 0) *ℤ pos p)
    left = ap₂ less x_is y_is ∙ less_over (get_or xs c (pos 0)) (get_or ys c (pos 0)) p q hp hq

    right : less (at (fractions E ys) c /ᶠ at (fractions E ys) s) (at (fractions D xs) c /ᶠ at (fractions D xs) s) ≡ int_lt (get_or ys c (pos 0) *ℤ pos p) (get_or xs c (pos 0) *ℤ pos q)
    right = ap₂ less y_is x_is ∙ less_over (get_or ys c (pos 0)) (get_or xs c (pos 0)) q p hq hp

-- ---- a row divided by one of its entries
pub unit_is : (D : ℕ) (ns : List ℤ) (s m : ℕ) → 0 < D → 0 < m → get_or ns s (pos 0) ≡ pos m → s < length ns → unit_row s (fractions D ns) ≡ fractions m ns
unit_is D ns s m h k e w =
    ap (λ a. map (λ x. x /ᶠ a) (fractions D ns)) (get_or-map (λ n. n over D) ns s (pos 0) (whole (pos 0)) w ∙ ap (λ n. n over D) e) ∙ all ns
  where
    all : (ns : List ℤ) → map (λ x. x /ᶠ pos m over D) (fractions D ns) ≡ fractions m ns
    all [] = refl
    all (n ∷ ns) = ap₂ (λ x xs. x ∷ xs) (ratio_is n D m h k (number_not_nought m D h k)) (all ns)
