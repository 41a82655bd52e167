-- A tableau's lists read as a table, and that the list pivot is the pivot of `Pivot`.
use Rattle.std.proofs.Common.{◌≡◌, ◌≢◌, ℕ, zero, suc, ◌+◌, ◌-◌, ◌<◌, ◌≤◌, ◌⊎◌, inl, inr, pos, neg_ℤ, arith, refl, sym, ap, ◌∙◌, subst, List, [], ◌∷◌, map, set, length, get_or, Bool, true, false, cond, eqb, ltb, eq-eqb, ne_eqb, lt-ltb, le-ltb}
use Rattle.std.proofs.lemmas.List.{get_or-set_same, get_or-set_other, get_or-map, get_or_past, length-map}
use Rattle.std.proofs.lemmas.Int.{ints}
use Rattle.nrm_number.proofs.Ring.{solve, ◌⊖◌, v0, v1}
use Rattle.nrm_number.proofs.Ring.Expr.{◌⊗◌, e0}
use Rattle.std.specs.List.{range_with_len}
use Rattle.std.proofs.lemmas.List.FromFn.{length-range_with_len, get_or-range_with_len}
use Rattle.std.proofs.lemmas.Bool.{cases_lt}
use Rattle.nrm_fraction.specs.Fraction.{Fraction, ◌*ᶠ◌, ◌-ᶠ◌, ◌/ᶠ◌, inverse, whole}
use Rattle.nrm_lp.specs.Program.{ProgramValue, names}
use Rattle.nrm_lp.specs.Tableau.{Tableau, product_count, row_count, slack, right_side, one_if, row_bound, uses, first_entry, first_value, first_tableau, pivot}
use Rattle.nrm_fraction.specs.Rows.{at, unit_row, minus_times, combine}
use Rattle.nrm_fraction.proofs.Field.{ring_F, IsPositive, IsNonNegative, one_positive, positive_value, IsValue_whole}
use Rattle.nrm_lp.proofs.Pivot.{Table, IsPivot, HasFacts, first_facts}

abbrev pub row : Tableau → ℕ → List Fraction
row t i = get_or t.rows i []

abbrev pub table : Tableau → Table
table t = record { t = λ i c. at (row t i) c; v = λ c. at t.value c; b = λ k. get_or t.basis k 0 }

pub at-minus_times : (a : Fraction) (us xs : List Fraction) (c : ℕ) → at (minus_times a us xs) c ≡ at xs c -ᶠ a *ᶠ at us c
at-minus_times a [] xs c = solve ring_F (at xs c ∷ a ∷ []) v0 (v0 ⊖ v1 ⊗ e0) refl
at-minus_times a (u ∷ us) [] zero = refl
at-minus_times a (u ∷ us) [] (suc c) = at-minus_times a us [] c
at-minus_times a (u ∷ us) (x ∷ xs) zero = refl
at-minus_times a (u ∷ us) (x ∷ xs) (suc c) = at-minus_times a us xs c

pub at-divided : (p : Fraction) (xs : List Fraction) (c : ℕ) → at (map (λ x. x /ᶠ p) xs) c ≡ at xs c /ᶠ p
at-divided p [] c = solve ring_F (inverse p ∷ []) e0 (e0 ⊗ v0) refl
at-divided p (x ∷ xs) zero = refl
at-divided p (x ∷ xs) (suc c) = at-divided p xs c

pub row_same : (t : Tableau) (us : List Fraction) (r s : ℕ) → r < length t.rows → get_or (set (map (combine s us) t.rows) r us) r [] ≡ us
row_same t us r s l = get_or-set_same (map (combine s us) t.rows) r us [] (omega (arith, length-map t.rows (combine s us)))

pub row_other : (t : Tableau) (us : List Fraction) (r s i : ℕ) → i < length t.rows → i ≢ r → get_or (set (map (combine s us) t.rows) r us) i [] ≡ combine s us (row t i)
row_other t us r s i l d = get_or-set_other (map (combine s us) t.rows) r i us [] d ∙ get_or-map (combine s us) t.rows i [] [] l

pub pivot_is : (t : Tableau) (r s : ℕ) → r < length t.rows → length t.basis ≡ length t.rows → IsPositive (at (row t r) s) → IsPivot (length t.rows) (table t) (table (pivot t r s)) r s
pivot_is t r s l shape p = record {
  row = l;
  entry = p;
  unit = λ c. ap (λ xs. at xs c) (row_same t (unit_row s (row t r)) r s l) ∙ at-divided (at (row t r) s) (row t r) c;
  others = λ i c li d.
      ap (λ xs. at xs c) (row_other t (unit_row s (row t r)) r s i li d)
      ∙ at-minus_times (at (row t i) s) (unit_row s (row t r)) (row t i) c
      ∙ ap (λ xs. at (row t i) c -ᶠ at (row t i) s *ᶠ at xs c) (sym (row_same t (unit_row s (row t r)) r s l));
  value = λ c.
      at-minus_times (at t.value s) (unit_row s (row t r)) t.value c
      ∙ ap (λ xs. at t.value c -ᶠ at t.value s *ᶠ at xs c) (sym (row_same t (unit_row s (row t r)) r s l));
  basic = get_or-set_same t.basis r s 0 (omega arith);
  kept = λ k lk d. get_or-set_other t.basis r k s 0 d;
}

-- ---- the first tableau
pub made_at : (f : ℕ → Fraction) (n c : ℕ) → c < n → at (map f (range_with_len 0 n)) c ≡ f c
made_at f n c l = get_or-map f (range_with_len 0 n) c 0 (whole (pos 0)) (omega (arith, length-range_with_len 0 n)) ∙ ap f (get_or-range_with_len 0 n c 0 l ∙ omega arith)

pub first_rows : (a : ProgramValue) → length (first_tableau a).rows ≡ row_count a
first_rows a = length-map (range_with_len 0 (row_count a)) (λ i. map (first_entry a i) (range_with_len 0 (suc (right_side a)))) ∙ length-range_with_len 0 (row_count a)

pub first_at : (a : ProgramValue) (i c : ℕ) → i < row_count a → c < suc (right_side a) → at (row (first_tableau a) i) c ≡ first_entry a i c
first_at a i c l lc =
    ap (λ xs. at xs c)
    (get_or-map (λ j. map (first_entry a j) (range_with_len 0 (suc (right_side a)))) (range_with_len 0 (row_count a)) i 0 [] (omega (arith, length-range_with_len 0 (row_count a)))
    ∙ ap (λ j. map (first_entry a j) (range_with_len 0 (suc (right_side a)))) (get_or-range_with_len 0 (row_count a) i 0 l ∙ omega arith))
    ∙ made_at (first_entry a i) (suc (right_side a)) c lc

pub first_value_at : (a : ProgramValue) (c : ℕ) → c < suc (right_side a) → at (first_tableau a).value c ≡ first_value a c
first_value_at a c l = made_at (first_value a) (suc (right_side a)) c l

pub first_basis_at : (a : ProgramValue) (k : ℕ) → k < row_count a → get_or (first_tableau a).basis k 0 ≡ slack a k
first_basis_at a k l = get_or-map (slack a) (range_with_len 0 (row_count a)) k 0 0 (omega (arith, length-range_with_len 0 (row_count a))) ∙ ap (slack a) (get_or-range_with_len 0 (row_count a) k 0 l ∙ omega arith)

-- ---- entries of the first tableau, by kind
pub leg_entry : (a : ProgramValue) (i c : ℕ) → i < length a.caps → c < product_count a → first_entry a i c ≡ one_if (names i (get_or a.legs c []))
leg_entry a i c li lc =
    ap (λ b. cond b (one_if (uses a i c)) (cond (ltb c (right_side a)) (one_if (eqb c (slack a i))) (whole (pos (row_bound a i))))) (lt-ltb c (product_count a) lc)
    ∙ ap (λ b. one_if (cond b (names i (get_or a.legs c [])) (eqb c (i - length a.caps)))) (lt-ltb i (length a.caps) li)

pub bound_entry : (a : ProgramValue) (j c : ℕ) → c < product_count a → first_entry a (length a.caps + j) c ≡ one_if (eqb c j)
bound_entry a j c lc =
    ap (λ b. cond b (one_if (uses a (length a.caps + j) c)) (cond (ltb c (right_side a)) (one_if (eqb c (slack a (length a.caps + j)))) (whole (pos (row_bound a (length a.caps + j)))))) (lt-ltb c (product_count a) lc)
    ∙ ap (λ b. one_if (cond b (names (length a.caps + j) (get_or a.legs c [])) (eqb c (length a.caps + j - length a.caps)))) (le-ltb (length a.caps + j) (length a.caps) (omega arith))
    ∙ ap (λ k. one_if (eqb c k)) back
  where
    back : length a.caps + j - length a.caps ≡ j
    back = omega arith

pub end_entry : (a : ProgramValue) (i : ℕ) → first_entry a i (right_side a) ≡ whole (pos (row_bound a i))
end_entry a i =
    ap (λ b. cond b (one_if (uses a i (right_side a))) (cond (ltb (right_side a) (right_side a)) (one_if (eqb (right_side a) (slack a i))) (whole (pos (row_bound a i))))) (le-ltb (right_side a) (product_count a) (omega arith))
    ∙ ap (λ b. cond b (one_if (eqb (right_side a) (slack a i))) (whole (pos (row_bound a i)))) (le-ltb (right_side a) (right_side a) (omega arith))

pub row_bound-leg : (a : ProgramValue) (i : ℕ) → i < length a.caps → row_bound a i ≡ get_or a.caps i 0
row_bound-leg a i l = ap (λ b. cond b (get_or a.caps i 0) (get_or a.bounds (i - length a.caps) 0)) (lt-ltb i (length a.caps) l)

pub row_bound-product : (a : ProgramValue) (j : ℕ) → row_bound a (length a.caps + j) ≡ get_or a.bounds j 0
row_bound-product a j =
    ap (λ b. cond b (get_or a.caps (length a.caps + j) 0) (get_or a.bounds (length a.caps + j - length a.caps) 0)) (le-ltb (length a.caps + j) (length a.caps) (omega arith))
    ∙ ap (λ k. get_or a.bounds k 0) back
  where
    back : length a.caps + j - length a.caps ≡ j
    back = omega arith

pub slack_entry : (a : ProgramValue) (i c : ℕ) → product_count a ≤ c → c < right_side a → first_entry a i c ≡ one_if (eqb c (slack a i))
slack_entry a i c low high =
    ap (λ b. cond b (one_if (uses a i c)) (cond (ltb c (right_side a)) (one_if (eqb c (slack a i))) (whole (pos (row_bound a i))))) (le-ltb c (product_count a) low)
    ∙ ap (λ b. cond b (one_if (eqb c (slack a i))) (whole (pos (row_bound a i)))) (lt-ltb c (right_side a) high)

pub fare_entry : (a : ProgramValue) (c : ℕ) → c < product_count a → first_value a c ≡ whole (neg_ℤ (pos (get_or a.fares c 0)))
fare_entry a c l = ap (λ b. cond b (whole (neg_ℤ (pos (get_or a.fares c 0)))) (whole (pos 0))) (lt-ltb c (product_count a) l)

pub nought_entry : (a : ProgramValue) (c : ℕ) → product_count a ≤ c → first_value a c ≡ whole (pos 0)
nought_entry a c l = ap (λ b. cond b (whole (neg_ℤ (pos (get_or a.fares c 0)))) (whole (pos 0))) (le-ltb c (product_count a) l)

-- at a slack column the entry is 1 in its own row, and 0 in the others
pub entry_slack : (a : ProgramValue) (i k : ℕ) → k < row_count a → first_entry a i (slack a k) ≡ one_if (eqb (slack a k) (slack a i))
entry_slack a i k l =
    ap (λ b. cond b (one_if (uses a i (slack a k))) (cond (ltb (slack a k) (right_side a)) (one_if (eqb (slack a k) (slack a i))) (whole (pos (row_bound a i))))) (le-ltb (slack a k) (product_count a) (omega arith))
    ∙ ap (λ b. cond b (one_if (eqb (slack a k) (slack a i))) (whole (pos (row_bound a i)))) (lt-ltb (slack a k) (right_side a) (omega arith))

pub first_has_facts : (a : ProgramValue) → HasFacts (row_count a) (slack a) (table (first_tableau a)) (table (first_tableau a))
first_has_facts a =
    first_facts (row_count a) (slack a) (table (first_tableau a))
    (λ k l. first_basis_at a k l)
    (λ i k l lk d. first_at a i (slack a k) l (omega arith) ∙ entry_slack a i k lk ∙ ap one_if (ne_eqb (slack a k) (slack a i) (λ e. d (omega arith))))
    (λ k lk. first_at a k (slack a k) lk (omega arith) ∙ entry_slack a k k lk ∙ ap one_if (eq-eqb (slack a k) (slack a k) refl))
    (λ k lk. first_value_at a (slack a k) (omega arith) ∙ ap (λ b. cond b (whole (neg_ℤ (pos (get_or a.fares (slack a k) 0)))) (whole (pos 0))) (le-ltb (slack a k) (product_count a) (omega arith)))

-- ---- signs of the first constraint rows
one_if_sign : (b : Bool) → IsNonNegative (one_if b)
one_if_sign true = inl one_positive
one_if_sign false = inr refl

whole_sign : (n : ℕ) → IsNonNegative (whole (pos n))
whole_sign zero = inr refl
whole_sign (suc n) = inl (positive_value (whole (pos (suc n))) (pos (suc n)) 1 (IsValue_whole (pos (suc n))) (omega (arith, ints)))

entry_sign : (a : ProgramValue) (i c : ℕ) → IsNonNegative (first_entry a i c)
entry_sign a i c = go (ltb c (product_count a)) (ltb c (right_side a))
  where
    go : (p q : Bool) → IsNonNegative (cond p (one_if (uses a i c)) (cond q (one_if (eqb c (slack a i))) (whole (pos (row_bound a i)))))
    go true q = one_if_sign (uses a i c)
    go false true = one_if_sign (eqb c (slack a i))
    go false false = whole_sign (row_bound a i)

past_end : (a : ProgramValue) (i c : ℕ) → i < row_count a → right_side a < c → at (row (first_tableau a) i) c ≡ whole (pos 0)
past_end a i c l lc =
    ap (λ xs. at xs c)
    (get_or-map (λ j. map (first_entry a j) (range_with_len 0 (suc (right_side a)))) (range_with_len 0 (row_count a)) i 0 [] (omega (arith, length-range_with_len 0 (row_count a))))
    ∙ get_or_past (map (first_entry a (get_or (range_with_len 0 (row_count a)) i 0)) (range_with_len 0 (suc (right_side a)))) c (whole (pos 0))
    (omega (arith, length-map (range_with_len 0 (suc (right_side a))) (first_entry a (get_or (range_with_len 0 (row_count a)) i 0)), length-range_with_len 0 (suc (right_side a))))

pub first_sign : (a : ProgramValue) (i c : ℕ) → i < row_count a → IsNonNegative (at (row (first_tableau a) i) c)
first_sign a i c l = go (within_or_past c (right_side a))
  where
    within_or_past : (c n : ℕ) → (c < suc n) ⊎ (n < c)
    within_or_past c n = grind arith

    go : (c < suc (right_side a)) ⊎ (right_side a < c) → IsNonNegative (at (row (first_tableau a) i) c)
    go (inl lc) = subst IsNonNegative (sym (first_at a i c l lc)) (entry_sign a i c)
    go (inr lc) = subst IsNonNegative (sym (past_end a i c l lc)) (inr refl)

-- each column before the right side has a 1 in a first row: a product in its bound's, a slack column in its own
entry_product : (a : ProgramValue) (c : ℕ) → c < product_count a → first_entry a (length a.caps + c) c ≡ whole (pos 1)
entry_product a c l =
    ap (λ b. cond b (one_if (uses a (length a.caps + c) c)) (cond (ltb c (right_side a)) (one_if (eqb c (slack a (length a.caps + c)))) (whole (pos (row_bound a (length a.caps + c)))))) (lt-ltb c (product_count a) l)
    ∙ ap (λ b. one_if (cond b (names (length a.caps + c) (get_or a.legs c [])) (eqb c (length a.caps + c - length a.caps)))) (le-ltb (length a.caps + c) (length a.caps) (omega arith))
    ∙ ap one_if (eq-eqb c (length a.caps + c - length a.caps) (omega arith))

pub column_has_one : (a : ProgramValue) (s : ℕ) → s < right_side a → (i : ℕ) × (i < row_count a) × IsPositive (at (row (first_tableau a) i) s)
column_has_one a s l = go (cases_lt s (product_count a))
  where
    go : (s < product_count a) ⊎ (product_count a ≤ s) → (i : ℕ) × (i < row_count a) × IsPositive (at (row (first_tableau a) i) s)
    go (inl lp) = (
      length a.caps + s,
      omega arith,
      subst IsPositive (sym (first_at a (length a.caps + s) s (omega arith) (omega arith) ∙ entry_product a s lp)) one_positive,
    )
    go (inr lp) = (
      s - product_count a,
      omega arith,
      subst (λ c. IsPositive (at (row (first_tableau a) (s - product_count a)) c)) back
          (subst IsPositive (sym (first_at a (s - product_count a) (slack a (s - product_count a)) (omega arith) (omega arith) ∙ entry_slack a (s - product_count a) (s - product_count a) (omega arith) ∙ ap one_if (eq-eqb (slack a (s - product_count a)) (slack a (s - product_count a)) refl))) one_positive),
    )
      where
        back : slack a (s - product_count a) ≡ s
        back = omega arith
