-- The closing of the last tableau is an allocation and prices of the program, and its gain meets its cost.
use Rattle.std.proofs.Common.{◌≡◌, ◌≢◌, ℕ, zero, suc, ◌+◌, ◌*◌, ◌-◌, ◌<◌, ◌≤◌, ◌⊎◌, inl, inr, pos, neg_ℤ, arith, refl, sym, ap, ap₂, ◌∙◌, subst, List, [], ◌∷◌, map, length, get_or, Bool, true, false, cond, eqb, ltb, eq-eqb, ne_eqb, lt-ltb, le-ltb}
use Rattle.std.proofs.lemmas.List.{get_or-map, length-map}
use Rattle.nrm_number.proofs.Ring.{solve, ◌⊖◌, v0, v1, v2, v3}
use Rattle.nrm_number.proofs.Ring.Expr.{◌⊕◌, ◌⊗◌, minus, e0, e1}
use Rattle.std.specs.List.{range_with_len}
use Rattle.std.proofs.lemmas.List.FromFn.{length-range_with_len, get_or-range_with_len}
use Rattle.std.proofs.lemmas.Bool.{cases_eq}
use Rattle.nrm_fraction.specs.Fraction.{Fraction, ◌+ᶠ◌, ◌*ᶠ◌, ◌-ᶠ◌, negative, whole}
use Rattle.nrm_lp.specs.Program.{ProgramValue, dot, names, AreLegs, load, price_sum, surplus, gain, cost, AreProducts, IsProgram, IsAllocation, IsPrices, IsOptimalAllocation, IsOptimalPrices}
use Rattle.nrm_fraction.specs.Large.{common, over_common}
use Rattle.nrm_lp.specs.Tableau.{Tableau, product_count, row_count, slack, right_side, first_entry, first_tableau, row_bound, one_if}
use Rattle.nrm_fraction.specs.Rows.{at}
use Rattle.nrm_lp.specs.Closing.{basic_value, product_values, leg_prices}
use Rattle.nrm_fraction.proofs.Field.{ring_F, IsValue_whole, IsNonNegative, non_negative_product, positive_not_nought, one_positive, cancel_F}
use Rattle.nrm_fraction.proofs.Sums.{sum_to, sum_same, sum_scaled, sum_single, sum_nought, sum_added, sum_non_negative}
use Rattle.nrm_fraction.proofs.Embed.{W, W-positive, W-plus, W-times, W-sign, W-le, W-sum, over_common_at, length-over_common}
use Rattle.nrm_number.proofs.Totals.{sum_below, sum_front}
use Rattle.nrm_lp.proofs.Duality.{dot_is, priced, weak_duality, optimal_allocation, optimal_prices}
use Rattle.nrm_lp.proofs.Pivot.{Table}
use Rattle.nrm_lp.proofs.Tables.{row, table, first_at, first_value_at, leg_entry, bound_entry, end_entry, row_bound-leg, row_bound-product, first_sign}
use Rattle.nrm_lp.proofs.Rule.{IsSound}
use Rattle.nrm_fraction.proofs.Values.{same_value, IsValue_negative}
use lib.IntN.{neg_ℤ-neg_ℤ, ◌*ℤ◌}
use Rattle.nrm_fraction.proofs.Lowest.{common_pos}
use Rattle.nrm_fraction.specs.Lex.{LexPositive}
use Rattle.nrm_lp.proofs.Closing.{keep_if, solution, feasible, value_is_cost, gain_is_value}

-- ---- sums in parts
sum_front_F : (n : ℕ) (f : ℕ → Fraction) → sum_to (suc n) f ≡ f 0 +ᶠ sum_to n (λ k. f (suc k))
sum_front_F zero f = solve ring_F (f 0 ∷ []) (e0 ⊕ v0) (v0 ⊕ e0) refl
sum_front_F (suc n) f = ap (λ s. s +ᶠ f (suc n)) (sum_front_F n f) ∙ solve ring_F (f 0 ∷ sum_to n (λ k. f (suc k)) ∷ f (suc n) ∷ []) ((v0 ⊕ v1) ⊕ v2) (v0 ⊕ (v1 ⊕ v2)) refl

sum_split : (m n : ℕ) (f : ℕ → Fraction) → sum_to (m + n) f ≡ sum_to m f +ᶠ sum_to n (λ j. f (m + j))
sum_split m zero f = ap (λ k. sum_to k f) none ∙ solve ring_F (sum_to m f ∷ []) v0 (v0 ⊕ e0) refl
  where
    none : m + 0 ≡ m
    none = omega arith
sum_split m (suc n) f =
    ap (λ k. sum_to k f) more
    ∙ ap (λ s. s +ᶠ f (m + n)) (sum_split m n f)
    ∙ solve ring_F (sum_to m f ∷ sum_to n (λ j. f (m + j)) ∷ f (m + n) ∷ []) ((v0 ⊕ v1) ⊕ v2) (v0 ⊕ (v1 ⊕ v2)) refl
  where
    more : m + suc n ≡ suc (m + n)
    more = omega arith

-- ---- the basic value is the sum over the rows, where no two rows share a basic column
value_is_sum : (end j : ℕ) (bs : List ℕ) (rows : List (List Fraction)) → length bs ≡ length rows → ((k l : ℕ) → k < length bs → l < length bs → get_or bs k 0 ≡ get_or bs l 0 → k ≡ l) → basic_value end j bs rows ≡ sum_to (length rows) (λ k. keep_if (eqb (get_or bs k 0) j) (at (get_or rows k []) end))
value_is_sum end j [] [] e d = refl
value_is_sum end j [] (xs ∷ rows) e d = absurd (omega arith)
value_is_sum end j (b ∷ bs) [] e d = absurd (omega arith)
value_is_sum end j (b ∷ bs) (xs ∷ rows) e d =
    by_first (value_is_sum end j bs rows (omega arith) (λ k l lk ll q. omega (arith, d (suc k) (suc l) (omega arith) (omega arith) q))) (cases_eq b j)
    ∙ sym (sum_front_F (length rows) (λ k. keep_if (eqb (get_or (b ∷ bs) k 0) j) (at (get_or (xs ∷ rows) k []) end)))
  where
    none : b ≡ j → (k : ℕ) → k < length rows → keep_if (eqb (get_or bs k 0) j) (at (get_or rows k []) end) ≡ whole (pos 0)
    none q k l = ap (λ z. keep_if z (at (get_or rows k []) end)) (ne_eqb (get_or bs k 0) j (λ f. apart (d 0 (suc k) (omega arith) (omega arith) (q ∙ sym f))))
      where
        apart : 0 ≡ suc k → ⊥
        apart f = omega arith

    by_first : basic_value end j bs rows ≡ sum_to (length rows) (λ k. keep_if (eqb (get_or bs k 0) j) (at (get_or rows k []) end)) → (b ≡ j) ⊎ (b ≢ j) → basic_value end j (b ∷ bs) (xs ∷ rows) ≡ keep_if (eqb b j) (at xs end) +ᶠ sum_to (length rows) (λ k. keep_if (eqb (get_or bs k 0) j) (at (get_or rows k []) end))
    by_first ih (inl q) =
        ap (λ z. cond z (at xs end) (basic_value end j bs rows)) (eq-eqb b j q)
        ∙ solve ring_F (at xs end ∷ []) v0 (v0 ⊕ e0) refl
        ∙ sym (ap₂ (λ z r. keep_if z (at xs end) +ᶠ r) (eq-eqb b j q) (sum_nought (length rows) (λ k. keep_if (eqb (get_or bs k 0) j) (at (get_or rows k []) end)) (none q)))
    by_first ih (inr q) =
        ap (λ z. cond z (at xs end) (basic_value end j bs rows)) (ne_eqb b j q)
        ∙ ih
        ∙ solve ring_F (sum_to (length rows) (λ k. keep_if (eqb (get_or bs k 0) j) (at (get_or rows k []) end)) ∷ []) v0 (e0 ⊕ v0) refl
        ∙ sym (ap (λ z. keep_if z (at xs end) +ᶠ sum_to (length rows) (λ k. keep_if (eqb (get_or bs k 0) j) (at (get_or rows k []) end))) (ne_eqb b j q))

-- ---- sums of the program, by index
load_is : (i : ℕ) (legs : List (List ℕ)) (xs : List ℕ) → length legs ≡ length xs → load i legs xs ≡ sum_below (length xs) (λ c. cond (names i (get_or legs c [])) (get_or xs c 0) 0)
load_is i [] [] e = refl
load_is i [] (x ∷ xs) e = absurd (omega arith)
load_is i (ls ∷ legs) [] e = absurd (omega arith)
load_is i (ls ∷ legs) (x ∷ xs) e =
    ap (λ s. cond (names i ls) x 0 + s) (load_is i legs xs (omega arith)) ∙ sym (sum_front (length xs) (λ c. cond (names i (get_or (ls ∷ legs) c [])) (get_or (x ∷ xs) c 0) 0))

pub surplus_is : (n d : ℕ) (p us rs : List ℕ) (legs : List (List ℕ)) → AreProducts n us rs legs → surplus d p us rs legs ≡ sum_below (length us) (λ j. get_or us j 0 * (d * get_or rs j 0 - price_sum p (get_or legs j [])))
surplus_is n d p [] rs legs h = refl
surplus_is n d p (u ∷ us) [] [] h = absurd h
surplus_is n d p (u ∷ us) [] (ls ∷ legs) h = absurd h
surplus_is n d p (u ∷ us) (r ∷ rs) [] h = absurd h
surplus_is n d p (u ∷ us) (r ∷ rs) (ls ∷ legs) h =
    ap (λ s. u * (d * r - price_sum p ls) + s) (surplus_is n d p us rs legs h.1) ∙ sym (sum_front (length us) (λ j. get_or (u ∷ us) j 0 * (d * get_or (r ∷ rs) j 0 - price_sum p (get_or (ls ∷ legs) j []))))

pub lengths_are : (n : ℕ) (us rs : List ℕ) (legs : List (List ℕ)) → AreProducts n us rs legs → (length rs ≡ length us) × (length legs ≡ length us)
lengths_are n [] [] [] h = (refl, refl)
lengths_are n [] [] (ls ∷ legs) h = absurd h
lengths_are n [] (r ∷ rs) legs h = absurd h
lengths_are n (u ∷ us) [] [] h = absurd h
lengths_are n (u ∷ us) [] (ls ∷ legs) h = absurd h
lengths_are n (u ∷ us) (r ∷ rs) [] h = absurd h
lengths_are n (u ∷ us) (r ∷ rs) (ls ∷ legs) h = let w : (length rs ≡ length us) × (length legs ≡ length us) = lengths_are n us rs legs h.1 in (omega arith, omega arith)

legs_are : (n : ℕ) (us rs : List ℕ) (legs : List (List ℕ)) (j : ℕ) → AreProducts n us rs legs → j < length us → AreLegs n (get_or legs j [])
legs_are n [] rs legs j h l = absurd (omega arith)
legs_are n (u ∷ us) [] [] j h l = absurd h
legs_are n (u ∷ us) [] (ls ∷ legs) j h l = absurd h
legs_are n (u ∷ us) (r ∷ rs) [] j h l = absurd h
legs_are n (u ∷ us) (r ∷ rs) (ls ∷ legs) zero h l = h.0
legs_are n (u ∷ us) (r ∷ rs) (ls ∷ legs) (suc j) h l = legs_are n us rs legs j h.1 (omega arith)

W_if : (b : Bool) (x : ℕ) (q y : Fraction) → W x ≡ q *ᶠ y → W (cond b x 0) ≡ q *ᶠ (one_if b *ᶠ y)
W_if true x q y e = e ∙ solve ring_F (q ∷ y ∷ []) (v0 ⊗ v1) (v0 ⊗ (e1 ⊗ v1)) refl
W_if false x q y e = solve ring_F (q ∷ y ∷ []) e0 (v0 ⊗ (e0 ⊗ v1)) refl

neg_whole : (r : ℕ) → negative (whole (neg_ℤ (pos r))) ≡ W r
neg_whole r =
    same_value (negative (whole (neg_ℤ (pos r)))) (W r) _ _ _ _ (IsValue_negative (whole (neg_ℤ (pos r))) _ _ (IsValue_whole (neg_ℤ (pos r)))) (IsValue_whole (pos r))
    (ap (λ z. z *ℤ pos 1) (neg_ℤ-neg_ℤ (pos r)))

module _ (a : ProgramValue) (ok : IsProgram a) (t : Tableau) (h : IsSound a t) (below : (k : ℕ) → k < row_count a → get_or t.basis k 0 < right_side a) (signs : (c : ℕ) → c < right_side a → IsNonNegative (at t.value c)) where
  abbrev first : Table
  first = table (first_tableau a)

  abbrev X : ℕ → Fraction
  X j = solution (row_count a) (product_count a) (right_side a) (slack a) (table (first_tableau a)) (table t) h.facts j

  abbrev values : List Fraction
  values = product_values a t

  distinct : (k l : ℕ) → k < row_count a → l < row_count a → get_or t.basis k 0 ≡ get_or t.basis l 0 → k ≡ l
  distinct k l lk ll e = go (cases_eq k l)
    where
      go : (k ≡ l) ⊎ (k ≢ l) → k ≡ l
      go (inl q) = q
      go (inr d) = absurd (positive_not_nought (whole (pos 1)) one_positive (sym (h.facts.ones k lk) ∙ ap (at (row t k)) e ∙ h.facts.zeros k l lk ll d))

  pub ends : (k : ℕ) → k < row_count a → IsNonNegative (at (row t k) (right_side a))
  ends k l = first_sign_of (at (row t k) (right_side a)) (map (λ c. at (row t k) c) (map (slack a) (range_with_len 0 (row_count a)))) (h.positive k l)
    where
      first_sign_of : (x : Fraction) (xs : List Fraction) → LexPositive (x ∷ xs) → IsNonNegative x
      first_sign_of x xs (inl p) = inl p
      first_sign_of x xs (inr e) = inr e.0

  X_sign : (j : ℕ) → IsNonNegative (X j)
  X_sign j = sum_non_negative (row_count a) (λ k. keep_if (eqb (get_or t.basis k 0) j) (at (row t k) (right_side a))) (λ k l. kept (eqb (get_or t.basis k 0) j) (at (row t k) (right_side a)) (ends k l))
    where
      kept : (b : Bool) (x : Fraction) → IsNonNegative x → IsNonNegative (keep_if b x)
      kept true x p = p
      kept false x p = inr refl

  length-values : length values ≡ product_count a
  length-values = length-map (range_with_len 0 (product_count a)) (λ j. basic_value (right_side a) j t.basis t.rows) ∙ length-range_with_len 0 (product_count a)

  value_at : (j : ℕ) → j < product_count a → get_or values j (whole (pos 0)) ≡ X j
  value_at j l =
      get_or-map (λ j. basic_value (right_side a) j t.basis t.rows) (range_with_len 0 (product_count a)) j 0 (whole (pos 0)) (omega (arith, length-range_with_len 0 (product_count a)))
      ∙ ap (λ j. basic_value (right_side a) j t.basis t.rows) (get_or-range_with_len 0 (product_count a) j 0 l ∙ omega arith)
      ∙ value_is_sum (right_side a) j t.basis t.rows (h.basis_shape ∙ sym h.shape) (λ k l lk ll e. distinct k l (omega (arith, h.basis_shape)) (omega (arith, h.basis_shape)) e)
      ∙ ap (λ n. sum_to n (λ k. keep_if (eqb (get_or t.basis k 0) j) (at (get_or t.rows k []) (right_side a)))) h.shape

  abbrev q : ℕ
  q = common (product_values a t)

  abbrev x : List ℕ
  x = over_common (product_values a t)

  x_at : (j : ℕ) → j < product_count a → W (get_or (over_common (product_values a t)) j 0) ≡ W (common (product_values a t)) *ᶠ X j
  x_at j l =
      over_common_at (product_values a t) j (omega (arith, length-values)) (subst IsNonNegative (sym (value_at j l)) (X_sign j))
      ∙ ap (λ y. W (common (product_values a t)) *ᶠ y) (value_at j l)

  abbrev pub P : ℕ → Fraction
  P l = at t.value (slack a l)

  pub P_sign : (l : ℕ) → l < row_count a → IsNonNegative (P l)
  P_sign l ll = signs (slack a l) (omega arith)

  pub length-prices : length (leg_prices a t) ≡ length a.caps
  length-prices = length-map (range_with_len 0 (length a.caps)) (λ i. at t.value (slack a i)) ∙ length-range_with_len 0 (length a.caps)

  pub p_at : (i : ℕ) → i < length a.caps → W (get_or (over_common (leg_prices a t)) i 0) ≡ W (common (leg_prices a t)) *ᶠ P i
  p_at i l =
      over_common_at (leg_prices a t) i (omega (arith, length-prices)) (subst IsNonNegative (sym price) (P_sign i (omega arith)))
      ∙ ap (λ y. W (common (leg_prices a t)) *ᶠ y) price
    where
      price : get_or (leg_prices a t) i (whole (pos 0)) ≡ P i
      price = get_or-map (λ i. at t.value (slack a i)) (range_with_len 0 (length a.caps)) i 0 (whole (pos 0)) (omega (arith, length-range_with_len 0 (length a.caps))) ∙ ap (λ k. at t.value (slack a k)) (get_or-range_with_len 0 (length a.caps) i 0 l ∙ omega arith)

  -- ---- the allocation
  row_feasible : (i : ℕ) → i < row_count a → IsNonNegative (W (row_bound a i) -ᶠ sum_to (product_count a) (λ c. first_entry a i c *ᶠ X c))
  row_feasible i l =
      subst IsNonNegative
      (ap₂ (λ s r. s -ᶠ r) (first_at a i (right_side a) l (omega arith) ∙ end_entry a i)
      (sum_same (product_count a) (λ c. at (row (first_tableau a) i) c *ᶠ X c) (λ c. first_entry a i c *ᶠ X c) (λ c lc. ap (λ y. y *ᶠ X c) (first_at a i c l (omega arith)))))
      (feasible (row_count a) (product_count a) (right_side a) (slack a) (table (first_tableau a)) (table t) h.facts i l (λ c. first_sign a i c l) ends)

  -- q times what a row leaves over
  scaled : (n : ℕ) (m : ℕ) (y : Fraction) → W m ≡ W q *ᶠ y → IsNonNegative (W n -ᶠ y) → m ≤ q * n
  scaled n m y e s =
      W-le m (q * n)
      (subst IsNonNegative
      (solve ring_F (W q ∷ W n ∷ y ∷ []) (v0 ⊗ (v1 ⊖ v2)) (v0 ⊗ v1 ⊖ v0 ⊗ v2) refl ∙ sym (ap₂ (λ u v. u -ᶠ v) (W-times q n) e))
      (non_negative_product (W q) (W n -ᶠ y) (W-sign q) s))

  pub length-x : length (over_common (product_values a t)) ≡ product_count a
  length-x = length-over_common (product_values a t) ∙ length-values

  load_value : (i : ℕ) → i < length a.caps → W (load i a.legs (over_common (product_values a t))) ≡ W q *ᶠ sum_to (product_count a) (λ c. first_entry a i c *ᶠ X c)
  load_value i l =
      ap W (load_is i a.legs (over_common (product_values a t)) ((lengths_are (length a.caps) a.bounds a.fares a.legs ok).1 ∙ sym length-x)
      ∙ ap (λ n. sum_below n (λ c. cond (names i (get_or a.legs c [])) (get_or (over_common (product_values a t)) c 0) 0)) length-x)
      ∙ W-sum (product_count a) (λ c. cond (names i (get_or a.legs c [])) (get_or (over_common (product_values a t)) c 0) 0)
      ∙ sum_same (product_count a) (λ c. W (cond (names i (get_or a.legs c [])) (get_or (over_common (product_values a t)) c 0) 0)) (λ c. W q *ᶠ (first_entry a i c *ᶠ X c))
      (λ c lc. W_if (names i (get_or a.legs c [])) (get_or (over_common (product_values a t)) c 0) (W q) (X c) (x_at c lc) ∙ ap (λ y. W q *ᶠ (y *ᶠ X c)) (sym (leg_entry a i c l lc)))
      ∙ sum_scaled (product_count a) (W q) (λ c. first_entry a i c *ᶠ X c)

  bound_value : (j : ℕ) → j < product_count a → sum_to (product_count a) (λ c. first_entry a (length a.caps + j) c *ᶠ X c) ≡ X j
  bound_value j l =
      sum_single (product_count a) j (λ c. first_entry a (length a.caps + j) c *ᶠ X c) l
      (λ c lc d. ap (λ y. y *ᶠ X c) (bound_entry a j c lc ∙ ap one_if (ne_eqb c j d)) ∙ solve ring_F (X c ∷ []) (e0 ⊗ v0) e0 refl)
      ∙ ap (λ y. y *ᶠ X j) (bound_entry a j j l ∙ ap one_if (eq-eqb j j refl)) ∙ solve ring_F (X j ∷ []) (e1 ⊗ v0) v0 refl

  pub is_allocation : IsAllocation a (common (product_values a t)) (over_common (product_values a t))
  is_allocation = record {
    whole = common_pos (product_values a t);
    shape = length-x;
    within = λ j l.
        let lj : j < product_count a = omega (arith, length-x) in
        scaled (get_or a.bounds j 0) (get_or (over_common (product_values a t)) j 0) (X j) (x_at j lj)
        (subst IsNonNegative (ap₂ (λ n y. W n -ᶠ y) (row_bound-product a j) (bound_value j lj)) (row_feasible (length a.caps + j) (omega arith)));
    seats = λ i l.
        scaled (get_or a.caps i 0) (load i a.legs (over_common (product_values a t))) (sum_to (product_count a) (λ c. first_entry a i c *ᶠ X c)) (load_value i l)
        (subst (λ n. IsNonNegative (W n -ᶠ sum_to (product_count a) (λ c. first_entry a i c *ᶠ X c))) (row_bound-leg a i l) (row_feasible i (omega arith)));
  }

  pub are_prices : IsPrices a (common (leg_prices a t)) (over_common (leg_prices a t))
  are_prices = record { whole = common_pos (leg_prices a t); shape = length-over_common (leg_prices a t) ∙ length-prices }

  -- ---- the gain is q times the value row's right side
  abbrev V : Fraction
  V = at t.value (right_side a)

  first_end : at (first_tableau a).value (right_side a) ≡ whole (pos 0)
  first_end = first_value_at a (right_side a) (omega arith) ∙ ap (λ b. cond b (whole (neg_ℤ (pos (get_or a.fares (right_side a) 0)))) (whole (pos 0))) (le-ltb (right_side a) (product_count a) (omega arith))

  outside : (k : ℕ) → k < row_count a → ltb (get_or t.basis k 0) (product_count a) ≡ false → at (first_tableau a).value (get_or t.basis k 0) ≡ whole (pos 0)
  outside k l e = first_value_at a (get_or t.basis k 0) (omega (arith, below k l)) ∙ ap (λ b. cond b (whole (neg_ℤ (pos (get_or a.fares (get_or t.basis k 0) 0)))) (whole (pos 0))) e

  fare_at : (j : ℕ) → j < product_count a → negative (at (first_tableau a).value j) ≡ W (get_or a.fares j 0)
  fare_at j l =
      ap negative (first_value_at a j (omega arith) ∙ ap (λ b. cond b (whole (neg_ℤ (pos (get_or a.fares j 0)))) (whole (pos 0))) (lt-ltb j (product_count a) l))
      ∙ neg_whole (get_or a.fares j 0)

  pub gain_value : W (gain a (over_common (product_values a t))) ≡ W q *ᶠ V
  gain_value =
      ap W (dot_is a.fares (over_common (product_values a t)) (length-x ∙ sym fares_count)
      ∙ ap (λ n. sum_below n (λ k. get_or a.fares k 0 * get_or (over_common (product_values a t)) k 0)) fares_count)
      ∙ W-sum (product_count a) (λ k. get_or a.fares k 0 * get_or (over_common (product_values a t)) k 0)
      ∙ sum_same (product_count a) (λ k. W (get_or a.fares k 0 * get_or (over_common (product_values a t)) k 0)) (λ k. W q *ᶠ (negative (at (first_tableau a).value k) *ᶠ X k))
      (λ k l. W-times (get_or a.fares k 0) (get_or (over_common (product_values a t)) k 0)
      ∙ ap₂ (λ r y. r *ᶠ y) (sym (fare_at k l)) (x_at k l)
      ∙ solve ring_F (negative (at (first_tableau a).value k) ∷ W q ∷ X k ∷ []) (v0 ⊗ (v1 ⊗ v2)) (v1 ⊗ (v0 ⊗ v2)) refl)
      ∙ sum_scaled (product_count a) (W q) (λ k. negative (at (first_tableau a).value k) *ᶠ X k)
      ∙ ap (λ y. W q *ᶠ y) (gain_is_value (row_count a) (product_count a) (right_side a) (slack a) (table (first_tableau a)) (table t) h.facts first_end outside)
    where
      fares_count : length a.fares ≡ product_count a
      fares_count = (lengths_are (length a.caps) a.bounds a.fares a.legs ok).0

  -- ---- the cost is at most den times it
  abbrev D : ℕ
  D = common (leg_prices a t)

  abbrev p : List ℕ
  p = over_common (leg_prices a t)

  value_in_parts : V ≡ sum_to (length a.caps) (λ l. P l *ᶠ W (get_or a.caps l 0)) +ᶠ sum_to (product_count a) (λ j. P (length a.caps + j) *ᶠ W (get_or a.bounds j 0))
  value_in_parts =
      value_is_cost (row_count a) (product_count a) (right_side a) (slack a) (table (first_tableau a)) (table t) h.facts first_end
      ∙ sum_split (length a.caps) (product_count a) (λ l. P l *ᶠ at (row (first_tableau a) l) (right_side a))
      ∙ ap₂ (λ s r. s +ᶠ r)
      (sum_same (length a.caps) (λ l. P l *ᶠ at (row (first_tableau a) l) (right_side a)) (λ l. P l *ᶠ W (get_or a.caps l 0))
      (λ l ll. ap (λ y. P l *ᶠ y) (first_at a l (right_side a) (omega arith) (omega arith) ∙ end_entry a l ∙ ap W (row_bound-leg a l ll))))
      (sum_same (product_count a) (λ j. P (length a.caps + j) *ᶠ at (row (first_tableau a) (length a.caps + j)) (right_side a)) (λ j. P (length a.caps + j) *ᶠ W (get_or a.bounds j 0))
      (λ j lj. ap (λ y. P (length a.caps + j) *ᶠ y) (first_at a (length a.caps + j) (right_side a) (omega arith) (omega arith) ∙ end_entry a (length a.caps + j) ∙ ap W (row_bound-product a j))))

  -- the price sum of a product, and that its fare is at most it and its bound's price
  price_sum_value : (j : ℕ) → j < product_count a → W (price_sum p (get_or a.legs j [])) ≡ W D *ᶠ sum_to (length a.caps) (λ l. P l *ᶠ one_if (names l (get_or a.legs j [])))
  price_sum_value j lj =
      ap W (one (price_sum p (get_or a.legs j [])) ∙ sym (priced (length a.caps) p (get_or a.legs j []) 1 (legs_are (length a.caps) a.bounds a.fares a.legs j ok lj)))
      ∙ W-sum (length a.caps) (λ k. get_or p k 0 * cond (names k (get_or a.legs j [])) 1 0)
      ∙ sum_same (length a.caps) (λ k. W (get_or p k 0 * cond (names k (get_or a.legs j [])) 1 0)) (λ k. W D *ᶠ (P k *ᶠ one_if (names k (get_or a.legs j []))))
      (λ k lk. W-times (get_or p k 0) (cond (names k (get_or a.legs j [])) 1 0)
      ∙ ap₂ (λ y z. y *ᶠ z) (p_at k lk) (W_one (names k (get_or a.legs j [])))
      ∙ solve ring_F (W D ∷ P k ∷ one_if (names k (get_or a.legs j [])) ∷ []) (v0 ⊗ v1 ⊗ v2) (v0 ⊗ (v1 ⊗ v2)) refl)
      ∙ sum_scaled (length a.caps) (W D) (λ k. P k *ᶠ one_if (names k (get_or a.legs j [])))
    where
      one : (n : ℕ) → n ≡ n * 1
      one n = omega arith

      W_one : (b : Bool) → W (cond b 1 0) ≡ one_if b
      W_one true = refl
      W_one false = refl

  dual_value : (j : ℕ) → j < product_count a → at t.value j ≡ negative (W (get_or a.fares j 0)) +ᶠ (sum_to (length a.caps) (λ l. P l *ᶠ one_if (names l (get_or a.legs j []))) +ᶠ P (length a.caps + j))
  dual_value j lj =
      h.facts.value_from_first j
      ∙ ap₂ (λ y z. y +ᶠ z)
      (solve ring_F (at (first_tableau a).value j ∷ []) v0 (minus (minus v0)) refl ∙ ap negative (fare_at j lj))
      (sum_split (length a.caps) (product_count a) (λ l. P l *ᶠ at (row (first_tableau a) l) j)
      ∙ ap₂ (λ y z. y +ᶠ z)
      (sum_same (length a.caps) (λ l. P l *ᶠ at (row (first_tableau a) l) j) (λ l. P l *ᶠ one_if (names l (get_or a.legs j [])))
      (λ l ll. ap (λ y. P l *ᶠ y) (first_at a l j (omega arith) (omega arith) ∙ leg_entry a l j ll lj)))
      (sum_single (product_count a) j (λ i. P (length a.caps + i) *ᶠ at (row (first_tableau a) (length a.caps + i)) j) lj
      (λ i li d. ap (λ y. P (length a.caps + i) *ᶠ y) (first_at a (length a.caps + i) j (omega arith) (omega arith) ∙ bound_entry a i j lj ∙ ap one_if (ne_eqb j i (λ e. d (sym e)))) ∙ solve ring_F (P (length a.caps + i) ∷ []) (v0 ⊗ e0) e0 refl)
      ∙ ap (λ y. P (length a.caps + j) *ᶠ y) (first_at a (length a.caps + j) j (omega arith) (omega arith) ∙ bound_entry a j j lj ∙ ap one_if (eq-eqb j j refl))
      ∙ solve ring_F (P (length a.caps + j) ∷ []) (v0 ⊗ e1) v0 refl))

  -- what a fare exceeds its price sum by is at most the bound's price
  excess : (j : ℕ) → j < product_count a → IsNonNegative (W D *ᶠ P (length a.caps + j) -ᶠ W (D * get_or a.fares j 0 - price_sum p (get_or a.legs j [])))
  excess j lj = go (less_or_more (D * get_or a.fares j 0) (price_sum p (get_or a.legs j [])))
    where
      less_or_more : (m n : ℕ) → (m - n ≡ 0) ⊎ (m ≡ n + (m - n))
      less_or_more m n = grind arith

      go : (D * get_or a.fares j 0 - price_sum p (get_or a.legs j []) ≡ 0) ⊎ (D * get_or a.fares j 0 ≡ price_sum p (get_or a.legs j []) + (D * get_or a.fares j 0 - price_sum p (get_or a.legs j []))) → IsNonNegative (W D *ᶠ P (length a.caps + j) -ᶠ W (D * get_or a.fares j 0 - price_sum p (get_or a.legs j [])))
      go (inl e) =
          subst IsNonNegative (solve ring_F (W D *ᶠ P (length a.caps + j) ∷ []) v0 (v0 ⊖ e0) refl ∙ ap (λ n. W D *ᶠ P (length a.caps + j) -ᶠ W n) (sym e))
          (non_negative_product (W D) (P (length a.caps + j)) (W-sign D) (P_sign (length a.caps + j) (omega arith)))
      go (inr e) =
          subst IsNonNegative
          (ap (λ y. W D *ᶠ y) (dual_value j lj)
          ∙ solve ring_F (W D ∷ W (get_or a.fares j 0) ∷ sum_to (length a.caps) (λ l. P l *ᶠ one_if (names l (get_or a.legs j []))) ∷ P (length a.caps + j) ∷ []) (v0 ⊗ (minus v1 ⊕ (v2 ⊕ v3))) (v0 ⊗ v3 ⊖ (v0 ⊗ v1 ⊖ v0 ⊗ v2)) refl
          ∙ ap₂ (λ y z. W D *ᶠ P (length a.caps + j) -ᶠ (y -ᶠ z)) (sym (W-times D (get_or a.fares j 0)) ∙ ap W e ∙ W-plus (price_sum p (get_or a.legs j [])) (D * get_or a.fares j 0 - price_sum p (get_or a.legs j []))) (sym (price_sum_value j lj))
          ∙ solve ring_F (W D *ᶠ P (length a.caps + j) ∷ W (price_sum p (get_or a.legs j [])) ∷ W (D * get_or a.fares j 0 - price_sum p (get_or a.legs j [])) ∷ []) (v0 ⊖ ((v1 ⊕ v2) ⊖ v1)) (v0 ⊖ v2) refl)
          (non_negative_product (W D) (at t.value j) (W-sign D) (signs j (omega arith)))

  caps_value : W (dot a.caps p) ≡ W D *ᶠ sum_to (length a.caps) (λ l. P l *ᶠ W (get_or a.caps l 0))
  caps_value =
      ap W (dot_is a.caps p (length-over_common (leg_prices a t) ∙ length-prices))
      ∙ W-sum (length a.caps) (λ k. get_or a.caps k 0 * get_or p k 0)
      ∙ sum_same (length a.caps) (λ k. W (get_or a.caps k 0 * get_or p k 0)) (λ k. W D *ᶠ (P k *ᶠ W (get_or a.caps k 0)))
      (λ k lk. W-times (get_or a.caps k 0) (get_or p k 0) ∙ ap (λ y. W (get_or a.caps k 0) *ᶠ y) (p_at k lk) ∙ solve ring_F (W (get_or a.caps k 0) ∷ W D ∷ P k ∷ []) (v0 ⊗ (v1 ⊗ v2)) (v1 ⊗ (v2 ⊗ v0)) refl)
      ∙ sum_scaled (length a.caps) (W D) (λ k. P k *ᶠ W (get_or a.caps k 0))

  surplus_value : W (surplus D p a.bounds a.fares a.legs) ≡ sum_to (product_count a) (λ j. W (get_or a.bounds j 0) *ᶠ W (D * get_or a.fares j 0 - price_sum p (get_or a.legs j [])))
  surplus_value =
      ap W (surplus_is (length a.caps) D p a.bounds a.fares a.legs ok)
      ∙ W-sum (product_count a) (λ j. get_or a.bounds j 0 * (D * get_or a.fares j 0 - price_sum p (get_or a.legs j [])))
      ∙ sum_same (product_count a) (λ j. W (get_or a.bounds j 0 * (D * get_or a.fares j 0 - price_sum p (get_or a.legs j [])))) (λ j. W (get_or a.bounds j 0) *ᶠ W (D * get_or a.fares j 0 - price_sum p (get_or a.legs j [])))
      (λ j lj. W-times (get_or a.bounds j 0) (D * get_or a.fares j 0 - price_sum p (get_or a.legs j [])))

  left_over : IsNonNegative (sum_to (product_count a) (λ j. W (get_or a.bounds j 0) *ᶠ (W D *ᶠ P (length a.caps + j) -ᶠ W (D * get_or a.fares j 0 - price_sum p (get_or a.legs j [])))))
  left_over =
      sum_non_negative (product_count a) (λ j. W (get_or a.bounds j 0) *ᶠ (W D *ᶠ P (length a.caps + j) -ᶠ W (D * get_or a.fares j 0 - price_sum p (get_or a.legs j []))))
      (λ j lj. non_negative_product (W (get_or a.bounds j 0)) (W D *ᶠ P (length a.caps + j) -ᶠ W (D * get_or a.fares j 0 - price_sum p (get_or a.legs j []))) (W-sign (get_or a.bounds j 0)) (excess j lj))

  left_over_is : sum_to (product_count a) (λ j. W (get_or a.bounds j 0) *ᶠ (W D *ᶠ P (length a.caps + j) -ᶠ W (D * get_or a.fares j 0 - price_sum p (get_or a.legs j [])))) ≡ W D *ᶠ V -ᶠ W (cost a D p)
  left_over_is =
      sum_same (product_count a) (λ j. W (get_or a.bounds j 0) *ᶠ (W D *ᶠ P (length a.caps + j) -ᶠ W (D * get_or a.fares j 0 - price_sum p (get_or a.legs j []))))
      (λ j. W D *ᶠ (P (length a.caps + j) *ᶠ W (get_or a.bounds j 0)) +ᶠ negative (whole (pos 1)) *ᶠ (W (get_or a.bounds j 0) *ᶠ W (D * get_or a.fares j 0 - price_sum p (get_or a.legs j []))))
      (λ j lj. solve ring_F (W (get_or a.bounds j 0) ∷ W D ∷ P (length a.caps + j) ∷ W (D * get_or a.fares j 0 - price_sum p (get_or a.legs j [])) ∷ []) (v0 ⊗ (v1 ⊗ v2 ⊖ v3)) (v1 ⊗ (v2 ⊗ v0) ⊕ minus e1 ⊗ (v0 ⊗ v3)) refl)
      ∙ sum_added (product_count a) (λ j. W D *ᶠ (P (length a.caps + j) *ᶠ W (get_or a.bounds j 0))) (λ j. negative (whole (pos 1)) *ᶠ (W (get_or a.bounds j 0) *ᶠ W (D * get_or a.fares j 0 - price_sum p (get_or a.legs j []))))
      ∙ ap₂ (λ y z. y +ᶠ z)
      (sum_scaled (product_count a) (W D) (λ j. P (length a.caps + j) *ᶠ W (get_or a.bounds j 0)))
      (sum_scaled (product_count a) (negative (whole (pos 1))) (λ j. W (get_or a.bounds j 0) *ᶠ W (D * get_or a.fares j 0 - price_sum p (get_or a.legs j []))) ∙ ap (λ y. negative (whole (pos 1)) *ᶠ y) (sym surplus_value))
      ∙ solve ring_F (W D ∷ sum_to (product_count a) (λ j. P (length a.caps + j) *ᶠ W (get_or a.bounds j 0)) ∷ W (surplus D p a.bounds a.fares a.legs) ∷ sum_to (length a.caps) (λ l. P l *ᶠ W (get_or a.caps l 0)) ∷ [])
      (v0 ⊗ v1 ⊕ minus e1 ⊗ v2) (v0 ⊗ (v3 ⊕ v1) ⊖ (v0 ⊗ v3 ⊕ v2)) refl
      ∙ ap₂ (λ y z. W D *ᶠ y -ᶠ (z +ᶠ W (surplus D p a.bounds a.fares a.legs))) (sym value_in_parts) (sym caps_value)
      ∙ ap (λ y. W D *ᶠ V -ᶠ y) (sym (W-plus (dot a.caps p) (surplus D p a.bounds a.fares a.legs)))

  -- the gain meets the cost
  cost_at_most : cost a D p * q ≤ gain a (over_common (product_values a t)) * D
  cost_at_most =
      W-le (cost a D p * q) (gain a (over_common (product_values a t)) * D)
      (subst IsNonNegative
      (solve ring_F (W q ∷ W D ∷ V ∷ W (cost a D p) ∷ []) (v0 ⊗ (v1 ⊗ v2 ⊖ v3)) (v0 ⊗ v2 ⊗ v1 ⊖ v3 ⊗ v0) refl
      ∙ ap₂ (λ y z. y -ᶠ z)
      (ap (λ y. y *ᶠ W D) (sym gain_value) ∙ sym (W-times (gain a (over_common (product_values a t))) D))
      (sym (W-times (cost a D p) q)))
      (non_negative_product (W q) (W D *ᶠ V -ᶠ W (cost a D p)) (W-sign q) (subst IsNonNegative left_over_is left_over)))

  pub meets : gain a (over_common (product_values a t)) * common (leg_prices a t) ≡ cost a (common (leg_prices a t)) (over_common (leg_prices a t)) * common (product_values a t)
  meets = omega (arith, cost_at_most, weak_duality a q D (over_common (product_values a t)) p ok is_allocation are_prices)

  pub closing_allocation_optimal : IsOptimalAllocation a (common (product_values a t)) (over_common (product_values a t))
  closing_allocation_optimal = optimal_allocation a q D (over_common (product_values a t)) p ok is_allocation are_prices meets

  pub closing_prices_optimal : IsOptimalPrices a (common (leg_prices a t)) (over_common (leg_prices a t))
  closing_prices_optimal = optimal_prices a q D (over_common (product_values a t)) p ok is_allocation are_prices meets

  -- the cost is the value row's right side times den
  pub cost_value : W (cost a (common (leg_prices a t)) (over_common (leg_prices a t))) ≡ at t.value (right_side a) *ᶠ W (common (leg_prices a t))
  cost_value =
      cancel_F (W q) (W (cost a D p)) (V *ᶠ W D) (W-positive q (common_pos (product_values a t)))
      (solve ring_F (W q ∷ W (cost a D p) ∷ []) (v0 ⊗ v1) (v1 ⊗ v0) refl
      ∙ sym (W-times (cost a D p) q)
      ∙ ap W (sym meets)
      ∙ W-times (gain a (over_common (product_values a t))) D
      ∙ ap (λ y. y *ᶠ W D) gain_value
      ∙ solve ring_F (W q ∷ V ∷ W D ∷ []) (v0 ⊗ v1 ⊗ v2) (v0 ⊗ (v1 ⊗ v2)) refl)
