-- The entries that the first rows are made of.
use Rattle.nrm_row.specs.declared.limits.TheConstants.{MOST_COLUMNS}
use Rattle.std.proofs.Common.{◌≡◌, ℕ, suc, ◌+◌, ◌-◌, ◌<◌, ◌≤◌, ℤ, pos, neg_ℤ, arith, refl, sym, ap, ◌∙◌, subst, List, [], ◌∷◌, ◌++◌, map, length, get_or, true, false, eq-eqb, ne_eqb, inl, inr, lit<, zero, Result, ap₂}
use Rattle.std.specs.List.{range_with_len}
use Rattle.std.specs.Result.{IfOk}
use Rattle.std.proofs.lemmas.Result.{IfOk-weaker}
use Rattle.std.proofs.lemmas.Bool.{cases_lt}
use Rattle.std.proofs.lemmas.List.FromFn.{map-range_with_len_more}
use Rattle.nrm_fraction.specs.Fraction.{Fraction, whole}
use Rattle.nrm_fraction.specs.Rows.{row_of}
use Rattle.nrm_lp.specs.Program.{ProgramValue, names}
use Rattle.nrm_lp.specs.Limits.{IsLimited}
use Rattle.nrm_lp.specs.Tableau.{product_count, right_side, row_bound, row_count, slack, first_entry, first_value, one_if}
use Rattle.nrm_lp.proofs.Tables.{leg_entry, end_entry, slack_entry, fare_entry, nought_entry, row_bound-leg, row_bound-product}
use Rattle.nrm_tableau.specs.Inner.Entries.{IsFilled}
use Rattle.nrm_tableau.proofs.Filling.{filled_skip, filled_push, filled_until, filled_row}
use Rattle.nrm_fraction.specs.Large.{size_limit, IsSmall}

pub small_one : IsSmall (pos 1)
small_one = lit< tt

module _ (a : ProgramValue) where
  -- a row that is filled up to the products goes on with its slack and its bound
  pub closed : (i : ℕ) (es : List (ℕ × ℤ)) → i < row_count a → (n : ℤ) → IsSmall n → whole n ≡ first_entry a i (right_side a) → IsFilled (product_count a) (first_entry a i) es → IsFilled (suc (right_side a)) (first_entry a i) ((es ++ (slack a i, pos 1) ∷ []) ++ (right_side a, n) ∷ [])
  closed i es l n small e h =
      let f = first_entry a i in
      let none_between : (c : ℕ) → product_count a ≤ c → c < slack a i → whole (pos 0) ≡ f c = λ c low high. sym (slack_entry a i c low (omega arith) ∙ ap one_if (ne_eqb c (slack a i) (λ same. omega arith))) in
      let none_after : (c : ℕ) → slack a i + 1 ≤ c → c < right_side a → whole (pos 0) ≡ f c = λ c low high. sym (slack_entry a i c (omega arith) high ∙ ap one_if (ne_eqb c (slack a i) (λ same. omega arith))) in
      let to_slack : IsFilled (slack a i) f es = filled_until f (product_count a) i (slack a i) es h refl none_between in
      let with_slack : IsFilled (slack a i + 1) f (es ++ (slack a i, pos 1) ∷ []) = filled_push f (slack a i) es (pos 1) to_slack small_one (sym (slack_entry a i (slack a i) (omega arith) (omega arith) ∙ ap one_if (eq-eqb (slack a i) (slack a i) refl))) in
      let to_end : IsFilled (right_side a) f (es ++ (slack a i, pos 1) ∷ []) = filled_until f (slack a i + 1) (right_side a - (slack a i + 1)) (right_side a) (es ++ (slack a i, pos 1) ∷ []) with_slack (omega arith) none_after in
      subst (λ w. IsFilled w f ((es ++ (slack a i, pos 1) ∷ []) ++ (right_side a, n) ∷ [])) next (filled_push f (right_side a) (es ++ (slack a i, pos 1) ∷ []) n to_end small e)
    where
      next : right_side a + 1 ≡ suc (right_side a)
      next = omega arith

  -- the value row is 0 behind the products
  pub value_filled : (es : List (ℕ × ℤ)) → IsFilled (product_count a) (first_value a) es → IsFilled (suc (right_side a)) (first_value a) es
  value_filled es h = filled_until (first_value a) (product_count a) (suc (right_side a) - product_count a) (suc (right_side a)) es h (omega arith) (λ c low high. sym (nought_entry a c low))

  -- one more product of a leg's row
  pub leg_taken : (i j : ℕ) (es new : List (ℕ × ℤ)) → i < length a.caps → j < product_count a → names i (get_or a.legs j []) ≡ true → new ≡ es ++ (j, pos 1) ∷ [] → IsFilled j (first_entry a i) es → IsFilled (j + 1) (first_entry a i) new
  leg_taken i j es new li lj used e h = subst (λ n. IsFilled (j + 1) (first_entry a i) n) (sym e) (filled_push (first_entry a i) j es (pos 1) h small_one (sym (leg_entry a i j li lj ∙ ap one_if used)))

  pub leg_left : (i j : ℕ) (es new : List (ℕ × ℤ)) → i < length a.caps → j < product_count a → names i (get_or a.legs j []) ≡ false → new ≡ es → IsFilled j (first_entry a i) es → IsFilled (j + 1) (first_entry a i) new
  leg_left i j es new li lj unused e h = subst (λ n. IsFilled (j + 1) (first_entry a i) n) (sym e) (filled_skip (first_entry a i) j es h (sym (leg_entry a i j li lj ∙ ap one_if unused)))

  -- the bound of a row within the limits is small
  pub bound_small : IsLimited a → (i : ℕ) → i < row_count a → row_bound a i < size_limit
  bound_small h i l = elim (cases_lt i (length a.caps)) [
    | inl m ↦ let e = row_bound-leg a i m in let k = h.cap_size i m in at_most_small (row_bound a i) (get_or a.caps i 0) e k
    | inr m ↦ let back : length a.caps + (i - length a.caps) ≡ i = omega arith in at_most_small (row_bound a i) (get_or a.bounds (i - length a.caps) 0) (ap (row_bound a) (sym back) ∙ row_bound-product a (i - length a.caps)) (h.bound_size (i - length a.caps) (omega arith))
  ]
    where
      at_most_small : (n m : ℕ) → n ≡ m → m ≤ 31968 → n < size_limit
      at_most_small n m e l = let f : 31968 < size_limit = lit< tt in omega arith

  -- the row that a leg's or a bound's entries close to
  pub closed_filled : IsLimited a → (i bound : ℕ) (es : List (ℕ × ℤ)) (n : ℤ) → i < row_count a → bound ≡ row_bound a i → n ≡ pos bound → IsFilled (product_count a) (first_entry a i) es → IsFilled (suc (right_side a)) (first_entry a i) ((es ++ (slack a i, pos 1) ∷ []) ++ (right_side a, n) ∷ [])
  closed_filled limits i bound es n l b e h =
      let is : n ≡ pos (row_bound a i) = e ∙ ap (λ m. pos m) b in
      closed i es l n (subst IsSmall (sym is) (bound_small limits i l)) (ap whole is ∙ sym (end_entry a i)) h

  -- the same, told of the steps that put the entries
  pub closed_list : IsLimited a → (i bound own end : ℕ) (n : ℤ) (es mid xs : List (ℕ × ℤ)) → i < row_count a → bound ≡ row_bound a i → own ≡ slack a i → end ≡ right_side a → n ≡ pos bound → mid ≡ es ++ (own, pos 1) ∷ [] → xs ≡ mid ++ (end, n) ∷ [] → IsFilled (product_count a) (first_entry a i) es → IsFilled (end + 1) (first_entry a i) xs
  closed_list limits i bound own end n es mid xs l b o e is put_own put_end h =
      let same : xs ≡ (es ++ (slack a i, pos 1) ∷ []) ++ (right_side a, n) ∷ [] = put_end ∙ ap (λ ys. ys ++ (end, n) ∷ []) (put_own ∙ ap (λ c. es ++ (c, pos 1) ∷ []) o) ∙ ap (λ c. (es ++ (slack a i, pos 1) ∷ []) ++ (c, n) ∷ []) e in
      let width : suc (right_side a) ≡ end + 1 = omega arith in
      subst (λ w. IsFilled w (first_entry a i) xs) width (subst (λ ys. IsFilled (suc (right_side a)) (first_entry a i) ys) (sym same) (closed_filled limits i bound es n l b is h))

  pub width_within : IsLimited a → (end : ℕ) → end ≡ right_side a → (1 ≤ end + 1) × (end + 1 ≤ MOST_COLUMNS)
  width_within limits end e = let caps = limits.cap_count in let bounds = limits.bound_count in (omega arith, omega arith)

-- a row made of such entries
pub made_row : {E : Type 0} (r : Result (List Fraction) E) (w n : ℕ) (f : ℕ → Fraction) (es : List (ℕ × ℤ)) → w ≡ suc n → IsFilled w f es → IfOk r (λ row. row ≡ row_of w es) → IfOk r (λ row. row ≡ map f (range_with_len 0 (suc n)))
made_row r w n f es e h made = IfOk-weaker r (λ row. row ≡ row_of w es) (λ row. row ≡ map f (range_with_len 0 (suc n))) (λ row is. is ∙ filled_row f w es h ∙ ap (λ k. map f (range_with_len 0 k)) e) made

-- one more fare
pub fare_turned : (a : ProgramValue) (j fare : ℕ) (n : ℤ) (es new : List (ℕ × ℤ)) → IsLimited a → j < product_count a → fare ≡ get_or a.fares j 0 → n ≡ neg_ℤ (pos fare) → new ≡ es ++ (j, n) ∷ [] → IsFilled j (first_value a) es → IsFilled (j + 1) (first_value a) new
fare_turned a j fare n es new limits l is e put h =
    let turned : n ≡ neg_ℤ (pos (get_or a.fares j 0)) = e ∙ ap (λ m. neg_ℤ (pos m)) is in
    subst (λ ys. IsFilled (j + 1) (first_value a) ys) (sym put)
    (filled_push (first_value a) j es n h (subst IsSmall (sym turned) (small_negative (get_or a.fares j 0) (limits.fare_size j l))) (ap whole turned ∙ sym (fare_entry a j l)))
  where
    small_negative : (m : ℕ) → m ≤ 99999999 → IsSmall (neg_ℤ (pos m))
    small_negative zero l = lit< tt
    small_negative (suc m) l = let f : 99999999 < size_limit = lit< tt in omega arith

pub value_list : (a : ProgramValue) (end : ℕ) (es xs : List (ℕ × ℤ)) → end ≡ right_side a → xs ≡ es → IsFilled (product_count a) (first_value a) es → IsFilled (end + 1) (first_value a) xs
value_list a end es xs e same h =
    let width : suc (right_side a) ≡ end + 1 = omega arith in
    subst (λ w. IsFilled w (first_value a) xs) width (subst (λ ys. IsFilled (suc (right_side a)) (first_value a) ys) (sym same) (value_filled a es h))

-- the slack columns in order
pub slacks_are : (a : ProgramValue) (n k : ℕ) → map (slack a) (range_with_len k n) ≡ range_with_len (slack a k) n
slacks_are a zero k = refl
slacks_are a (suc n) k = let next : slack a (k + 1) ≡ slack a k + 1 = omega arith in ap (λ xs. slack a k ∷ xs) (slacks_are a n (k + 1) ∙ ap (λ c. range_with_len c n) next)

-- one more row of the first tableau
pub rows_more : (a : ProgramValue) (k : ℕ) (old new : List (List Fraction)) (made : List Fraction) → old ≡ map (λ i. map (first_entry a i) (range_with_len 0 (suc (right_side a)))) (range_with_len 0 k) → made ≡ map (first_entry a k) (range_with_len 0 (suc (right_side a))) → new ≡ old ++ made ∷ [] → new ≡ map (λ i. map (first_entry a i) (range_with_len 0 (suc (right_side a)))) (range_with_len 0 (k + 1))
rows_more a k old new made h e put =
    put ∙ ap₂ (λ xs x. xs ++ x ∷ []) h e ∙ sym (map-range_with_len_more (λ i. map (first_entry a i) (range_with_len 0 (suc (right_side a)))) 0 k k (omega arith))
