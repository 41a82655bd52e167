-- The leaving rule finds a row, strictly the least, and the pivot on it keeps all that is known of a path's tableau.
use Rattle.std.proofs.Common.{◌≡◌, ◌≢◌, ℕ, zero, suc, ◌+◌, ◌<◌, ◌≤◌, ◌⊎◌, inl, inr, pos, arith, refl, sym, ap, ap₂, ◌∙◌, subst, List, [], ◌∷◌, map, set, length, get_or, Bool, true, false, cond, Option, Some, None, eq-eqb, ne_eqb}
use Rattle.std.proofs.lemmas.List.{length-map, length-set, get_or-map, get_or-set_same, get_or-set_other}
use Rattle.std.specs.List.{range_with_len}
use Rattle.std.proofs.lemmas.List.FromFn.{length-range_with_len, get_or-range_with_len}
use Rattle.std.proofs.lemmas.Bool.{cases_eq}
use Rattle.nrm_fraction.specs.Fraction.{Fraction, ◌/ᶠ◌, whole, less}
use Rattle.nrm_fraction.specs.Lex.{LexBelow, LexPositive, lex_below}
use Rattle.nrm_lp.specs.Program.{ProgramValue}
use Rattle.nrm_lp.specs.Tableau.{Tableau, row_count, slack, right_side, first_entry, first_tableau, first_value, pivot, key_columns, better, leaving_from, leaving, one_if}
use Rattle.nrm_fraction.specs.Rows.{at, unit_row, minus_times, combine, ratios}
use Rattle.nrm_fraction.proofs.Field.{IsPositive, IsNonNegative, one_positive}
use Rattle.nrm_fraction.proofs.Lex.{lex_irrefl, lex_trans, lex_total}
use Rattle.nrm_lp.proofs.Positive.{rows_stay_positive}
use Rattle.nrm_lp.proofs.Leaving.{positive_entry, no_tie}
use Rattle.nrm_lp.proofs.Pivot.{IsPivot, HasFacts, facts_kept}
use Rattle.nrm_lp.proofs.Tables.{row, table, pivot_is, first_rows, first_at, first_has_facts, first_sign, column_has_one, entry_slack, first_basis_at, row_same, row_other}
use Rattle.nrm_fraction.proofs.Tests.{less_true, less_false, lex_true, lex_false}

-- what the search answers: no row is positive at s, or it is this one, and no other has a lesser list
abbrev Least : List ℕ → ℕ → ℕ → List (List Fraction) → Option (ℕ × List Fraction) → Type 0
Least cs s k rows None = (i : ℕ) → i < length rows → IsPositive (at (get_or rows i []) s) → ⊥
Least cs s k rows (Some b) = (i : ℕ) × (i < length rows) × (b.0 ≡ k + i) × IsPositive (at (get_or rows i []) s) × (b.1 ≡ ratios cs s (get_or rows i [])) × ((j : ℕ) → j < length rows → IsPositive (at (get_or rows j []) s) → LexBelow (ratios cs s (get_or rows j [])) b.1 → ⊥)

least_skip : (cs : List ℕ) (s k : ℕ) (xs : List Fraction) (rows : List (List Fraction)) (b : Option (ℕ × List Fraction)) → (IsPositive (at xs s) → ⊥) → Least cs s (suc k) rows b → Least cs s k (xs ∷ rows) b
least_skip cs s k xs rows None n h = go
  where
    go : (i : ℕ) → i < suc (length rows) → IsPositive (at (get_or (xs ∷ rows) i []) s) → ⊥
    go zero l p = n p
    go (suc i) l p = h i (omega arith) p
least_skip cs s k xs rows (Some b) n h = (suc (h.0), omega (arith, h.1), omega (arith, h.2), h.3, h.4, go)
  where
    go : (j : ℕ) → j < suc (length rows) → IsPositive (at (get_or (xs ∷ rows) j []) s) → LexBelow (ratios cs s (get_or (xs ∷ rows) j [])) b.1 → ⊥
    go zero l p less = n p
    go (suc j) l p less = h.5 j (omega arith) p less

least_take : (cs : List ℕ) (s k : ℕ) (xs : List Fraction) (rows : List (List Fraction)) (b : Option (ℕ × List Fraction)) → IsPositive (at xs s) → Least cs s (suc k) rows b → Least cs s k (xs ∷ rows) (better k (ratios cs s xs) b)
least_take cs s k xs rows None p h = (zero, omega arith, omega arith, p, refl, go)
  where
    go : (j : ℕ) → j < suc (length rows) → IsPositive (at (get_or (xs ∷ rows) j []) s) → LexBelow (ratios cs s (get_or (xs ∷ rows) j [])) (ratios cs s xs) → ⊥
    go zero l q less = lex_irrefl (ratios cs s xs) less
    go (suc j) l q less = h j (omega arith) q
least_take cs s k xs rows (Some b) p h = choose (lex_below (ratios cs s xs) b.1) refl
  where
    choose : (t : Bool) → lex_below (ratios cs s xs) b.1 ≡ t → Least cs s k (xs ∷ rows) (cond t (Some (k, ratios cs s xs)) (Some b))
    choose true e = (zero, omega arith, omega arith, p, refl, go)
      where
        go : (j : ℕ) → j < suc (length rows) → IsPositive (at (get_or (xs ∷ rows) j []) s) → LexBelow (ratios cs s (get_or (xs ∷ rows) j [])) (ratios cs s xs) → ⊥
        go zero l q less = lex_irrefl (ratios cs s xs) less
        go (suc j) l q less = h.5 j (omega arith) q (lex_trans (ratios cs s (get_or rows j [])) (ratios cs s xs) b.1 less (lex_true (ratios cs s xs) b.1 e))
    choose false e = (suc (h.0), omega (arith, h.1), omega (arith, h.2), h.3, h.4, go)
      where
        go : (j : ℕ) → j < suc (length rows) → IsPositive (at (get_or (xs ∷ rows) j []) s) → LexBelow (ratios cs s (get_or (xs ∷ rows) j [])) b.1 → ⊥
        go zero l q less = lex_false (ratios cs s xs) b.1 e less
        go (suc j) l q less = h.5 j (omega arith) q less

leaving_least : (cs : List ℕ) (s k : ℕ) (rows : List (List Fraction)) → Least cs s k rows (leaving_from cs s k rows)
leaving_least cs s k [] = λ i l p. omega arith
leaving_least cs s k (xs ∷ rows) = choose (less (whole (pos 0)) (at xs s)) refl (leaving_least cs s (suc k) rows)
  where
    choose : (t : Bool) → less (whole (pos 0)) (at xs s) ≡ t → Least cs s (suc k) rows (leaving_from cs s (suc k) rows) → Least cs s k (xs ∷ rows) (cond t (better k (ratios cs s xs) (leaving_from cs s (suc k) rows)) (leaving_from cs s (suc k) rows))
    choose true e h = least_take cs s k xs rows (leaving_from cs s (suc k) rows) (less_true (whole (pos 0)) (at xs s) e) h
    choose false e h = least_skip cs s k xs rows (leaving_from cs s (suc k) rows) (less_false (whole (pos 0)) (at xs s) e) h

-- ---- what holds of each tableau of a program's path
pub record IsSound (a : ProgramValue) (t : Tableau) : Type 0 where
  pub shape : length t.rows ≡ row_count a
  pub basis_shape : length t.basis ≡ row_count a
  pub facts : HasFacts (row_count a) (slack a) (table (first_tableau a)) (table t)
  pub positive : (i : ℕ) → i < row_count a → LexPositive (map (λ c. at (row t i) c) (key_columns a))
  pub basis_below : (k : ℕ) → k < row_count a → get_or t.basis k 0 < right_side a
  pub widths : (i : ℕ) → i < row_count a → length (row t i) ≡ suc (right_side a)
  pub value_width : length t.value ≡ suc (right_side a)

-- the leaving row: positive at s, and strictly least among those that are
pub record IsLeaving (a : ProgramValue) (t : Tableau) (s r : ℕ) : Type 0 where
  pub row_below : r < row_count a
  pub entry : IsPositive (at (row t r) s)
  pub answer : leaving a t s ≡ Some (r, ratios (key_columns a) s (row t r))
  pub least : (i : ℕ) → i < row_count a → i ≢ r → IsPositive (at (row t i) s) → LexBelow (ratios (key_columns a) s (row t r)) (ratios (key_columns a) s (row t i))

length-minus_times : (a : Fraction) (us xs : List Fraction) → length us ≡ length xs → length (minus_times a us xs) ≡ length xs
length-minus_times a [] xs e = refl
length-minus_times a (u ∷ us) [] e = absurd (omega arith)
length-minus_times a (u ∷ us) (x ∷ xs) e = ap suc (length-minus_times a us xs (omega arith))

-- the entry of a row's list behind the right side is the one at the slack column
key_at : (a : ProgramValue) (f : ℕ → Fraction) (j : ℕ) → j < row_count a → get_or (map f (key_columns a)) (suc j) (whole (pos 0)) ≡ f (slack a j)
key_at a f j l =
    get_or-map f (map (slack a) (range_with_len 0 (row_count a))) j 0 (whole (pos 0)) (omega (arith, length-map (range_with_len 0 (row_count a)) (slack a), length-range_with_len 0 (row_count a)))
    ∙ ap f (get_or-map (slack a) (range_with_len 0 (row_count a)) j 0 0 (omega (arith, length-range_with_len 0 (row_count a))) ∙ ap (slack a) (get_or-range_with_len 0 (row_count a) j 0 l ∙ omega arith))

length-ratios : (cs : List ℕ) (s : ℕ) (xs ys : List Fraction) → length (ratios cs s xs) ≡ length (ratios cs s ys)
length-ratios cs s xs ys = length-map cs (λ c. at xs c /ᶠ at xs s) ∙ sym (length-map cs (λ c. at ys c /ᶠ at ys s))

module _ (a : ProgramValue) (t : Tableau) (s : ℕ) (h : IsSound a t) (before_end : s < right_side a) where
  some_row : (k : ℕ) × (k < row_count a) × IsPositive (at (row t k) s)
  some_row =
      let w : (i : ℕ) × (i < row_count a) × IsPositive (at (row (first_tableau a) i) s) = column_has_one a s before_end in
      positive_entry (row_count a) (slack a) (table (first_tableau a)) (table t) h.facts s (w.0) (w.1) (λ c. first_sign a w.0 c w.1) w.2

  not_tied : (r i : ℕ) → r < row_count a → i < row_count a → r ≢ i → IsPositive (at (row t r) s) → ratios (key_columns a) s (row t r) ≡ ratios (key_columns a) s (row t i) → ⊥
  not_tied r i l li d p e =
      no_tie (row_count a) (slack a) (table (first_tableau a)) (table t) h.facts s r i l li d p
      (λ j lj. sym (key_at a (λ c. at (row t r) c /ᶠ at (row t r) s) j lj) ∙ ap (λ xs. get_or xs (suc j) (whole (pos 0))) e ∙ key_at a (λ c. at (row t i) c /ᶠ at (row t i) s) j lj)

  leaving_by : (b : Option (ℕ × List Fraction)) → leaving a t s ≡ b → Least (key_columns a) s 0 t.rows b → (r : ℕ) × IsLeaving a t s r
  leaving_by None e least = absurd (least some_row.0 (subst (λ n. some_row.0 < n) (sym h.shape) some_row.1) some_row.2)
  leaving_by (Some b) e least = (
    least.0,
    record {
      row_below = below;
      entry = least.3;
      answer = e ∙ ap₂ (λ x y. Some (x, y)) number least.4;
      least = λ i li d p. strict i li d p (lex_total (ratios (key_columns a) s (row t least.0)) (ratios (key_columns a) s (row t i)) (length-ratios (key_columns a) s (row t least.0) (row t i)));
    },
  )
    where
      number : b.0 ≡ least.0
      number = omega (arith, least.2)

      below : least.0 < row_count a
      below = subst (λ n. least.0 < n) h.shape least.1

      strict : (i : ℕ) → i < row_count a → i ≢ least.0 → IsPositive (at (row t i) s) → (LexBelow (ratios (key_columns a) s (row t least.0)) (ratios (key_columns a) s (row t i))) ⊎ ((ratios (key_columns a) s (row t least.0) ≡ ratios (key_columns a) s (row t i)) ⊎ (LexBelow (ratios (key_columns a) s (row t i)) (ratios (key_columns a) s (row t least.0)))) → LexBelow (ratios (key_columns a) s (row t least.0)) (ratios (key_columns a) s (row t i))
      strict i li d p (inl k) = k
      strict i li d p (inr (inl q)) = absurd (not_tied least.0 i below li (λ e. d (sym e)) least.3 q)
      strict i li d p (inr (inr k)) = absurd (least.5 i (subst (λ n. i < n) (sym h.shape) li) p (subst (λ l. LexBelow (ratios (key_columns a) s (row t i)) l) (sym least.4) k))

  pub leaving_exists : (r : ℕ) × IsLeaving a t s r
  leaving_exists = leaving_by (leaving a t s) refl (leaving_least (key_columns a) s 0 t.rows)

  -- the pivot on the leaving row keeps it all
  pub pivot_keeps : (r : ℕ) → IsLeaving a t s r → IsSound a (pivot t r s)
  pivot_keeps r w = record {
    shape = length-set (map (combine s (unit_row s (row t r))) t.rows) r (unit_row s (row t r)) ∙ length-map t.rows (combine s (unit_row s (row t r))) ∙ h.shape;
    basis_shape = length-set t.basis r s ∙ h.basis_shape;
    facts = facts_kept (row_count a) (slack a) (table (first_tableau a)) (table t) (table (pivot t r s)) r s is_pivot h.facts;
    positive = rows_stay_positive (row_count a) (key_columns a) (table t) (table (pivot t r s)) r s is_pivot h.positive w.least;
    basis_below = λ k lk. below_at k lk (cases_eq k r);
    widths = λ i li. width_at i li (cases_eq i r);
    value_width = length-minus_times (at t.value s) (unit_row s (row t r)) t.value (unit_width ∙ sym h.value_width) ∙ h.value_width;
  }
    where
      unit_width : length (unit_row s (row t r)) ≡ suc (right_side a)
      unit_width = length-map (row t r) (λ x. x /ᶠ at (row t r) s) ∙ h.widths r w.row_below

      below_at : (k : ℕ) → k < row_count a → (k ≡ r) ⊎ (k ≢ r) → get_or (set t.basis r s) k 0 < right_side a
      below_at k lk (inl e) = subst (λ n. n < right_side a) (sym (ap (λ j. get_or (set t.basis r s) j 0) e ∙ get_or-set_same t.basis r s 0 (omega (arith, h.basis_shape, w.row_below)))) before_end
      below_at k lk (inr d) = subst (λ n. n < right_side a) (sym (get_or-set_other t.basis r k s 0 d)) (h.basis_below k lk)

      width_at : (i : ℕ) → i < row_count a → (i ≡ r) ⊎ (i ≢ r) → length (row (pivot t r s) i) ≡ suc (right_side a)
      width_at i li (inl e) = ap (λ j. length (row (pivot t r s) j)) e ∙ ap length (row_same t (unit_row s (row t r)) r s (subst (λ n. r < n) (sym h.shape) w.row_below)) ∙ unit_width
      width_at i li (inr d) =
          ap length (row_other t (unit_row s (row t r)) r s i (subst (λ n. i < n) (sym h.shape) li) d)
          ∙ length-minus_times (at (row t i) s) (unit_row s (row t r)) (row t i) (unit_width ∙ sym (h.widths i li))
          ∙ h.widths i li

      is_pivot : IsPivot (row_count a) (table t) (table (pivot t r s)) r s
      is_pivot = subst (λ n. IsPivot n (table t) (table (pivot t r s)) r s) h.shape (pivot_is t r s (subst (λ n. r < n) (sym h.shape) w.row_below) (h.basis_shape ∙ sym h.shape) w.entry)

-- ---- the first tableau
positive_at_own : (f : ℕ → Fraction) (g : ℕ → ℕ) (k n i : ℕ) → k ≤ i → i < k + n → ((j : ℕ) → k ≤ j → j < i → f (g j) ≡ whole (pos 0)) → IsPositive (f (g i)) → LexPositive (map f (map g (range_with_len k n)))
positive_at_own f g k zero i l u z p = absurd (omega arith)
positive_at_own f g k (suc n) i l u z p = go (positive_at_own f g (k + 1) n i) (here_or_later k i l)
  where
    here_or_later : (k i : ℕ) → k ≤ i → (k ≡ i) ⊎ (k < i)
    here_or_later k i l = grind arith

    go : (k + 1 ≤ i → i < k + 1 + n → ((j : ℕ) → k + 1 ≤ j → j < i → f (g j) ≡ whole (pos 0)) → IsPositive (f (g i)) → LexPositive (map f (map g (range_with_len (k + 1) n)))) → (k ≡ i) ⊎ (k < i) → LexPositive (map f (map g (range_with_len k (suc n))))
    go rest (inl e) = inl (subst (λ j. IsPositive (f (g j))) (sym e) p)
    go rest (inr m) = inr (z k (omega arith) m, rest (omega arith) (omega arith) (λ j a b. z j (omega arith) b) p)

first_positive : (a : ProgramValue) (i : ℕ) → i < row_count a → LexPositive (map (λ c. at (row (first_tableau a) i) c) (key_columns a))
first_positive a i l = go (first_sign a i (right_side a) l)
  where
    own : LexPositive (map (λ c. at (row (first_tableau a) i) c) (map (slack a) (range_with_len 0 (row_count a))))
    own =
        positive_at_own (λ c. at (row (first_tableau a) i) c) (slack a) 0 (row_count a) i (omega arith) (omega arith)
        (λ j x y. first_at a i (slack a j) l (omega arith) ∙ entry_slack a i j (omega arith) ∙ ap one_if (ne_eqb (slack a j) (slack a i) (λ e. omega arith)))
        (subst IsPositive (sym (first_at a i (slack a i) l (omega arith) ∙ entry_slack a i i l ∙ ap one_if (eq-eqb (slack a i) (slack a i) refl))) one_positive)

    go : IsNonNegative (at (row (first_tableau a) i) (right_side a)) → LexPositive (map (λ c. at (row (first_tableau a) i) c) (key_columns a))
    go (inl p) = inl p
    go (inr e) = inr (e, own)

pub first_kept : (a : ProgramValue) → IsSound a (first_tableau a)
first_kept a = record {
  shape = first_rows a;
  basis_shape = length-map (range_with_len 0 (row_count a)) (slack a) ∙ length-range_with_len 0 (row_count a);
  facts = first_has_facts a;
  positive = first_positive a;
  basis_below = λ k l. subst (λ n. n < right_side a) (sym (first_basis_at a k l)) (omega arith);
  widths = λ i l. ap length (get_or-map (λ j. map (first_entry a j) (range_with_len 0 (suc (right_side a)))) (range_with_len 0 (row_count a)) i 0 [] (omega (arith, length-range_with_len 0 (row_count a)))) ∙ length-map (range_with_len 0 (suc (right_side a))) (first_entry a (get_or (range_with_len 0 (row_count a)) i 0)) ∙ length-range_with_len 0 (suc (right_side a));
  value_width = length-map (range_with_len 0 (suc (right_side a))) (first_value a) ∙ length-range_with_len 0 (suc (right_side a));
}
