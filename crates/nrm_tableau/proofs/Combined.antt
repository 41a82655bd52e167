-- The rows of a walk that takes the unit row away from them: those with a 0 in the column stay, and are passed by.
use Rattle.std.proofs.Common.{◌≡◌, ℕ, zero, suc, ◌+◌, ◌-◌, ◌<◌, ◌≤◌, pos, arith, ap, ap₂, ◌∙◌, sym, subst, List, [], ◌++◌, map, set, take, drop, length, get_or, All, None}
use Rattle.std.proofs.lemmas.List.{append-nil, drop_all, take_all, get_or_default, length-append, length-drop, length-map, length-take-le}
use Rattle.std.proofs.lemmas.List.Edits.{map_over_more}
use Rattle.nrm_fraction.specs.Fraction.{Fraction, whole}
use Rattle.nrm_fraction.specs.Large.{first_large, large_number, size_limit}
use Rattle.nrm_fraction.specs.Rows.{at, combine}
use Rattle.nrm_tableau.specs.RowSets.{row_bit}
use Rattle.nrm_tableau.proofs.Changing.{passed_by, still_there}
use Rattle.nrm_tableau.proofs.Faults.{small_more}
use Rattle.nrm_tableau.proofs.RowBits.{up_to, without}
use Rattle.nrm_tableau.proofs.Sets.{uncombined}

module _ (col : ℕ) (unit : List Fraction) (old : List (List Fraction)) (first : ℕ) where
  abbrev made : List Fraction → List Fraction
  made = combine col unit

  -- so many rows are done, and those of them that changed are in the set
  pub record IsCombinedTo (rows : List (List Fraction)) (changed : List ℕ) (k : ℕ) : Type 0 where
    pub put : rows ≡ map (combine col unit) (take k old) ++ drop k old
    pub small : first_large size_limit (map (combine col unit) (take k old)) ≡ None
    pub noted : (j : ℕ) → j < k → row_bit changed (first + j) ≡ 0 → at (get_or old j []) col ≡ whole (pos 0)

  -- the row that comes next is as it was
  pub next_row : (rows : List (List Fraction)) (changed : List ℕ) (k : ℕ) → k < length old → IsCombinedTo rows changed k → get_or rows k [] ≡ get_or old k []
  next_row rows changed k l p = still_there made old rows k l p.put

  module _ (widths : All (λ (row : List Fraction). length row ≡ length unit) old) (smalls : All (λ (row : List Fraction). large_number size_limit row ≡ None) old) (rows : List (List Fraction)) (changed : List ℕ) where
    pass_one : (k : ℕ) → k < length old → at (get_or old k []) col ≡ whole (pos 0) → IsCombinedTo rows changed k → IsCombinedTo rows changed (k + 1)
    pass_one k l nought p = record {
      put = passed_by made old rows k l p.put same;
      small = small_more size_limit made old k l p.small (ap (large_number size_limit) same ∙ smalls k [] l);
      noted = λ j m e. up_to (λ i. row_bit changed (first + i) ≡ 0 → at (get_or old i []) col ≡ whole (pos 0)) k j m p.noted (λ _. nought) e;
    }
      where
        same : combine col unit (get_or old k []) ≡ get_or old k []
        same = uncombined col unit (get_or old k []) (sym (widths k [] l)) nought

    pub passed : (k n : ℕ) → k ≤ n → n ≤ length old → ((j : ℕ) → k ≤ j → j < n → at (get_or old j []) col ≡ whole (pos 0)) → IsCombinedTo rows changed k → IsCombinedTo rows changed n
    passed k n l m noughts p = go (n - k) k (omega arith) noughts p
      where
        go : (d i : ℕ) → i + d ≡ n → ((j : ℕ) → i ≤ j → j < n → at (get_or old j []) col ≡ whole (pos 0)) → IsCombinedTo rows changed i → IsCombinedTo rows changed n
        go zero i e z q = let same : i ≡ n = omega (arith, e) in subst (IsCombinedTo rows changed) same q
        go (suc d) i e z q = go d (i + 1) (omega (arith, e)) (λ j a b. z j (omega arith) b) (pass_one i (omega (arith, e, m)) (z i (omega arith) (omega (arith, e))) q)

  -- one more row is made
  pub made_one : (rows : List (List Fraction)) (changed now : List ℕ) (new : List Fraction) (k : ℕ) → k < length old → new ≡ combine col unit (get_or old k []) → large_number size_limit (combine col unit (get_or old k [])) ≡ None → (row_bit now (first + k) ≡ 0 → at (get_or old k []) col ≡ whole (pos 0)) → ((r : ℕ) → row_bit changed r ≡ 1 → row_bit now r ≡ 1) → IsCombinedTo rows changed k → IsCombinedTo (set rows k new) now (k + 1)
  made_one rows changed now new k l is small here kept p = record {
    put = ap (set rows k) is ∙ map_over_more made old rows k (get_or old k []) l p.put there;
    small = small_more size_limit made old k l p.small small;
    noted = λ j m e. up_to (λ i. row_bit now (first + i) ≡ 0 → at (get_or old i []) col ≡ whole (pos 0)) k j m (λ i n f. p.noted i n (without changed now (first + i) kept f)) here e;
  }
    where
      count : length rows ≡ length old
      count = omega (arith, ap length p.put, length-append (map made (take k old)) (drop k old), length-map (take k old) made, length-take-le k old (omega arith), length-drop k old)

      there : get_or old k [] ≡ get_or rows k (get_or old k [])
      there = sym (next_row rows changed k l p) ∙ get_or_default rows k [] (get_or old k []) (omega (arith, count))

  -- all rows are done
  pub all_made : (rows : List (List Fraction)) (changed : List ℕ) → IsCombinedTo rows changed (length old) → (rows ≡ map (combine col unit) old) × (first_large size_limit (map (combine col unit) old) ≡ None)
  all_made rows changed p = (
    p.put ∙ ap₂ (λ xs ys. map made xs ++ ys) whole (drop_all (length old) old (omega arith)) ∙ append-nil (map made old),
    ap (λ xs. first_large size_limit (map made xs)) (sym whole) ∙ p.small,
  )
    where
      whole : take (length old) old ≡ old
      whole = take_all (length old) old (omega arith)
