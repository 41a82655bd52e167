-- The first Large row of rows that are made in turn, and the rows after a pivot.
use Rattle.std.proofs.Common.{◌≡◌, ℕ, zero, suc, ◌+◌, ◌-◌, ◌<◌, arith, refl, sym, ap, ◌∙◌, subst, ℤ, List, [], ◌∷◌, ◌++◌, map, set, take, drop, length, get_or, Option, Some, None}
use Rattle.std.proofs.lemmas.Option.{none-some}
use Rattle.std.proofs.lemmas.List.{map-append, take-append-drop, drop_more, take_more, take_rest}
use Rattle.nrm_fraction.specs.Fraction.{Fraction}
use Rattle.nrm_fraction.specs.Large.{first_large, first_of_two, large_number}
use Rattle.nrm_lp.specs.Overflow.{rows_but}
use Rattle.nrm_fraction.specs.declared.fault.RowFault.{RowFault}
use Rattle.nrm_fraction.specs.declared.fault.RowFault.TheVariants.{Large, NoMemory}
use Rattle.nrm_fraction.specs.Fault.{IsFault}

module _ (limit : ℕ) where
  pub large-append : (xs ys : List (List Fraction)) → first_large limit (xs ++ ys) ≡ first_of_two (first_large limit xs) (first_large limit ys)
  large-append [] ys = refl
  large-append (x ∷ xs) ys = ap (first_of_two (large_number limit x)) (large-append xs ys) ∙ grouped (large_number limit x) (first_large limit xs) (first_large limit ys)
    where
      grouped : (a b c : Option ℤ) → first_of_two a (first_of_two b c) ≡ first_of_two (first_of_two a b) c
      grouped None b c = refl
      grouped (Some n) b c = refl

  -- a fault of the front, and one behind a front that isn't Large
  pub fault_front : (f : RowFault) (xs ys : List (List Fraction)) → IsFault f (first_large limit xs) → IsFault f (first_large limit (xs ++ ys))
  fault_front (Large n) xs ys h = large-append xs ys ∙ ap (λ found. first_of_two found (first_large limit ys)) h
  fault_front NoMemory xs ys h = tt

  pub fault_back : (f : RowFault) (xs ys : List (List Fraction)) → first_large limit xs ≡ None → IsFault f (first_large limit ys) → IsFault f (first_large limit (xs ++ ys))
  fault_back (Large n) xs ys small h = large-append xs ys ∙ ap (λ found. first_of_two found (first_large limit ys)) small ∙ h
  fault_back NoMemory xs ys small h = tt

  pub fault_row : (f : RowFault) (x : List Fraction) (ys : List (List Fraction)) → IsFault f (large_number limit x) → IsFault f (first_large limit (x ∷ ys))
  fault_row (Large n) x ys h = ap (λ found. first_of_two found (first_large limit ys)) h
  fault_row NoMemory x ys h = tt

  pub small_both : (xs ys : List (List Fraction)) → first_large limit xs ≡ None → first_large limit ys ≡ None → first_large limit (xs ++ ys) ≡ None
  small_both xs ys small behind = large-append xs ys ∙ ap (λ found. first_of_two found (first_large limit ys)) small ∙ behind

  pub small_row : (x : List Fraction) → large_number limit x ≡ None → first_large limit (x ∷ []) ≡ None
  small_row x small = ap (λ found. first_of_two found None) small

  -- rows made of others by a function, in turn
  module _ (F : List Fraction → List Fraction) (rows : List (List Fraction)) where
    pub fault_at : (f : RowFault) (k : ℕ) → k < length rows → first_large limit (map F (take k rows)) ≡ None → IsFault f (large_number limit (F (get_or rows k []))) → IsFault f (first_large limit (map F rows))
    fault_at f k l small h =
        subst (λ (xs : List (List Fraction)). IsFault f (first_large limit xs)) whole
        (fault_back f (map F (take k rows)) (F (get_or rows k []) ∷ map F (drop (k + 1) rows)) small (fault_row f (F (get_or rows k [])) (map F (drop (k + 1) rows)) h))
      where
        whole : map F (take k rows) ++ (F (get_or rows k []) ∷ map F (drop (k + 1) rows)) ≡ map F rows
        whole = sym (map-append F (take k rows) (get_or rows k [] ∷ drop (k + 1) rows)) ∙ ap (map F) (ap (λ xs. take k rows ++ xs) (sym (drop_more rows k [] l)) ∙ take-append-drop k rows)

    taken_more : (k : ℕ) → k < length rows → map F (take (k + 1) rows) ≡ map F (take k rows) ++ F (get_or rows k []) ∷ []
    taken_more k l = ap (map F) (take_more rows k [] l) ∙ map-append F (take k rows) (get_or rows k [] ∷ [])

    pub small_more : (k : ℕ) → k < length rows → first_large limit (map F (take k rows)) ≡ None → large_number limit (F (get_or rows k [])) ≡ None → first_large limit (map F (take (k + 1) rows)) ≡ None
    small_more k l small here = ap (first_large limit) (taken_more k l) ∙ small_both (map F (take k rows)) (F (get_or rows k []) ∷ []) small (small_row (F (get_or rows k [])) here)

-- ---- the rows but one
pub but_is : (r : ℕ) (rows : List (List Fraction)) → r < length rows → rows_but r rows ≡ take r rows ++ drop (r + 1) rows
but_is r [] l = absurd (omega arith)
but_is zero (row ∷ rows) l = refl
but_is (suc r) (row ∷ rows) l = ap (λ xs. row ∷ xs) (but_is r rows (omega arith)) ∙ ap (λ n. row ∷ take r rows ++ drop n (row ∷ rows)) next
  where
    next : suc (r + 1) ≡ suc r + 1
    next = omega arith

pub but-map : (F : List Fraction → List Fraction) (r : ℕ) (rows : List (List Fraction)) → rows_but r (map F rows) ≡ map F (rows_but r rows)
but-map F r [] = refl
but-map F zero (row ∷ rows) = refl
but-map F (suc r) (row ∷ rows) = ap (λ xs. F row ∷ xs) (but-map F r rows)

pub but-set : (u : List Fraction) (r : ℕ) (rows : List (List Fraction)) → rows_but r (set rows r u) ≡ rows_but r rows
but-set u r [] = refl
but-set u zero (row ∷ rows) = refl
but-set u (suc r) (row ∷ rows) = ap (λ xs. row ∷ xs) (but-set u r rows)

-- the rows before and behind row r, as slices give them
pub behind_is : (r at : ℕ) (rows : List (List Fraction)) → at ≡ r → take (length rows - (at + 1)) (drop (at + 1) rows) ≡ drop (r + 1) rows
behind_is r at rows e = take_rest rows (at + 1) ∙ ap (λ n. drop (n + 1) rows) e

pub others_are : (F : List Fraction → List Fraction) (r at : ℕ) (rows : List (List Fraction)) → r < length rows → at ≡ r → map F (take at rows) ++ map F (take (length rows - (at + 1)) (drop (at + 1) rows)) ≡ map F (rows_but r rows)
others_are F r at rows l e =
    ap (λ xs. map F xs ++ map F (take (length rows - (at + 1)) (drop (at + 1) rows))) (ap (λ n. take n rows) e)
    ∙ ap (λ xs. map F (take r rows) ++ map F xs) (behind_is r at rows e)
    ∙ sym (map-append F (take r rows) (drop (r + 1) rows))
    ∙ ap (map F) (sym (but_is r rows l))
