-- Numbers written at their columns, one entry after another.
use Rattle.nrm_row.specs.declared.limits.TheConstants.{MOST_COLUMNS}
use Rattle.std.proofs.Common.{nat_abs, ◌≡◌, ℕ, suc, ◌+◌, ◌<◌, ◌≤◌, ◌⊎◌, inl, inr, ℤ, pos, arith, refl, sym, ap, ◌∙◌, List, [], ◌∷◌, ◌++◌, length, get_or, set, take, map, cond, Bool, true, false, subst, eqb, eq-eqb, ne_eqb, to_z, of_z, w64, get_or-set_same, get_or-set_other, length-take-le}
use Rattle.std.proofs.lemmas.List.{take_more, take_all, get_or-take, length-set}
use Rattle.std.proofs.lemmas.List.FromFn.{get_or-map-range_with_len, length-map-range_with_len}
use Rattle.std.proofs.lemmas.Int.{ints}
use Rattle.std.specs.Int.{IsInRange}
use Rattle.std.specs.List.{range_with_len}
use Rattle.nrm_fraction.specs.Fraction.{◌over◌, whole}
use Rattle.nrm_fraction.specs.Large.{fractions, IsSmall}
use Rattle.nrm_fraction.specs.Rows.{number_at, row_of}
use Rattle.nrm_row.specs.Numbers.{AreEntries, IsBounded, IsRow}
use Rattle.nrm_fraction.proofs.Sizes.{small_same}

-- the last of the entries, at its column and at others
pub at_last : (es : List (ℕ × ℤ)) (col c : ℕ) (n : ℤ) → c ≡ col → ((k : ℕ) → k < length es → ¬ ((get_or es k (0, pos 0)).0 ≡ c)) → number_at (es ++ (col, n) ∷ []) c ≡ n
at_last [] col c n e h = ap (λ b. cond b n (pos 0)) (eq-eqb col c (sym e))
at_last ((col', n') ∷ es) col c n e h = ap (λ b. cond b n' (number_at (es ++ (col, n) ∷ []) c)) (ne_eqb col' c (h 0 (omega arith))) ∙ at_last es col c n e (λ k l. h (suc k) (omega arith))

pub past_last : (es : List (ℕ × ℤ)) (col c : ℕ) (n : ℤ) → ¬ (c ≡ col) → number_at (es ++ (col, n) ∷ []) c ≡ number_at es c
past_last [] col c n d = ap (λ b. cond b n (pos 0)) (ne_eqb col c (λ e. d (sym e)))
past_last ((col', n') ∷ es) col c n d = ap (λ t. cond (eqb col' c) n' t) (past_last es col c n d)

pub same_or_not : (i k : ℕ) → (i ≡ k) ⊎ ¬ (i ≡ k)
same_or_not i k = grind arith

pub all_taken : (es : List (ℕ × ℤ)) (i : ℕ) → length es ≤ i → take i es ≡ es
all_taken es i h = take_all i es h

-- one more entry is written
pub filled_more : (width : ℕ) (es : List (ℕ × ℤ)) (made : List ℤ) (i col : ℕ) → AreEntries width es → i < length es → col ≡ (get_or es i (0, pos 0)).0 → (length made ≡ width) × ((c : ℕ) → c < width → get_or made c (pos 0) ≡ number_at (take i es) c) → (length (set made col (to_z w64 (of_z w64 (get_or es i (0, pos 0)).1))) ≡ width) × ((c : ℕ) → c < width → get_or (set made col (to_z w64 (of_z w64 (get_or es i (0, pos 0)).1))) c (pos 0) ≡ number_at (take (i + 1) es) c)
filled_more width es made i col a h e inv = (
  length-set made col (to_z w64 (of_z w64 (get_or es i (0, pos 0)).1)) ∙ inv.0,
  λ c l. go c l (same_or_not c col),
)
  where
    number : to_z w64 (of_z w64 (get_or es i (0, pos 0)).1) ≡ (get_or es i (0, pos 0)).1
    number = small_same (get_or es i (0, pos 0)).1 (a.small i (0, pos 0) h)

    more : take (i + 1) es ≡ take i es ++ get_or es i (0, pos 0) ∷ []
    more = take_more es i (0, pos 0) h

    before : (c : ℕ) → c ≡ col → (k : ℕ) → k < length (take i es) → ¬ ((get_or (take i es) k (0, pos 0)).0 ≡ c)
    before c s k l q = omega (arith, a.rising k i (0, pos 0) below h, ap (λ t. t.0) (sym (get_or-take i es k (0, pos 0) below)))
      where
        below : k < i
        below = omega (arith, length-take-le i es (omega arith))

    go : (c : ℕ) → c < width → (c ≡ col) ⊎ ¬ (c ≡ col) → get_or (set made col (to_z w64 (of_z w64 (get_or es i (0, pos 0)).1))) c (pos 0) ≡ number_at (take (i + 1) es) c
    go c l (inl s) =
        ap (λ t. get_or (set made col (to_z w64 (of_z w64 (get_or es i (0, pos 0)).1))) t (pos 0)) s
        ∙ get_or-set_same made col (to_z w64 (of_z w64 (get_or es i (0, pos 0)).1)) (pos 0) (omega (arith, inv.0))
        ∙ number
        ∙ sym (at_last (take i es) (get_or es i (0, pos 0)).0 c (get_or es i (0, pos 0)).1 (s ∙ e) (before c s))
        ∙ ap (λ t. number_at t c) (sym more)
    go c l (inr d) =
        get_or-set_other made col c (to_z w64 (of_z w64 (get_or es i (0, pos 0)).1)) (pos 0) d
        ∙ inv.1 c l
        ∙ sym (past_last (take i es) (get_or es i (0, pos 0)).0 c (get_or es i (0, pos 0)).1 (λ q. d (q ∙ sym e)))
        ∙ ap (λ t. number_at t c) (sym more)

-- ---- the row of these numbers
numbers_small : (es : List (ℕ × ℤ)) (c : ℕ) → ((k : ℕ) → k < length es → IsSmall (get_or es k (0, pos 0)).1) → IsSmall (number_at es c)
numbers_small [] c h = omega arith
numbers_small ((col, n) ∷ es) c h = go (eqb col c) refl (h 0 (omega arith)) (numbers_small es c (λ k l. h (suc k) (omega arith)))
  where
    go : (b : Bool) → eqb col c ≡ b → IsSmall n → IsSmall (number_at es c) → IsSmall (cond b n (number_at es c))
    go true e s r = s
    go false e s r = r

-- a bound on the numbers of the entries so far, and of one more
pub bounded_push : (es : List (ℕ × ℤ)) (col c : ℕ) (n : ℤ) (most size : ℕ) → nat_abs (number_at es c) ≤ most → most ≤ size → nat_abs n ≤ size → nat_abs (number_at (es ++ (col, n) ∷ []) c) ≤ size
bounded_push [] col c n most size h l k = go (eqb col c)
  where
    go : (b : Bool) → nat_abs (cond b n (pos 0)) ≤ size
    go true = k
    go false = omega arith
bounded_push ((col', n') ∷ es) col c n most size h l k = go (eqb col' c) h (λ m. bounded_push es col c n most size m l k)
  where
    go : (b : Bool) → nat_abs (cond b n' (number_at es c)) ≤ most → (nat_abs (number_at es c) ≤ most → nat_abs (number_at (es ++ (col, n) ∷ []) c) ≤ size) → nat_abs (cond b n' (number_at (es ++ (col, n) ∷ []) c)) ≤ size
    go true m later = omega arith
    go false m later = later m

-- the number in each place is that of the entries
pub number_in_place : (width : ℕ) (es : List (ℕ × ℤ)) (ns : List ℤ) (k : ℕ) (d : ℤ) → ns ≡ map (λ c. number_at es c) (range_with_len 0 width) → k < length ns → get_or ns k d ≡ number_at es k
number_in_place width es ns k d e l = ap (λ t. get_or t k d) e ∙ get_or-map-range_with_len (λ c. number_at es c) 0 width k k d (omega (arith, long)) (omega arith)
  where
    long : length ns ≡ width
    long = ap length e ∙ length-map-range_with_len (λ c. number_at es c) 0 width

pub filled_bounded : (width : ℕ) (es : List (ℕ × ℤ)) (ns : List ℤ) (most : ℕ) → ns ≡ map (λ c. number_at es c) (range_with_len 0 width) → ((c : ℕ) → nat_abs (number_at es c) ≤ most) → IsBounded most ns
filled_bounded width es ns most e b k d l = subst (λ n. nat_abs n ≤ most) (sym (number_in_place width es ns k d e l)) (b k)

pub row_of_numbers : (width : ℕ) (es : List (ℕ × ℤ)) (ns : List ℤ) → IsInRange 1 MOST_COLUMNS width → AreEntries width es → ns ≡ map (λ c. number_at es c) (range_with_len 0 width) → IsRow (pos 1) ns
row_of_numbers width es ns w a e = record {
  positive = omega (arith, ints);
  small = omega arith;
  smalls = λ k d l. small k d l;
  width = wide;
}
  where
    long : length ns ≡ width
    long = ap length e ∙ length-map-range_with_len (λ c. number_at es c) 0 width

    wide : IsInRange 1 MOST_COLUMNS (length ns)
    wide = (omega (arith, w.0, long), omega (arith, w.1, long))

    small : (k : ℕ) (d : ℤ) → k < length ns → IsSmall (get_or ns k d)
    small k d l = subst IsSmall (sym (number_in_place width es ns k d e l)) (numbers_small es k (λ j m. a.small j (0, pos 0) m))

pub row_of_is : (width : ℕ) (es : List (ℕ × ℤ)) (ns : List ℤ) → ns ≡ map (λ c. number_at es c) (range_with_len 0 width) → fractions 1 ns ≡ row_of width es
unfolding whole
row_of_is width es ns e = ap (fractions 1) e ∙ each (range_with_len 0 width)
  where
    each : (cs : List ℕ) → fractions 1 (map (λ c. number_at es c) cs) ≡ map (λ c. whole (number_at es c)) cs
    each [] = refl
    each (c ∷ cs) = ap (λ t. number_at es c over 1 ∷ t) (each cs)
