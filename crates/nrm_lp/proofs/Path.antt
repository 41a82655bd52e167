-- What is known of each tableau of a path, and that the closing of its last one is optimal.
use Rattle.std.proofs.Common.{◌≡◌, ℕ, zero, suc, ◌+◌, ◌<◌, ◌⊎◌, inl, inr, pos, arith, refl, sym, ap, ◌∙◌, subst, List, [], ◌∷◌, length, Bool, true, false, cond, Option, Some, None}
use Rattle.std.proofs.lemmas.Option.{none-some, same_Some}
use Rattle.nrm_fraction.specs.Fraction.{Fraction, whole, less, ◌<ᶠ◌}
use Rattle.nrm_lp.specs.Program.{ProgramValue, IsProgram, IsOptimalAllocation, IsOptimalPrices}
use Rattle.nrm_fraction.specs.Large.{common, over_common}
use Rattle.nrm_lp.specs.Tableau.{Tableau, right_side, first_tableau, entering, entering_from, leaving, pivot}
use Rattle.nrm_fraction.specs.Rows.{at}
use Rattle.nrm_lp.specs.Closing.{product_values, leg_prices}
use Rattle.nrm_lp.specs.Path.{row_number, next_at, next_of, after, IsLast}
use Rattle.nrm_fraction.proofs.Field.{IsNonNegative, trichotomy}
use Rattle.nrm_fraction.proofs.Tests.{less_true, less_false}
use Rattle.nrm_lp.proofs.Rule.{IsSound, IsLeaving, leaving_exists, pivot_keeps, first_kept}
use Rattle.nrm_lp.proofs.Optimal.{closing_allocation_optimal, closing_prices_optimal}

non_negative_unless : (x : Fraction) → (x <ᶠ whole (pos 0) → ⊥) → IsNonNegative x
non_negative_unless x n = go (trichotomy x (whole (pos 0)))
  where
    go : (x <ᶠ whole (pos 0)) ⊎ ((x ≡ whole (pos 0)) ⊎ (whole (pos 0) <ᶠ x)) → IsNonNegative x
    go (inl h) = absurd (n h)
    go (inr (inl e)) = inr e
    go (inr (inr h)) = inl h

-- the entering column stands before the right side, and its entry is below 0
pub entering_is : (c : ℕ) (xs : List Fraction) (s : ℕ) → entering_from c xs ≡ Some s → (i : ℕ) × (s ≡ c + i) × (suc i < length xs) × (at xs i <ᶠ whole (pos 0))
entering_is c [] s e = absurd (none-some s e)
entering_is c (x ∷ []) s e = absurd (none-some s e)
entering_is c (x ∷ y ∷ ys) s e = go (less x (whole (pos 0))) refl (entering_is (suc c) (y ∷ ys) s) e
  where
    go : (b : Bool) → less x (whole (pos 0)) ≡ b → (entering_from (suc c) (y ∷ ys) ≡ Some s → (i : ℕ) × (s ≡ suc c + i) × (suc i < length (y ∷ ys)) × (at (y ∷ ys) i <ᶠ whole (pos 0))) → cond b (Some c) (entering_from (suc c) (y ∷ ys)) ≡ Some s → (i : ℕ) × (s ≡ c + i) × (suc i < length (x ∷ y ∷ ys)) × (at (x ∷ y ∷ ys) i <ᶠ whole (pos 0))
    go true f rest e = (0, sym (same_Some c s e) ∙ plus_zero c, omega arith, less_true x (whole (pos 0)) f)
      where
        plus_zero : (c : ℕ) → c ≡ c + 0
        plus_zero c = omega arith
    go false f rest e = let w : (i : ℕ) × (s ≡ suc c + i) × (suc i < length (y ∷ ys)) × (at (y ∷ ys) i <ᶠ whole (pos 0)) = rest e in (suc (w.0), omega (arith, w.1), omega (arith, w.2), w.3)

entering_none : (c : ℕ) (xs : List Fraction) → entering_from c xs ≡ None → (i : ℕ) → suc i < length xs → IsNonNegative (at xs i)
entering_none c [] e i l = absurd (omega arith)
entering_none c (x ∷ []) e i l = absurd (omega arith)
entering_none c (x ∷ y ∷ ys) e i l = go (less x (whole (pos 0))) refl (entering_none (suc c) (y ∷ ys)) e i l
  where
    go : (b : Bool) → less x (whole (pos 0)) ≡ b → (entering_from (suc c) (y ∷ ys) ≡ None → (i : ℕ) → suc i < length (y ∷ ys) → IsNonNegative (at (y ∷ ys) i)) → cond b (Some c) (entering_from (suc c) (y ∷ ys)) ≡ None → (i : ℕ) → suc i < length (x ∷ y ∷ ys) → IsNonNegative (at (x ∷ y ∷ ys) i)
    go true f rest e i l = absurd (none-some c (sym e))
    go false f rest e zero l = non_negative_unless x (less_false x (whole (pos 0)) f)
    go false f rest e (suc i) l = rest e i (omega arith)

module _ (a : ProgramValue) where
  next_kept : (t : Tableau) (s : ℕ) → IsSound a t → entering t ≡ Some s → IsSound a (pivot t (row_number (leaving a t s)) s)
  next_kept t s h e =
      let w : (i : ℕ) × (s ≡ 0 + i) × (suc i < length t.value) × (at t.value i <ᶠ whole (pos 0)) = entering_is 0 t.value s e in
      let below : s < right_side a = omega (arith, w.1, w.2, h.value_width) in
      let found : (r : ℕ) × IsLeaving a t s r = leaving_exists a t s h below in
      subst (λ r. IsSound a (pivot t r s)) (sym (ap row_number (found.1).answer)) (pivot_keeps a t s h below found.0 found.1)

  pub path_kept : (n : ℕ) (t : Tableau) → after a n ≡ Some t → IsSound a t
  path_kept zero t e = subst (λ u. IsSound a u) (same_Some (first_tableau a) t e) (first_kept a)
  path_kept (suc n) t e = from (after a n) (path_kept n) refl e
    where
      from_column : (u : Tableau) → IsSound a u → (c : Option ℕ) → entering u ≡ c → next_at a u c ≡ Some t → IsSound a t
      from_column u h None f e = absurd (none-some t e)
      from_column u h (Some s) f e = subst (λ v. IsSound a v) (same_Some (pivot u (row_number (leaving a u s)) s) t e) (next_kept u s h f)

      from : (o : Option Tableau) → ((u : Tableau) → o ≡ Some u → IsSound a u) → after a n ≡ o → next_of a o ≡ Some t → IsSound a t
      from None kept f e = absurd (none-some t e)
      from (Some u) kept f e = from_column u (kept u refl) (entering u) refl e

  pub last_signs : (t : Tableau) → IsSound a t → entering t ≡ None → (c : ℕ) → c < right_side a → IsNonNegative (at t.value c)
  last_signs t h e c l = entering_none 0 t.value e c (omega (arith, h.value_width))

  -- the closing of the last tableau is optimal, both its allocation and its prices
  pub path_ends_optimal : IsProgram a → (t : Tableau) → IsLast a t → IsOptimalAllocation a (common (product_values a t)) (over_common (product_values a t)) × IsOptimalPrices a (common (leg_prices a t)) (over_common (leg_prices a t))
  path_ends_optimal ok t last =
      let h : IsSound a t = path_kept last.0 t last.1 in
      (closing_allocation_optimal a ok t h h.basis_below (last_signs t h last.2), closing_prices_optimal a ok t h h.basis_below (last_signs t h last.2))
