-- A pivot keeps three facts of a tableau, here over tables as functions of row and column: basic columns are unit
-- columns, each row is a combination of the first rows by its own slack entries, and each first row is a combination of
-- the present rows.
use Rattle.std.proofs.Common.{◌≡◌, ◌≢◌, ℕ, ◌<◌, ◌⊎◌, inl, inr, pos, refl, sym, ap, ap₂, ◌∙◌, subst, [], ◌∷◌}
use Rattle.std.proofs.lemmas.Bool.{cases_eq}
use Rattle.nrm_number.proofs.Ring.{solve, ◌⊖◌, v0, v1, v2, v3}
use Rattle.nrm_number.proofs.Ring.Expr.{◌⊕◌, ◌⊗◌, e0, e1}
use Rattle.nrm_fraction.specs.Fraction.{Fraction, ◌+ᶠ◌, ◌*ᶠ◌, ◌-ᶠ◌, ◌/ᶠ◌, inverse, whole}
use Rattle.nrm_fraction.proofs.Field.{ring_F, IsPositive, *ᶠ-inverse_pos, *ᶠ_comm}
use Rattle.nrm_fraction.proofs.Sums.{sum_to, sum_same, sum_scaled, sum_combined, sum_changed, sum_single, sum_nought}

-- a table has m constraint rows t, a value row v and the basic columns b
pub record Table : Type 0 where
  pub t : ℕ → ℕ → Fraction
  pub v : ℕ → Fraction
  pub b : ℕ → ℕ

pub record IsPivot (m : ℕ) (old new : Table) (r s : ℕ) : Type 0 where
  pub row : r < m
  pub entry : IsPositive (old.t r s)
  pub unit : (c : ℕ) → new.t r c ≡ old.t r c /ᶠ old.t r s
  pub others : (i c : ℕ) → i < m → i ≢ r → new.t i c ≡ old.t i c -ᶠ old.t i s *ᶠ new.t r c
  pub value : (c : ℕ) → new.v c ≡ old.v c -ᶠ old.v s *ᶠ new.t r c
  pub basic : new.b r ≡ s
  pub kept : (k : ℕ) → k < m → k ≢ r → new.b k ≡ old.b k

pub record HasFacts (m : ℕ) (slack : ℕ → ℕ) (first now : Table) : Type 0 where
  pub zeros : (i k : ℕ) → i < m → k < m → i ≢ k → now.t i (now.b k) ≡ whole (pos 0)
  pub ones : (k : ℕ) → k < m → now.t k (now.b k) ≡ whole (pos 1)
  pub value_zeros : (k : ℕ) → k < m → now.v (now.b k) ≡ whole (pos 0)
  pub from_first : (i c : ℕ) → i < m → now.t i c ≡ sum_to m (λ k. now.t i (slack k) *ᶠ first.t k c)
  pub value_from_first : (c : ℕ) → now.v c ≡ first.v c +ᶠ sum_to m (λ k. now.v (slack k) *ᶠ first.t k c)
  pub to_first : (i c : ℕ) → i < m → first.t i c ≡ sum_to m (λ k. first.t i (now.b k) *ᶠ now.t k c)

module _ (m : ℕ) (slack : ℕ → ℕ) (first old new : Table) (r s : ℕ) (p : IsPivot m old new r s) (h : HasFacts m slack first old) where
  -- column s becomes the unit column of row r
  new_one : new.t r s ≡ whole (pos 1)
  new_one = p.unit s ∙ *ᶠ-inverse_pos (old.t r s) p.entry

  new_zero : (i : ℕ) → i < m → i ≢ r → new.t i s ≡ whole (pos 0)
  new_zero i l d = p.others i s l d ∙ ap (λ t. old.t i s -ᶠ old.t i s *ᶠ t) new_one ∙ solve ring_F (old.t i s ∷ []) (v0 ⊖ v0 ⊗ e1) e0 refl

  new_value_zero : new.v s ≡ whole (pos 0)
  new_value_zero = p.value s ∙ ap (λ t. old.v s -ᶠ old.v s *ᶠ t) new_one ∙ solve ring_F (old.v s ∷ []) (v0 ⊖ v0 ⊗ e1) e0 refl

  -- in the other basic columns row r has 0, so nothing changes
  unit_zero : (k : ℕ) → k < m → k ≢ r → new.t r (old.b k) ≡ whole (pos 0)
  unit_zero k l d = p.unit (old.b k) ∙ ap (λ t. t *ᶠ inverse (old.t r s)) (h.zeros r k p.row l (λ e. d (sym e))) ∙ solve ring_F (inverse (old.t r s) ∷ []) (e0 ⊗ v0) e0 refl

  other_same : (i k : ℕ) → i < m → k < m → k ≢ r → i ≢ r → new.t i (old.b k) ≡ old.t i (old.b k)
  other_same i k l lk dk d = p.others i (old.b k) l d ∙ ap (λ t. old.t i (old.b k) -ᶠ old.t i s *ᶠ t) (unit_zero k lk dk) ∙ solve ring_F (old.t i (old.b k) ∷ old.t i s ∷ []) (v0 ⊖ v1 ⊗ e0) v0 refl

  value_same : (k : ℕ) → k < m → k ≢ r → new.v (old.b k) ≡ old.v (old.b k)
  value_same k lk dk = p.value (old.b k) ∙ ap (λ t. old.v (old.b k) -ᶠ old.v s *ᶠ t) (unit_zero k lk dk) ∙ solve ring_F (old.v (old.b k) ∷ old.v s ∷ []) (v0 ⊖ v1 ⊗ e0) v0 refl

  new_zeros : (i k : ℕ) → i < m → k < m → i ≢ k → new.t i (new.b k) ≡ whole (pos 0)
  new_zeros i k l lk d = by_column (cases_eq k r)
    where
      by_row : k ≢ r → (i ≡ r) ⊎ (i ≢ r) → new.t i (old.b k) ≡ whole (pos 0)
      by_row dk (inl e) = ap (λ j. new.t j (old.b k)) e ∙ unit_zero k lk dk
      by_row dk (inr di) = other_same i k l lk dk di ∙ h.zeros i k l lk d

      by_column : (k ≡ r) ⊎ (k ≢ r) → new.t i (new.b k) ≡ whole (pos 0)
      by_column (inl e) = ap (λ j. new.t i (new.b j)) e ∙ ap (new.t i) p.basic ∙ new_zero i l (λ f. d (f ∙ sym e))
      by_column (inr dk) = ap (new.t i) (p.kept k lk dk) ∙ by_row dk (cases_eq i r)

  new_ones : (k : ℕ) → k < m → new.t k (new.b k) ≡ whole (pos 1)
  new_ones k lk = by_column (cases_eq k r)
    where
      by_column : (k ≡ r) ⊎ (k ≢ r) → new.t k (new.b k) ≡ whole (pos 1)
      by_column (inl e) = ap (λ j. new.t j (new.b j)) e ∙ ap (new.t r) p.basic ∙ new_one
      by_column (inr dk) = ap (new.t k) (p.kept k lk dk) ∙ other_same k k lk lk dk dk ∙ h.ones k lk

  new_value_zeros : (k : ℕ) → k < m → new.v (new.b k) ≡ whole (pos 0)
  new_value_zeros k lk = by_column (cases_eq k r)
    where
      by_column : (k ≡ r) ⊎ (k ≢ r) → new.v (new.b k) ≡ whole (pos 0)
      by_column (inl e) = ap (λ j. new.v (new.b j)) e ∙ ap new.v p.basic ∙ new_value_zero
      by_column (inr dk) = ap new.v (p.kept k lk dk) ∙ value_same k lk dk ∙ h.value_zeros k lk

  -- the new row r, and then the others, from the first rows
  unit_from_first : (c : ℕ) → new.t r c ≡ sum_to m (λ k. new.t r (slack k) *ᶠ first.t k c)
  unit_from_first c =
      p.unit c
      ∙ ap (λ x. x *ᶠ inverse (old.t r s)) (h.from_first r c p.row)
      ∙ solve ring_F (sum_to m (λ k. old.t r (slack k) *ᶠ first.t k c) ∷ inverse (old.t r s) ∷ []) (v0 ⊗ v1) (v1 ⊗ v0) refl
      ∙ sym (sum_scaled m (inverse (old.t r s)) (λ k. old.t r (slack k) *ᶠ first.t k c))
      ∙ sum_same m (λ k. inverse (old.t r s) *ᶠ (old.t r (slack k) *ᶠ first.t k c)) (λ k. new.t r (slack k) *ᶠ first.t k c)
      (λ k l. solve ring_F (inverse (old.t r s) ∷ old.t r (slack k) ∷ first.t k c ∷ []) (v0 ⊗ (v1 ⊗ v2)) (v1 ⊗ v0 ⊗ v2) refl ∙ ap (λ x. x *ᶠ first.t k c) (sym (p.unit (slack k))))

  new_from_first : (i c : ℕ) → i < m → new.t i c ≡ sum_to m (λ k. new.t i (slack k) *ᶠ first.t k c)
  new_from_first i c l = by_row (cases_eq i r)
    where
      by_row : (i ≡ r) ⊎ (i ≢ r) → new.t i c ≡ sum_to m (λ k. new.t i (slack k) *ᶠ first.t k c)
      by_row (inl e) = subst (λ j. new.t j c ≡ sum_to m (λ k. new.t j (slack k) *ᶠ first.t k c)) (sym e) (unit_from_first c)
      by_row (inr d) =
          p.others i c l d
          ∙ ap₂ (λ x y. x -ᶠ old.t i s *ᶠ y) (h.from_first i c l) (unit_from_first c)
          ∙ sym (sum_combined m (old.t i s) (λ k. old.t i (slack k)) (λ k. new.t r (slack k)) (λ k. first.t k c))
          ∙ sum_same m (λ k. (old.t i (slack k) -ᶠ old.t i s *ᶠ new.t r (slack k)) *ᶠ first.t k c) (λ k. new.t i (slack k) *ᶠ first.t k c)
          (λ k lk. ap (λ x. x *ᶠ first.t k c) (sym (p.others i (slack k) l d)))

  new_value_from_first : (c : ℕ) → new.v c ≡ first.v c +ᶠ sum_to m (λ k. new.v (slack k) *ᶠ first.t k c)
  new_value_from_first c =
      p.value c
      ∙ ap₂ (λ x y. x -ᶠ old.v s *ᶠ y) (h.value_from_first c) (unit_from_first c)
      ∙ solve ring_F (first.v c ∷ sum_to m (λ k. old.v (slack k) *ᶠ first.t k c) ∷ old.v s ∷ sum_to m (λ k. new.t r (slack k) *ᶠ first.t k c) ∷ []) (v0 ⊕ v1 ⊖ v2 ⊗ v3) (v0 ⊕ (v1 ⊖ v2 ⊗ v3)) refl
      ∙ ap (λ x. first.v c +ᶠ x)
      (sym (sum_combined m (old.v s) (λ k. old.v (slack k)) (λ k. new.t r (slack k)) (λ k. first.t k c))
      ∙ sum_same m (λ k. (old.v (slack k) -ᶠ old.v s *ᶠ new.t r (slack k)) *ᶠ first.t k c) (λ k. new.v (slack k) *ᶠ first.t k c)
      (λ k lk. ap (λ x. x *ᶠ first.t k c) (sym (p.value (slack k)))))

  -- the first rows from the new ones: the multiplier of row r is now the first row's entry at s
  new_to_first : (i c : ℕ) → i < m → first.t i c ≡ sum_to m (λ k. first.t i (new.b k) *ᶠ new.t k c)
  new_to_first i c l =
      sym (sum_changed m r (λ k. first.t i (new.b k) *ᶠ new.t k c) plain p.row same
      ∙ ap₂ (λ x y. x +ᶠ (first.t i (new.b r) *ᶠ new.t r c -ᶠ y)) plain_sum plain_row
      ∙ ap (λ j. first.t i c -ᶠ new.t r c *ᶠ first.t i s +ᶠ (first.t i j *ᶠ new.t r c -ᶠ whole (pos 0))) p.basic
      ∙ solve ring_F (first.t i c ∷ new.t r c ∷ first.t i s ∷ []) (v0 ⊖ v1 ⊗ v2 ⊕ (v2 ⊗ v1 ⊖ e0)) v0 refl)
    where
      -- the sum with the old multipliers and the rows less their entry times the new row r
      plain : ℕ → Fraction
      plain k = (old.t k c -ᶠ new.t r c *ᶠ old.t k s) *ᶠ first.t i (old.b k)

      turned : (c : ℕ) → sum_to m (λ k. old.t k c *ᶠ first.t i (old.b k)) ≡ first.t i c
      turned c = sum_same m (λ k. old.t k c *ᶠ first.t i (old.b k)) (λ k. first.t i (old.b k) *ᶠ old.t k c) (λ k lk. *ᶠ_comm (old.t k c) (first.t i (old.b k))) ∙ sym (h.to_first i c l)

      plain_sum : sum_to m plain ≡ first.t i c -ᶠ new.t r c *ᶠ first.t i s
      plain_sum =
          sum_combined m (new.t r c) (λ k. old.t k c) (λ k. old.t k s) (λ k. first.t i (old.b k))
          ∙ ap₂ (λ x y. x -ᶠ new.t r c *ᶠ y) (turned c) (turned s)

      plain_row : plain r ≡ whole (pos 0)
      plain_row =
          ap (λ x. (old.t r c -ᶠ x *ᶠ old.t r s) *ᶠ first.t i (old.b r)) (p.unit c)
          ∙ solve ring_F (old.t r c ∷ inverse (old.t r s) ∷ old.t r s ∷ first.t i (old.b r) ∷ []) ((v0 ⊖ v0 ⊗ v1 ⊗ v2) ⊗ v3) ((v0 ⊖ v0 ⊗ (v2 ⊗ v1)) ⊗ v3) refl
          ∙ ap (λ x. (old.t r c -ᶠ old.t r c *ᶠ x) *ᶠ first.t i (old.b r)) (*ᶠ-inverse_pos (old.t r s) p.entry)
          ∙ solve ring_F (old.t r c ∷ first.t i (old.b r) ∷ []) ((v0 ⊖ v0 ⊗ e1) ⊗ v1) e0 refl

      same : (k : ℕ) → k < m → k ≢ r → first.t i (new.b k) *ᶠ new.t k c ≡ plain k
      same k lk dk =
          ap₂ (λ j x. first.t i j *ᶠ x) (p.kept k lk dk) (p.others k c lk dk)
          ∙ solve ring_F (first.t i (old.b k) ∷ old.t k c ∷ old.t k s ∷ new.t r c ∷ []) (v0 ⊗ (v1 ⊖ v2 ⊗ v3)) ((v1 ⊖ v3 ⊗ v2) ⊗ v0) refl

  pub facts_kept : HasFacts m slack first new
  facts_kept = record { zeros = new_zeros; ones = new_ones; value_zeros = new_value_zeros; from_first = new_from_first; value_from_first = new_value_from_first; to_first = new_to_first }

-- the first tableau has the facts: its slack columns are the unit columns, and the value row is 0 there
pub first_facts : (m : ℕ) (slack : ℕ → ℕ) (first : Table) → ((k : ℕ) → k < m → first.b k ≡ slack k) → ((i k : ℕ) → i < m → k < m → i ≢ k → first.t i (slack k) ≡ whole (pos 0)) → ((k : ℕ) → k < m → first.t k (slack k) ≡ whole (pos 1)) → ((k : ℕ) → k < m → first.v (slack k) ≡ whole (pos 0)) → HasFacts m slack first first
first_facts m slack first basic zeros ones value_zeros = record {
  zeros = λ i k l lk d. ap (first.t i) (basic k lk) ∙ zeros i k l lk d;
  ones = λ k lk. ap (first.t k) (basic k lk) ∙ ones k lk;
  value_zeros = λ k lk. ap first.v (basic k lk) ∙ value_zeros k lk;
  from_first = own;
  value_from_first = λ c. sym (ap (λ x. first.v c +ᶠ x) (sum_nought m (λ k. first.v (slack k) *ᶠ first.t k c) (λ k lk. ap (λ x. x *ᶠ first.t k c) (value_zeros k lk) ∙ solve ring_F (first.t k c ∷ []) (e0 ⊗ v0) e0 refl)) ∙ solve ring_F (first.v c ∷ []) (v0 ⊕ e0) v0 refl);
  to_first = λ i c l. own i c l ∙ sum_same m (λ k. first.t i (slack k) *ᶠ first.t k c) (λ k. first.t i (first.b k) *ᶠ first.t k c) (λ k lk. ap (λ j. first.t i j *ᶠ first.t k c) (sym (basic k lk)));
}
  where
    own : (i c : ℕ) → i < m → first.t i c ≡ sum_to m (λ k. first.t i (slack k) *ᶠ first.t k c)
    own i c l =
        sym (sum_single m i (λ k. first.t i (slack k) *ᶠ first.t k c) l (λ k lk d. ap (λ x. x *ᶠ first.t k c) (zeros i k l lk (λ e. d (sym e))) ∙ solve ring_F (first.t k c ∷ []) (e0 ⊗ v0) e0 refl)
        ∙ ap (λ x. x *ᶠ first.t i c) (ones i l)
        ∙ solve ring_F (first.t i c ∷ []) (e1 ⊗ v0) v0 refl)
