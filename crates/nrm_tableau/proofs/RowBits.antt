-- Sets of rows by their bits: a row put in, and two sets joined.
use Rattle.std.proofs.Common.{◌≡◌, ℕ, ◌+◌, ◌*◌, ◌/◌, ◌%◌, ◌^◌, ◌<◌, ◌≤◌, ◌⊎◌, inl, inr, arith, refl, sym, ap, ◌∙◌, subst, List, length, get_or, set, max, bit_or, w64, get_or-set_same, get_or-set_other}
use Rattle.std.specs.Int.{bit_at}
use Rattle.std.proofs.lemmas.List.{get_or_past, length-set}
use Rattle.std.proofs.lemmas.Bool.{cases_lt}
use Rattle.std.proofs.lemmas.Nat.Bits.{bit_at_or, bit_at_set_same, bit_at_set_other, bit_at-zero, bit_at-lt}
use Rattle.nrm_tableau.specs.RowSets.{row_bit}

pub same_or_not : (i k : ℕ) → (i ≡ k) ⊎ ¬ (i ≡ k)
same_or_not i k = grind arith

module _ (ws : List ℕ) (row place : ℕ) (e : place ≡ row / 64) (h : row < 320) (l : length ws ≡ 5) where
  abbrev word : ℕ
  word = bit_or (get_or ws place 0) (1 * 2 ^ (row % 64) % 18446744073709551616)

  here : get_or (set ws place word) (row / 64) 0 ≡ word
  here = ap (λ k. get_or (set ws place word) k 0) (sym e) ∙ get_or-set_same ws place word 0 (omega arith)

  -- a row that is put in is there
  pub put_there : row_bit (set ws place word) row ≡ 1
  put_there = ap (λ x. bit_at x (row % 64)) here ∙ bit_at_set_same w64 (get_or ws place 0) (row % 64) (omega arith)

  -- and those before stay
  pub put_kept : (r : ℕ) → row_bit ws r ≡ 1 → row_bit (set ws place word) r ≡ 1
  put_kept r there = by_word (same_or_not (r / 64) place)
    where
      by_bit : r / 64 ≡ place → (r % 64 ≡ row % 64) ⊎ ¬ (r % 64 ≡ row % 64) → bit_at word (r % 64) ≡ 1
      by_bit same (inl s) = ap (bit_at word) s ∙ bit_at_set_same w64 (get_or ws place 0) (row % 64) (omega arith)
      by_bit same (inr d) = bit_at_set_other w64 (get_or ws place 0) (row % 64) (omega arith) (r % 64) d ∙ ap (λ k. bit_at (get_or ws k 0) (r % 64)) (sym same) ∙ there

      by_word : (r / 64 ≡ place) ⊎ ¬ (r / 64 ≡ place) → row_bit (set ws place word) r ≡ 1
      by_word (inl s) = ap (λ k. bit_at (get_or (set ws place word) k 0) (r % 64)) s ∙ ap (λ x. bit_at x (r % 64)) (get_or-set_same ws place word 0 (omega arith)) ∙ by_bit s (same_or_not (r % 64) (row % 64))
      by_word (inr d) = ap (λ x. bit_at x (r % 64)) (get_or-set_other ws place (r / 64) word 0 d) ∙ there

pub one_nought : {n : ℕ} → n ≡ 1 → n ≡ 0 → ⊥
one_nought {n} e f = omega (arith, e, f)

-- ---- two sets joined
pub record IsJoinedTo (old other now : List ℕ) (i : ℕ) : Type 0 where
  pub long : length now ≡ 5
  pub joined : (k : ℕ) → k < i → get_or now k 0 ≡ bit_or (get_or old k 0) (get_or other k 0)
  pub rest : (k : ℕ) → i ≤ k → get_or now k 0 ≡ get_or old k 0

neither : (a b : ℕ) → max a b ≡ 0 → (a ≡ 0) × (b ≡ 0)
neither a b e = (omega arith, omega arith)

pub joined_bits : (old other now : List ℕ) → length old ≡ 5 → length other ≡ 5 → IsJoinedTo old other now 5 → (r : ℕ) → row_bit now r ≡ 0 → (row_bit old r ≡ 0) × (row_bit other r ≡ 0)
joined_bits old other now lo lt p r e = by_place (cases_lt (r / 64) 5)
  where
    by_place : (r / 64 < 5) ⊎ (5 ≤ r / 64) → (row_bit old r ≡ 0) × (row_bit other r ≡ 0)
    by_place (inl l) = neither (row_bit old r) (row_bit other r) (sym (bit_at_or (get_or old (r / 64) 0) (get_or other (r / 64) 0) (r % 64)) ∙ ap (λ x. bit_at x (r % 64)) (sym (p.joined (r / 64) l)) ∙ e)
    by_place (inr l) = (
      ap (λ x. bit_at x (r % 64)) (get_or_past old (r / 64) 0 (omega (arith, lo))) ∙ bit_at-zero (r % 64),
      ap (λ x. bit_at x (r % 64)) (get_or_past other (r / 64) 0 (omega (arith, lt))) ∙ bit_at-zero (r % 64),
    )

-- a set that keeps all rows of another has no fewer
pub without : (old new : List ℕ) (r : ℕ) → ((k : ℕ) → row_bit old k ≡ 1 → row_bit new k ≡ 1) → row_bit new r ≡ 0 → row_bit old r ≡ 0
without old new r kept e = by_bit (same_or_not (row_bit old r) 1)
  where
    by_bit : (row_bit old r ≡ 1) ⊎ ¬ (row_bit old r ≡ 1) → row_bit old r ≡ 0
    by_bit (inl s) = absurd (one_nought (kept r s) e)
    by_bit (inr n) = omega (arith, bit_at-lt (get_or old (r / 64) 0) (r % 64))

-- one more row
pub up_to : (P : ℕ → Type 0) (n k : ℕ) → k < n + 1 → ((j : ℕ) → j < n → P j) → P n → P k
up_to P n k l before here = elim (cases_lt k n) [ inl m ↦ before k m | inr m ↦ let e : n ≡ k = omega arith in subst P e here ]
