-- The steps of a search for the least number at which a test holds.
use Rattle.std.proofs.Common.{◌≡◌, ℕ, suc, ◌+◌, ◌-◌, ◌<◌, ◌≤◌, arith, sym, ap, ◌∙◌, Bool, true, false, cond, Option, Some, None}
use Rattle.nrm_dual.specs.Conditions.{least}

module _ (test : ℕ → Bool) (count : ℕ) where
  -- what is left of the search at k
  abbrev pub rest : ℕ → Option ℕ
  rest k = least test k (count - k)

  rest_more : (k : ℕ) → k < count → rest k ≡ cond (test k) (Some k) (rest (k + 1))
  rest_more k l = ap (least test k) fewer ∙ ap (λ n. cond (test k) (Some k) (least test n (count - (k + 1)))) next
    where
      fewer : count - k ≡ suc (count - (k + 1))
      fewer = omega arith

      next : suc k ≡ k + 1
      next = omega arith

  rest_all : rest 0 ≡ least test 0 count
  rest_all = ap (least test 0) all
    where
      all : count - 0 ≡ count
      all = omega arith

  pub found : (k : ℕ) (b : Bool) → k < count → b ≡ test k → b ≡ true → rest k ≡ rest 0 → Some k ≡ least test 0 count
  found k b l e t h = sym (rest_more k l ∙ ap (λ b. cond b (Some k) (rest (k + 1))) (sym e ∙ t)) ∙ h ∙ rest_all

  pub passed : (k : ℕ) (b : Bool) → k < count → b ≡ test k → b ≡ false → rest k ≡ rest 0 → rest (k + 1) ≡ rest 0
  passed k b l e t h = sym (rest_more k l ∙ ap (λ b. cond b (Some k) (rest (k + 1))) (sym e ∙ t)) ∙ h

  pub none_left : (k : ℕ) → count ≤ k → rest k ≡ rest 0 → None ≡ least test 0 count
  none_left k l h = sym (ap (least test k) over) ∙ h ∙ rest_all
    where
      over : count - k ≡ 0
      over = omega arith
