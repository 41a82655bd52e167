-- Lists in which some places are written: one number more, and row by row all places of those numbers that pass a test.
use Rattle.std.proofs.Common.{ℕ, zero, suc, ◌≡◌, ◌≢◌, ◌∙◌, ◌+◌, ◌*◌, ◌<◌, ◌≤◌, Bool, true, false, cond, List, [], ◌∷◌, ◌++◌, length, get_or, set, filter, replicate, ◌⊎◌, inl, inr, refl, sym, ap, arith}
use Rattle.std.specs.List.{range_with_len}
use Rattle.std.proofs.lemmas.Bool.{cases_Bool, cases_lt}
use Rattle.std.proofs.lemmas.List.{get_or-replicate, get_or-set_other, get_or-set_same, get_or_past, length-replicate, length-set}
use native.Mathlib.Nat.{mul-le-mul_right}
use Rattle.nrm_virtual.specs.Inner.Written.{AreWritten, written}

-- one number more, and no place more
pub written-more : (first : ℕ) (f : ℕ → ℕ) (js : List ℕ) (j : ℕ) (places : List ℕ) → written first f (js ++ j ∷ []) places ≡ set (written first f js places) (first + j) (f j)
written-more first f [] j places = refl
written-more first f (k ∷ js) j places = written-more first f js j (set places (first + k) (f k))

pub length-written : (first : ℕ) (f : ℕ → ℕ) (js : List ℕ) (places : List ℕ) → length (written first f js places) ≡ length places
length-written first f [] places = refl
length-written first f (j ∷ js) places = length-written first f js (set places (first + j) (f j)) ∙ length-set places (first + j) (f j)

-- ---- those numbers of a range that pass a test
module _ (first : ℕ) (f : ℕ → ℕ) (test : ℕ → Bool) where
  abbrev row : ℕ → ℕ → List ℕ → List ℕ
  row from count places = written first f (filter test (range_with_len from count)) places

  -- the first of them, or none
  begun : (from count : ℕ) (places : List ℕ) (b : Bool) → test from ≡ b → row from (suc count) places ≡ row (from + 1) count (cond b (set places (first + from) (f from)) places)
  begun from count places true is = ap (λ (b : Bool). written first f (cond b (from ∷ filter test (range_with_len (from + 1) count)) (filter test (range_with_len (from + 1) count))) places) is
  begun from count places false is = ap (λ (b : Bool). written first f (cond b (from ∷ filter test (range_with_len (from + 1) count)) (filter test (range_with_len (from + 1) count))) places) is

  -- a place of no number of the range stays
  pub row-outside : (from count : ℕ) (places : List ℕ) (n : ℕ) → (n < first + from) ⊎ (first + from + count ≤ n) → get_or (row from count places) n 0 ≡ get_or places n 0
  row-outside from zero places n out = refl
  row-outside from (suc count) places n out =
      let apart : n ≢ first + from = elim out [ inl low ↦ λ same. omega arith | inr high ↦ λ same. omega arith ] in
      let still : (n < first + (from + 1)) ⊎ (first + (from + 1) + count ≤ n) = elim out [ inl low ↦ inl (omega arith) | inr high ↦ inr (omega arith) ] in
      elim (cases_Bool (test from)) [
        | inl is ↦ ap (λ (xs : List ℕ). get_or xs n 0) (begun from count places true is) ∙ row-outside (from + 1) count (set places (first + from) (f from)) n still ∙ get_or-set_other places (first + from) n (f from) 0 apart
        | inr is ↦ ap (λ (xs : List ℕ). get_or xs n 0) (begun from count places false is) ∙ row-outside (from + 1) count places n still
      ]

  -- that of a number which passes has what f gives for it, and that of another one stays
  pub row-at : (from count : ℕ) (places : List ℕ) (j : ℕ) → from ≤ j → j < from + count → first + from + count ≤ length places → get_or (row from count places) (first + j) 0 ≡ cond (test j) (f j) (get_or places (first + j) 0)
  row-at from zero places j low high within = absurd (omega arith)
  row-at from (suc count) places j low high within =
      elim (cases_lt from j) [
        | inl over ↦
            let apart : first + j ≢ first + from = λ same. omega arith in
            elim (cases_Bool (test from)) [
              | inl is ↦ ap (λ (xs : List ℕ). get_or xs (first + j) 0) (begun from count places true is)
                  ∙ row-at (from + 1) count (set places (first + from) (f from)) j (omega arith) (omega arith) (omega (arith, length-set places (first + from) (f from)))
                  ∙ ap (cond (test j) (f j)) (get_or-set_other places (first + from) (first + j) (f from) 0 apart)
              | inr is ↦ ap (λ (xs : List ℕ). get_or xs (first + j) 0) (begun from count places false is) ∙ row-at (from + 1) count places j (omega arith) (omega arith) (omega arith)
            ]
        | inr under ↦
            let same : j ≡ from = omega arith in
            elim (cases_Bool (test from)) [
              | inl is ↦ ap (λ (xs : List ℕ). get_or xs (first + j) 0) (begun from count places true is)
                  ∙ row-outside (from + 1) count (set places (first + from) (f from)) (first + j) (inl (omega arith))
                  ∙ ap (λ (n : ℕ). get_or (set places (first + from) (f from)) (first + n) 0) same
                  ∙ get_or-set_same places (first + from) (f from) 0 (omega arith)
                  ∙ ap f (sym same) ∙ ap (λ (b : Bool). cond b (f j) (get_or places (first + j) 0)) (sym (ap test same ∙ is))
              | inr is ↦ ap (λ (xs : List ℕ). get_or xs (first + j) 0) (begun from count places false is)
                  ∙ row-outside (from + 1) count places (first + j) (inl (omega arith))
                  ∙ ap (λ (b : Bool). cond b (f j) (get_or places (first + j) 0)) (sym (ap test same ∙ is))
            ]
      ]

-- ---- row by row
nought : (count n d : ℕ) → get_or (replicate count d) n d ≡ d
nought count n d = elim (cases_lt n count) [
  | inl low ↦ get_or-replicate count n d d low
  | inr high ↦ get_or_past (replicate count d) n d (omega (arith, length-replicate count d))
]

pub none-written : (test : ℕ → ℕ → Bool) (f : ℕ → ℕ → ℕ) (rows wide : ℕ) → AreWritten test f rows wide 0 (replicate (rows * wide) 0)
none-written test f rows wide = record {
  long = length-replicate (rows * wide) 0;
  done = λ i j low short. absurd (omega arith);
  rest = λ n past. nought (rows * wide) n 0;
}

pub row-more : (test : ℕ → ℕ → Bool) (f : ℕ → ℕ → ℕ) (rows wide k : ℕ) (places : List ℕ) → AreWritten test f rows wide k places → k < rows
    → AreWritten test f rows wide (k + 1) (written (k * wide) (f k) (filter (test k) (range_with_len 0 wide)) places)
row-more test f rows wide k places are short =
    let end : suc k * wide ≤ rows * wide = mul-le-mul_right wide short in
    record {
      long = length-written (k * wide) (f k) (filter (test k) (range_with_len 0 wide)) places ∙ are.long;
      done = λ i j low within. elim (cases_lt i k) [
        | inl before ↦
            let under : suc i * wide ≤ k * wide = mul-le-mul_right wide before in
            row-outside (k * wide) (f k) (test k) 0 wide places (i * wide + j) (inl (omega arith)) ∙ are.done i j before within
        | inr here ↦
            let same : i ≡ k = omega arith in
            ap (λ (r : ℕ). get_or (written (k * wide) (f k) (filter (test k) (range_with_len 0 wide)) places) (r * wide + j) 0) same
            ∙ row-at (k * wide) (f k) (test k) 0 wide places j (omega arith) (omega arith) (omega (arith, are.long, end))
            ∙ ap (cond (test k j) (f k j)) (are.rest (k * wide + j) (omega arith))
            ∙ ap (λ (r : ℕ). cond (test r j) (f r j) 0) (sym same)
      ];
      rest = λ n past. row-outside (k * wide) (f k) (test k) 0 wide places n (inr (omega arith)) ∙ are.rest n (omega arith);
    }
