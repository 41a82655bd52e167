-- Entries put one by one, and the row that they make.
use Rattle.std.proofs.Common.{◌≡◌, ℕ, zero, suc, ◌+◌, ◌<◌, ◌≤◌, ℤ, pos, arith, refl, ap, ◌∙◌, subst, List, [], ◌∷◌, ◌++◌, map, cond, eqb, All, eq-eqb, ne_eqb, inl, inr}
use Rattle.std.specs.List.{range_with_len}
use Rattle.std.proofs.lemmas.Bool.{cases_lt}
use Rattle.std.proofs.lemmas.List.Elements.{All-nil, All-push, All-tail, All-head, All-weaker}
use Rattle.std.proofs.lemmas.List.Quantifiers.{all_pairs_push}
use Rattle.std.proofs.lemmas.List.FromFn.{fill_by_all, length-map-range_with_len, get_or-map-range_with_len}
use Rattle.nrm_fraction.specs.Fraction.{Fraction, whole}
use Rattle.nrm_fraction.specs.Rows.{number_at, row_of}
use Rattle.nrm_tableau.specs.Inner.Entries.{IsFilled}
use Rattle.nrm_fraction.specs.Large.{IsSmall}

number-absent : (es : List (ℕ × ℤ)) (c : ℕ) → All (λ (e : ℕ × ℤ). e.0 < c) es → number_at es c ≡ pos 0
number-absent [] c h = refl
number-absent (e ∷ es) c h =
    let head : e.0 < c = All-head (λ (e : ℕ × ℤ). e.0 < c) e es h in
    ap (λ t. cond t e.1 (number_at es c)) (ne_eqb e.0 c (λ same. omega arith)) ∙ number-absent es c (All-tail (λ (e : ℕ × ℤ). e.0 < c) e es h)

number-push_same : (es : List (ℕ × ℤ)) (c : ℕ) (n : ℤ) → All (λ (e : ℕ × ℤ). e.0 < c) es → number_at (es ++ (c, n) ∷ []) c ≡ n
number-push_same [] c n h = ap (λ t. cond t n (pos 0)) (eq-eqb c c refl)
number-push_same (e ∷ es) c n h =
    let head : e.0 < c = All-head (λ (e : ℕ × ℤ). e.0 < c) e es h in
    ap (λ t. cond t e.1 (number_at (es ++ (c, n) ∷ []) c)) (ne_eqb e.0 c (λ same. omega arith)) ∙ number-push_same es c n (All-tail (λ (e : ℕ × ℤ). e.0 < c) e es h)

number-push_other : (es : List (ℕ × ℤ)) (b : ℕ) (n : ℤ) (c : ℕ) → c < b → number_at (es ++ (b, n) ∷ []) c ≡ number_at es c
number-push_other [] b n c l = ap (λ t. cond t n (pos 0)) (ne_eqb b c (λ same. omega arith))
number-push_other (e ∷ es) b n c l = ap (λ t. cond (eqb e.0 c) e.1 t) (number-push_other es b n c l)

pub filled_none : (f : ℕ → Fraction) → IsFilled 0 f []
filled_none f = record {
  columns = record { rising = λ i j d low short. absurd (omega arith); within = All-nil (λ (e : ℕ × ℤ). e.0 < 0); small = All-nil (λ (e : ℕ × ℤ). IsSmall e.1) };
  numbers = λ c l. absurd (omega arith);
}

module _ (f : ℕ → Fraction) where
  -- one more column
  cut : (c n : ℕ) → c < n + 1 → (P : ℕ → Type 0) → ((d : ℕ) → d < n → P d) → P n → P c
  cut c n l P below here = elim (cases_lt c n) [ inl m ↦ below c m | inr m ↦ let e : n ≡ c = omega arith in subst P e here ]

  pub filled_skip : (n : ℕ) (es : List (ℕ × ℤ)) → IsFilled n f es → whole (pos 0) ≡ f n → IsFilled (n + 1) f es
  filled_skip n es h e = record {
    columns = record { rising = h.columns.rising; within = All-weaker (λ (e : ℕ × ℤ). e.0 < n) (λ (e : ℕ × ℤ). e.0 < n + 1) (λ x l. omega arith) es h.columns.within; small = h.columns.small };
    numbers = λ c l. cut c n l (λ c. whole (number_at es c) ≡ f c) h.numbers (ap whole (number-absent es n h.columns.within) ∙ e);
  }

  pub filled_push : (n : ℕ) (es : List (ℕ × ℤ)) (x : ℤ) → IsFilled n f es → IsSmall x → whole x ≡ f n → IsFilled (n + 1) f (es ++ (n, x) ∷ [])
  filled_push n es x h small e = record {
    columns = record {
      rising = all_pairs_push (λ (a b : ℕ × ℤ). a.0 < b.0) es (n, x) h.columns.rising (λ k d l. h.columns.within k d l);
      within = All-push (λ (e : ℕ × ℤ). e.0 < n + 1) es (n, x) (All-weaker (λ (e : ℕ × ℤ). e.0 < n) (λ (e : ℕ × ℤ). e.0 < n + 1) (λ x l. omega arith) es h.columns.within) (omega arith);
      small = All-push (λ (e : ℕ × ℤ). IsSmall e.1) es (n, x) h.columns.small small;
    };
    numbers = λ c l. cut c n l (λ c. whole (number_at (es ++ (n, x) ∷ []) c) ≡ f c) (λ d m. ap whole (number-push_other es n x d m) ∙ h.numbers d m) (ap whole (number-push_same es n x h.columns.within) ∙ e);
  }

  pub filled_until : (n k m : ℕ) (es : List (ℕ × ℤ)) → IsFilled n f es → n + k ≡ m → ((c : ℕ) → n ≤ c → c < m → whole (pos 0) ≡ f c) → IsFilled m f es
  filled_until n zero m es h e nought = let same : n ≡ m = omega arith in subst (λ c. IsFilled c f es) same h
  filled_until n (suc k) m es h e nought = filled_until (n + 1) k m es (filled_skip n es h (nought n (omega arith) (omega arith))) (omega arith) (λ c low high. nought c (omega arith) high)

  pub filled_row : (w : ℕ) (es : List (ℕ × ℤ)) → IsFilled w f es → row_of w es ≡ map f (range_with_len 0 w)
  filled_row w es h =
      fill_by_all f (row_of w es) w (whole (pos 0)) (length-map-range_with_len (λ c. whole (number_at es c)) 0 w)
      (λ c l. get_or-map-range_with_len (λ c. whole (number_at es c)) 0 w c c (whole (pos 0)) l (omega arith) ∙ h.numbers c l)
