-- The place of the first byte that passes a test, where it is known that none passes before some place.
use Rattle.std.proofs.Common.{ℕ, ◌≡◌, ◌∙◌, ◌+◌, ◌-◌, ◌<◌, ◌≤◌, Bool, false, true, List, length, get_or, take, drop, Some, None, not, ap}
use Rattle.std.proofs.Common.{subst, arith, inl, inr, length-drop}
use Rattle.std.specs.List.{position, position_or_len, prefix_len}
use Rattle.std.proofs.lemmas.Bool.{cases_lt}
use Rattle.std.proofs.lemmas.List.{get_or-drop, take_rest}
use Rattle.std.proofs.lemmas.List.Sums.{fails_before_first, passes_at_first}
use Rattle.std.proofs.lemmas.Simd.{run_in_chunk_fails, run_in_chunk_stops}
use Rattle.nrm_text.proofs.Places.{found, missing, nowhere, placed}

module _ (p : ℕ → Bool) (xs : List ℕ) where
  abbrev pub NoneBefore : ℕ → Type 0
  NoneBefore at = (k : ℕ) → k < at → p (get_or xs k 0) ≡ false

  module _ (at : ℕ) (none : NoneBefore at) where
    -- so many of the next bytes come before it
    module _ (n before : ℕ) (room : at + n ≤ length xs) (counted : before ≡ prefix_len (λ x. not (p x)) (take n (drop at xs))) where
      pub none-further : n ≤ before → NoneBefore (at + n)
      none-further all k short = elim (cases_lt k at) [
        | inl early ↦ none k early
        | inr late ↦ run_in_chunk_fails p xs at n before 0 room counted k late (omega arith)
      ]

      pub found-here : before < n → position p xs ≡ Some (at + before)
      found-here short =
          placed p xs (at + before) (omega arith)
          (λ k early. elim (cases_lt k at) [
            | inl first ↦ none k first
            | inr late ↦ run_in_chunk_fails p xs at n before 0 room counted k late early
          ])
          (run_in_chunk_stops p xs at n before 0 room counted short)

    -- the rest of the bytes is searched
    rest-fails : (k : ℕ) → at ≤ k → k - at < position_or_len p (drop at xs) → p (get_or xs k 0) ≡ false
    rest-fails k late short =
        let back : at + (k - at) ≡ k = omega arith in
        subst (λ x. p x ≡ false) (get_or-drop at xs (k - at) 0 ∙ ap (λ j. get_or xs j 0) back)
        (fails_before_first p (drop at xs) (k - at) 0 short)

    found-later : (place : ℕ) → position p (drop at xs) ≡ Some place → position p xs ≡ Some (at + place)
    found-later place is =
        let (first, within) = found p (drop at xs) place is in
        let passes = passes_at_first p (drop at xs) 0 (omega arith) in
        placed p xs (at + place) (omega (arith, length-drop at xs))
        (λ k early. elim (cases_lt k at) [
          | inl before ↦ none k before
          | inr late ↦ rest-fails k late (omega arith)
        ])
        (subst (λ x. p x ≡ true) (get_or-drop at xs place 0) (subst (λ i. p (get_or (drop at xs) i 0) ≡ true) first passes))

    found-nowhere : position p (drop at xs) ≡ None → position p xs ≡ None
    found-nowhere is =
        let past = missing p (drop at xs) is in
        nowhere p xs (λ k short. elim (cases_lt k at) [
          | inl before ↦ none k before
          | inr late ↦ rest-fails k late (omega (arith, length-drop at xs))
        ])

    pub found-in_rest : (place : ℕ) → position p (take (length xs - at) (drop at xs)) ≡ Some place → position p xs ≡ Some (at + place)
    found-in_rest place is = found-later place (subst (λ (ys : List ℕ). position p ys ≡ Some place) (take_rest xs at) is)

    pub not-in_rest : position p (take (length xs - at) (drop at xs)) ≡ None → position p xs ≡ None
    not-in_rest is = found-nowhere (subst (λ (ys : List ℕ). position p ys ≡ None) (take_rest xs at) is)
