-- A text after its byte order mark.
use Rattle.std.proofs.Common.{ℕ, ◌≡◌, ◌==◌, ◌&&◌, Bool, true, false, List, [], ◌∷◌, drop, inl, inr, refl, take, nat_eq}
use Rattle.std.specs.Cmp.Lexicographic.{pointwise}
use Rattle.std.proofs.lemmas.Bool.{cases_Bool}
use Rattle.csv.specs.Reading.{is_bom, strip_bom}
use Rattle.nrm_network.specs.Inner.Lines.{has_quote}
use Rattle.nrm_network.proofs.LineRows.{drop-plain}

abbrev begins_with_mark : List ℕ → Bool
begins_with_mark text = pointwise nat_eq (take 3 text) (239 ∷ 187 ∷ 191 ∷ [])

and-false : (b : Bool) → (b && false) ≡ false
and-false true = refl
and-false false = refl

pub marked : (text : List ℕ) → begins_with_mark text ≡ true → drop 3 text ≡ strip_bom text
unfolding strip_bom
marked [] begins = cc
marked (a ∷ []) begins = let none : false ≡ true = rw and-false at begins in absurd (cc none)
marked (a ∷ b ∷ []) begins =
    elim (cases_Bool (a == 239)) [
      | inl one ↦ let none : false ≡ true = rw (one, and-false) at begins in absurd (cc none)
      | inr other ↦ let none : false ≡ true = rw other at begins in absurd (cc none)
    ]
marked (a ∷ b ∷ c ∷ rest) begins =
    elim (cases_Bool (a == 239)) [
      | inl one ↦ elim (cases_Bool (b == 187)) [
        | inl two ↦ elim (cases_Bool (c == 191)) [
          | inl three ↦ rw (one, two, three) refl
          | inr other ↦ let none : false ≡ true = rw (one, two, other) at begins in absurd (cc none)
        ]
        | inr other ↦ let none : false ≡ true = rw (one, other) at begins in absurd (cc none)
      ]
      | inr other ↦ let none : false ≡ true = rw other at begins in absurd (cc none)
    ]

pub unmarked : (text : List ℕ) → begins_with_mark text ≡ false → text ≡ strip_bom text
unfolding strip_bom
unmarked [] none = refl
unmarked (a ∷ []) none = refl
unmarked (a ∷ b ∷ []) none = refl
unmarked (a ∷ b ∷ c ∷ rest) none =
    elim (cases_Bool (a == 239)) [
      | inl one ↦ elim (cases_Bool (b == 187)) [
        | inl two ↦ elim (cases_Bool (c == 191)) [
          | inl three ↦ let both : true ≡ false = rw (one, two, three) at none in absurd (cc both)
          | inr other ↦ rw (one, two, other) refl
        ]
        | inr other ↦ rw (one, other) refl
      ]
      | inr other ↦ rw other refl
    ]

-- a text without a quote has none without its mark
pub strip-plain : (text : List ℕ) → has_quote text ≡ false → has_quote (strip_bom text) ≡ false
unfolding strip_bom
strip-plain [] plain = plain
strip-plain (a ∷ []) plain = plain
strip-plain (a ∷ b ∷ []) plain = plain
strip-plain (a ∷ b ∷ c ∷ rest) plain =
    elim (cases_Bool (is_bom a b c)) [
      | inl mark ↦ rw mark (drop-plain (a ∷ b ∷ c ∷ rest) 3 plain)
      | inr none ↦ rw none plain
    ]
