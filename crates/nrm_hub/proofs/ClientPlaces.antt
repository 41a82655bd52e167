-- Who is at a place, once one place changed or places were added.
use Rattle.std.proofs.Common.{ℕ, zero, suc, ◌≡◌, ◌≢◌, ◌∙◌, ◌<◌, ◌≤◌, ◌⊎◌, List, [], ◌∷◌, ◌++◌, length, get_or, replicate, sym, subst}
use Rattle.std.proofs.Common.{inl, inr, Option, Some, None}
use Rattle.std.specs.Prelude.{slice_set}
use Rattle.std.proofs.lemmas.Bool.{cases_eq, cases_lt}
use Rattle.std.proofs.lemmas.List.{get_or-replicate, get_or-set_other, get_or-set_same, get_or_past, length-replicate}

-- a place where somebody is, is within
pub within : {A : Type 0} (xs : List (Option A)) (i : ℕ) (a : A) → get_or xs i None ≡ Some a → i < length xs
within xs i a is = elim (cases_lt i (length xs)) [
  | inl less ↦ less
  | inr more ↦ let none : None ≡ Some a = sym (get_or_past xs i None more) ∙ is in absurd (cc)
]

-- who is at a place afterwards is there anew, or was there
pub at-changed : {A : Type 0} (xs : List (Option A)) (i p : ℕ) (v : Option A) (a : A) → i < length xs
    → get_or (slice_set xs i v) p None ≡ Some a → ((p ≡ i) × (v ≡ Some a)) ⊎ ((p ≢ i) × (get_or xs p None ≡ Some a))
at-changed xs i p v a short is = elim (cases_eq p i) [
  | inl e ↦ inl (e, sym (get_or-set_same xs i v None short) ∙ subst (λ (q : ℕ). get_or (slice_set xs i v) q None ≡ Some a) e is)
  | inr e ↦ inr (e, sym (get_or-set_other xs i p v None e) ∙ is)
]

-- nobody is at a place that nobody was at
nobody : {A : Type 0} (count p : ℕ) (a : A) → get_or (replicate count None) p None ≡ Some a → None ≡ Some a
nobody {A} count p a is =
    let none : Option A = None in
    elim (cases_lt p count) [
      | inl less ↦ sym (get_or-replicate count p none none less) ∙ is
      | inr more ↦ sym (get_or_past (replicate count none) p none (subst (λ (n : ℕ). n ≤ p) (sym (length-replicate count none)) more)) ∙ is
    ]

pub at-longer : {A : Type 0} (xs : List (Option A)) (count p : ℕ) (a : A) → get_or (xs ++ replicate count None) p None ≡ Some a
    → get_or xs p None ≡ Some a
at-longer [] count p a is = nobody count p a is
at-longer (x ∷ xs) count zero a is = is
at-longer (x ∷ xs) count (suc p) a is = at-longer xs count p a is
