-- A program closes with one certificate, or is Large in one place, and never both.
use Rattle.std.proofs.Common.{ℕ, ◌≡◌, ◌⊎◌, ◌∙◌, ℤ, arith, inl, inr, refl, sym, ap}
use Rattle.nrm_fraction.specs.Large.{size_limit}
use Rattle.nrm_lp.specs.declared.certificate.Certificate.{Certificate}
use Rattle.nrm_lp.specs.Closing.{certificate}
use Rattle.nrm_lp.specs.Overflow.{Closes, Overflows}
use Rattle.nrm_lp.specs.Program.{ProgramValue}
use Rattle.nrm_lp.specs.Tableau.{Tableau}
use Rattle.nrm_lp.proofs.Ends.{every_path_ends, ends_once}
use Rattle.nrm_simplex.specs.Solving.{IsClosing}

module _ (a : ProgramValue) where
  pub closing-once : (c d : Certificate) → IsClosing a c → IsClosing a d → d ≡ c
  closing-once c d (n, t, closes, is) (m, u, closes', is') =
      let (same_count, same) = (ends_once size_limit a).closing n m t u closes closes' in
      is' ∙ ap (certificate a) (sym same) ∙ sym is

  pub closing-apart : (c : Certificate) (n : ℕ) (number : ℤ) → IsClosing a c → Overflows size_limit a n number → ⊥
  closing-apart c n number (m, t, closes, is) large = (ends_once size_limit a).apart m n t number closes large

  pub overflow-once : (n n' : ℕ) (number number' : ℤ) → Overflows size_limit a n number → Overflows size_limit a n' number' → (n' ≡ n) × (number' ≡ number)
  overflow-once n n' number number' large large' = let (same_count, same) = (ends_once size_limit a).overflow n n' number number' large large' in (sym same_count, sym same)

  -- and one of the two it does
  pub closes-or-not : ((c : Certificate) × IsClosing a c) ⊎ ((n : ℕ) × (number : ℤ) × Overflows size_limit a n number)
  closes-or-not = by (every_path_ends size_limit (omega arith) a)
    where
      by : ((n : ℕ) × (t : Tableau) × Closes size_limit a n t) ⊎ ((n : ℕ) × (number : ℤ) × Overflows size_limit a n number)
          → ((c : Certificate) × IsClosing a c) ⊎ ((n : ℕ) × (number : ℤ) × Overflows size_limit a n number)
      by (inl (n, t, closes)) = inl (certificate a t, (n, t, closes, refl))
      by (inr large) = inr large
