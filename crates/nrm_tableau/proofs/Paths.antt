-- A table on its program's path: what is known of it, its entering column and its leaving row.
use Rattle.std.proofs.Common.{◌≡◌, ℕ, zero, suc, ◌+◌, ◌<◌, pos, arith, refl, sym, ap, ◌∙◌, subst, List, [], length, All, Option, Some, None, IfSome, true}
use Rattle.std.specs.Option.{option_map, IsSome}
use Rattle.std.proofs.lemmas.Option.{same_Some, none-some}
use Rattle.std.proofs.lemmas.List.{get_or_default}
use Rattle.nrm_fraction.specs.Fraction.{Fraction, ◌<ᶠ◌, less, whole}
use Rattle.nrm_fraction.specs.Rows.{at}
use Rattle.nrm_fraction.proofs.Tests.{less_if}
use Rattle.nrm_lp.specs.Program.{ProgramValue}
use Rattle.nrm_lp.specs.Limits.{IsLimited}
use Rattle.nrm_lp.specs.Tableau.{Tableau, entering, first_tableau, leaving, right_side}
use Rattle.nrm_lp.specs.Path.{row_number}
use Rattle.nrm_lp.proofs.Path.{entering_is, path_kept}
use Rattle.nrm_lp.proofs.Rule.{IsSound, IsLeaving, leaving_exists}
use Rattle.nrm_tableau.specs.Value.{TableauValue, IsOnPath}

pub first_on_path : (a : ProgramValue) → IsLimited a → IsOnPath (record { program = a; table = first_tableau a })
first_on_path a limits = record { limits = limits; pivots = zero; reached = record { path = refl; small = λ m u l e. absurd (omega (arith, l)) } }

pub kept : (s : TableauValue) → IsOnPath s → IsSound s.program s.table
kept s h = path_kept s.program h.pivots s.table h.reached.path

pub widths : (s : TableauValue) → IsOnPath s → All (λ (row : List Fraction). length row ≡ suc (right_side s.program)) s.table.rows
widths s h = λ k d l. ap length (get_or_default s.table.rows k d [] l) ∙ (kept s h).widths k (omega (arith, (kept s h).shape))

-- the row that leaves
pub number-some : (a : ProgramValue) (t : Tableau) (s r : ℕ) → option_map (λ (found : ℕ × List Fraction). found.0) (leaving a t s) ≡ Some r → row_number (leaving a t s) ≡ r
number-some a t s r e = of (leaving a t s) e
  where
    of : (found : Option (ℕ × List Fraction)) → option_map (λ (found : ℕ × List Fraction). found.0) found ≡ Some r → row_number found ≡ r
    of None e = absurd (none-some r e)
    of (Some found) e = same_Some found.0 r e

pub leaves : (s : TableauValue) → IsOnPath s → (col : ℕ) → col < right_side s.program → (best : Option ℕ) → best ≡ option_map (λ (found : ℕ × List Fraction). found.0) (leaving s.program s.table col) → IsSome best
leaves s h col l best e =
    let found : (r : ℕ) × IsLeaving s.program s.table col r = leaving_exists s.program s.table col (kept s h) l in
    subst IsSome (sym (e ∙ ap (option_map (λ (found : ℕ × List Fraction). found.0)) (found.1).answer)) refl

-- the column that enters stands before the right side, and is negative in the value row
pub entering_before : (s : TableauValue) → IsOnPath s → (col : ℕ) → entering s.table ≡ Some col → col < right_side s.program
entering_before s h col enters =
    let w : (i : ℕ) × (col ≡ 0 + i) × (suc i < length s.table.value) × (at s.table.value i <ᶠ whole (pos 0)) = entering_is 0 s.table.value col enters in
    omega (arith, w.1, w.2, (kept s h).value_width)

pub entering_negative : (s : TableauValue) (col : ℕ) → entering s.table ≡ Some col → less (at s.table.value col) (whole (pos 0)) ≡ true
entering_negative s col enters =
    let w : (i : ℕ) × (col ≡ 0 + i) × (suc i < length s.table.value) × (at s.table.value i <ᶠ whole (pos 0)) = entering_is 0 s.table.value col enters in
    let same : w.0 ≡ col = omega (arith, w.1) in
    subst (λ i. less (at s.table.value i) (whole (pos 0)) ≡ true) same (less_if (at s.table.value w.0) (whole (pos 0)) w.3)

-- the same of a column that may be none
pub found_before : (s : TableauValue) → IsOnPath s → (found : Option ℕ) → found ≡ entering s.table → IfSome found (λ col. col < right_side s.program)
found_before s h None is = tt
found_before s h (Some col) is = entering_before s h col (sym is)

pub found_negative : (s : TableauValue) (found : Option ℕ) → found ≡ entering s.table → IfSome found (λ col. less (at s.table.value col) (whole (pos 0)) ≡ true)
found_negative s None is = tt
found_negative s (Some col) is = entering_negative s col (sym is)
