-- How far `solve` has walked on a program's path, and what each step of it and its end say.
use Rattle.std.proofs.Common.{◌≡◌, ℕ, suc, ◌+◌, ◌-◌, ◌^◌, ◌<◌, inl, inr, arith, refl, sym, ap, ◌∙◌, subst, List, Some, None, Result, Ok, Err, MatchResult, IfOk, min}
use Rattle.std.specs.Option.{option_map}
use Rattle.nrm_fraction.specs.Fraction.{Fraction}
use Rattle.nrm_lp.specs.declared.certificate.Certificate.{Certificate}
use Rattle.nrm_lp.specs.Program.{ProgramValue}
use Rattle.nrm_lp.specs.Tableau.{entering, first_tableau, leaving, pivot}
use Rattle.nrm_lp.specs.Path.{row_number}
use Rattle.nrm_lp.specs.Closing.{certificate}
use Rattle.nrm_lp.specs.Overflow.{Reaches, closing_large, pivot_large}
use Rattle.nrm_lp.specs.Certified.{Certifies}
use Rattle.nrm_lp.specs.Limits.{IsLimited}
use Rattle.nrm_lp.proofs.Certify.{certifies}
use Rattle.nrm_lp.proofs.Ends.{next_reached, rise_falls, rise_left}
use Rattle.nrm_fraction.specs.declared.fault.RowFault.{RowFault}
use Rattle.nrm_fraction.specs.declared.fault.RowFault.TheVariants as row
use Rattle.nrm_fraction.specs.Fault.{IsFault}
use Rattle.nrm_tableau.specs.Value.{TableauValue}
use Rattle.nrm_tableau.proofs.Paths.{number-some}
use Rattle.nrm_simplex.specs.declared.fault.SolveFault.{SolveFault}
use Rattle.nrm_simplex.specs.Inner.Faults.{fault_after}
use Rattle.nrm_simplex.specs.Solving.{IsClosing, IsSolveFault}
use Rattle.nrm_fraction.specs.Large.{size_limit}

-- the tableau is the program's after so many finished pivots, of which as many are counted as can be
pub record IsWalked (a : ProgramValue) (s : TableauValue) (pivots : ℕ) : Type 0 where
  pub program : s.program ≡ a
  pub finished : ℕ
  pub reached : Reaches size_limit a finished s.table
  pub counted : pivots ≡ min finished (2 ^ 32 - 1)

-- what is left of the measure
pub walk_left : TableauValue → ℕ
walk_left s = rise_left size_limit s.program s.table

module _ (a : ProgramValue) (s : TableauValue) (pivots : ℕ) (walked : IsWalked a s pivots) where
  own_reached : Reaches size_limit s.program walked.finished s.table
  own_reached = subst (λ b. Reaches size_limit b walked.finished s.table) (sym walked.program) walked.reached

  -- a finished pivot
  module _ (col r : ℕ) (next : TableauValue) (counted : ℕ) (enters : entering s.table ≡ Some col) (leaves : option_map (λ (found : ℕ × List Fraction). found.0) (leaving s.program s.table col) ≡ Some r) (small : pivot_large size_limit s.program s.table ≡ None) (made : next ≡ record s { table = pivot s.table r col }) where
    row_is : row_number (leaving s.program s.table col) ≡ r
    row_is = number-some s.program s.table col r leaves

    next_is : pivot s.table (row_number (leaving s.program s.table col)) col ≡ next.table
    next_is = ap (λ k. pivot s.table k col) row_is ∙ sym (ap (λ (s : TableauValue). s.table) made)

    pub walk_on : counted ≡ min (pivots + 1) (2 ^ 32 - 1) → IsWalked a next counted
    walk_on e = record {
      program = ap (λ (s : TableauValue). s.program) made ∙ walked.program;
      finished = suc walked.finished;
      reached = subst (λ t. Reaches size_limit a (suc walked.finished) t) next_is (subst (λ b. Reaches size_limit b (suc walked.finished) (pivot s.table (row_number (leaving s.program s.table col)) col)) walked.program (next_reached size_limit s.program walked.finished s.table col own_reached enters small));
      counted = e ∙ ap (λ k. min (k + 1) (2 ^ 32 - 1)) walked.counted ∙ one_more walked.finished (2 ^ 32 - 1);
    }
      where
        one_more : (n most : ℕ) → min (min n most + 1) most ≡ min (suc n) most
        one_more n most = grind arith

    pub walk_falls : walk_left next < walk_left s
    unfolding walk_left
    walk_falls =
        subst (λ t. rise_left size_limit next.program t < rise_left size_limit s.program s.table) next_is
        (subst (λ b. rise_left size_limit b (pivot s.table (row_number (leaving s.program s.table col)) col) < rise_left size_limit s.program s.table) (sym (ap (λ (s : TableauValue). s.program) made))
        (rise_falls size_limit (omega arith) s.program walked.finished s.table col own_reached enters small))

  pub closing_is : entering s.table ≡ None → (made : Certificate) → made ≡ certificate s.program s.table → closing_large size_limit s.program s.table ≡ None → IsClosing a made
  closing_is last made e small = (walked.finished, s.table, (walked.reached, last, ap (λ b. closing_large size_limit b s.table) (sym walked.program) ∙ small), e ∙ ap (λ b. certificate b s.table) walked.program)

-- a closing shows what it should
pub closing_certifies : (a : ProgramValue) → IsLimited a → (made : Certificate) → IsClosing a made → Certifies size_limit a made
closing_certifies a limits made h = subst (Certifies size_limit a) (sym h.3) (certifies size_limit (omega arith) a limits.products h.0 h.1 h.2)

pub certified : (a : ProgramValue) → IsLimited a → (result : Result Certificate SolveFault) → MatchResult result (IsClosing a) (IsSolveFault a) → IfOk result (Certifies size_limit a)
certified a limits (Ok made) h = closing_certifies a limits made h
certified a limits (Err f) h = tt
