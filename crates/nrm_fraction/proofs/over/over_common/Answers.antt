-- The denominator, and then the numerators: the first number that is too large is the first on this way.
use Rattle.std.proofs.Common.{◌≡◌, ap, ◌∙◌, subst, pos, None}
use Rattle.std.proofs.lemmas.Result.{err_from_is_err_and}
use Rattle.nrm_fraction.specs.Large.{common, running, numerators as numerators_over, first_reaching, size_limit}
use Rattle.nrm_fraction.specs.Fault.{IsFault}
use Rattle.nrm_fraction.proofs.Numerators.{fault_front, fault_behind, found_behind, short_same}
use Rattle.nrm_fraction.proofs.over.over_common.Goals as goal

pub returns-in_err-den : goal.returns-in_err-den
returns-in_err-den c =
    let xs = c.args.fractions.now in
    let p = err_from_is_err_and c.from_residual.result c.from_residual.ensures.1 in
    rw (p.1, p.2) (fault_front c.in_err-den.field-0.0 (running 1 xs) (numerators_over (common xs) xs) c.in_err-den.ensures)

pub returns-in_err-nums : goal.returns-in_err-nums
returns-in_err-nums c =
    let xs = c.args.fractions.now in
    let p = err_from_is_err_and c.from_residual-in_err-nums.result c.from_residual-in_err-nums.ensures.1 in
    rw (p.1, p.2)
    (fault_behind c.in_err-nums.field-0.0 (running 1 xs) (numerators_over (common xs) xs) c.in_ok-den.ensures.2
    (subst (λ d. IsFault c.in_err-nums.field-0.0 (first_reaching size_limit (numerators_over d xs))) c.in_ok-den.ensures.0 c.in_err-nums.ensures))

pub returns : goal.returns
returns c =
    let xs = c.args.fractions.now in (
      short_same c.in_ok-den.den c.in_ok-den.ensures.1 ∙ ap pos c.in_ok-den.ensures.0,
      c.in_ok-nums.ensures.0 ∙ ap (λ d. numerators_over d xs) c.in_ok-den.ensures.0,
      found_behind (running 1 xs) (numerators_over (common xs) xs) c.in_ok-den.ensures.2 ∙ subst (λ d. first_reaching size_limit (numerators_over d xs) ≡ None) c.in_ok-den.ensures.0 c.in_ok-nums.ensures.1,
    )
