-- Each product is put where it uses the leg.
use Rattle.std.proofs.Common.{◌≡◌, ◌∙◌, ap, sym, subst, arith, length}
use Rattle.nrm_lp.specs.Tableau.{first_entry}
use Rattle.nrm_tableau.specs.Inner.Entries.{IsFilled}
use Rattle.nrm_tableau.proofs.Filling.{filled_none}
use Rattle.nrm_tableau.proofs.FirstEntries.{leg_taken, leg_left}
use Rattle.nrm_tableau.proofs.first.products_on.Goals as goal
use Rattle.nrm_tableau.proofs.first.products_on.Goals.{then-uses_leg+in_ok-push, else-uses_leg}

pub loop-product-init : goal.loop-product-init
loop-product-init c = rw c.new-entries.ensures.items (filled_none _)

pub loop-product-preserved : goal.loop-product-preserved
loop-product-preserved c =
    let a = c.args.program.now in
    let i = c.args.leg in
    let j = c.loop-product.product in
    let es = c.loop-product.entries.items in
    let new = c.if-uses_leg.entries.items in
    elim c.if-uses_leg.branch [
      | then-uses_leg+in_ok-push w ↦ leg_taken a i j es new c.requires (omega arith) (sym c.uses_leg.ensures.uses ∙ w.if-uses_leg.true) (ap (λ v. v.items) w.entries-is ∙ w.in_ok-push.ensures.items) c.loop-product.invariant
      | else-uses_leg w ↦ leg_left a i j es new c.requires (omega arith) (sym c.uses_leg.ensures.uses ∙ w.if-uses_leg.false) (ap (λ v. v.items) w.entries-is) c.loop-product.invariant
    ]

pub returns : goal.returns
returns c = let same : c.loop-product.product ≡ length c.args.program.now.bounds = omega arith in subst (λ n. IsFilled n (first_entry c.args.program.now c.args.leg) c.loop-product.entries.items) same c.loop-product.invariant
