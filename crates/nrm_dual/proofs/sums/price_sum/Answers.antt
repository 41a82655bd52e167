-- A product's legs are legs of the program, and each has its price.
use Rattle.std.proofs.Common.{ℕ, ◌≡◌, ◌<◌, ◌∙◌, All, sym, subst, ap, arith, get_or, length, []}
use Rattle.std.proofs.lemmas.Option.{get_or_from_slice_get}
use Rattle.nrm_lp.specs.Program.{price_sum}
use Rattle.nrm_lp.specs.Certified.{sizes}
use Rattle.nrm_dual.proofs.SumSteps.{product_legs}
use Rattle.nrm_dual.proofs.sums.price_sum.Goals as goal

pub price_sum-requires-clause-legs : goal.price_sum-requires-clause-legs
price_sum-requires-clause-legs c =
    let a = c.args.program.now in
    let ls = c.legs_of.result.now in
    let read : get_or a.legs c.args.product [] ≡ ls = get_or_from_slice_get a.legs c.args.product ls [] (sym c.legs_of.ensures.legs) in
    subst (λ (n : ℕ). All (λ leg. leg < n) ls) (sym c.requires.shaped.prices) (product_legs a c.legs_of.ensures.limits.products c.args.product ls c.requires.within read)

pub price_sum-requires-clause-few : goal.price_sum-requires-clause-few
price_sum-requires-clause-few c =
    let a = c.args.program.now in
    let ls = c.legs_of.result.now in
    let read : get_or a.legs c.args.product [] ≡ ls = get_or_from_slice_get a.legs c.args.product ls [] (sym c.legs_of.ensures.legs) in
    omega (arith, c.legs_of.ensures.limits.leg_count c.args.product c.requires.within, ap length read)

pub returns : goal.returns
returns c =
    let a = c.args.program.now in
    let ls = c.legs_of.result.now in
    let read : get_or a.legs c.args.product [] ≡ ls = get_or_from_slice_get a.legs c.args.product ls [] (sym c.legs_of.ensures.legs) in
    c.from.ensures ∙ c.price_sum.ensures.sum ∙ ap (price_sum (sizes c.args.certificate.now.p)) (sym read)
