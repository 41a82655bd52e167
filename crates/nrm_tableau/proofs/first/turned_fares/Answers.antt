-- Each fare is put with its sign turned.
use Rattle.std.proofs.Common.{◌≡◌, ◌∙◌, ap, arith, length, get_or, SFits, w64, to_z-of_z}
use Rattle.std.proofs.lemmas.Int.{ints}
use Rattle.nrm_lp.proofs.Optimal.{lengths_are}
use Rattle.nrm_tableau.proofs.FirstEntries.{fare_turned}
use Rattle.nrm_tableau.proofs.first.turned_fares.Goals as goal

pub bounds-fares-from : goal.bounds-fares-from
bounds-fares-from c =
    let a = c.args.program.now in
    let counts = lengths_are (length a.caps) a.bounds a.fares a.legs c.fares-fares.ensures.limits.products in
    omega (arith, counts.0, ap length c.fares-fares.ensures.fares)

pub loop-product-preserved : goal.loop-product-preserved
loop-product-preserved c =
    let a = c.args.program.now in
    let fits : SFits w64 c.turned.result = search ints in
    let fare : get_or c.fares-fares.result.now c.from.result 0 ≡ get_or a.fares c.loop-product.product 0 = ap (λ xs. get_or xs c.from.result 0) c.fares-fares.ensures.fares ∙ ap (λ j. get_or a.fares j 0) c.from.ensures in
    fare_turned a c.loop-product.product _ _ c.loop-product.entries.items c.push.new.self.items c.fares-fares.ensures.limits (omega arith) fare (to_z-of_z fits ∙ c.turned.ensures) c.in_ok-push.ensures.items c.loop-product.invariant
