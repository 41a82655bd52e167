-- One more leg, and all of them.
use Rattle.std.proofs.Common.{◌≡◌, ◌+◌, ◌∙◌, refl, ap, sym, subst, arith, length, get_or, []}
use Rattle.std.proofs.lemmas.List.{take_all}
use Rattle.std.proofs.lemmas.Option.{get_or_from_slice_get}
use Rattle.nrm_tableau.specs.RowSets.{row_bit}
use Rattle.nrm_tableau.proofs.Sets.{HasLegs, legs_more, legs_cover}
use Rattle.nrm_tableau.proofs.first.rows_of.Goals as goal

pub loop-leg-preserved : goal.loop-leg-preserved
loop-leg-preserved c =
    let k = c.loop-leg.leg-index in
    let legs = c.legs_of-leg-items.result.now in
    let put : row_bit c.insert.new.self (get_or legs k 0) ≡ 1 = ap (row_bit c.insert.new.self) (sym c.from-in-loop-leg.ensures) ∙ c.insert.ensures.put in
    legs_more c.loop-leg.rows c.insert.new.self (length c.args.program.now.caps + c.args.product) k (get_or legs k 0) legs (omega (arith, c.loop-leg-test.true)) refl put c.insert.ensures.stays c.loop-leg.invariant

pub returns : goal.returns
returns c =
    let a = c.args.program.now in
    let legs = c.legs_of-leg-items.result.now in
    let read = get_or_from_slice_get a.legs c.args.product legs [] (sym c.legs_of-leg-items.ensures.legs) in
    let all = take_all c.loop-leg.leg-index legs (omega (arith, c.loop-leg-test.false)) in
    legs_cover a c.args.product c.loop-leg.rows c.requires (subst (HasLegs c.loop-leg.rows (length a.caps + c.args.product)) (all ∙ sym read) c.loop-leg.invariant)
