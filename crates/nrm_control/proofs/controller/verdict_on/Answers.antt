use Rattle.std.proofs.Common.{sym, ◌∙◌, ◌<◌, All, ap, length, Some, None}
use Rattle.nrm_plan.specs.Plans.{fare_refuses}
use Rattle.nrm_control.specs.Verdict.{leg_refuses}
use Rattle.nrm_control.specs.declared.answer.Answer.TheVariants as answer
use Rattle.nrm_control.proofs.Inventories.{fare-refused, fare-sold, fare-unsold, found-within, leg-unsold, own-legs, seats-cover, verdict-is}
use Rattle.nrm_control.proofs.controller.verdict_on.Goals as goal

pub refusing_leg-requires-clause-legs : goal.refusing_leg-requires-clause-legs
refusing_leg-requires-clause-legs c =
    own-legs c.args.net.now c.args.product c.product_at.result.now c.as_slice-legs.result.now c.product_at.ensures.product c.as_slice-legs.ensures c.product_at.ensures.limits.legs

pub returns-in-Some-clause-answer : goal.returns-in-Some-clause-answer
returns-in-Some-clause-answer c =
    verdict-is c.args.net.now c.args.plan.now c.args.book.now.bookings c.args.book.now.next c.args.party c.args.product c.product_at.result.now c.as_slice-legs.result.now (Some c.in-Some.leg)
    c.product_at.ensures.product c.as_slice-legs.ensures c.in-Some.ensures

pub returns-in-Some-clause-leg : goal.returns-in-Some-clause-leg
returns-in-Some-clause-leg c =
    let own : All (λ k. k < length c.args.net.now.legs) c.as_slice-legs.result.now = rw c.as_slice-legs.ensures c.product_at.ensures.limits.legs in
    found-within (leg_refuses c.args.net.now c.args.plan.now c.args.book.now.bookings c.args.product c.args.party) (length c.args.net.now.legs) c.as_slice-legs.result.now c.in-Some.leg c.in-Some.ensures own

pub returns-in-Some-clause-seats : goal.returns-in-Some-clause-seats
returns-in-Some-clause-seats c number same = leg-unsold c.in-Some.leg number same

pub returns-then-fare_refuses-clause-answer : goal.returns-then-fare_refuses-clause-answer
returns-then-fare_refuses-clause-answer c =
    fare-refused (fare_refuses c.args.net.now c.args.plan.now c.args.product) c.args.book.now.next (sym c.fare_refuses.ensures ∙ c.if-fare_refuses.true)
    ∙ verdict-is c.args.net.now c.args.plan.now c.args.book.now.bookings c.args.book.now.next c.args.party c.args.product c.product_at.result.now c.as_slice-legs.result.now None
    c.product_at.ensures.product c.as_slice-legs.ensures c.in_default.ensures

pub returns-then-fare_refuses-clause-seats : goal.returns-then-fare_refuses-clause-seats
returns-then-fare_refuses-clause-seats c number same = fare-unsold number same

pub returns-clause-answer : goal.returns-clause-answer
returns-clause-answer c =
    ap answer.Sold c.next.ensures.next
    ∙ fare-sold (fare_refuses c.args.net.now c.args.plan.now c.args.product) c.args.book.now.next (sym c.fare_refuses.ensures ∙ c.if-fare_refuses.false)
    ∙ verdict-is c.args.net.now c.args.plan.now c.args.book.now.bookings c.args.book.now.next c.args.party c.args.product c.product_at.result.now c.as_slice-legs.result.now None
    c.product_at.ensures.product c.as_slice-legs.ensures c.in_default.ensures

pub returns-clause-seats : goal.returns-clause-seats
returns-clause-seats c number same =
    seats-cover c.args.net.now c.args.book.now.inventory c.args.plan.now c.args.book.now.bookings c.args.party c.args.product c.product_at.result.now c.as_slice-legs.result.now
    c.requires.book c.product_at.ensures.product c.as_slice-legs.ensures c.in_default.ensures
