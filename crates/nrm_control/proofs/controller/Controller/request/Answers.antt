use Rattle.std.proofs.Common.{sym, ◌∙◌, ◌<◌, ap, length, subst, List, ℕ, arith}
use Rattle.nrm_control.specs.Standing.{ControlValue, IsInForce}
use Rattle.nrm_control.specs.Verdict.{verdict_of}
use Rattle.nrm_control.specs.declared.answer.Answer.TheVariants as answer
use Rattle.nrm_control.proofs.Inventories.{sold-next}
use Rattle.nrm_control.proofs.AfterCalls.{control-of, kept-loaded}
use Rattle.nrm_control.proofs.States.{request-stands-through, sold-is, tallied-is}
use Rattle.nrm_control.proofs.Tallies.{tally-small, tally-written}
use Rattle.nrm_control.proofs.controller.Controller.request.Goals as goal

pub tally_after-requires-clause-tally : goal.tally_after-requires-clause-tally
tally_after-requires-clause-tally c =
    let short = subst (λ (control : ControlValue). c.args.product < length control.net.products) (sym c.self.view_is) c.requires.product in
    tally-small c.self.inside.network c.self.inside.tallies.items c.args.product c.index.result.now c.self.invariant.network c.self.invariant.tallied.capped short c.index.ensures

pub invariant_of-self : goal.invariant_of-self
invariant_of-self c =
    let inside = c.self.inside in
    let short = subst (λ (control : ControlValue). c.args.product < length control.net.products) (sym c.self.view_is) c.requires.product in
    let place : c.args.product < length inside.tallies.items = omega (arith, short, c.self.invariant.tallied.capped.products) in
    let grown = tally-written inside.network inside.tallies.items c.args.product c.args.party c.index.result.now c.tally_after.result place c.index.ensures c.tally_after.ensures in
    subst (λ (tallies : List ℕ). IsInForce inside.network inside.plan c.add.new.self tallies inside.withheld) (sym grown)
    (kept-loaded inside.network inside.plan inside.book inside.tallies.items inside.withheld c.self.invariant c.add.new.self (record { number = inside.book.next; product = c.args.product; party = c.args.party }) short (omega arith) c.add.ensures.added c.add.ensures.sound)

pub returns-in-Sold-clause-sound : goal.returns-in-Sold-clause-sound
returns-in-Sold-clause-sound c = control-of c.self.inside.network c.self.inside.plan c.add.new.self _ c.self.inside.withheld (invariant_of-self c)

pub returns-in-Sold-clause-state : goal.returns-in-Sold-clause-state
returns-in-Sold-clause-state c =
    let inside = c.self.inside in
    let short = subst (λ (control : ControlValue). c.args.product < length control.net.products) (sym c.self.view_is) c.requires.product in
    let place : c.args.product < length inside.tallies.items = omega (arith, short, c.self.invariant.tallied.capped.products) in
    let grown = tally-written inside.network inside.tallies.items c.args.product c.args.party c.index.result.now c.tally_after.result place c.index.ensures c.tally_after.ensures in
    request-stands-through _ c.args.self.now _ c.args.product c.args.party (answer.Sold c.add.result) c.self.view_is c.requires.product
    (ap answer.Sold (c.add.ensures.number ∙ sym (sold-next inside.network inside.plan inside.book.bookings inside.book.next c.args.party c.args.product c.in-Sold.number (sym c.in-Sold.is ∙ c.verdict_on.ensures.answer))) ∙ sym c.in-Sold.is ∙ c.verdict_on.ensures.answer ∙ ap (λ (control : ControlValue). verdict_of control.net control.plan control.bookings control.next c.args.product c.args.party) c.self.view_is)
    (sold-is inside.network inside.plan inside.book c.add.new.self inside.tallies.items _ inside.withheld c.args.product c.args.party c.add.result c.add.ensures.number c.add.ensures.added grown)

pub returns-in-Leg-clause-state : goal.returns-in-Leg-clause-state
returns-in-Leg-clause-state c =
    let inside = c.self.inside in
    let short = subst (λ (control : ControlValue). c.args.product < length control.net.products) (sym c.self.view_is) c.requires.product in
    let place : c.args.product < length inside.tallies.items = omega (arith, short, c.self.invariant.tallied.capped.products) in
    let grown = tally-written inside.network inside.tallies.items c.args.product c.args.party c.index.result.now c.tally_after.result place c.index.ensures c.tally_after.ensures in
    let verdict = c.verdict_on.ensures.answer ∙ ap (λ (control : ControlValue). verdict_of control.net control.plan control.bookings control.next c.args.product c.args.party) c.self.view_is in
    request-stands-through _ c.args.self.now _ c.args.product c.args.party (answer.Leg c.in-Leg.leg) c.self.view_is c.requires.product (sym c.in-Leg.is ∙ verdict)
    (tallied-is inside.network inside.plan inside.book inside.tallies.items _ inside.withheld c.args.product c.args.party grown)

pub returns-in-Fare-clause-state : goal.returns-in-Fare-clause-state
returns-in-Fare-clause-state c =
    let inside = c.self.inside in
    let short = subst (λ (control : ControlValue). c.args.product < length control.net.products) (sym c.self.view_is) c.requires.product in
    let place : c.args.product < length inside.tallies.items = omega (arith, short, c.self.invariant.tallied.capped.products) in
    let grown = tally-written inside.network inside.tallies.items c.args.product c.args.party c.index.result.now c.tally_after.result place c.index.ensures c.tally_after.ensures in
    let verdict = c.verdict_on.ensures.answer ∙ ap (λ (control : ControlValue). verdict_of control.net control.plan control.bookings control.next c.args.product c.args.party) c.self.view_is in
    request-stands-through _ c.args.self.now _ c.args.product c.args.party answer.Fare c.self.view_is c.requires.product (sym c.in-Fare.is ∙ verdict)
    (tallied-is inside.network inside.plan inside.book inside.tallies.items _ inside.withheld c.args.product c.args.party grown)
