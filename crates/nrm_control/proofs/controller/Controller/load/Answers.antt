use Rattle.std.proofs.Common.{sym, ◌<◌, ◌≤◌, length, subst, List, ℕ, arith}
use Rattle.nrm_control.specs.Standing.{ControlValue, IsInForce}
use Rattle.nrm_control.proofs.Inventories.{product-of-inventory}
use Rattle.nrm_control.proofs.AfterCalls.{control-of, kept-loaded}
use Rattle.nrm_control.proofs.States.{loaded-is, loaded-stands}
use Rattle.nrm_control.proofs.Tallies.{tally-small, tally-written}
use Rattle.nrm_control.proofs.controller.Controller.load.Goals as goal

pub tally_after-requires-clause-tally : goal.tally_after-requires-clause-tally
tally_after-requires-clause-tally c =
    let own = product-of-inventory c.args.self.now.net c.args.booking.product c.requires.product in
    let short = subst (λ (control : ControlValue). c.args.booking.product < length control.net.products) (sym c.self.view_is) own in
    tally-small c.self.inside.network c.self.inside.tallies.items c.args.booking.product c.index.result.now c.self.invariant.network c.self.invariant.tallied.capped short c.index.ensures

pub invariant_of-self : goal.invariant_of-self
invariant_of-self c =
    let inside = c.self.inside in
    let later = subst (λ (control : ControlValue). control.next ≤ c.args.booking.number) (sym c.self.view_is) c.requires.number in
    let own = product-of-inventory c.args.self.now.net c.args.booking.product c.requires.product in
    let short = subst (λ (control : ControlValue). c.args.booking.product < length control.net.products) (sym c.self.view_is) own in
    let place : c.args.booking.product < length inside.tallies.items = omega (arith, short, c.self.invariant.tallied.capped.products) in
    let grown = tally-written inside.network inside.tallies.items c.args.booking.product c.args.booking.party c.index.result.now c.tally_after.result place c.index.ensures c.tally_after.ensures in
    subst (λ (tallies : List ℕ). IsInForce inside.network inside.plan c.load.new.self tallies inside.withheld) (sym grown)
    (kept-loaded inside.network inside.plan inside.book inside.tallies.items inside.withheld c.self.invariant c.load.new.self c.args.booking short later c.load.ensures.loaded c.load.ensures.sound)

pub returns-clause-sound : goal.returns-clause-sound
returns-clause-sound c = control-of c.self.inside.network c.self.inside.plan c.load.new.self _ c.self.inside.withheld (invariant_of-self c)

pub returns-clause-state : goal.returns-clause-state
returns-clause-state c =
    let inside = c.self.inside in
    let own = product-of-inventory c.args.self.now.net c.args.booking.product c.requires.product in
    let short = subst (λ (control : ControlValue). c.args.booking.product < length control.net.products) (sym c.self.view_is) own in
    let place : c.args.booking.product < length inside.tallies.items = omega (arith, short, c.self.invariant.tallied.capped.products) in
    let grown = tally-written inside.network inside.tallies.items c.args.booking.product c.args.booking.party c.index.result.now c.tally_after.result place c.index.ensures c.tally_after.ensures in
    loaded-stands _ c.args.self.now _ c.args.booking c.self.view_is own
    (loaded-is inside.network inside.plan inside.book c.load.new.self inside.tallies.items _ inside.withheld c.args.booking c.load.ensures.loaded grown)
