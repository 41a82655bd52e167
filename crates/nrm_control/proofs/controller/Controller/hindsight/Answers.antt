use Rattle.std.proofs.Common.{IfOk, pos, List, ℕ, subst}
use Rattle.nrm_fraction.specs.Fraction.{◌over◌}
use Rattle.nrm_dlp.specs.Hindsight.{IsHindsight}
use Rattle.nrm_control.specs.Standing.{BoundsRequests, ControlValue}
use Rattle.nrm_control.proofs.Bounds.{bounds-told}
use Rattle.nrm_control.proofs.AfterCalls.{control-of}
use Rattle.nrm_control.proofs.controller.Controller.hindsight.Goals as goal

pub returns-clause-bounds : goal.returns-clause-bounds
returns-clause-bounds c =
    let inside = c.self.inside in
    let found = subst (λ (tallies : List ℕ). IfOk c.hindsight.result (λ value. IsHindsight inside.network tallies (pos value.0 over value.1))) c.deref.ensures.value c.hindsight.ensures.value in
    let bounds = bounds-told _ c.hindsight.result (control-of inside.network inside.plan inside.book inside.tallies.items inside.withheld c.self.invariant) found in
    subst (λ (control : ControlValue). IfOk c.hindsight.result (λ value. BoundsRequests control (pos value.0 over value.1))) c.self.view_is bounds
