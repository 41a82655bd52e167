-- The row of one more leg.
use Rattle.std.proofs.Common.{ℕ, ◌∙◌, ◌++◌, List, ap}
use Rattle.nrm_model.specs.declared.leg.Leg.{Leg}
use Rattle.nrm_network.specs.Inner.RowText.{row_text}
use Rattle.nrm_network.specs.Canonical.{leg_fields}
use Rattle.nrm_network.proofs.RowTexts.{element_more}
use Rattle.nrm_network.proofs.writing.push_legs.Goals as goal

pub loop-i-preserved : goal.loop-i-preserved
loop-i-preserved c =
    c.in_ok-push_leg.ensures ∙ ap (λ (xs : List ℕ). xs ++ row_text (leg_fields c.leg_at.result.now)) c.loop-i.invariant
    ∙ element_more (λ (leg : Leg). row_text (leg_fields leg)) c.args.text.now.items c.args.net.now.legs c.loop-i.i c.leg_at.result.now
    c.leg_at.ensures.leg
