-- The number in the table of names is that of the first leg of the name.
use Rattle.std.proofs.Common.{◌∙◌, ◌<◌, ap, arith, length, subst}
use Rattle.nrm_model.specs.declared.leg.Leg.{Leg}
use Rattle.nrm_model.specs.Network.{NetworkValue, leg_named}
use Rattle.nrm_model.proofs.NameLemmas.{number-below, number-same}
use Rattle.nrm_model.proofs.network.Network.find_leg.Goals as goal

pub overflow_cast-result : goal.overflow_cast-result
overflow_cast-result c =
    let names = c.self.invariant.legs in
    let few = c.self.invariant.network.leg_count in
    let below = number-below (λ (leg : Leg). leg.name) c.args.name.now c.self.inside.legs.items c.self.inside.leg_names c.in-Some.i names c.in-Some.ensures in
    omega arith

pub returns-in-Some-clause-number : goal.returns-in-Some-clause-number
returns-in-Some-clause-number c =
    c.in-Some.ensures ∙ number-same (λ (leg : Leg). leg.name) c.args.name.now c.self.inside.legs.items c.self.inside.leg_names c.self.invariant.legs
    ∙ ap (λ (net : NetworkValue). leg_named net c.args.name.now) c.self.view_is

pub returns-in-None-clause-number : goal.returns-in-None-clause-number
returns-in-None-clause-number c =
    c.in-None.ensures ∙ number-same (λ (leg : Leg). leg.name) c.args.name.now c.self.inside.legs.items c.self.inside.leg_names c.self.invariant.legs
    ∙ ap (λ (net : NetworkValue). leg_named net c.args.name.now) c.self.view_is

pub returns-in-Some-clause-within : goal.returns-in-Some-clause-within
returns-in-Some-clause-within c =
    let names = c.self.invariant.legs in
    let below = number-below (λ (leg : Leg). leg.name) c.args.name.now c.self.inside.legs.items c.self.inside.leg_names c.in-Some.i names c.in-Some.ensures in
    subst (λ (net : NetworkValue). c.in-Some.i < length net.legs) c.self.view_is below
