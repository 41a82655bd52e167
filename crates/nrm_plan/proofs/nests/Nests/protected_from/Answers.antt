-- The pair has a bucket, so it has its place in the list.
use Rattle.std.proofs.Common.{◌∙◌, arith, subst}
use Rattle.std.proofs.lemmas.List.{get_or_read}
use Rattle.nrm_plan.specs.Inner.Protected.{AreProtected}
use Rattle.nrm_plan.specs.Nesting.{NestsValue}
use Rattle.nrm_plan.proofs.ProtectedList.{pair-protected}
use Rattle.nrm_plan.proofs.nests.Nests.protected_from.Goals as goal

pub overflow_mul-leg : goal.overflow_mul-leg
overflow_mul-leg c =
    let are = subst (λ (nests : NestsValue). AreProtected nests c.self.inside.products c.self.inside.protected.items) c.self.view_is c.self.invariant in
    let (b, found, there) = pair-protected c.args.self.now c.self.inside.products c.self.inside.protected.items are c.args.leg c.args.product c.requires in
    omega (arith, there.within, c.self.inside.protected.small)

pub overflow_add-leg : goal.overflow_add-leg
overflow_add-leg c =
    let are = subst (λ (nests : NestsValue). AreProtected nests c.self.inside.products c.self.inside.protected.items) c.self.view_is c.self.invariant in
    let (b, found, there) = pair-protected c.args.self.now c.self.inside.products c.self.inside.protected.items are c.args.leg c.args.product c.requires in
    omega (arith, there.within, c.self.inside.protected.small)

pub index-requires : goal.index-requires
index-requires c =
    let are = subst (λ (nests : NestsValue). AreProtected nests c.self.inside.products c.self.inside.protected.items) c.self.view_is c.self.invariant in
    let (b, found, there) = pair-protected c.args.self.now c.self.inside.products c.self.inside.protected.items are c.args.leg c.args.product c.requires in
    omega (arith, there.within)

pub returns : goal.returns
returns c b found =
    let are = subst (λ (nests : NestsValue). AreProtected nests c.self.inside.products c.self.inside.protected.items) c.self.view_is c.self.invariant in
    let there = are c.args.leg c.args.product b found in
    get_or_read c.self.inside.protected.items _ c.index.result.now there.within c.index.ensures 0 ∙ there.seats_are
