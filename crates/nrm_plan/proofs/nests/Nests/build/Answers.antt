-- The buckets and the protections are the nests of the network, and so the list has the seats of each pair.
use Rattle.std.proofs.Common.{Vec, ℕ, ◌∙◌, List, map, ap, subst, sym}
use Rattle.std.specs.declared.alloc.Global.{Global}
use Rattle.nrm_plan.specs.Inner.Protected.{AreProtected, AreProtectedInAll}
use Rattle.nrm_plan.specs.Nesting.{AreNestsOf, NestsValue}
use Rattle.nrm_plan.proofs.ProtectedList.{are-protected}
use Rattle.nrm_plan.proofs.nests.Nests.build.Goals as goal

abbrev shown : List (Vec ℕ Global) → List (List ℕ)
shown levels = map (λ (v : Vec ℕ Global). v.items) levels

pub protected_in_all-requires : goal.protected_in_all-requires
protected_in_all-requires c =
    (c.args.certificate.now, c.args.period, record { buckets = c.in_ok-buckets.ensures; protections = ap shown c.deref.ensures.value ∙ c.in_ok-protections.ensures })

pub invariant_of-result : goal.invariant_of-result
invariant_of-result c =
    let nests : NestsValue = record { buckets = c.in_ok-buckets.buckets; protections = shown c.in_ok-protections.protections.items } in
    let are : AreNestsOf c.args.net.now c.args.period c.args.certificate.now nests = record { buckets = c.in_ok-buckets.ensures; protections = c.in_ok-protections.ensures } in
    let in-all = subst (λ (levels : List (Vec ℕ Global)). AreProtectedInAll c.args.net.now (record { buckets = c.in_ok-buckets.buckets; protections = shown levels }) c.in_ok-protected.protected.items) c.deref.ensures.value c.in_ok-protected.ensures in
    let protected = are-protected c.args.net.now c.args.period c.args.certificate.now nests c.in_ok-protected.protected.items are in-all in
    subst (λ (n : ℕ). AreProtected nests n c.in_ok-protected.protected.items) (sym c.product_count.ensures.count) protected
