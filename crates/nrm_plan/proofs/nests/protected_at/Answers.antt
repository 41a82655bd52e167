-- A product that uses the leg has a bucket in the table, and the leg protections above it.
use Rattle.std.proofs.Common.{ℕ, ◌≡◌, ◌-◌, ◌<◌, ◌∙◌, Vec, List, [], length, get_or, map, ap, arith, sym}
use Rattle.std.specs.Prelude.{unwrap_or}
use Rattle.std.specs.declared.alloc.Global.{Global}
use Rattle.std.proofs.lemmas.List.{get_or-map, length-map}
use Rattle.nrm_model.specs.Network.{NetworkValue}
use Rattle.nrm_lp.specs.declared.certificate.Certificate.{Certificate}
use Rattle.nrm_virtual.specs.Table.{TableValue}
use Rattle.nrm_virtual.proofs.Tables.{pair-in_table}
use Rattle.nrm_plan.specs.Nesting.{AreNestsOf, NestsValue, level_at}
use Rattle.nrm_plan.proofs.Looked.{legs-held, levels-held}
use Rattle.nrm_plan.proofs.nests.protected_at.Goals as goal

abbrev shown : List (Vec ℕ Global) → List (List ℕ)
shown levels = map (λ (v : Vec ℕ Global). v.items) levels

-- each leg has protections
leg-held : (net : NetworkValue) (buckets : TableValue) (levels : List (Vec ℕ Global)) (leg product : ℕ)
    → (cert : Certificate) × (k : ℕ) × AreNestsOf net k cert (record { buckets = buckets; protections = shown levels }) → leg < length net.legs → leg < length levels
leg-held net buckets levels leg product (cert, k, are) short =
    let held = legs-held net k cert (record { buckets = buckets; protections = shown levels }) are leg product short in
    omega (arith, held, length-map levels (λ (v : Vec ℕ Global). v.items))

pub bounds-protections-leg : goal.bounds-protections-leg
bounds-protections-leg c = leg-held c.args.net.now c.args.buckets.now c.args.protections.now c.args.leg c.args.product c.requires.nests c.requires.leg

pub bucket_of-requires : goal.bucket_of-requires
bucket_of-requires c =
    let (cert, k, are) = c.requires.nests in
    pair-in_table c.args.net.now cert c.args.buckets.now c.args.leg c.args.product are.buckets c.requires.leg c.requires.product c.requires.uses

-- the protections of the leg are those that were read
own : (levels : List (Vec ℕ Global)) (leg : ℕ) (v : Vec ℕ Global) (read : List ℕ) → leg < length levels → v ≡ get_or levels leg v → read ≡ v.items → get_or (shown levels) leg [] ≡ read
own levels leg v read short is copied =
    get_or-map (λ (v : Vec ℕ Global). v.items) levels leg v [] short ∙ ap (λ (v : Vec ℕ Global). v.items) (sym is) ∙ sym copied

pub level_at-requires : goal.level_at-requires
level_at-requires c =
    let (cert, k, are) = c.requires.nests in
    let nests : NestsValue = record { buckets = c.args.buckets.now; protections = shown c.args.protections.now } in
    let levels = own c.args.protections.now c.args.leg c.index-protections-leg.result c.deref.result.now (leg-held c.args.net.now c.args.buckets.now c.args.protections.now c.args.leg c.args.product c.requires.nests c.requires.leg) c.index-protections-leg.is c.deref.ensures.value in
    let held = levels-held c.args.net.now k cert nests are c.args.leg c.args.product c.requires.leg c.bucket_of.result (c.bucket_of.ensures.bucket c.args.net.now cert are.buckets) in
    omega (arith, held, ap length levels)

pub returns : goal.returns
returns c =
    let levels = own c.args.protections.now c.args.leg c.index-protections-leg.result c.deref.result.now (leg-held c.args.net.now c.args.buckets.now c.args.protections.now c.args.leg c.args.product c.requires.nests c.requires.leg) c.index-protections-leg.is c.deref.ensures.value in
    c.level_at.ensures ∙ (λ n. level_at (sym levels n) (unwrap_or (c.bucket_of.ensures.found n) 1 - 1))
