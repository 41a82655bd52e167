-- A product more in the bucket adds its demand and its fare, and one outside it nothing.
use Rattle.std.proofs.Common.{ℕ, ℤ, List, ◌≡◌, ◌∙◌, ◌+◌, ◌^◌, ◌≤◌, get_or, length, map, take, pos, ◌+ℤ◌, ◌*ℤ◌, sum_by, sym, ap, arith, unsigned_abs, ◌∷◌, [], length-append}
use Rattle.std.specs.List.{range_with_len}
use Rattle.std.proofs.lemmas.List.{length-take, take_all}
use Rattle.std.proofs.lemmas.List.Elements.{All-take}
use Rattle.std.proofs.lemmas.List.FromFn.{length-map-range_with_len}
use Rattle.nrm_model.specs.Demand.{demand_to_come, total_to_come}
use Rattle.nrm_emsr.specs.declared.nest.Nested.{Nested}
use Rattle.nrm_emsr.specs.declared.sums.Mean.{Mean}
use Rattle.nrm_emsr.specs.Fares.{sum_of}
use Rattle.nrm_emsr.specs.Inner.Nest.{IsKnown, in_buckets}
use Rattle.nrm_emsr.specs.Inner.Sums.{nest_demand}
use Rattle.nrm_emsr.proofs.Come.{added, all-below, nest-small}
use Rattle.nrm_emsr.proofs.Nests.{fares-yes, few-in, in-no, in-yes, sum-bucket-more, sum-yes}
use Rattle.nrm_emsr.proofs.sums.add_bucket.Goals as goal
use Rattle.nrm_emsr.proofs.sums.add_bucket.Goals.{then-is_between, else-is_between}

pub add_product-seats-requires-clause-long : goal.add_product-seats-requires-clause-long
add_product-seats-requires-clause-long c =
    let net = c.args.net.now in
    let b : ℕ = c.args.above + 1 in
    ap length c.loop-nested.invariant.demands ∙ length-map-range_with_len (λ h. nest_demand net c.args.period c.args.nest.now 1 c.args.above h + nest_demand net c.args.period (take c.loop-nested.nested-index c.args.nest.now) b b h) 0 net.histories

pub add_product-seats-requires-clause-room : goal.add_product-seats-requires-clause-room
add_product-seats-requires-clause-room c =
    let net = c.args.net.now in
    let nest : List Nested = c.args.nest.now in
    let k : ℕ = c.loop-nested.nested-index in
    let b : ℕ = c.args.above + 1 in
    let many : length (take k nest) ≤ 256 = omega (arith, length-take k nest, c.requires.few) in
    all-below (λ h. nest_demand net c.args.period nest 1 c.args.above h + nest_demand net c.args.period (take k nest) b b h) net.histories (2 ^ 31) c.loop-nested.demands.items c.loop-nested.invariant.demands
    (λ h history.
    let so_far = nest-small net c.args.period h nest c.limits_hold.ensures.limits history c.requires.known 1 c.args.above in
    let own = nest-small net c.args.period h (take k nest) c.limits_hold.ensures.limits history (All-take (IsKnown (length net.products)) k nest c.requires.known) b b in
    omega (arith, so_far, own, many, c.requires.few))

pub with-mean-requires-clause-fares : goal.with-mean-requires-clause-fares
with-mean-requires-clause-fares c =
    let nest : List Nested = c.args.nest.now in
    let k : ℕ = c.loop-nested.nested-index in
    let b : ℕ = c.args.above + 1 in
    omega (arith, c.loop-nested.invariant.mean.fares_size, few-in (take k nest) b b, length-take k nest, c.loop-nested-test.true, c.requires.few)

pub with-mean-requires-clause-weight : goal.with-mean-requires-clause-weight
with-mean-requires-clause-weight c =
    let nest : List Nested = c.args.nest.now in
    let k : ℕ = c.loop-nested.nested-index in
    let b : ℕ = c.args.above + 1 in
    omega (arith, c.loop-nested.invariant.mean.seats_size, few-in (take k nest) b b, length-take k nest, c.loop-nested-test.true, c.requires.few)

pub loop-nested-preserved : goal.loop-nested-preserved
loop-nested-preserved c =
    let net = c.args.net.now in
    let period : ℕ = c.args.period in
    let nest : List Nested = c.args.nest.now in
    let k : ℕ = c.loop-nested.nested-index in
    let b : ℕ = c.args.above + 1 in
    let blank : Nested = record { product = 0; bucket = 0; fare = pos 0 } in
    let x : Nested = get_or nest k blank in
    let before = c.loop-nested.invariant in
    let come : ℕ → Nested → ℕ = λ h nested. demand_to_come net nested.product h period in
    let total : Nested → ℕ = λ nested. total_to_come net nested.product period in
    let worth : Nested → ℤ = λ nested. nested.fare *ℤ pos (total_to_come net nested.product period) in
    let so_far : ℕ → ℕ → ℕ = λ n h. nest_demand net period nest 1 c.args.above h + nest_demand net period (take n nest) b b h in
    elim c.if-is_between.branch [
      | then-is_between w ↦
          let inside = sym c.is_between.ensures ∙ w.if-is_between.true in
          let seats = ap (λ (mean : Mean). mean.seats) w.mean-is ∙ w.with-mean.ensures.seats in
          let fares = ap (λ (mean : Mean). mean.fares) w.mean-is ∙ w.with-mean.ensures.fares in
          let size = w.with-mean.ensures.size in
          let one = ap length (in-yes nest k blank b b c.loop-nested-test.true inside) ∙ length-append (in_buckets (take k nest) b b) (x ∷ []) in
          record {
            mean = record {
              seats = omega (arith, seats, before.mean.seats, w.add_product-seats.ensures.total, sum-yes nest k blank b b c.loop-nested-test.true total inside);
              fares = fares ∙ (λ n. before.mean.fares n +ℤ (x.fare *ℤ pos (w.add_product-seats.ensures.total n))) ∙ sym (fares-yes nest k blank b b c.loop-nested-test.true worth inside);
              seats_size = omega (arith, seats, before.mean.seats_size, w.add_product-seats.ensures.within, one);
              fares_size = omega (arith, ap (λ (mean : Mean). unsigned_abs mean.fares) w.mean-is, size, before.mean.fares_size, one);
            };
            demands = ap (λ v. v.items) w.demands-is
                ∙ added (so_far k) (so_far (k + 1)) (λ h. come h x) net.histories c.loop-nested.demands.items w.add_product-seats.new.demands.items before.demands w.add_product-seats.ensures.demands
                (λ h. omega (arith, sum-yes nest k blank b b c.loop-nested-test.true (come h) inside));
          }
      | else-is_between w ↦
          let outside = in-no nest k blank b b c.loop-nested-test.true (sym c.is_between.ensures ∙ w.if-is_between.false) in
          let seats = ap (λ (mean : Mean). mean.seats) w.mean-is in
          let fares = ap (λ (mean : Mean). mean.fares) w.mean-is in
          record {
            mean = record {
              seats = seats ∙ before.mean.seats ∙ sym (ap (λ (ns : List Nested). sum_by total ns) outside);
              fares = fares ∙ before.mean.fares ∙ sym (ap (λ (ns : List Nested). sum_of (map worth ns)) outside);
              seats_size = omega (arith, seats, before.mean.seats_size, ap length outside);
              fares_size = omega (arith, ap (λ (mean : Mean). unsigned_abs mean.fares) w.mean-is, before.mean.fares_size, ap length outside);
            };
            demands = ap (λ v. v.items) w.demands-is ∙ before.demands
                ∙ (λ n. map (λ h. nest_demand net period nest 1 c.args.above h + sum_by (come h) (sym outside n)) (range_with_len 0 net.histories));
          }
    ]

pub returns-clause-demands : goal.returns-clause-demands
returns-clause-demands c =
    let net = c.args.net.now in
    let period : ℕ = c.args.period in
    let nest : List Nested = c.args.nest.now in
    let b : ℕ = c.args.above + 1 in
    let come : ℕ → Nested → ℕ = λ h nested. demand_to_come net nested.product h period in
    let all : take c.loop-nested.nested-index nest ≡ nest = take_all c.loop-nested.nested-index nest (omega (arith, c.loop-nested-test.false)) in
    c.loop-nested.invariant.demands
    ∙ (λ n. map (λ h. nest_demand net period nest 1 c.args.above h + nest_demand net period (all n) b b h) (range_with_len 0 net.histories))
    ∙ (λ n. map (λ h. sym (sum-bucket-more (come h) nest c.args.above) n) (range_with_len 0 net.histories))
