-- Over buckets 1 to the last, and the one behind it.
use Rattle.std.proofs.Common.{ℕ, ◌≡◌, ◌∙◌, ◌+◌, ◌<◌, List, map, nat_abs, ap, subst, arith}
use Rattle.std.specs.List.{range_with_len}
use Rattle.nrm_fraction.proofs.Sizes.{positive_abs}
use Rattle.nrm_emsr.specs.declared.nest.Nested.{Nested}
use Rattle.nrm_emsr.specs.Fares.{weight_of, weighted_fares}
use Rattle.nrm_emsr.specs.Protections.{demand_above}
use Rattle.nrm_emsr.specs.Inner.Sums.{IsMeanOf}
use Rattle.nrm_emsr.proofs.Crossing.{fare-made}
use Rattle.nrm_emsr.proofs.Means.{demands-on, fares-on, fares-small, seats-on, weight-small}
use Rattle.nrm_emsr.proofs.basis.basis_of.Goals as goal

pub returns-clause-seats : goal.returns-clause-seats
returns-clause-seats c =
    let ended : c.loop-bucket.bucket ≡ c.args.last = omega (arith, c.requires.last) in
    seats-on c.args.net.now c.args.cert.now c.args.leg c.args.period c.in_ok-nest.nest.items c.in_ok-nest.ensures.nest 1 c.loop-bucket.bucket c.loop-bucket.sums.above c.loop-bucket.invariant.above
    ∙ ap (λ (b : ℕ). weight_of c.args.net.now c.args.cert.now c.args.leg c.args.period 1 b) ended

pub returns-clause-fares : goal.returns-clause-fares
returns-clause-fares c =
    let ended : c.loop-bucket.bucket ≡ c.args.last = omega (arith, c.requires.last) in
    fares-on c.args.net.now c.args.cert.now c.args.leg c.args.period c.in_ok-nest.nest.items c.in_ok-nest.ensures.nest 1 c.loop-bucket.bucket c.loop-bucket.sums.above c.loop-bucket.invariant.above
    ∙ ap (λ (b : ℕ). weighted_fares c.args.net.now c.args.cert.now c.args.leg c.args.period 1 b) ended

pub returns-clause-next : goal.returns-clause-next
returns-clause-next c =
    let net = c.args.net.now in
    let cert = c.args.cert.now in
    let b : ℕ = c.args.last + 1 in
    let some : 0 < nat_abs cert.den = (positive_abs cert.den c.requires.prices.some_den).1 in
    let nest : List Nested = c.in_ok-nest.nest.items in
    let nest-is = c.in_ok-nest.ensures.nest in
    let own = subst (λ (ns : List Nested). IsMeanOf net c.args.period ns b b c.add_next-mean.result) c.deref-3.ensures.value c.add_next-mean.ensures.next in
    fare-made net cert c.args.leg c.args.period some b c.add_next-mean.result c.next_fare-next.result
    (fares-on net cert c.args.leg c.args.period nest nest-is b b c.add_next-mean.result own)
    (seats-on net cert c.args.leg c.args.period nest nest-is b b c.add_next-mean.result own)
    c.next_fare-next.ensures.fares c.next_fare-next.ensures.seats c.next_fare-next.ensures.some

pub returns-clause-demands : goal.returns-clause-demands
returns-clause-demands c =
    let net = c.args.net.now in
    let ended : c.loop-bucket.bucket ≡ c.args.last = omega (arith, c.requires.last) in
    c.in_ok-demands.ensures.items ∙ c.deref-2.ensures.value ∙ c.loop-bucket.invariant.demands
    ∙ demands-on net c.args.cert.now c.args.leg c.args.period c.in_ok-nest.nest.items c.in_ok-nest.ensures.nest c.loop-bucket.bucket
    ∙ ap (λ (b : ℕ). map (demand_above net c.args.cert.now c.args.leg c.args.period b) (range_with_len 0 net.histories)) ended

pub returns-clause-sizes : goal.returns-clause-sizes
returns-clause-sizes c = (
  weight-small c.args.net.now c.args.period c.in_ok-nest.nest.items c.in_ok-nest.ensures.few 1 c.loop-bucket.bucket c.loop-bucket.sums.above c.loop-bucket.invariant.above,
  fares-small c.args.net.now c.args.period c.in_ok-nest.nest.items c.in_ok-nest.ensures.few 1 c.loop-bucket.bucket c.loop-bucket.sums.above c.loop-bucket.invariant.above,
  c.next_fare-next.ensures.seats_size,
  c.next_fare-next.ensures.fares_size,
)
