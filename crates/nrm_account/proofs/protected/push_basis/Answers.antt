use Rattle.std.proofs.Common.{ℕ, ◌≡◌, ◌∙◌, ◌≤◌, ◌++◌, List, append_assoc, length, nat_abs, ap, arith}
use Rattle.std.proofs.lemmas.Result.{IfOk-equal}
use Rattle.nrm_fraction.proofs.Sizes.{positive_abs}
use Rattle.nrm_account.specs.Nests.{basis_text, demand_line, enough_line}
use Rattle.nrm_account.proofs.Bases.{basis-is, demand-is, demands-count, enough-is, some-times}
use Rattle.nrm_account.proofs.protected.push_basis.Goals as goal

pub overflow_cast-passed : goal.overflow_cast-passed
overflow_cast-passed c =
    let count = demands-count c.args.net.now c.args.cert.now c.args.leg c.args.period c.args.buckets c.args.basis.now c.requires.basis in
    omega (arith, count, ap length c.as_slice-demands.ensures.value, c.count_above-passed.ensures.within, c.n-histories.ensures.limits.histories)

pub enough-requires-clause-mean : goal.enough-requires-clause-mean
enough-requires-clause-mean c =
    let some : 1 ≤ c.args.basis.now.above.seats = omega (arith, c.if-basis-eq0.false) in
    let den : 1 ≤ nat_abs c.args.cert.now.den = (positive_abs c.args.cert.now.den c.requires.prices.some_den).1 in
    let both = some-times c.args.basis.now.above.seats (nat_abs c.args.cert.now.den) some den in
    (omega (arith, both, c.quotient_of-mean.ensures.den), omega (arith, ap nat_abs c.quotient_of-mean.ensures.num, c.requires.basis.above_fares), c.quotient_of-mean.ensures.size)

pub demand-requires : goal.demand-requires
demand-requires c =
    let count = demands-count c.args.net.now c.args.cert.now c.args.leg c.args.period c.args.buckets c.args.basis.now c.requires.basis in
    omega (arith, count, ap length c.as_slice-demands.ensures.value, c.n-histories.ensures.limits.histories)

pub returns : goal.returns
returns c =
    let net = c.args.net.now in
    let cert = c.args.cert.now in
    let basis = c.args.basis.now in
    let i : ℕ = c.args.leg in
    let k : ℕ = c.args.period in
    let b : ℕ = c.args.buckets in
    let first : c.enough.result ≡ enough_line net cert i k b =
    c.enough.ensures
    ∙ enough-is net cert i k b basis c.requires.basis c.leg_at.result.now c.args.seats c.count_above-passed.result c.n-histories.result c.as_slice-demands.result.now
    c.quotient_of-mean.result.num c.quotient_of-next.result.num c.quotient_of-mean.result.den c.quotient_of-next.result.den
    c.leg_at.ensures.leg c.requires.seats c.as_slice-demands.ensures.value c.count_above-passed.ensures.count c.n-histories.ensures.histories
    c.quotient_of-mean.ensures.num c.quotient_of-mean.ensures.den c.quotient_of-next.ensures.num c.quotient_of-next.ensures.den in
    let second : c.demand.result ≡ demand_line net cert i k b =
    c.demand.ensures ∙ demand-is net cert i k b basis c.requires.basis c.leg_at.result.now c.as_slice-demands.result.now c.leg_at.ensures.leg c.as_slice-demands.ensures.value in
    let text : List ℕ = c.args.text.now.items in
    let both : c.enough.result ++ c.demand.result ≡ basis_text net cert i k b =
    ap (λ l. l ++ c.demand.result) first ∙ ap (λ l. enough_line net cert i k b ++ l) second ∙ basis-is net cert i k b basis c.requires.basis c.if-basis-eq0.false in
    let told : c.push_line.new.text.items ++ c.demand.result ≡ text ++ basis_text net cert i k b =
    ap (λ l. l ++ c.demand.result) c.in_ok-push_line.ensures ∙ append_assoc text c.enough.result c.demand.result ∙ ap (λ l. text ++ l) both in
    IfOk-equal c.push_line-2.result c.push_line-2.new.text.items (c.push_line.new.text.items ++ c.demand.result) (text ++ basis_text net cert i k b) c.push_line-2.ensures told
