-- The fields are read one after another.
use Rattle.std.proofs.Common.{ℕ, ◌≡◌, ◌∙◌, ◌∷◌, ◌++◌, List, ap, arith, length, subst, sym}
use Rattle.std.proofs.lemmas.List.{take_at}
use Rattle.nrm_network.specs.Inner.Front.{DemandAtFront}
use Rattle.nrm_network.proofs.FrontRows.{demand-read}
use Rattle.nrm_network.proofs.front.demand_at_front.Goals as goal

pub returns : goal.returns
returns c =
    let seats : List ℕ = c.seats_at_front.new.seats in
    let size : length seats ≡ c.args.counts.periods = omega (arith, c.seats_at_front.auto.seats) in
    subst (λ (all : List ℕ). DemandAtFront c.args.counts c.args.product.now c.args.bytes.now all c.in_ok-history.history c.in_ok-behind.behind.now)
    (sym (take_at seats _ c.args.counts.periods size))
    (demand-read c.args.counts c.args.product.now c.args.bytes.now c.in_ok-named.named.now c.in_ok-numbers.numbers.now
    c.in_ok-history.listed.now c.in_ok-behind_comma.field-0.now c.in_ok-behind.behind.now seats c.in_ok-history.history c.bytes.ensures.name
    c.in_ok-named.ensures (c.in_ok-numbers.ensures ∙ ap (λ (name : List ℕ). name ++ 44 ∷ c.in_ok-numbers.numbers.now) c.bytes.ensures.bytes) c.in_ok-history.ensures c.in_ok-behind_comma.ensures c.in_ok-behind.ensures (omega (arith, c.if-history-eq0.false))
    (omega (arith, c.if-from-history.false)) size)
