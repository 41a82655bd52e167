-- Each number is that of the next field.
use Rattle.std.proofs.Common.{ℕ, ◌≡◌, ◌∙◌, ◌+◌, List, arith, set, subst, sym, take}
use Rattle.std.proofs.lemmas.List.{length-set, take_all, take_more_set}
use Rattle.nrm_network.specs.Inner.Front.{SeatsAtFront}
use Rattle.nrm_network.proofs.FrontRows.{SeatsBefore, seats-last, seats-more, seats-none}
use Rattle.nrm_network.proofs.front.seats_at_front.Goals as goal

pub loop-i-init : goal.loop-i-init
loop-i-init c = (omega (arith, c.in_ok-last.ensures), seats-none c.args.bytes.now)

pub loop-i-preserved : goal.loop-i-preserved
loop-i-preserved c =
    let (size, before) = c.loop-i.invariant in
    let seats : List ℕ = c.loop-i.seats in
    let i : ℕ = c.loop-i.i in
    let number : ℕ = c.in_ok-number.number in
    let written = take_more_set seats i number (omega (arith, size, c.loop-i-test.true)) in (
      length-set seats i number ∙ size,
      subst (λ (all : List ℕ). SeatsBefore c.args.bytes.now c.in_ok-left.left.now all) (sym written)
          (seats-more c.args.bytes.now c.loop-i.left.now c.in_ok-number.behind.now c.in_ok-left.left.now (take i seats) number before
          c.in_ok-number.ensures c.in_ok-left.ensures),
    )

pub returns : goal.returns
returns c =
    let (size, before) = c.loop-i.invariant in
    let seats : List ℕ = c.loop-i.seats in
    let last : ℕ = c.in_ok-last.last in
    let number : ℕ = c.in_ok-number-2.number in
    let at : c.loop-i.i ≡ last = omega (arith, c.loop-i-test.false, c.loop-i.auto.i-end) in
    let front : SeatsBefore c.args.bytes.now c.loop-i.left.now (take last seats) =
    subst (λ (i : ℕ). SeatsBefore c.args.bytes.now c.loop-i.left.now (take i seats)) at before in
    let all = take_all (last + 1) (set seats last number) (omega (arith, size, length-set seats last number)) in
    let written = take_more_set seats last number (omega (arith, size)) in
    subst (λ (numbers : List ℕ). SeatsAtFront c.args.bytes.now numbers c.in_ok-number-2.behind.now) (sym written ∙ all)
    (seats-last c.args.bytes.now c.loop-i.left.now c.in_ok-number-2.behind.now (take last seats) number front c.in_ok-number-2.ensures
    (sym c.if-not-is_over.ensures))
