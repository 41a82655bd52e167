use Rattle.std.proofs.Common.{[], ◌∷◌, ◌++◌, arith, rules, ap, ◌∙◌}
use Rattle.nrm_legdp.specs.Policies.{DemandValue}
use Rattle.nrm_legdp.proofs.Filling.{rows-length, row-read, row-below, pay-is, rows-below, pay-fits, scale-fits, some-row, threshold-read, protection-below, next-read, coming-is, none-yet, pushed}
use Rattle.nrm_legdp.proofs.table.leg_values.Goals as goal

pub loop-j-init : goal.loop-j-init
loop-j-init c =
    let cs : DemandValue = record { histories = c.args.n; fares = c.args.fares.now; demands = c.args.demands.now } in
    let a = c.in_ok-first.ensures.items_if_clones_equal in let b = c.from.ensures in
    none-yet cs c.args.seats c.in_ok-first.first _ _ (search (rules, a, b)) (c.in_ok-push.ensures.items ∙ ap (λ r. r ++ c.in_ok-first.first ∷ []) c.new-rows.ensures.items) c.new-protections.ensures.items

pub overflow_mul-pay : goal.overflow_mul-pay
overflow_mul-pay c =
    let cs : DemandValue = record { histories = c.args.n; fares = c.args.fares.now; demands = c.args.demands.now } in
    let fits = pay-fits cs c.args.seats c.loop-j.j _ _ _ _ c.requires.classes c.loop-j-test.true c.loop-j.invariant c.from-in-loop-j.ensures in
    omega arith

pub index-requires : goal.index-requires
index-requires c =
    let cs : DemandValue = record { histories = c.args.n; fares = c.args.fares.now; demands = c.args.demands.now } in
    let long = rows-length cs c.args.seats c.loop-j.j c.loop-j.rows.items _ _ c.loop-j.invariant in search (rules, long)

pub threshold-y-requires-clause-some : goal.threshold-y-requires-clause-some
threshold-y-requires-clause-some c =
    let cs : DemandValue = record { histories = c.args.n; fares = c.args.fares.now; demands = c.args.demands.now } in
    some-row cs c.args.seats c.loop-j.j _ (row-read cs c.args.seats c.loop-j.j c.loop-j.rows.items _ _ _ _ c.loop-j.invariant c.index.ensures c.deref.ensures.value)

pub threshold-y-requires-clause-pay : goal.threshold-y-requires-clause-pay
threshold-y-requires-clause-pay c =
    let cs : DemandValue = record { histories = c.args.n; fares = c.args.fares.now; demands = c.args.demands.now } in
    pay-fits cs c.args.seats c.loop-j.j _ _ _ _ c.requires.classes c.loop-j-test.true c.loop-j.invariant c.from-in-loop-j.ensures

pub threshold-y-requires-clause-worth : goal.threshold-y-requires-clause-worth
threshold-y-requires-clause-worth c =
    let cs : DemandValue = record { histories = c.args.n; fares = c.args.fares.now; demands = c.args.demands.now } in
    row-below cs c.args.seats c.loop-j.j _ c.requires.classes (omega arith) c.requires.seats (row-read cs c.args.seats c.loop-j.j c.loop-j.rows.items _ _ _ _ c.loop-j.invariant c.index.ensures c.deref.ensures.value)

pub index-requires-in-loop-j : goal.index-requires-in-loop-j
index-requires-in-loop-j c =
    let cs : DemandValue = record { histories = c.args.n; fares = c.args.fares.now; demands = c.args.demands.now } in
    let long = rows-length cs c.args.seats c.loop-j.j c.loop-j.rows.items _ _ c.loop-j.invariant in search (rules, long)

pub row_above-requires-clause-pay : goal.row_above-requires-clause-pay
row_above-requires-clause-pay c =
    let cs : DemandValue = record { histories = c.args.n; fares = c.args.fares.now; demands = c.args.demands.now } in
    pay-fits cs c.args.seats c.loop-j.j _ _ _ _ c.requires.classes c.loop-j-test.true c.loop-j.invariant c.from-in-loop-j.ensures

pub row_above-requires-clause-worth : goal.row_above-requires-clause-worth
row_above-requires-clause-worth c =
    let cs : DemandValue = record { histories = c.args.n; fares = c.args.fares.now; demands = c.args.demands.now } in
    row-below cs c.args.seats c.loop-j.j _ c.requires.classes (omega arith) c.requires.seats (row-read cs c.args.seats c.loop-j.j c.loop-j.rows.items _ _ _ _ c.loop-j.invariant c.index-in-loop-j.ensures c.deref-in-loop-j.ensures.value)

pub overflow_cast-y : goal.overflow_cast-y
overflow_cast-y c =
    let cs : DemandValue = record { histories = c.args.n; fares = c.args.fares.now; demands = c.args.demands.now } in
    let row = row-read cs c.args.seats c.loop-j.j c.loop-j.rows.items _ _ _ _ c.loop-j.invariant c.index.ensures c.deref.ensures.value in
    let y = threshold-read cs c.args.seats c.loop-j.j _ _ _ row (pay-is cs c.args.seats c.loop-j.j _ _ _ _ c.loop-j.invariant c.from-in-loop-j.ensures) c.threshold-y.ensures in
    omega (arith, protection-below cs c.args.seats c.loop-j.j)

pub overflow_mul-scale : goal.overflow_mul-scale
overflow_mul-scale c =
    let cs : DemandValue = record { histories = c.args.n; fares = c.args.fares.now; demands = c.args.demands.now } in
    let fits = scale-fits cs c.args.seats c.loop-j.j _ _ _ _ c.requires.classes c.loop-j-test.true c.loop-j.invariant c.from-scale.ensures in
    omega arith

pub loop-j-preserved : goal.loop-j-preserved
loop-j-preserved c =
    let cs : DemandValue = record { histories = c.args.n; fares = c.args.fares.now; demands = c.args.demands.now } in
    let row = row-read cs c.args.seats c.loop-j.j c.loop-j.rows.items _ _ _ _ c.loop-j.invariant c.index.ensures c.deref.ensures.value in
    let again = row-read cs c.args.seats c.loop-j.j c.loop-j.rows.items _ _ _ _ c.loop-j.invariant c.index-in-loop-j.ensures c.deref-in-loop-j.ensures.value in
    let pay = pay-is cs c.args.seats c.loop-j.j _ _ _ _ c.loop-j.invariant c.from-in-loop-j.ensures in
    let y = threshold-read cs c.args.seats c.loop-j.j _ _ _ row pay c.threshold-y.ensures in
    let next = next-read cs c.args.seats c.loop-j.j _ _ _ _ _ again pay y (coming-is cs c.loop-j.j c.from-histories.result c.from-histories.ensures) c.in_ok-next.ensures in
    pushed cs c.args.seats c.loop-j.j c.loop-j.rows.items _ _ _ c.in_ok-next.next _ _ _ c.loop-j.invariant y next c.in_ok-push-2.ensures.items c.in_ok-push-3.ensures.items c.from-scale.ensures

pub returns-clause-small : goal.returns-clause-small
returns-clause-small c =
    let cs : DemandValue = record { histories = c.args.n; fares = c.args.fares.now; demands = c.args.demands.now } in
    rows-below cs c.args.seats c.loop-j.j _ c.requires.classes (omega arith) c.requires.seats c.loop-j.invariant.rows_are
