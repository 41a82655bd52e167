use Rattle.std.proofs.Common.{ℕ, ◌≡◌, ◌∙◌, ◌^◌, ◌++◌, [], ◌∷◌, ap, arith, flat_map, length, map, sym}
use Rattle.std.specs.Prelude.{codes, decimal, pos}
use Rattle.nrm_fraction.specs.Fraction.{◌over◌}
use Rattle.nrm_text.specs.Fractions.{fraction_text}
use Rattle.nrm_text.specs.Words.{text_line}
use Rattle.nrm_legdp.specs.Classes.{ClassesValue}
use Rattle.nrm_legdp.specs.Policies.{value}
use Rattle.nrm_findings.specs.LegValues.{class_line, their_demand}
use Rattle.nrm_findings.proofs.LegTables.{levels-behind, levels-count, rows-count, seats-count, value-at}
use Rattle.nrm_findings.proofs.values.text_of_values.Goals as goal

pub value-requires-clause-class : goal.value-requires-clause-class
value-requires-clause-class c =
    let d = their_demand c.args.net.now c.args.classes.now in
    let count : c.len-count.result ≡ length c.args.classes.now.fares = omega (arith, c.len-count.ensures, c.deref.ensures.len, ap length c.deref.ensures.value, ap (λ (k : ClassesValue). length k.products) c.classes.view_is, c.requires.same) in
    omega (arith, count, rows-count d c.args.seats c.args.table.now c.requires.table)

pub value-requires-clause-seat : goal.value-requires-clause-seat
value-requires-clause-seat c =
    let d = their_demand c.args.net.now c.args.classes.now in
    let count : c.len-count.result ≡ length c.args.classes.now.fares = omega (arith, c.len-count.ensures, c.deref.ensures.len, ap length c.deref.ensures.value, ap (λ (k : ClassesValue). length k.products) c.classes.view_is, c.requires.same) in
    omega (arith, seats-count d c.args.seats c.args.table.now c.requires.table c.len-count.result (omega (arith, count)))

pub push_protections-requires-clause-levels : goal.push_protections-requires-clause-levels
push_protections-requires-clause-levels c =
    let d = their_demand c.args.net.now c.args.classes.now in
    let count : c.len-count.result ≡ length c.args.classes.now.fares = omega (arith, c.len-count.ensures, c.deref.ensures.len, ap length c.deref.ensures.value, ap (λ (k : ClassesValue). length k.products) c.classes.view_is, c.requires.same) in
    levels-count d c.args.seats c.args.table.now c.requires.table ∙ sym count

pub push_protections-requires-clause-room : goal.push_protections-requires-clause-room
push_protections-requires-clause-room c =
    let count : length c.deref.result.now ≡ length c.args.classes.now.fares = ap length c.deref.ensures.value ∙ ap (λ (k : ClassesValue). length k.products) c.classes.view_is ∙ c.requires.same in
    omega (arith, count, c.requires.classes.count.1, c.new-text.ensures.length, c.push_classes.ensures.length, c.push_value.ensures.length)

pub returns : goal.returns
returns c =
    let net = c.args.net.now in
    let leg = c.args.leg.now in
    let seats = c.args.seats in
    let table = c.args.table.now in
    let classes = c.args.classes.now in
    let d = their_demand net classes in
    let count : c.len-count.result ≡ length classes.fares = omega (arith, c.len-count.ensures, c.deref.ensures.len, ap length c.deref.ensures.value, ap (λ (k : ClassesValue). length k.products) c.classes.view_is, c.requires.same) in
    let products : c.deref.result.now ≡ classes.products = c.deref.ensures.value ∙ ap (λ (k : ClassesValue). k.products) c.classes.view_is in
    let worth : c.value.result ≡ value d (length classes.fares) seats = c.value.ensures ∙ value-at d seats table c.requires.table c.len-count.result (omega (arith, count)) ∙ ap (λ (j : ℕ). value d j seats) count in
    let ways : c.combinations.result ≡ net.histories ^ length classes.fares = c.combinations.ensures.number ∙ (λ n. c.n.ensures.histories n ^ count n) in
    let first = c.push_classes.ensures.text ∙ (λ n. c.new-text.ensures.text n ++ flat_map (class_line net) (products n)) in
    let second = c.push_value.ensures.text ∙ (λ n. first n ++ text_line (codes "value" ∷ leg ∷ fraction_text (pos (worth n) over ways n) ∷ [])) in
    c.push_protections.ensures
    ∙ (λ n. second n ++ text_line (codes "protect" ∷ leg ∷ map (λ (level : ℕ). decimal level) (levels-behind d seats table c.requires.table n)))
