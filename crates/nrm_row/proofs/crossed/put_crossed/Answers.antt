-- One more number is put, or it is the first that is too large.
use Rattle.std.proofs.Common.{rules, arith, ◌≡◌, ◌+◌, ap, sym, subst, ◌∙◌, get_or, set, pos, unsigned_abs, leb, false, Some, to_z, of_z, to_z-of_z, w64}
use mir.Syntax.{w128}
use mir.Val.{SFits}
use Rattle.nrm_fraction.specs.Large.{first_reaching, size_limit}
use Rattle.nrm_row.specs.Inner.Crossed.{crossed, shrunk}
use Rattle.nrm_row.proofs.Combining.{IsPutTo, number_at_place, length-made, put_large, put_more, put_all}
use Rattle.nrm_fraction.proofs.Sizes.{small_fits}
use Rattle.nrm_row.proofs.crossed.put_crossed.Goals as goal

pub returns-then-is_large-clause-large : goal.returns-then-is_large-clause-large
returns-then-is_large-clause-large c =
    let G = unsigned_abs (to_z w128 (of_z w128 c.args.g)) in
    let A = to_z w64 (of_z w64 c.args.a) in
    let E = to_z w64 (of_z w64 c.args.e) in
    let fx : SFits w64 (get_or c.loop-i.xs c.loop-i.i (pos 0)) = search rules in
    let fu : SFits w64 (get_or c.args.us.now c.loop-i.i (pos 0)) = search rules in
    let ft : SFits w128 c.cross.result = search rules in
    let fn : SFits w128 c.wide_quotient-number.result = search rules in
    let number : c.wide_quotient-number.result ≡ get_or (shrunk G (crossed A E c.args.us.now c.args.xs.now)) c.loop-i.i (pos 0) = number_at_place G A E c.cross.result c.wide_quotient-number.result c.args.us.now c.args.xs.now c.loop-i.xs c.loop-i.i c.requires.lengths c.loop-i-test.true c.loop-i.invariant fx fu ft c.cross.ensures.value c.wide_quotient-number.ensures in
    ap Some (to_z-of_z fn)
    ∙ put_large (shrunk G (crossed A E c.args.us.now c.args.xs.now)) c.args.xs.now c.loop-i.xs c.loop-i.i c.wide_quotient-number.result (length-made G A E c.args.us.now c.args.xs.now c.requires.lengths) (omega (arith, c.requires.lengths, c.loop-i-test.true)) number
    (ap (λ z. leb size_limit (unsigned_abs z)) (sym (to_z-of_z fn)) ∙ sym c.is_large.ensures ∙ c.if-is_large.true) c.loop-i.invariant
    ∙ (λ i. first_reaching size_limit (shrunk (unsigned_abs (to_z-of_z c.ranges.g i)) (crossed (to_z-of_z c.ranges.a i) (to_z-of_z c.ranges.e i) c.args.us.now c.args.xs.now)))

pub loop-i-preserved : goal.loop-i-preserved
loop-i-preserved c =
    let G = unsigned_abs (to_z w128 (of_z w128 c.args.g)) in
    let A = to_z w64 (of_z w64 c.args.a) in
    let E = to_z w64 (of_z w64 c.args.e) in
    let fx : SFits w64 (get_or c.loop-i.xs c.loop-i.i (pos 0)) = search rules in
    let fu : SFits w64 (get_or c.args.us.now c.loop-i.i (pos 0)) = search rules in
    let ft : SFits w128 c.cross.result = search rules in
    let fn : SFits w128 c.wide_quotient-number.result = search rules in
    let number : c.wide_quotient-number.result ≡ get_or (shrunk G (crossed A E c.args.us.now c.args.xs.now)) c.loop-i.i (pos 0) = number_at_place G A E c.cross.result c.wide_quotient-number.result c.args.us.now c.args.xs.now c.loop-i.xs c.loop-i.i c.requires.lengths c.loop-i-test.true c.loop-i.invariant fx fu ft c.cross.ensures.value c.wide_quotient-number.ensures in
    let small : leb size_limit (unsigned_abs c.wide_quotient-number.result) ≡ false = ap (λ z. leb size_limit (unsigned_abs z)) (sym (to_z-of_z fn)) ∙ sym c.is_large.ensures ∙ c.if-is_large.false in
    let put : to_z w64 (of_z w64 (to_z w128 (of_z w128 c.wide_quotient-number.result))) ≡ c.wide_quotient-number.result = ap (λ z. to_z w64 (of_z w64 z)) (to_z-of_z fn) ∙ small_fits c.wide_quotient-number.result small in
    subst (λ z. IsPutTo (shrunk G (crossed A E c.args.us.now c.args.xs.now)) c.args.xs.now (set c.loop-i.xs c.loop-i.i z) (c.loop-i.i + 1)) (sym put)
    (put_more (shrunk G (crossed A E c.args.us.now c.args.xs.now)) c.args.xs.now c.loop-i.xs c.loop-i.i c.wide_quotient-number.result (length-made G A E c.args.us.now c.args.xs.now c.requires.lengths) (omega (arith, c.requires.lengths, c.loop-i-test.true)) number small c.loop-i.invariant)

pub returns-clause-large : goal.returns-clause-large
returns-clause-large c =
    let G = unsigned_abs (to_z w128 (of_z w128 c.args.g)) in
    let A = to_z w64 (of_z w64 c.args.a) in
    let E = to_z w64 (of_z w64 c.args.e) in
    (put_all (shrunk G (crossed A E c.args.us.now c.args.xs.now)) c.args.xs.now c.loop-i.xs c.loop-i.i (length-made G A E c.args.us.now c.args.xs.now c.requires.lengths) (omega (arith, c.requires.lengths)) c.loop-i.invariant).0
    ∙ (λ i. first_reaching size_limit (shrunk (unsigned_abs (to_z-of_z c.ranges.g i)) (crossed (to_z-of_z c.ranges.a i) (to_z-of_z c.ranges.e i) c.args.us.now c.args.xs.now)))

pub returns-clause-numbers : goal.returns-clause-numbers
returns-clause-numbers c =
    let G = unsigned_abs (to_z w128 (of_z w128 c.args.g)) in
    let A = to_z w64 (of_z w64 c.args.a) in
    let E = to_z w64 (of_z w64 c.args.e) in
    (put_all (shrunk G (crossed A E c.args.us.now c.args.xs.now)) c.args.xs.now c.loop-i.xs c.loop-i.i (length-made G A E c.args.us.now c.args.xs.now c.requires.lengths) (omega (arith, c.requires.lengths)) c.loop-i.invariant).1
    ∙ (λ i. shrunk (unsigned_abs (to_z-of_z c.ranges.g i)) (crossed (to_z-of_z c.ranges.a i) (to_z-of_z c.ranges.e i) c.args.us.now c.args.xs.now))
