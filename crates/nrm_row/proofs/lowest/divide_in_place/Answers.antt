-- One more number is divided, and where g is 1 all stay.
use Rattle.std.proofs.Common.{rules, arith, ◌≡◌, ◌<◌, ap, sym, ◌∙◌, get_or, length, set, pos, unsigned_abs, to_z, of_z, to_z-of_z, w64}
use Rattle.std.proofs.lemmas.List.{get_or_default}
use Rattle.std.proofs.lemmas.List.Edits.{map_over_more}
use mir.Val.{SFits}
use Rattle.nrm_number.specs.Gcd.{shrink}
use Rattle.nrm_row.specs.Inner.Crossed.{shrunk}
use Rattle.nrm_row.proofs.Divisors.{shrunk_one}
use Rattle.nrm_row.proofs.Bits.{one_from_bits}
use Rattle.nrm_row.proofs.lowest.divide_in_place.Goals as goal

pub loop-number-preserved : goal.loop-number-preserved
loop-number-preserved c =
    let fx : SFits w64 (get_or c.loop-number.nums c.loop-number.number-index (pos 0)) = search rules in
    let fq : SFits w64 c.quotient.result = search rules in
    let within : c.loop-number.number-index < length c.loop-number.nums = omega arith in
    let value : to_z w64 (of_z w64 c.quotient.result) ≡ shrink (get_or c.loop-number.nums c.loop-number.number-index (pos 0)) (unsigned_abs (to_z w64 (of_z w64 c.args.g))) =
    to_z-of_z fq ∙ c.quotient.ensures ∙ ap (λ x. shrink x (unsigned_abs (to_z w64 (of_z w64 c.args.g)))) (to_z-of_z fx) in
    ap (λ z. set c.loop-number.nums c.loop-number.number-index z) value
    ∙ map_over_more (λ n. shrink n (unsigned_abs (to_z w64 (of_z w64 c.args.g)))) c.args.nums.now c.loop-number.nums c.loop-number.number-index (get_or c.loop-number.nums c.loop-number.number-index (pos 0)) (omega arith) c.loop-number.invariant
    (get_or_default c.loop-number.nums c.loop-number.number-index (pos 0) (get_or c.loop-number.nums c.loop-number.number-index (pos 0)) within)

pub returns-else-g-ne1 : goal.returns-else-g-ne1
returns-else-g-ne1 c = sym (ap (λ g. shrunk g c.args.nums.now) (one_from_bits c.args.g c.requires c.if-g-ne1.false) ∙ shrunk_one c.args.nums.now)
