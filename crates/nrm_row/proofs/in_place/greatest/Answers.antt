-- One more number is within the greatest.
use Rattle.std.proofs.Common.{rules, arith, ◌≡◌, ◌≤◌, ◌<◌, ap, sym, subst, ◌∙◌, get_or, length, pos, ℤ, unsigned_abs, to_z-of_z, w64}
use Rattle.std.proofs.lemmas.List.{take_all}
use mir.Val.{SFits}
use Rattle.nrm_fraction.specs.Large.{size_limit}
use Rattle.nrm_row.specs.Numbers.{IsBounded}
use Rattle.nrm_row.proofs.InPlace.{bounded_more}
use Rattle.nrm_row.proofs.in_place.greatest.Goals as goal

pub loop-number-preserved : goal.loop-number-preserved
loop-number-preserved c =
    let i = c.loop-number.number-index in
    let x : ℤ = get_or c.args.nums.now i (pos 0) in
    let fx : SFits w64 x = search rules in
    let lt : i < length c.args.nums.now = omega (arith, c.loop-number-test.true) in
    let size : c.unsigned_abs.result ≡ unsigned_abs x = c.unsigned_abs.ensures.value ∙ ap unsigned_abs (to_z-of_z fx) in
    let small : unsigned_abs x < size_limit = c.requires i (pos 0) lt in (
      bounded_more c.args.nums.now i c.loop-number.most c.larger-most.result lt c.larger-most.ensures.first (subst (λ n. n ≤ c.larger-most.result) size c.larger-most.ensures.second) c.loop-number.invariant.0,
      c.larger-most.ensures.least size_limit c.loop-number.invariant.1 (subst (λ n. n < size_limit) (sym size) small),
    )

pub returns-clause-bound : goal.returns-clause-bound
returns-clause-bound c = subst (IsBounded c.loop-number.most) (take_all c.loop-number.number-index c.args.nums.now (omega (arith, c.loop-number-test.false))) c.loop-number.invariant.0
