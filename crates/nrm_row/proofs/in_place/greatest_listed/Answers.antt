-- The numbers of the entries so far are bounded, and those of one more.
use Rattle.std.proofs.Common.{rules, arith, ◌≡◌, ◌<◌, ◌≤◌, ◌∙◌, ap, sym, subst, get_or, take, length, pos, unsigned_abs, to_z-of_z, w64}
use Rattle.std.proofs.lemmas.List.{take_all, take_more}
use mir.Val.{SFits}
use Rattle.nrm_fraction.specs.Large.{size_limit}
use Rattle.nrm_fraction.specs.Rows.{number_at}
use Rattle.nrm_row.proofs.Filled.{bounded_push}
use Rattle.nrm_row.proofs.in_place.greatest_listed.Goals as goal

pub loop-number-preserved : goal.loop-number-preserved
loop-number-preserved c =
    let i = c.loop-number.number-index in
    let es = c.args.entries.now in
    let fits : SFits w64 (get_or es i (0, pos 0)).1 = search rules in
    let within : i < length es = omega (arith, c.loop-number-test.true) in
    let size : c.unsigned_abs.result ≡ unsigned_abs (get_or es i (0, pos 0)).1 = c.unsigned_abs.ensures.value ∙ ap unsigned_abs (to_z-of_z fits) in
    let second : unsigned_abs (get_or es i (0, pos 0)).1 ≤ c.larger-most.result = subst (λ n. n ≤ c.larger-most.result) size c.larger-most.ensures.second in
    record {
      bound = λ col. subst (λ xs. unsigned_abs (number_at xs col) ≤ c.larger-most.result) (sym (take_more es i (0, pos 0) within))
          (bounded_push (take i es) (get_or es i (0, pos 0)).0 col (get_or es i (0, pos 0)).1 c.loop-number.most c.larger-most.result (c.loop-number.invariant.bound col) c.larger-most.ensures.first second);
      small = c.larger-most.ensures.least size_limit c.loop-number.invariant.small (subst (λ n. n < size_limit) (sym size) (c.requires i (0, pos 0) within));
    }

pub returns-clause-bound : goal.returns-clause-bound
returns-clause-bound c = λ col. subst (λ xs. unsigned_abs (number_at xs col) ≤ c.loop-number.most) (take_all c.loop-number.number-index c.args.entries.now (omega (arith, c.loop-number-test.false))) (c.loop-number.invariant.bound col)
