-- One more column is listed, and the numbers up to the next one are 0.
use Rattle.std.proofs.Common.{rules, ◌+◌, sym, subst, get_or, pos, ℤ, to_z-of_z, w64}
use mir.Val.{SFits}
use Rattle.nrm_row.proofs.InPlace.{IsListedTo, listed_more, listed_to}
use Rattle.nrm_row.proofs.in_place.listed.Goals as goal

pub loop-col-preserved : goal.loop-col-preserved
loop-col-preserved c =
    let ns = c.args.nums.now in
    let col = c.loop-col.col in
    let x : ℤ = get_or ns col (pos 0) in
    let fits : SFits w64 x = search rules in
    let noughts = c.next_number-col-in-loop-col.ensures.noughts in
    (noughts.within, listed_to ns c.push.new.self.items (col + 1) c.next_number-col-in-loop-col.result noughts (subst (λ es. IsListedTo ns es (col + 1)) (sym c.in_ok-push.ensures.items) (listed_more ns c.loop-col.made.items col _ c.loop-col-test.true (to_z-of_z fits) c.loop-col.invariant.1)))
