use Rattle.std.proofs.Common.{◌≡◌, ◌-◌, ◌∙◌, ap, arith, length, slice_index}
use Rattle.nrm_legdp.specs.Policies.{last_passing, worth_more}
use Rattle.nrm_legdp.proofs.table.threshold.Goals as goal

pub returns : goal.returns
returns c =
    let e : c.loop-y.y - 1 ≡ length c.args.row.now - 1 = omega arith in
    c.loop-y.invariant ∙ ap (last_passing (worth_more c.args.pay (slice_index c.args.row.now))) e
