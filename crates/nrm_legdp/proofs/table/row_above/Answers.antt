use Rattle.std.proofs.Common.{arith, slice_index}
use Rattle.std.proofs.lemmas.List.FromFn.{map-range_with_len_more}
use Rattle.nrm_legdp.specs.Inner.Filling.{worth_above}
use Rattle.nrm_legdp.proofs.table.row_above.Goals as goal

pub loop-x-preserved : goal.loop-x-preserved
loop-x-preserved c =
    let more = map-range_with_len_more (worth_above c.args.pay (slice_index c.args.row.now) c.args.y c.args.demands.now) 0 c.loop-x.x c.loop-x.x (omega arith) in
    cc (c.all_sales.ensures, c.in_ok-push.ensures.items, more)
