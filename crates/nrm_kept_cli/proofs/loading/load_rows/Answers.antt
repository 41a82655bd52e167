use Rattle.std.proofs.Common.{◌∙◌, ◌+◌, ◌∷◌, List, ap, drop, subst, sym}
use Rattle.std.proofs.lemmas.List.{drop_more}
use Rattle.nrm_keeper.specs.declared.row.KeptRow.{KeptRow}
use Rattle.nrm_kept_cli.proofs.Loads.{IsLoading, loading-more}
use Rattle.nrm_kept_cli.proofs.loading.load_rows.Goals as goal

pub loop-row-preserved : goal.loop-row-preserved
loop-row-preserved c =
    let l = c.loop-row in
    let rest : List KeptRow = drop (l.row-index + 1) c.args.rows.now in
    let left = drop_more c.args.rows.now l.row-index c.row-item.result c.loop-row-test.true ∙ ap (λ (row : KeptRow). row ∷ rest) (sym c.row-item.is) in
    let so_far = subst (λ (rows : List KeptRow). IsLoading c.args.controller.now l.controller rows c.args.rows.now) left l.invariant in
    loading-more c.args.controller.now l.controller c.row-item.result rest c.args.rows.now so_far c.load.new.self c.in-Some.booking c.in-Some.ensures.booking c.in-Some.ensures.low c.load.ensures.loaded c.load.ensures.state c.load.ensures.sound
