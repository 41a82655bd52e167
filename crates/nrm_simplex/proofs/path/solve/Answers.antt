-- Each pivot is one step of the path, and the last tableau closes it.
use Rattle.std.proofs.Common.{◌∙◌, sym, subst, rules, MatchResult}
use Rattle.nrm_lp.specs.Limits.{IsLimited}
use Rattle.nrm_simplex.specs.Solving.{IsClosing, IsSolveFault}
use Rattle.nrm_simplex.proofs.Walk.{walk_on, walk_falls, certified}
use Rattle.nrm_simplex.proofs.path.solve.Goals as goal

pub loop-col-smaller : goal.loop-col-smaller
loop-col-smaller c = walk_falls c.args.program.now c.loop-col.tableau c.loop-col.pivots c.loop-col.invariant c.in-Some.col c.leaving-row.result c.in-Ok.next c.saturating_add-pivots.result (sym c.entering.ensures.column ∙ c.in-Some.is) c.leaving-row.ensures.row c.in-Ok.ensures.small c.in-Ok.ensures.next

pub loop-col-preserved : goal.loop-col-preserved
loop-col-preserved c = walk_on c.args.program.now c.loop-col.tableau c.loop-col.pivots c.loop-col.invariant c.in-Some.col c.leaving-row.result c.in-Ok.next c.saturating_add-pivots.result (sym c.entering.ensures.column ∙ c.in-Some.is) c.leaving-row.ensures.row c.in-Ok.ensures.small c.in-Ok.ensures.next c.saturating_add-pivots.ensures

pub returns-clause-certified : goal.returns-clause-certified
returns-clause-certified c =
    let limits : IsLimited c.args.program.now = subst IsLimited c.loop-col.invariant.program c.entering.ensures.on_path.limits in
    let path : MatchResult c.map_err.result (IsClosing c.args.program.now) (IsSolveFault c.args.program.now) = search rules in
    certified c.args.program.now limits c.map_err.result path
