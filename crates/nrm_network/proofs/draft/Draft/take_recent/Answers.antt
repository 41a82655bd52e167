-- What was read off the text is what the row says.
use Rattle.std.proofs.Common.{◌≤◌, List, ap, arith, length, length-append, sym}
use Rattle.std.proofs.lemmas.List.{length-take-le}
use Rattle.nrm_network.specs.Rows.{Row}
use Rattle.nrm_network.specs.Inner.Draft.{Stands}
use Rattle.nrm_network.specs.Inner.Entries.{Counted}
use Rattle.nrm_network.specs.Inner.Lines.{line_fields, line_of}
use Rattle.nrm_network.specs.declared.draft.Draft.{Draft}
use Rattle.nrm_network.specs.declared.entry.Counts.{Counts}
use Rattle.nrm_network.proofs.GoodRows.{few-periods}
use Rattle.nrm_network.proofs.draft.Draft.take_recent.Goals as goal

periods-fit : (draft : Draft) (counts : Counts) (taken : List Row) → Stands draft taken → Counted counts taken → counts.periods ≤ 16
periods-fit draft counts taken is counted =
    let few = few-periods taken is.accepted in
    omega (arith, few, counted.periods)

pub demand_at_front-requires : goal.demand_at_front-requires
demand_at_front-requires c =
    let (taken, is) = c.requires in
    periods-fit c.args.self.now c.counts-counts.result taken is (c.counts-counts.ensures taken is)

pub slice_bounds-places-end : goal.slice_bounds-places-end
slice_bounds-places-end c =
    let (taken, is) = c.requires in
    let few = periods-fit c.args.self.now c.counts-counts.result taken is (c.counts-counts.ensures taken is) in
    omega (arith, few, c.demand_at_front.array_long)

pub slice_bounds-seats-end : goal.slice_bounds-seats-end
slice_bounds-seats-end c =
    let (taken, is) = c.requires in
    let few = periods-fit c.args.self.now c.counts-counts.result taken is (c.counts-counts.ensures taken is) in
    sym (length-take-le c.counts-counts.result.periods c.demand_at_front.new.places (omega (arith, few, c.demand_at_front.array_long)))

pub returns : goal.returns
returns c =
    let read = c.in-Some-demand_at_front.ensures in
    let row : Row = line_fields (line_of c.args.text.now) in (
      λ taken is. rw c.in_ok-take_demand.was at (c.take_demand.ensures taken row is (record {
        shape = read.shape taken (c.counts-counts.ensures taken is);
        says = (read.product, read.history, read.seats);
      })),
      omega (arith, ap length read.line, length-append (line_of c.args.text.now) c.in-Some-demand_at_front.behind.now),
    )
