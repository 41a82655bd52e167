-- What a row says is taken by its kind, and the row is refused as it was read.
use Rattle.std.proofs.Common.{List, [], ◌≤◌, ◌==◌, arith, inl, inr, length}
use Rattle.std.specs.Prelude.{slice_get, unwrap_or}
use Rattle.std.proofs.lemmas.Bool.{cases_Bool}
use Rattle.std.proofs.lemmas.Result.{err_from_is_err_and}
use Rattle.nrm_network.specs.Inner.RowFields.{fields_in}
use Rattle.nrm_network.specs.Rows.{Row, version_in}
use Rattle.nrm_network.proofs.GoodRows.{few-periods}
use Rattle.nrm_network.proofs.draft.Draft.take.Goals as goal

known-version : (taken : List Row) → version_in taken ≤ 2
known-version taken =
    elim (cases_Bool (length (unwrap_or (slice_get taken 0) []) == 4)) [ inl four ↦ rw four (omega arith) | inr other ↦ rw other (omega arith) ]

pub read_row-requires-clause-version : goal.read_row-requires-clause-version
read_row-requires-clause-version c =
    let (taken, is) = c.requires in
    let known = known-version taken in
    let counted = c.counts.ensures taken is in
    omega (arith, known, counted.version)

pub read_row-requires-clause-periods : goal.read_row-requires-clause-periods
read_row-requires-clause-periods c =
    let (taken, is) = c.requires in
    let few = few-periods taken is.accepted in
    let counted = c.counts.ensures taken is in
    omega (arith, few, counted.periods)

pub take_product-requires : goal.take_product-requires
take_product-requires c =
    let (taken, is) = c.requires in
    (taken, fields_in c.args.row.now, is, rw c.in-Product.is at (c.in_ok-version.ensures taken (c.counts.ensures taken is)))

pub take_demand-requires : goal.take_demand-requires
take_demand-requires c =
    let (taken, is) = c.requires in
    (taken, fields_in c.args.row.now, is, rw c.in-Demand.is at (c.in_ok-version.ensures taken (c.counts.ensures taken is)))

pub take_periods-requires : goal.take_periods-requires
take_periods-requires c =
    let (taken, is) = c.requires in
    (taken, fields_in c.args.row.now, is, rw c.in-Periods.is at (c.in_ok-version.ensures taken (c.counts.ensures taken is)))

pub take_refund-requires : goal.take_refund-requires
take_refund-requires c =
    let (taken, is) = c.requires in
    (taken, fields_in c.args.row.now, is, rw c.in-Refund.is at (c.in_ok-version.ensures taken (c.counts.ensures taken is)))

pub returns-in-Refund : goal.returns-in-Refund
returns-in-Refund c = λ taken is.
    c.take_refund.ensures taken (fields_in c.args.row.now) is
    (rw c.in-Refund.is at (c.in_ok-version.ensures taken (c.counts.ensures taken is)))

pub returns-in-Periods : goal.returns-in-Periods
returns-in-Periods c = λ taken is.
    c.take_periods.ensures taken (fields_in c.args.row.now) is
    (rw c.in-Periods.is at (c.in_ok-version.ensures taken (c.counts.ensures taken is)))

pub returns-in-Leg : goal.returns-in-Leg
returns-in-Leg c = λ taken is. c.take_leg.ensures taken (fields_in c.args.row.now) is
    (rw c.in-Leg.is at (c.in_ok-version.ensures taken (c.counts.ensures taken is)))

pub returns-in-Product : goal.returns-in-Product
returns-in-Product c = λ taken is.
    c.take_product.ensures taken (fields_in c.args.row.now) is
    (rw c.in-Product.is at (c.in_ok-version.ensures taken (c.counts.ensures taken is)))

pub returns-in-Demand : goal.returns-in-Demand
returns-in-Demand c = λ taken is.
    c.take_demand.ensures taken (fields_in c.args.row.now) is
    (rw c.in-Demand.is at (c.in_ok-version.ensures taken (c.counts.ensures taken is)))

pub returns-in_err-version : goal.returns-in_err-version
returns-in_err-version c = λ taken is.
    let p = err_from_is_err_and c.from_residual.result c.from_residual.ensures.1 in
    rw (p.1, p.2) (c.in_err-version.ensures taken (c.counts.ensures taken is))
