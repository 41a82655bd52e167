-- A demand is refused by the first of three checks, or it stands in its cell.
use Rattle.std.proofs.Common.{ℕ, ◌≡◌, ◌∙◌, ◌≤◌, ◌+◌, ◌-◌, ◌*◌, List, true, false, sum, sym, ap, subst, arith, None, length}
use Rattle.std.proofs.lemmas.Bool.{lt-ltb, le-ltb}
use Rattle.nrm_text.specs.Numbers.{value_of}
use Rattle.nrm_network.specs.Rows.{Row, field, demand_rows, product_rows, is_named, further_numbers}
use Rattle.nrm_network.specs.Inner.Draft.{SetsDemand, Stands}
use Rattle.nrm_network.specs.Inner.Entries.{IsRead}
use Rattle.nrm_network.specs.declared.entry.Entry.TheVariants as says
use Rattle.nrm_network.proofs.ChecksAfterShape.{demand-twice, demand-missing, demand-over, demand-free}
use Rattle.nrm_network.proofs.DraftGrowth.{look-up, fresh-of, gives-none}
use Rattle.nrm_network.proofs.DemandGrowth.{Placed, placed, cell-is, demand-grows, few-seats, flag-read, is-there}
use Rattle.nrm_network.proofs.draft.Draft.take_demand.Goals as goal
use Rattle.nrm_network.proofs.draft.Draft.take_demand.Goals.{In-Some}

place-of : (c : In-Some) (taken : List Row) (row : Row) → Stands c.args.self.now taken → IsRead taken row (says.Demand c.args.demand.now)
    → Placed c.args.self.now taken row c.in-Some.product
place-of c taken row is read = placed c.args.self.now taken row c.in-Some.product c.args.demand.now.product is read.shape
    (c.in-Some.ensures taken is) read.says.0

pub returns-in_default : goal.returns-in_default
returns-in_default c = λ taken row is read.
    let none : is_named (product_rows taken) (field row 1) ≡ false =
    look-up None c.args.self.now.product_names (product_rows taken) c.args.demand.now.product (field row 1)
    (c.in_default.ensures taken is) is.product_names read.says.0 in
    let given = gives-none (demand_rows taken) (field row 1) (value_of (field row 2))
    (fresh-of (product_rows taken) (demand_rows taken) (field row 1) none is.named) in
    demand-missing taken row read.shape given none

pub cell_of-cell-requires-clause-product : goal.cell_of-cell-requires-clause-product
cell_of-cell-requires-clause-product c =
    let (taken, row, is, read) = c.requires in
    (place-of (goal.at.cell_of-cell-requires-clause-product c).In-Some taken row is read).few

pub index-requires : goal.index-requires
index-requires c =
    let (taken, row, is, read) = c.requires in
    let place = place-of (goal.at.index-requires c).In-Some taken row is read in
    let cell = cell-is c.cell_of-cell.result c.in-Some.product c.args.self.now.histories c.args.demand.now.history
    (value_of (field row 2)) c.cell_of-cell.ensures read.says.1 in
    let given = place.given in
    omega (arith, cell, given, c.args.self.now.given.ok.0)

pub returns-then-index : goal.returns-then-index
returns-then-index c = λ taken row is read.
    let place = place-of (goal.at.returns-then-index c).In-Some taken row is read in
    let cell = cell-is c.cell_of-cell.result c.in-Some.product c.args.self.now.histories c.args.demand.now.history
    (value_of (field row 2)) c.cell_of-cell.ensures read.says.1 in
    let flag = flag-read c.args.self.now taken row c.in-Some.product c.cell_of-cell.result c.index.result.now place cell c.index.ensures in
    demand-twice taken row read.shape (sym flag ∙ c.if-index.true)

pub total-requires : goal.total-requires
total-requires c =
    let (taken, row, is, read) = c.requires in
    let few = few-seats taken row is.accepted read.shape in
    omega (arith, few, ap length (read.says.2))

pub returns-then-total-gt-MOST_DEMAND : goal.returns-then-total-gt-MOST_DEMAND
returns-then-total-gt-MOST_DEMAND c = λ taken row is read.
    let place = place-of (goal.at.returns-then-total-gt-MOST_DEMAND c).In-Some taken row is read in
    let cell = cell-is c.cell_of-cell.result c.in-Some.product c.args.self.now.histories c.args.demand.now.history
    (value_of (field row 2)) c.cell_of-cell.ensures read.says.1 in
    let flag = flag-read c.args.self.now taken row c.in-Some.product c.cell_of-cell.result c.index.result.now place cell c.index.ensures in
    let sum_is : c.total.result ≡ sum (further_numbers row) = c.total.ensures ∙ ap sum (read.says.2) in
    let there : is_named (product_rows taken) (field row 1) ≡ true =
    is-there (product_rows taken) c.in-Some.product (field row 1) place.found in
    demand-over taken row read.shape (sym flag ∙ c.if-index.false) there
    (lt-ltb 999 (sum (further_numbers row)) (omega (arith, sum_is, c.if-total-gt-MOST_DEMAND.true)))

pub set_demand-requires-clause-given : goal.set_demand-requires-clause-given
set_demand-requires-clause-given c =
    let (taken, row, is, read) = c.requires in
    let place = place-of (goal.at.set_demand-requires-clause-given c).In-Some taken row is read in
    let cell = cell-is c.cell_of-cell.result c.in-Some.product c.args.self.now.histories c.args.demand.now.history
    (value_of (field row 2)) c.cell_of-cell.ensures read.says.1 in
    let given = place.given in
    omega (arith, cell, given)

pub set_demand-requires-clause-room : goal.set_demand-requires-clause-room
set_demand-requires-clause-room c =
    let (taken, row, is, read) = c.requires in
    let place = place-of (goal.at.set_demand-requires-clause-room c).In-Some taken row is read in
    let cell = cell-is c.cell_of-cell.result c.in-Some.product c.args.self.now.histories c.args.demand.now.history
    (value_of (field row 2)) c.cell_of-cell.ensures read.says.1 in
    let seats : c.args.demand.now.seats.now ≡ further_numbers row = read.says.2 in
    subst (λ (n : ℕ). n * c.args.self.now.periods + length c.args.demand.now.seats.now ≤ length c.args.self.now.demand.items) (sym cell)
    (subst (λ (xs : List ℕ). (c.in-Some.product * c.args.self.now.histories + (value_of (field row 2) - 1)) * c.args.self.now.periods +
    length xs ≤ length c.args.self.now.demand.items) (sym seats) place.room)

pub returns : goal.returns
returns c = λ taken row is read.
    let place = place-of (goal.at.returns c).In-Some taken row is read in
    let cell = cell-is c.cell_of-cell.result c.in-Some.product c.args.self.now.histories c.args.demand.now.history
    (value_of (field row 2)) c.cell_of-cell.ensures read.says.1 in
    let flag = flag-read c.args.self.now taken row c.in-Some.product c.cell_of-cell.result c.index.result.now place cell c.index.ensures in
    let sum_is : c.total.result ≡ sum (further_numbers row) = c.total.ensures ∙ ap sum (read.says.2) in
    let there : is_named (product_rows taken) (field row 1) ≡ true =
    is-there (product_rows taken) c.in-Some.product (field row 1) place.found in
    let none = sym flag ∙ c.if-index.false in
    let free = demand-free taken row read.shape none there
    (le-ltb 999 (sum (further_numbers row)) (omega (arith, sum_is, c.if-total-gt-MOST_DEMAND.false))) in
    let seats : c.args.demand.now.seats.now ≡ further_numbers row = read.says.2 in
    let sets = subst (λ (n : ℕ). SetsDemand c.args.self.now c.set_demand.new.self n (further_numbers row)) cell
    (subst (λ (xs : List ℕ). SetsDemand c.args.self.now c.set_demand.new.self c.cell_of-cell.result xs) seats c.set_demand.ensures) in
    (free, demand-grows c.args.self.now c.set_demand.new.self taken row c.in-Some.product is read.shape free place none there sets)
