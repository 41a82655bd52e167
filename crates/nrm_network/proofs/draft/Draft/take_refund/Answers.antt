-- A refund is refused by the first of two checks, or it is the percentage of its product.
use Rattle.std.proofs.Common.{ℕ, ◌≡◌, ◌∙◌, List, true, false, sym, subst, None, arith}
use Rattle.nrm_network.specs.Rows.{Row, field, product_rows, refund_rows, is_named}
use Rattle.nrm_network.specs.Inner.Draft.{SetsRefund, Stands}
use Rattle.nrm_network.specs.Inner.Entries.{IsRead}
use Rattle.nrm_network.specs.declared.entry.Entry.TheVariants as says
use Rattle.nrm_network.proofs.ChecksAfterShape.{refund-free, refund-missing, refund-twice}
use Rattle.nrm_network.proofs.DraftGrowth.{all-given-back, look-up}
use Rattle.nrm_network.proofs.DemandGrowth.{is-there}
use Rattle.nrm_network.proofs.RefundGrowth.{Refunded, refund-grows, refund-placed}
use Rattle.nrm_network.proofs.draft.Draft.take_refund.Goals as goal
use Rattle.nrm_network.proofs.draft.Draft.take_refund.Goals.{In-Some}

place-of : (c : In-Some) (taken : List Row) (row : Row) → Stands c.args.self.now taken → IsRead taken row (says.Refund c.args.refund.now)
    → Refunded c.args.self.now taken row c.in-Some.product
place-of c taken row is read =
    refund-placed c.args.self.now taken row c.in-Some.product c.args.refund.now.product is read.shape c.in-Some.ensures read.says.0

pub returns-in_default : goal.returns-in_default
returns-in_default c = λ taken row is read.
    let none : is_named (product_rows taken) (field row 1) ≡ false =
    look-up None c.args.self.now.product_names (product_rows taken) c.args.refund.now.product (field row 1) c.in_default.ensures
    is.product_names read.says.0 in
    refund-missing taken row read.shape (all-given-back (product_rows taken) (refund_rows taken) (field row 1) none is.refunds_named).1 none

pub index-requires : goal.index-requires
index-requires c =
    let (taken, row, is, read) = c.requires in
    let flagged = (place-of (goal.at.index-requires c).In-Some taken row is read).flagged in
    omega (arith, flagged, c.args.self.now.refunded.ok.0)

pub returns-then-index : goal.returns-then-index
returns-then-index c = λ taken row is read.
    let place = place-of (goal.at.returns-then-index c).In-Some taken row is read in
    refund-twice taken row read.shape (sym (c.index.ensures ∙ place.flag c.index.result.now) ∙ c.if-index.true)

pub set_refund-requires-clause-product : goal.set_refund-requires-clause-product
set_refund-requires-clause-product c =
    let (taken, row, is, read) = c.requires in
    (place-of (goal.at.set_refund-requires-clause-product c).In-Some taken row is read).few

pub set_refund-requires-clause-refunded : goal.set_refund-requires-clause-refunded
set_refund-requires-clause-refunded c =
    let (taken, row, is, read) = c.requires in
    (place-of (goal.at.set_refund-requires-clause-refunded c).In-Some taken row is read).flagged

pub returns : goal.returns
returns c = λ taken row is read.
    let place = place-of (goal.at.returns c).In-Some taken row is read in
    let none : is_named (refund_rows taken) (field row 1) ≡ false =
    sym (c.index.ensures ∙ place.flag c.index.result.now) ∙ c.if-index.false in
    let there : is_named (product_rows taken) (field row 1) ≡ true =
    is-there (product_rows taken) c.in-Some.product (field row 1) place.found in
    let free = refund-free taken row read.shape none there in
    let sets = subst (λ (n : ℕ). SetsRefund c.args.self.now c.set_refund.new.self c.in-Some.product n) read.says.1 c.set_refund.ensures in
    (free, refund-grows c.args.self.now c.set_refund.new.self taken row c.in-Some.product is read.shape free place none there sets)
