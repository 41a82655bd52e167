use Rattle.std.proofs.Common.{◌∙◌, flat_map, subst}
use Rattle.std.specs.Io.KnownBytes.{Appends}
use Rattle.std.proofs.lemmas.Result.{on_err_weaker}
use Rattle.nrm_edge.specs.Pieces.{AppendsFront}
use Rattle.nrm_edge.proofs.Sent.{AppendsFront-after, AppendsFront-more, OnErr-holds}
use Rattle.nrm_model.specs.Inventory.{inventory_of, products_on}
use Rattle.nrm_report.specs.Texts.{leg_line, on_line}
use Rattle.nrm_report.proofs.leg.leg_text.Goals as goal

pub returns-in_err-put_all-clause-cut : goal.returns-in_err-put_all-clause-cut
returns-in_err-put_all-clause-cut g c =
    let net = c.args.net.now in
    let bookings = c.args.book.now.bookings in
    let held = g.K.Sink.held in
    let line = c.bytes.ensures ∙ c.line_for_leg.ensures in
    OnErr-holds c.from_residual.result
    (AppendsFront-more (held c.args.sink.now) (held c.put_all.new.sink) (leg_line net bookings c.args.leg) (flat_map (on_line net bookings c.args.leg) (products_on (inventory_of net) c.args.leg))
    (subst (AppendsFront (held c.args.sink.now) (held c.put_all.new.sink)) line c.in_err-put_all.ensures.cut))

pub returns-clause-cut : goal.returns-clause-cut
returns-clause-cut g c =
    let net = c.args.net.now in
    let bookings = c.args.book.now.bookings in
    let held = g.K.Sink.held in
    let line = c.bytes.ensures ∙ c.line_for_leg.ensures in
    let whole = subst (Appends (held c.args.sink.now) (held c.put_all.new.sink)) line c.in_ok-put_all.ensures.whole in
    on_err_weaker c.put_products.result
    (AppendsFront-after (held c.args.sink.now) (held c.put_all.new.sink) (held c.put_products.new.sink) (leg_line net bookings c.args.leg) (flat_map (on_line net bookings c.args.leg) (products_on (inventory_of net) c.args.leg)) whole)
    c.put_products.ensures.cut
