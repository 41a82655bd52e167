use Rattle.std.proofs.Common.{◌++◌, ◌∙◌, flat_map, length, subst}
use Rattle.std.proofs.KnownBytes.{Appends-trans}
use Rattle.std.proofs.lemmas.Result.{on_err_weaker, on_ok_weaker}
use Rattle.std.specs.Io.KnownBytes.{Appends}
use Rattle.std.specs.List.{range_with_len}
use Rattle.nrm_edge.specs.Pieces.{AppendsFront}
use Rattle.nrm_edge.proofs.Sent.{AppendsFront-after, AppendsFront-more, OnErr-holds}
use Rattle.nrm_dual.specs.Texts.{leg_line, product_line, value_line}
use Rattle.nrm_report.proofs.certificate.certificate_text.Goals as goal

pub returns-in_err-put_all-clause-cut : goal.returns-in_err-put_all-clause-cut
returns-in_err-put_all-clause-cut g c =
    let net = c.args.net.now in
    let certificate = c.args.certificate.now in
    let held = g.K.Sink.held in
    let products = flat_map (product_line net certificate) (range_with_len 0 (length net.products)) in
    let legs = flat_map (leg_line net certificate) (range_with_len 0 (length net.legs)) in
    let line = c.bytes.ensures ∙ c.line_for_value.ensures in
    OnErr-holds c.from_residual.result
    (AppendsFront-more (held c.args.sink.now) (held c.put_all.new.sink) (value_line net certificate ++ products) legs
    (AppendsFront-more (held c.args.sink.now) (held c.put_all.new.sink) (value_line net certificate) products
    (subst (AppendsFront (held c.args.sink.now) (held c.put_all.new.sink)) line c.in_err-put_all.ensures.cut)))

pub returns-in_err-put_allotted-clause-cut : goal.returns-in_err-put_allotted-clause-cut
returns-in_err-put_allotted-clause-cut g c =
    let net = c.args.net.now in
    let certificate = c.args.certificate.now in
    let held = g.K.Sink.held in
    let products = flat_map (product_line net certificate) (range_with_len 0 (length net.products)) in
    let legs = flat_map (leg_line net certificate) (range_with_len 0 (length net.legs)) in
    let line = c.bytes.ensures ∙ c.line_for_value.ensures in
    let value = subst (Appends (held c.args.sink.now) (held c.put_all.new.sink)) line c.in_ok-put_all.ensures.whole in
    OnErr-holds c.from_residual-in_err-put_allotted.result
    (AppendsFront-more (held c.args.sink.now) (held c.put_allotted.new.sink) (value_line net certificate ++ products) legs
    (AppendsFront-after (held c.args.sink.now) (held c.put_all.new.sink) (held c.put_allotted.new.sink) (value_line net certificate) products value c.in_err-put_allotted.ensures.cut))

pub returns-clause-cut : goal.returns-clause-cut
returns-clause-cut g c =
    let net = c.args.net.now in
    let certificate = c.args.certificate.now in
    let held = g.K.Sink.held in
    let products = flat_map (product_line net certificate) (range_with_len 0 (length net.products)) in
    let legs = flat_map (leg_line net certificate) (range_with_len 0 (length net.legs)) in
    let line = c.bytes.ensures ∙ c.line_for_value.ensures in
    let value = subst (Appends (held c.args.sink.now) (held c.put_all.new.sink)) line c.in_ok-put_all.ensures.whole in
    let whole = Appends-trans (held c.args.sink.now) (held c.put_all.new.sink) (held c.put_allotted.new.sink) (value_line net certificate) products value c.in_ok-put_allotted.ensures.whole in
    on_err_weaker c.put_prices.result
    (AppendsFront-after (held c.args.sink.now) (held c.put_allotted.new.sink) (held c.put_prices.new.sink) (value_line net certificate ++ products) legs whole)
    c.put_prices.ensures.cut

pub returns-clause-whole : goal.returns-clause-whole
returns-clause-whole g c =
    let net = c.args.net.now in
    let certificate = c.args.certificate.now in
    let held = g.K.Sink.held in
    let products = flat_map (product_line net certificate) (range_with_len 0 (length net.products)) in
    let legs = flat_map (leg_line net certificate) (range_with_len 0 (length net.legs)) in
    let line = c.bytes.ensures ∙ c.line_for_value.ensures in
    let value = subst (Appends (held c.args.sink.now) (held c.put_all.new.sink)) line c.in_ok-put_all.ensures.whole in
    let whole = Appends-trans (held c.args.sink.now) (held c.put_all.new.sink) (held c.put_allotted.new.sink) (value_line net certificate) products value c.in_ok-put_allotted.ensures.whole in
    on_ok_weaker c.put_prices.result
    (Appends-trans (held c.args.sink.now) (held c.put_allotted.new.sink) (held c.put_prices.new.sink) (value_line net certificate ++ products) legs whole)
    c.put_prices.ensures.whole
