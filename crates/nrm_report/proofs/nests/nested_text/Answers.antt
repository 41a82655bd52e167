use Rattle.std.proofs.Common.{◌++◌, flat_map, length, subst}
use Rattle.std.proofs.KnownBytes.{Appends-trans}
use Rattle.std.proofs.lemmas.Result.{on_err_weaker, on_ok_weaker}
use Rattle.std.specs.Io.KnownBytes.{Appends}
use Rattle.std.specs.List.{range_with_len}
use Rattle.nrm_edge.specs.Pieces.{AppendsFront}
use Rattle.nrm_edge.proofs.Sent.{AppendsFront-after, AppendsFront-more, OnErr-holds}
use Rattle.nrm_model.specs.Inventory.{inventory_of, products_on}
use Rattle.nrm_dual.specs.Texts.{certificate_text}
use Rattle.nrm_report.specs.Texts.{nest_line, nests_text, protect_line}
use Rattle.nrm_report.proofs.NestLines.{protections-lines}
use Rattle.nrm_report.proofs.nests.nested_text.Goals as goal

pub returns-in_err-certificate_text-clause-cut : goal.returns-in_err-certificate_text-clause-cut
returns-in_err-certificate_text-clause-cut g c =
    let net = c.args.net.now in
    let cert = c.args.certificate.now in
    let held = g.K.Sink.held in
    OnErr-holds c.from_residual.result
    (AppendsFront-more (held c.args.sink.now) (held c.certificate_text.new.sink) (certificate_text net cert) (nests_text net c.args.plan.now.period cert) c.in_err-certificate_text.ensures.cut)

pub returns-in_err-put_nests-clause-cut : goal.returns-in_err-put_nests-clause-cut
returns-in_err-put_nests-clause-cut g c =
    let net = c.args.net.now in
    let cert = c.args.certificate.now in
    let held = g.K.Sink.held in
    let nests = flat_map (λ i. flat_map (nest_line net cert i) (products_on (inventory_of net) i)) (range_with_len 0 (length net.legs)) in
    let levels = flat_map (protect_line net cert c.args.plan.now.period) (range_with_len 0 (length net.legs)) in
    OnErr-holds c.from_residual-in_err-put_nests.result
    (AppendsFront-after (held c.args.sink.now) (held c.certificate_text.new.sink) (held c.put_nests.new.sink) (certificate_text net cert) (nests ++ levels) c.in_ok-certificate_text.ensures.whole
    (AppendsFront-more (held c.certificate_text.new.sink) (held c.put_nests.new.sink) nests levels c.in_err-put_nests.ensures.cut))

pub returns-clause-cut : goal.returns-clause-cut
returns-clause-cut g c =
    let net = c.args.net.now in
    let cert = c.args.certificate.now in
    let held = g.K.Sink.held in
    let nests = flat_map (λ i. flat_map (nest_line net cert i) (products_on (inventory_of net) i)) (range_with_len 0 (length net.legs)) in
    let levels = flat_map (protect_line net cert c.args.plan.now.period) (range_with_len 0 (length net.legs)) in
    on_err_weaker c.put_protections.result
    (λ front.
    AppendsFront-after (held c.args.sink.now) (held c.certificate_text.new.sink) (held c.put_protections.new.sink) (certificate_text net cert) (nests ++ levels) c.in_ok-certificate_text.ensures.whole
    (AppendsFront-after (held c.certificate_text.new.sink) (held c.put_nests.new.sink) (held c.put_protections.new.sink) nests levels c.in_ok-put_nests.ensures.whole
    (subst (AppendsFront (held c.put_nests.new.sink) (held c.put_protections.new.sink)) (protections-lines net cert c.args.plan.now c.requires) front)))
    c.put_protections.ensures.cut

pub returns-clause-whole : goal.returns-clause-whole
returns-clause-whole g c =
    let net = c.args.net.now in
    let cert = c.args.certificate.now in
    let held = g.K.Sink.held in
    let nests = flat_map (λ i. flat_map (nest_line net cert i) (products_on (inventory_of net) i)) (range_with_len 0 (length net.legs)) in
    let levels = flat_map (protect_line net cert c.args.plan.now.period) (range_with_len 0 (length net.legs)) in
    on_ok_weaker c.put_protections.result
    (λ whole.
    Appends-trans (held c.args.sink.now) (held c.certificate_text.new.sink) (held c.put_protections.new.sink) (certificate_text net cert) (nests ++ levels) c.in_ok-certificate_text.ensures.whole
    (Appends-trans (held c.certificate_text.new.sink) (held c.put_nests.new.sink) (held c.put_protections.new.sink) nests levels c.in_ok-put_nests.ensures.whole
    (subst (Appends (held c.put_nests.new.sink) (held c.put_protections.new.sink)) (protections-lines net cert c.args.plan.now c.requires) whole)))
    c.put_protections.ensures.whole
