use Rattle.std.proofs.Common.{◌≡◌, ◌∙◌, ◌∷◌, [], codes, decimal, length, nat_abs, refl, sym, ap, rules, SFits, to_z-of_z}
use mir.Syntax.{w128}
use Rattle.nrm_fraction.specs.Fraction.{◌over◌}
use Rattle.nrm_text.specs.Fractions.{fraction_text}
use Rattle.nrm_text.specs.Words.{text_line}
use Rattle.nrm_model.specs.Network.{leg_of, product_of}
use Rattle.nrm_fraction.specs.Large.{size_limit}
use Rattle.nrm_virtual.specs.Buckets.{bucket_of}
use Rattle.nrm_virtual.proofs.Prices.{prices-of_shape}
use Rattle.nrm_report.proofs.NestLines.{bucket-held, bucket-shown, number-read}
use Rattle.nrm_report.proofs.nests.line_for_nest.Goals as goal

pub adjusted-fare-requires-clause-prices : goal.adjusted-fare-requires-clause-prices
adjusted-fare-requires-clause-prices c = prices-of_shape size_limit (length c.args.net.now.products) (length c.args.net.now.legs) c.args.certificate.now c.requires.nested.shape

pub bucket-bucket-requires : goal.bucket-bucket-requires
bucket-bucket-requires c = bucket-held c.args.net.now c.args.certificate.now c.args.plan.now c.requires.nested c.args.leg c.requires.leg c.args.product c.requires.product c.requires.uses

pub returns : goal.returns
returns c =
    let bucket : c.bucket-bucket.result ≡ bucket_of c.args.net.now c.args.certificate.now c.args.leg c.args.product =
    bucket-shown c.args.net.now c.args.certificate.now c.args.plan.now c.requires.nested c.args.leg c.requires.leg c.args.product c.bucket-bucket.result c.bucket-bucket.ensures in
    let leg : c.leg_at.result.now.name ≡ (leg_of c.args.net.now c.args.leg).name = rw (sym c.leg_at.ensures.leg) refl in
    let product : c.product_at.result.now.name ≡ (product_of c.args.net.now c.args.product).name = rw (sym c.product_at.ensures.product) refl in
    let fits : SFits w128 c.adjusted-fare.result = search rules in
    let fare = to_z-of_z fits ∙ c.adjusted-fare.ensures.fare in
    let den : c.from.result ≡ nat_abs c.args.certificate.now.den = c.from.ensures ∙ c.unsigned_abs.ensures.value ∙ ap nat_abs (number-read c.args.certificate.now.den c.requires.nested.shape.den_size) in
    c.line_of_nest.ensures ∙ (λ n. text_line (codes "nest" ∷ leg n ∷ product n ∷ fraction_text (fare n over den n) ∷ decimal (bucket n) ∷ []))
