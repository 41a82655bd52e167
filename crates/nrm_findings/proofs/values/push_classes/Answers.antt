use Rattle.std.proofs.Common.{◌<◌, get_or, length, arith, refl}
use Rattle.nrm_findings.specs.LegValues.{class_line}
use Rattle.nrm_findings.proofs.LegTexts.{one-more}
use Rattle.nrm_findings.proofs.values.push_classes.Goals as goal

pub push_class-requires-clause-room : goal.push_class-requires-clause-room
push_class-requires-clause-room c = omega (arith, c.loop-product.invariant.length, c.requires.room, c.loop-product-test.true)

pub loop-product-preserved : goal.loop-product-preserved
loop-product-preserved c =
    let l = c.loop-product in
    let below : l.product-index < length c.args.products.now = omega (arith, c.loop-product-test.true) in
    record {
      text = one-more (class_line c.args.net.now) c.args.products.now c.args.text.now l.text c.push_class.new.text (get_or c.args.products.now l.product-index 0) l.product-index below refl l.invariant.text c.push_class.ensures.text;
      length = omega (arith, c.push_class.ensures.length, l.invariant.length);
    }
