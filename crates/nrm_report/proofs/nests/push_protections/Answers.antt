use Rattle.std.proofs.Common.{◌<◌, ◌∙◌, [], get_or, length, arith}
use Rattle.nrm_report.proofs.NestLines.{level-above, level-more, same-count}
use Rattle.nrm_report.proofs.nests.push_protections.Goals as goal

pub loop-above-preserved : goal.loop-above-preserved
loop-above-preserved c = record {
  text = λ nests has.
      let count = same-count c.args.plan.now.nests c.args.leg c.args.buckets c.requires.nests nests has in
      let below : c.loop-above.above < length (get_or nests.protections c.args.leg []) = omega (arith, count, c.loop-above-test.true) in
      level-more (get_or nests.protections c.args.leg []) c.args.line.now c.loop-above.line c.push_spaced.new.self c.from.result c.loop-above.above below (c.from.ensures ∙ c.protection.ensures nests has ∙ level-above (get_or nests.protections c.args.leg []) c.loop-above.above)
      (c.loop-above.invariant.text nests has) c.push_spaced.ensures.text;
  length = omega (arith, c.push_spaced.ensures.length, c.loop-above.invariant.length);
}
