use Rattle.std.proofs.Common.{◌<◌, length, arith}
use Rattle.nrm_findings.proofs.LegTexts.{number_word, one-more}
use Rattle.nrm_findings.proofs.cuts.push_numbers.Goals as goal

pub push_spaced-requires : goal.push_spaced-requires
push_spaced-requires c = omega (arith, c.loop-number.invariant.length, c.requires, c.loop-number-test.true)

pub loop-number-preserved : goal.loop-number-preserved
loop-number-preserved c =
    let l = c.loop-number in
    let below : l.number-index < length c.args.numbers.now = omega (arith, c.loop-number-test.true) in
    record {
      text = one-more number_word c.args.numbers.now c.args.text.now l.text c.push_spaced.new.self c.from.result l.number-index below c.from.ensures l.invariant.text c.push_spaced.ensures.text;
      length = omega (arith, c.push_spaced.ensures.length, l.invariant.length);
    }
