-- One byte more stands at the front, and there is one zero fewer.
use Rattle.std.proofs.Common.{arith}
use Rattle.std.proofs.lemmas.Grind.{common_steps}
use Rattle.nrm_text.proofs.Padding.{padded-more}
use Rattle.nrm_text.proofs.name.front_of.Goals as goal

pub loop-len-preserved : goal.loop-len-preserved
loop-len-preserved c = record {
  within = omega arith;
  may_stand = grind (arith, common_steps);
  kept = padded-more c.args.bytes.now c.loop-len.kept c.loop-len.len 12 (omega (arith, c.min-most.ensures))
      (omega (arith, c.min-most.ensures)) c.loop-len.invariant.kept;
}
