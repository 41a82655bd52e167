use Rattle.std.proofs.Common.{◌==◌, arith, sym, ◌∙◌}
use Rattle.nrm_stream.proofs.Searches.{found-here, found-in_rest, none-further, not-in_rest}
use Rattle.nrm_stream.proofs.cut.first_at.Goals as goal

pub returns-then-before-lt-LANES : goal.returns-then-before-lt-LANES
returns-then-before-lt-LANES c =
    sym (found-here (λ x. x == c.args.wanted) c.args.bytes.now c.loop-at.at c.loop-at.invariant.none 16 c.lanes_before-before.result
    (omega arith) c.lanes_before-before.ensures (omega arith))

pub loop-at-preserved : goal.loop-at-preserved
loop-at-preserved c = record {
  within = omega arith;
  none = none-further (λ x. x == c.args.wanted) c.args.bytes.now c.loop-at.at c.loop-at.invariant.none 16 c.lanes_before-before.result
      (omega arith) c.lanes_before-before.ensures (omega arith);
}

pub returns-in-Some : goal.returns-in-Some
returns-in-Some c = sym (found-in_rest (λ x. x == c.args.wanted) c.args.bytes.now c.loop-at.at c.loop-at.invariant.none c.in-Some.place
    (sym c.first_by_one.ensures ∙ c.in-Some.is))

pub returns-in-None : goal.returns-in-None
returns-in-None c = sym (not-in_rest (λ x. x == c.args.wanted) c.args.bytes.now c.loop-at.at c.loop-at.invariant.none
    (sym c.first_by_one.ensures ∙ c.in-None.is))
