use Rattle.std.proofs.Common.{◌∙◌, sym}
use Rattle.nrm_cli.proofs.MadeRuns.{all-made, fewer-left, made-more}
use Rattle.nrm_cli.proofs.made.answer_all.Goals as goal

pub loop-command-preserved : goal.loop-command-preserved
loop-command-preserved c =
    let l = c.loop-command in
    let carried = c.carry_out in
    let (is, other) = c.in_ok-last.ensures in
    rw is (made-more c.args.controller.now l.controller carried.new.controller c.args.maker.now l.maker c.next.new.self l.counts c.count.new.counts l.last carried.result c.in-Some.command l.invariant
    (sym c.next.ensures.command ∙ c.in-Some.is) c.next.ensures.state c.count.ensures.counted c.count.ensures.total carried.ensures.step carried.ensures.tellable carried.ensures.sound other)

pub loop-command-smaller : goal.loop-command-smaller
loop-command-smaller c = fewer-left c.loop-command.maker c.next.new.self c.in-Some.command (sym c.next.ensures.command ∙ c.in-Some.is) c.next.ensures.state

pub returns : goal.returns
returns c =
    let l = c.loop-command in
    all-made c.args.controller.now l.controller c.args.maker.now l.maker l.counts l.last l.invariant (λ command is. c.in_default.not-Some command (c.next.ensures.command ∙ is))
