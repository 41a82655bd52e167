use Rattle.std.proofs.Common.{◌-◌}
use Rattle.nrm_gen.specs.MadeCommands.{command_count}
use Rattle.nrm_cli.proofs.MadeRuns.{FrontMade}
use Rattle.nrm_cli.proofs.made.answer_all.Given as goal

-- the commands so far were answered
abbrev pub invariant-loop-command : goal.invariant-loop-command
invariant-loop-command l = FrontMade l.fn.controller l.controller l.fn.maker l.maker l.counts l.last

abbrev pub decreases-loop-command : goal.decreases-loop-command
decreases-loop-command l = command_count - l.maker.given
