use Rattle.std.proofs.Common.{inr, subst, sym}
use Rattle.nrm_cli.specs.LegTexts.{CutsTold, cut, no_leg_line, unused}
use Rattle.nrm_cli.specs.declared.status.Status.TheVariants as status
use Rattle.nrm_cli.proofs.told.put_cuts.Goals as goal

pub returns-in-Ok-Some-clause-puts : goal.returns-in-Ok-Some-clause-puts
returns-in-Ok-Some-clause-puts g c =
    let found = rw c.in-Ok-Some.field-0-is at c.in-Ok-Some.ensures in
    inr (
      status.Done,
      c.bytes.result.now,
      subst (CutsTold c.args.net.now c.args.name.now c.args.groups status.Done) (sym c.bytes.ensures) (cut c.in-Ok-Some.text found),
      c.put_line.ensures.puts,
    )

pub returns-in-Ok-None-clause-puts : goal.returns-in-Ok-None-clause-puts
returns-in-Ok-None-clause-puts g c =
    let none = rw c.in-Ok-None.field-0-is at c.in-Ok-None.ensures in
    inr (status.NoLeg, no_leg_line, unused none, c.put_line-in-Ok-None.ensures.puts)
