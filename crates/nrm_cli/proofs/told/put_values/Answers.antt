use Rattle.std.proofs.Common.{ℕ, List, ◌≡◌, ◌∙◌, ap, inr, subst, sym}
use Rattle.nrm_common_cli.specs.Puts.{PutsLine}
use Rattle.nrm_findings.specs.LegValues.{class_count, no_classes_line}
use Rattle.nrm_cli.specs.LegTexts.{ValuesTold, no_classes, valued}
use Rattle.nrm_cli.specs.declared.status.Status.TheVariants as status
use Rattle.nrm_cli.proofs.told.put_values.Goals as goal
use Rattle.nrm_cli.specs.declared.status.TheConstants.{STATUSES}

pub returns-in-Ok-clause-puts : goal.returns-in-Ok-clause-puts
returns-in-Ok-clause-puts g c =
    inr (
      status.Done,
      c.bytes.result.now,
      subst (ValuesTold c.args.net.now c.args.name.now status.Done) (sym c.bytes.ensures) (valued c.in-Ok.text c.in-Ok.ensures.valued),
      c.put_line.ensures.puts,
    )

pub returns-in-Err-Count-clause-puts : goal.returns-in-Err-Count-clause-puts
returns-in-Err-Count-clause-puts g c =
    let (none, same) = rw c.in-Err-Count.field-0-is at c.in-Err-Count.ensures.refused in
    let held = g.K.Sink.held in
    let faults = g.K.Sink.faults in
    let put = c.put_line-in-Err-Count in
    let count = class_count c.args.net.now c.args.name.now in
    let line : c.bytes-in-Err-Count.result.now ≡ no_classes_line count = c.bytes-in-Err-Count.ensures ∙ c.line_of_no_classes.ensures ∙ ap no_classes_line same in
    inr (
      status.NoClass,
      no_classes_line count,
      no_classes none,
      subst (λ (text : List ℕ). PutsLine STATUSES text status.NoClass (held c.args.sink.now) (held put.new.sink) (faults c.args.sink.now) (faults put.new.sink) put.result) line put.ensures.puts,
    )
