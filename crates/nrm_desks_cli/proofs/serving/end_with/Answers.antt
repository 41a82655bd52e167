use Rattle.std.proofs.Common.{refl, subst, sym}
use Rattle.nrm_desks_cli.specs.Inner.Serving.{EndsWith, fails, had_failed, sent}
use Rattle.nrm_desks_cli.specs.declared.serving.ServeEnd.{ServeEnd}
use Rattle.nrm_desks_cli.proofs.serving.end_with.Goals as goal

pub returns-in-WriteFault-clause-ends : goal.returns-in-WriteFault-clause-ends
returns-in-WriteFault-clause-ends g c =
    let held = g.K.Sink.held c.args.sink.now in
    let faults = g.K.Sink.faults c.args.sink.now in
    subst (λ (e : ServeEnd). EndsWith c.args.told held held faults faults e) (sym c.in-WriteFault.is) (had_failed c.in-WriteFault.is refl refl)

pub returns-in-Ok : goal.returns-in-Ok
returns-in-Ok g c = record {
  ends = sent c.in_default.not-WriteFault c.flush.ensures.bytes c.in-Ok.ensures.cause.done;
  sent = λ _. c.in-Ok.ensures.sent;
}

pub returns-in-Err : goal.returns-in-Err
returns-in-Err g c = record {
  ends = fails c.in_default.not-WriteFault c.flush.ensures.bytes c.in-Err.ensures.cause.failed;
  sent = λ never. absurd (never refl);
}
