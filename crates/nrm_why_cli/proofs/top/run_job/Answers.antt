use Rattle.std.proofs.Common.{◌≡◌, List, ℕ, [], Err, Ok, Some, refl}
use Rattle.nrm_common_cli.specs.Outside.{Outside, outside}
use Rattle.nrm_common_cli.proofs.Opened.{opened-goes}
use Rattle.nrm_session.specs.Serving.{SentOn}
use Rattle.nrm_session.specs.declared.serving.End.{End}
use Rattle.nrm_session.specs.declared.serving.End.TheVariants as end
use Rattle.nrm_why_cli.specs.Ends.{Begins}
use Rattle.nrm_why_cli.specs.Inner.Parts.{job_in}
use Rattle.nrm_why_cli.proofs.Counts.{session-failures, session-goes, unplanned-failures, without-failures}
use Rattle.nrm_why_cli.proofs.Ending.{asked-still, session-ends, without-network, without-plan}
use Rattle.nrm_why_cli.proofs.top.run_job.Goals as goal

pub returns-in-Err-clause-ends : goal.returns-in-Err-clause-ends
returns-in-Err-clause-ends g c = without-network (job_in c.args.job) _ _ refl c.in-Err.reason c.put_reason.result c.in-Err.ensures.opens c.in-Err.ensures.counts c.put_reason.ensures.puts

pub returns-in-Err-clause-failures : goal.returns-in-Err-clause-failures
returns-in-Err-clause-failures g c = without-failures _ _ c.in-Err.reason c.put_reason.result c.in-Err.ensures.counts c.put_reason.ensures.puts refl

pub returns-in-Err-clause-goes : goal.returns-in-Err-clause-goes
returns-in-Err-clause-goes g c = opened-goes _ _ (Err c.in-Err.reason) c.in-Err.ensures.counts c.in-Err.ensures.stays refl c.put_reason.ensures.later

pub returns-in-Err-start-clause-ends : goal.returns-in-Err-start-clause-ends
returns-in-Err-start-clause-ends g c = without-plan (job_in c.args.job) _ _ refl c.in-Ok.net c.in-Ok.ensures.opens c.in-Err-start.why c.put_unplanned.result c.in-Err-start.ensures.fault c.put_unplanned.ensures.puts

pub returns-in-Err-start-clause-failures : goal.returns-in-Err-start-clause-failures
returns-in-Err-start-clause-failures g c = unplanned-failures _ _ c.in-Err-start.why c.put_unplanned.result c.in-Ok.ensures.counts refl c.put_unplanned.ensures.puts

pub returns-in-Err-start-clause-goes : goal.returns-in-Err-start-clause-goes
returns-in-Err-start-clause-goes g c = opened-goes _ _ (Ok c.in-Ok.net) c.in-Ok.ensures.counts c.in-Ok.ensures.stays refl c.put_unplanned.ensures.later

pub returns-clause-ends : goal.returns-clause-ends
returns-clause-ends g c =
    let at = outside g.F.Files.contents g.F.Files.faults g.S.Source.coming g.S.Source.faults g.K.Sink.held g.K.Sink.faults in
    let before : Outside = at c.args.files.now c.args.source.now c.args.sink.now in
    let read : Outside = at c.args.files.now c.read_stream-end.new.source c.read_stream-end.new.sink in
    let begins : Begins (Some (job_in c.args.job)) before = record { job = job_in c.args.job; asks = refl; net = c.in-Ok.net; opens = c.in-Ok.ensures.opens; plan = c.in-Ok-start.controller.plan; planned = c.in-Ok-start.ensures.plan } in
    let number = asked-still (Some (job_in c.args.job)) before begins c.in-Ok-start.controller c.read_stream-end.new.controller c.new-teller.result c.read_stream-end.new.teller c.in-Ok-start.ensures.begins refl c.new-teller.ensures c.read_stream-end.result _ _ _ c.read_stream-end.ensures.serves in
    session-ends (Some (job_in c.args.job)) before begins c.in-Ok-start.controller c.read_stream-end.new.controller c.new-teller.result c.read_stream-end.new.teller c.in-Ok-start.ensures.begins refl c.new-teller.ensures
    read _ c.read_stream-end.result c.end_session.result c.read_stream-end.ensures.serves c.read_stream-end.ensures.counts refl refl number c.end_session.ensures.ends

pub returns-clause-failures : goal.returns-clause-failures
returns-clause-failures g c =
    let at = outside g.F.Files.contents g.F.Files.faults g.S.Source.coming g.S.Source.faults g.K.Sink.held g.K.Sink.faults in
    let read : Outside = at c.args.files.now c.read_stream-end.new.source c.read_stream-end.new.sink in
    session-failures _ read _ c.in-Ok.ensures.counts refl c.read_stream-end.new.teller c.read_stream-end.result c.end_session.result
    c.read_stream-end.ensures.counts c.end_session.ensures.ends

pub returns-clause-goes : goal.returns-clause-goes
returns-clause-goes g c =
    let at = outside g.F.Files.contents g.F.Files.faults g.S.Source.coming g.S.Source.faults g.K.Sink.held g.K.Sink.faults in
    let read : Outside = at c.args.files.now c.read_stream-end.new.source c.read_stream-end.new.sink in
    session-goes _ read _ c.in-Ok.ensures.stays c.in-Ok.ensures.counts refl c.end_session.ensures.later c.read_stream-end.result c.read_stream-end.ensures.counts

-- what an end that is no failed output says
sent-at : (e : End) (unsent unsent' : List ℕ) → SentOn unsent unsent' e → (e ≡ end.WriteFault → ⊥) → unsent ≡ [] → unsent' ≡ []
sent-at end.Done unsent unsent' sent unfailed none = sent none
sent-at end.ReadFault unsent unsent' sent unfailed none = sent none
sent-at end.WriteFault unsent unsent' sent unfailed none = absurd (unfailed refl)
sent-at end.TooLong unsent unsent' sent unfailed none = sent none

pub returns-clause-sent : goal.returns-clause-sent
returns-clause-sent g c = λ whole none.
    let (unfailed, since) = c.end_session.ensures.sent whole in
    since (sent-at c.read_stream-end.result _ _ c.read_stream-end.ensures.sent unfailed none)
