use Rattle.std.specs.declared.alloc.Global.{Global}
use Rattle.std.proofs.Common.{Err, List, Ok, Some, Vec, ◌∙◌, ap, refl, subst, sym}
use Rattle.nrm_keeper.specs.declared.row.KeptRow.{KeptRow}
use Rattle.nrm_keeper.specs.Rows.{Lists}
use Rattle.nrm_control.specs.Standing.{ControlValue}
use Rattle.nrm_kept_cli.specs.Ends.{Begins, KeptOutside, Starts, kept_outside}
use Rattle.nrm_kept_cli.specs.Inner.Parts.{job_in, loaded_in}
use Rattle.nrm_common_cli.proofs.Opened.{opened-goes}
use Rattle.nrm_kept_cli.proofs.Counts.{served-failures, served-goes, told-counts, unlisted-failures, unplanned-failures, without-failures}
use Rattle.nrm_kept_cli.proofs.Ending.{begun-load, begun-stands, keeps-stay, list-told, lists-before, served-ends, served-trusts, without-load, without-network, without-plan, without-rows}
use Rattle.nrm_kept_cli.proofs.Readings.{listed-read, unlisted-read}
use Rattle.nrm_kept_cli.specs.Inner.Reading.{rows_by}
use Rattle.nrm_kept_cli.specs.Jobs.{store_refused_line}
use Rattle.nrm_kept_cli.specs.declared.status.KeptStatus.TheVariants as status
use Rattle.nrm_kept_cli.proofs.top.run_job.Goals as goal

pub returns-in-Err-clause-ends : goal.returns-in-Err-clause-ends
returns-in-Err-clause-ends g c =
    λ how trusted. (trusted, without-network (job_in c.args.job) _ _ refl (λ rows told. told) c.in-Err.reason c.put_reason.result refl c.in-Err.ensures.opens c.in-Err.ensures.counts c.put_reason.ensures.puts)

pub returns-in-Err-clause-failures : goal.returns-in-Err-clause-failures
returns-in-Err-clause-failures g c = without-failures _ _ c.in-Err.reason c.put_reason.result c.in-Err.ensures.counts c.put_reason.ensures.puts refl

pub returns-in-Err-clause-goes : goal.returns-in-Err-clause-goes
returns-in-Err-clause-goes g c = opened-goes _ _ (Err c.in-Err.reason) c.in-Err.ensures.counts c.in-Err.ensures.stays refl c.put_reason.ensures.later

pub returns-in-Err-start-clause-ends : goal.returns-in-Err-start-clause-ends
returns-in-Err-start-clause-ends g c =
    λ how trusted. (trusted, without-plan (job_in c.args.job) _ _ refl (λ rows told. told) c.in-Ok.net c.in-Ok.ensures.opens c.in-Err-start.why c.put_unplanned.result refl c.in-Err-start.ensures.fault c.put_unplanned.ensures.puts)

pub returns-in-Err-start-clause-failures : goal.returns-in-Err-start-clause-failures
returns-in-Err-start-clause-failures g c = unplanned-failures _ _ c.in-Err-start.why c.put_unplanned.result c.in-Ok.ensures.counts refl c.put_unplanned.ensures.puts

pub returns-in-Err-start-clause-goes : goal.returns-in-Err-start-clause-goes
returns-in-Err-start-clause-goes g c = opened-goes _ _ (Ok c.in-Ok.net) c.in-Ok.ensures.counts c.in-Ok.ensures.stays refl c.put_unplanned.ensures.later

pub returns-in-Err-all-clause-ends : goal.returns-in-Err-all-clause-ends
returns-in-Err-all-clause-ends g c = λ how trusted.
    let read = unlisted-read g.P.Keeper c.args.keeper.now c.all.new.self _ c.in-Err-all.ensures.unchanged c.in-Err-all.ensures.shows how trusted in (
      read.0,
      without-rows (job_in c.args.job) _ _ refl (λ rows told. read.1 ∙ told) (Vec KeptRow Global)
          (record { job = job_in c.args.job; asks = refl; net = c.in-Ok.net; opens = c.in-Ok.ensures.opens; plan = c.in-Ok-start.controller.plan; planned = c.in-Ok-start.ensures.plan })
          c.in-Err-all.why c.put_unlisted.result c.in-Err-all.ensures.counts c.put_unlisted.ensures.puts,
    )

pub returns-in-Err-all-clause-failures : goal.returns-in-Err-all-clause-failures
returns-in-Err-all-clause-failures g c = unlisted-failures _ _ c.in-Err-all.why c.put_unlisted.result c.in-Ok.ensures.counts refl c.put_unlisted.ensures.puts

pub returns-in-Err-all-clause-goes : goal.returns-in-Err-all-clause-goes
returns-in-Err-all-clause-goes g c = opened-goes _ _ (Ok c.in-Ok.net) c.in-Ok.ensures.counts c.in-Ok.ensures.stays refl c.put_unlisted.ensures.later

pub load_rows-requires : goal.load_rows-requires
load_rows-requires g c = begun-stands c.in-Ok.net c.in-Ok-start.controller c.in-Ok-start.ensures.begins

pub returns-in-Ok-load_rows-clause-ends : goal.returns-in-Ok-load_rows-clause-ends
returns-in-Ok-load_rows-clause-ends g c = λ how trusted.
    let rows_in = rows_by g.P.Keeper how in
    let at = kept_outside g.F.Files.contents g.F.Files.faults g.S.Source.coming g.S.Source.faults g.K.Sink.held g.K.Sink.faults rows_in g.P.Keeper.faults in
    let before : KeptOutside = at c.args.files.now c.args.source.now c.args.sink.now c.args.keeper.now in
    let after : KeptOutside = at c.open_network.new.files c.answer_stream.new.source c.answer_stream.new.sink c.answer_stream.new.keeper in
    let trusted_listed = served-trusts g.P.Keeper how c.load_rows.new.controller c.answer_stream.new.controller c.all.new.self c.answer_stream.new.keeper _ _ _ c.answer_stream.result c.answer_stream.ensures.serves trusted in
    let read = listed-read g.P.Keeper c.args.keeper.now c.all.new.self c.in-Ok-all.rows.items c.in-Ok-all.ensures.listed c.in-Ok-all.ensures.stays c.in-Ok-all.ensures.shows how trusted_listed in
    let begun = c.in-Ok-start.ensures.begins in
    let rows : List KeptRow = c.deref.result.now in
    let lists = subst (λ (l : List KeptRow). Lists l (rows_in c.all.new.self)) (sym c.deref.ensures.value) read.1.1 in
    let begins : Begins (Some (job_in c.args.job)) before = record { job = job_in c.args.job; asks = refl; net = c.in-Ok.net; opens = c.in-Ok.ensures.opens; plan = c.in-Ok-start.controller.plan; planned = c.in-Ok-start.ensures.plan } in
    let starts : Starts (Some (job_in c.args.job)) before = record {
      begins = begins;
      rows = rows;
      listed = lists-before (rows_in c.args.keeper.now) (rows_in c.all.new.self) rows read.1.0 lists;
      loaded = loaded_in c.load_rows.new.controller;
      loads = begun-load c.in-Ok.net c.in-Ok-start.controller rows begun ∙ c.in-Ok-load_rows.ensures.loaded;
    } in (
      read.0,
      rw c.status_at.ensures
          (served-ends g.P.Keeper how (job_in c.args.job) before after starts c.load_rows.new.controller c.answer_stream.new.controller c.all.new.self c.answer_stream.new.keeper
          (c.load_rows.ensures.network ∙ ap (λ (control : ControlValue). control.net) begun) c.load_rows.ensures.plan refl c.load_rows.ensures.represents
          (list-told (rows_in c.args.keeper.now) (rows_in c.all.new.self) rows read.1.0 lists) c.in-Ok-all.ensures.counts refl refl trusted c.answer_stream.ensures.ready
          c.answer_stream.result c.answer_stream.ensures.serves c.answer_stream.ensures.counts),
    )

pub returns-in-Ok-load_rows-clause-failures : goal.returns-in-Ok-load_rows-clause-failures
returns-in-Ok-load_rows-clause-failures g c = rw c.status_at.ensures (served-failures _ _ c.in-Ok.ensures.counts c.answer_stream.result c.answer_stream.ensures.counts)

pub returns-in-Ok-load_rows-clause-goes : goal.returns-in-Ok-load_rows-clause-goes
returns-in-Ok-load_rows-clause-goes g c = served-goes _ _ c.in-Ok.ensures.stays c.in-Ok.ensures.counts c.answer_stream.result c.answer_stream.ensures.counts

pub returns-in-Ok-load_rows-clause-sent : goal.returns-in-Ok-load_rows-clause-sent
returns-in-Ok-load_rows-clause-sent g c = rw c.status_at.ensures c.answer_stream.ensures.sent

pub returns-clause-ends : goal.returns-clause-ends
returns-clause-ends g c = λ how trusted.
    let rows_in = rows_by g.P.Keeper how in
    let at = kept_outside g.F.Files.contents g.F.Files.faults g.S.Source.coming g.S.Source.faults g.K.Sink.held g.K.Sink.faults rows_in g.P.Keeper.faults in
    let before : KeptOutside = at c.args.files.now c.args.source.now c.args.sink.now c.args.keeper.now in
    let after : KeptOutside = at c.open_network.new.files c.args.source.now c.put_refused.new.sink c.all.new.self in
    let read = listed-read g.P.Keeper c.args.keeper.now c.all.new.self c.in-Ok-all.rows.items c.in-Ok-all.ensures.listed c.in-Ok-all.ensures.stays c.in-Ok-all.ensures.shows how trusted in
    let rows : List KeptRow = c.deref.result.now in
    let lists = subst (λ (l : List KeptRow). Lists l (rows_in c.all.new.self)) (sym c.deref.ensures.value) read.1.1 in
    let begins : Begins (Some (job_in c.args.job)) before = record { job = job_in c.args.job; asks = refl; net = c.in-Ok.net; opens = c.in-Ok.ensures.opens; plan = c.in-Ok-start.controller.plan; planned = c.in-Ok-start.ensures.plan } in (
      read.0,
      without-load (job_in c.args.job) before after refl (keeps-stay (rows_in c.args.keeper.now) (rows_in c.all.new.self) read.1.0) begins rows c.in-Err-load_rows.number c.put_refused.result c.in-Ok-all.ensures.counts
          (lists-before (rows_in c.args.keeper.now) (rows_in c.all.new.self) rows read.1.0 lists)
          (begun-load c.in-Ok.net c.in-Ok-start.controller rows c.in-Ok-start.ensures.begins ∙ c.in-Err-load_rows.ensures.refused) c.put_refused.ensures.puts,
    )

pub returns-clause-failures : goal.returns-clause-failures
returns-clause-failures g c = told-counts _ _ status.StoreRefused c.put_refused.result (store_refused_line c.in-Err-load_rows.number) c.in-Ok.ensures.counts refl c.put_refused.ensures.puts (λ quiet. quiet)

pub returns-clause-goes : goal.returns-clause-goes
returns-clause-goes g c = opened-goes _ _ (Ok c.in-Ok.net) c.in-Ok.ensures.counts c.in-Ok.ensures.stays refl c.put_refused.ensures.later
