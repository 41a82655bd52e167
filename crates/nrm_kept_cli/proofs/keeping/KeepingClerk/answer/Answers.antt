use Rattle.nrm_session.specs.Replies.{memory}
use Rattle.nrm_kept_cli.specs.Step.{lacks_memory, not_stored, store, told}
use Rattle.std.proofs.Common.{refl}
use Rattle.nrm_kept_cli.proofs.Ahead.{line-kept, line-kept_cut, line-unkept, line-unkept_cut}
use Rattle.nrm_kept_cli.proofs.keeping.KeepingClerk.answer.Goals as goal

pub returns-in-Ok-clause-whole : goal.returns-in-Ok-clause-whole
returns-in-Ok-clause-whole g c =
    let line = c.answer_line in
    line-kept g.P.Keeper (c.args.controller.now, c.args.beside.now) (line.new.controller, c.keep.new.keeper) c.args.command.now (g.K.Sink.held c.args.sink.now) (g.K.Sink.held line.new.sink)
    (g.K.Sink.faults c.args.sink.now) (g.K.Sink.faults line.new.sink) line.result c.requires.ready line.ensures.sound c.in-Ok.ensures.kept c.in-Ok.ensures.counts line.ensures.whole line.ensures.cause

pub returns-in-Ok-clause-cut : goal.returns-in-Ok-clause-cut
returns-in-Ok-clause-cut g c =
    let line = c.answer_line in
    line-kept_cut g.P.Keeper (c.args.controller.now, c.args.beside.now) (line.new.controller, c.keep.new.keeper) c.args.command.now (g.K.Sink.held c.args.sink.now) (g.K.Sink.held line.new.sink)
    (g.K.Sink.faults c.args.sink.now) (g.K.Sink.faults line.new.sink) line.result c.requires.ready line.ensures.sound c.in-Ok.ensures.kept c.in-Ok.ensures.counts line.ensures.cut line.ensures.cause

pub returns-in-Err-Failed-clause-whole : goal.returns-in-Err-Failed-clause-whole
returns-in-Err-Failed-clause-whole g c =
    let failed = c.in-Err-Failed in
    let rose = rw failed.field-0-is at failed.ensures.counts in
    line-unkept g.P.Keeper (c.args.controller.now, c.args.beside.now) (c.args.controller.now, c.keep.new.keeper) c.args.command.now store (g.K.Sink.held c.args.sink.now) (g.K.Sink.held c.put_all.new.sink)
    (g.K.Sink.faults c.args.sink.now) (g.K.Sink.faults c.put_all.new.sink) c.requires.ready (λ s stands. not_stored (failed.ensures.changes s stands)) refl failed.ensures.same rose
    c.put_all.result c.put_all.ensures.whole c.put_all.ensures.cause

pub returns-in-Err-Failed-clause-cut : goal.returns-in-Err-Failed-clause-cut
returns-in-Err-Failed-clause-cut g c =
    let failed = c.in-Err-Failed in
    let rose = rw failed.field-0-is at failed.ensures.counts in
    line-unkept_cut g.P.Keeper (c.args.controller.now, c.args.beside.now) (c.args.controller.now, c.keep.new.keeper) c.args.command.now store (g.K.Sink.held c.args.sink.now) (g.K.Sink.held c.put_all.new.sink)
    (g.K.Sink.faults c.args.sink.now) (g.K.Sink.faults c.put_all.new.sink) c.requires.ready (λ s stands. not_stored (failed.ensures.changes s stands)) refl failed.ensures.same rose
    c.put_all.result c.put_all.ensures.cut c.put_all.ensures.cause

pub returns-in-Err-NoMemory-clause-whole : goal.returns-in-Err-NoMemory-clause-whole
returns-in-Err-NoMemory-clause-whole g c =
    let lacking = c.in-Err-NoMemory in
    let put = c.put_all-in-Err-NoMemory in
    let same = rw lacking.field-0-is at lacking.ensures.counts in
    line-unkept g.P.Keeper (c.args.controller.now, c.args.beside.now) (c.args.controller.now, c.keep.new.keeper) c.args.command.now (told memory) (g.K.Sink.held c.args.sink.now) (g.K.Sink.held put.new.sink)
    (g.K.Sink.faults c.args.sink.now) (g.K.Sink.faults put.new.sink) c.requires.ready (λ s stands. lacks_memory (lacking.ensures.changes s stands)) refl lacking.ensures.same same
    put.result put.ensures.whole put.ensures.cause

pub returns-in-Err-NoMemory-clause-cut : goal.returns-in-Err-NoMemory-clause-cut
returns-in-Err-NoMemory-clause-cut g c =
    let lacking = c.in-Err-NoMemory in
    let put = c.put_all-in-Err-NoMemory in
    let same = rw lacking.field-0-is at lacking.ensures.counts in
    line-unkept_cut g.P.Keeper (c.args.controller.now, c.args.beside.now) (c.args.controller.now, c.keep.new.keeper) c.args.command.now (told memory) (g.K.Sink.held c.args.sink.now) (g.K.Sink.held put.new.sink)
    (g.K.Sink.faults c.args.sink.now) (g.K.Sink.faults put.new.sink) c.requires.ready (λ s stands. lacks_memory (lacking.ensures.changes s stands)) refl lacking.ensures.same same
    put.result put.ensures.cut put.ensures.cause
