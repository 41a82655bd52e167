-- One place after another.
use Rattle.std.proofs.Common.{◌<◌, length, arith}
use Rattle.nrm_hub.proofs.Unseated.{more-unseated, none-unseated}
use Rattle.nrm_hub.proofs.hub.unseat_others.Goals as goal

pub loop-other-init : goal.loop-other-init
loop-other-init c = record { so = none-unseated c.args.clients.now.items c.args.place c.args.desk; due = λ due are. are }

pub loop-other-preserved : goal.loop-other-preserved
loop-other-preserved c =
    let l = c.loop-other in
    let within : l.other < length l.clients.items =
    omega (arith, c.loop-other-test.true, l.auto.other-end, c.len-other-end.ensures, c.args.clients.now.ok.0, l.invariant.so.many) in
    record {
      so = more-unseated c.args.clients.now.items l.clients.items c.unseat_beside.new.clients.items c.args.place c.args.desk l.other l.invariant.so within
          c.unseat_beside.ensures.beside;
      due = λ due are. c.unseat_beside.ensures.due due (l.invariant.due due are);
    }
