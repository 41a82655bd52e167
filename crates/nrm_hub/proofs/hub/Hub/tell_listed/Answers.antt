-- Each client is told behind the others.
use Rattle.std.proofs.Common.{ℕ, ◌≡◌, ◌∙◌, arith, refl, subst}
use Rattle.nrm_edge.proofs.Sent.{OnErr-holds}
use Rattle.nrm_hub.specs.Due.{due_count}
use Rattle.nrm_hub.specs.Inner.Seats.{AreSo}
use Rattle.nrm_hub.specs.Waiting.{IsTold}
use Rattle.nrm_hub.proofs.DuePlaces.{none-so, one-more}
use Rattle.nrm_hub.proofs.HubPuts.{puts-nothing, puts-then, puts-then-cut}
use Rattle.nrm_hub.proofs.hub.Hub.tell_listed.Goals as goal

pub loop-at-init : goal.loop-at-init
loop-at-init g c = record {
  puts = puts-nothing c.args.self.now (g.K.Sink.held c.args.sink.now);
  telling = c.requires;
  faults = refl;
  so = none-so IsTold c.args.self.now.clients c.args.listed.now;
}

pub loop-at-preserved : goal.loop-at-preserved
loop-at-preserved g c =
    let held = g.K.Sink.held in
    let l = c.loop-at in
    record {
      puts = puts-then c.args.self.now l.self c.tell.new.self (held c.args.sink.now) (held l.sink) (held c.tell.new.sink)
          l.invariant.puts c.in_ok-tell.ensures.puts;
      telling = c.in_ok-tell.ensures.phase;
      faults = c.in_ok-tell.ensures.cause.done ∙ l.invariant.faults;
      so = one-more IsTold c.args.self.now.clients l.self.clients c.tell.new.self.clients c.args.listed.now l.at c.at.result c.at.ensures l.invariant.so
          c.in_ok-tell.ensures.told;
    }

pub tell-requires : goal.tell-requires
tell-requires g c = c.loop-at.invariant.telling

pub returns-in_err-tell-clause-cut : goal.returns-in_err-tell-clause-cut
returns-in_err-tell-clause-cut g c =
    let held = g.K.Sink.held in
    OnErr-holds c.from_residual.result
    (puts-then-cut c.args.self.now c.loop-at.self c.tell.new.self (held c.args.sink.now) (held c.loop-at.sink) (held c.tell.new.sink)
    c.loop-at.invariant.puts c.in_err-tell.ensures.cut)

pub returns-clause-told : goal.returns-clause-told
returns-clause-told g c =
    let l = c.loop-at in
    let all : l.at ≡ due_count c.args.listed.now = omega (arith, l.auto.at-end, c.loop-at-test.false, c.count-at-end.ensures) in
    subst (λ (n : ℕ). AreSo IsTold c.args.self.now.clients l.self.clients c.args.listed.now n) all l.invariant.so
