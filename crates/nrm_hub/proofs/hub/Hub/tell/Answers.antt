-- What waits was sent, and then the client was closed, if it is to be.
use Rattle.std.proofs.lemmas.Result.{on_err_weaker, on_ok_weaker}
use Rattle.nrm_hub.proofs.DuePlaces.{told-at}
use Rattle.nrm_hub.proofs.HubPuts.{puts-then, puts-then-cut}
use Rattle.nrm_hub.proofs.hub.Hub.tell.Goals as goal

pub returns-clause-puts : goal.returns-clause-puts
returns-clause-puts g c =
    let held = g.K.Sink.held in
    on_ok_weaker c.close.result
    (λ rest. puts-then c.args.self.now c.send.new.self c.close.new.self (held c.args.sink.now) (held c.send.new.sink) (held c.close.new.sink)
    c.in_ok-send.ensures.puts rest) c.close.ensures.puts

pub returns-clause-cut : goal.returns-clause-cut
returns-clause-cut g c =
    let held = g.K.Sink.held in
    on_err_weaker c.close.result
    (λ rest. puts-then-cut c.args.self.now c.send.new.self c.close.new.self (held c.args.sink.now) (held c.send.new.sink) (held c.close.new.sink)
    c.in_ok-send.ensures.puts rest) c.close.ensures.cut

pub returns-clause-told : goal.returns-clause-told
returns-clause-told g c =
    on_ok_weaker c.close.result
    (λ _. told-at c.args.self.now.clients c.send.new.self.clients c.close.new.self.clients c.args.place c.send.ensures.sent c.close.ensures.closed)
    c.close.ensures.puts

pub close-requires : goal.close-requires
close-requires g c = record { telling = c.send.ensures.phase; told = c.send.ensures.sent.sent }
