-- Where what waits couldn't be sent on, nothing of the piece was taken.
use Rattle.std.proofs.Common.{ℕ, ◌≡◌, List, Option, Result, Ok, Err, IsErr, drop, take, subst}
use Rattle.std.specs.Io.KnownBytes.{Keeps, WriteAppends, append_known}
use Rattle.nrm_edge.proofs.gathering.GatheringSinkSink.put.Goals as goal

unwritten : {E : Type 0} (old now : Option (List ℕ)) (result : Result ℕ E) (piece : List ℕ) → IsErr result → Keeps old now
    → WriteAppends old now result piece
unwritten old now (Ok count) piece failed keeps = cc
unwritten old now (Err error) piece failed keeps = keeps

pub returns-in_err-send_on-clause-bytes : goal.returns-in_err-send_on-clause-bytes
returns-in_err-send_on-clause-bytes g c =
    let held = g.K.Sink.held in
    let inside = c.self.inside in
    let sent = c.send_on.new in
    let bytes = subst (λ (b : List ℕ).
    Keeps (append_known (held inside.sink) (drop inside.sent (take inside.len b)))
    (append_known (held sent.sink) (drop sent.sent (take sent.len b))))
    c.as_slice.ensures.value c.send_on.ensures.bytes in
    let before : append_known (held inside.sink) (drop inside.sent (take inside.len inside.bytes.items))
    ≡ append_known (held c.args.self.now.sink) c.args.self.now.gathered =
    λ j. append_known (held (c.self.view_is j).sink) (c.self.view_is j).gathered in
    unwritten _ _ c.from_residual.result c.args.piece.now c.from_residual.ensures.0
    (subst (λ (o : Option (List ℕ)). Keeps o (append_known (held sent.sink) (drop sent.sent (take sent.len inside.bytes.items)))) before
    bytes)
