-- The lines that the front of the piece ends were answered.
use Rattle.std.proofs.Common.{false, ◌≡◌, length}
use Rattle.nrm_session.proofs.Pieces.{FrontAnswered}
use Rattle.nrm_session.proofs.serving.answer_piece.Given as goal

-- the lines that stand before the rest were answered, and where there was none nothing was put
abbrev pub invariant-loop-rest : goal.invariant-loop-rest
invariant-loop-rest g l = record {
  lines : FrontAnswered g.C.Clerk.whole g.C.Clerk.ready (l.initial.controller, l.initial.beside) (l.controller, l.beside)
      l.initial.splitter l.splitter l.piece l.rest (g.K.Sink.held l.initial.sink) (g.K.Sink.held l.sink) (g.K.Sink.faults l.initial.sink)
      (g.K.Sink.faults l.sink);
  quiet : l.answered ≡ false → g.K.Sink.unsent l.sink ≡ g.K.Sink.unsent l.initial.sink;
}

abbrev pub decreases-loop-rest : goal.decreases-loop-rest
decreases-loop-rest g l = length l.rest
