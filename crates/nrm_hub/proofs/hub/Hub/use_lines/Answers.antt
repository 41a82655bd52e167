-- One line behind the others.
use Rattle.std.proofs.Common.{[]}
use Rattle.nrm_hub.specs.Waiting.{HadTurn}
use Rattle.nrm_hub.proofs.DuePlaces.{makes-then}
use Rattle.nrm_hub.proofs.Going.{goes-on}
use Rattle.nrm_hub.proofs.hub.Hub.use_lines.Goals as goal

pub loop-init : goal.loop-init
loop-init c = record {
  goes = c.use_line-took.ensures.goes;
  lines = c.use_line-took.ensures.phase;
  turn = c.use_line-took.ensures.turn;
}

pub loop-preserved : goal.loop-preserved
loop-preserved c =
    let l = c.loop in
    let next = c.use_line-took-in-Line in
    record {
      goes = goes-on c.args.self.now l.self next.new.self [] [] l.invariant.goes next.ensures.goes;
      lines = next.ensures.phase;
      turn = makes-then HadTurn c.args.self.now.clients l.self.clients next.new.self.clients c.args.place l.invariant.turn.only next.ensures.turn;
    }

pub returns-in-Nothing-clause-goes : goal.returns-in-Nothing-clause-goes
returns-in-Nothing-clause-goes c = c.loop.invariant.goes

pub returns-in-Nothing-clause-turn : goal.returns-in-Nothing-clause-turn
returns-in-Nothing-clause-turn c = c.loop.invariant.turn

pub returns-clause-goes : goal.returns-clause-goes
returns-clause-goes c = c.loop.invariant.goes

pub returns-clause-turn : goal.returns-clause-turn
returns-clause-turn c = c.loop.invariant.turn
