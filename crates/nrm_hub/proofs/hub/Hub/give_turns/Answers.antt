-- One turn behind the others.
use Rattle.std.proofs.Common.{ℕ, ◌≡◌, [], arith, subst}
use Rattle.nrm_hub.specs.Due.{due_count}
use Rattle.nrm_hub.specs.Inner.Seats.{AreSo}
use Rattle.nrm_hub.specs.Waiting.{HadTurn}
use Rattle.nrm_hub.proofs.DuePlaces.{none-so, one-more}
use Rattle.nrm_hub.proofs.Going.{goes-nothing, goes-on}
use Rattle.nrm_hub.proofs.hub.Hub.give_turns.Goals as goal

pub loop-at-init : goal.loop-at-init
loop-at-init c = record {
  goes = goes-nothing c.args.self.now;
  lines = c.requires;
  so = none-so HadTurn c.args.self.now.clients c.args.listed.now;
}

pub loop-at-preserved : goal.loop-at-preserved
loop-at-preserved c =
    let l = c.loop-at in
    let new = c.give_turn.new.self in
    record {
      goes = goes-on c.args.self.now l.self new [] [] l.invariant.goes c.give_turn.ensures.goes;
      lines = c.give_turn.ensures.phase;
      so = one-more HadTurn c.args.self.now.clients l.self.clients new.clients c.args.listed.now l.at c.at.result c.at.ensures l.invariant.so
          c.give_turn.ensures.turn;
    }

pub returns-clause-goes : goal.returns-clause-goes
returns-clause-goes c = c.loop-at.invariant.goes

pub returns-clause-turns : goal.returns-clause-turns
returns-clause-turns c =
    let l = c.loop-at in
    let all : l.at ≡ due_count c.args.listed.now = omega (arith, l.auto.at-end, c.loop-at-test.false, c.count-at-end.ensures) in
    subst (λ (n : ℕ). AreSo HadTurn c.args.self.now.clients l.self.clients c.args.listed.now n) all l.invariant.so
