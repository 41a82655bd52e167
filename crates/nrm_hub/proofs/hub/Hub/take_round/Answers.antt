-- Nothing is put, or the rows of all that was answered.
use Rattle.std.proofs.Common.{◌≡◌, ◌∙◌, [], ap, inr, true, Some, subst, sym}
use Rattle.nrm_hub.specs.Goes.{Goes}
use Rattle.nrm_hub.specs.Hub.{HubValue, client_at, takes_lines}
use Rattle.nrm_hub.specs.Waiting.{HadTurn, IsAtRest}
use Rattle.nrm_hub.specs.declared.phase.Phase.TheVariants as phase
use Rattle.nrm_hub.proofs.DuePlaces.{all-so, had-rests, rests-had}
use Rattle.nrm_hub.proofs.Going.{goes-same}
use Rattle.nrm_hub.proofs.HubPuts.{cut-after, puts-after, puts-behind, puts-nothing}
use Rattle.nrm_hub.proofs.Phases.{lines-answering}
use Rattle.nrm_hub.proofs.hub.Hub.take_round.Goals as goal

pub returns-then-eq-clause-puts : goal.returns-then-eq-clause-puts
returns-then-eq-clause-puts g c = puts-nothing c.args.self.now (g.K.Sink.held c.args.sink.now)

pub ask_to_keep-requires-clause-turns : goal.ask_to_keep-requires-clause-turns
ask_to_keep-requires-clause-turns g c place d short there =
    all-so HadTurn IsAtRest c.begin_round-listed.new.self.clients c.give_turns.new.self.clients c.begin_round-listed.result rests-had
    c.begin_round-listed.ensures.listed c.give_turns.ensures.turns place d short
    (subst (λ (h : HubValue). client_at h place ≡ Some d) c.put_back.ensures there)

pub returns-in-Settled-clause-puts : goal.returns-in-Settled-clause-puts
returns-in-Settled-clause-puts g c =
    let back = c.put_back.new.self in
    let goes : Goes c.args.self.now back [] [] =
    goes-same c.begin_round-listed.new.self c.args.self.now c.give_turns.new.self back [] [] c.begin_round-listed.ensures.same (sym c.put_back.ensures)
    c.give_turns.ensures.goes in
    puts-behind c.args.self.now back back (g.K.Sink.held c.args.sink.now) (g.K.Sink.held c.args.sink.now) goes
    (puts-nothing back (g.K.Sink.held c.args.sink.now))

pub returns-clause-puts : goal.returns-clause-puts
returns-clause-puts g c =
    let back = c.put_back.new.self in
    let goes : Goes c.args.self.now back [] [] =
    goes-same c.begin_round-listed.new.self c.args.self.now c.give_turns.new.self back [] [] c.begin_round-listed.ensures.same (sym c.put_back.ensures)
    c.give_turns.ensures.goes in
    puts-after c.args.self.now back c.ask_to_keep.new.self _ _ c.ask_to_keep.result goes c.ask_to_keep.ensures.puts

pub returns-clause-cut : goal.returns-clause-cut
returns-clause-cut g c =
    let back = c.put_back.new.self in
    let goes : Goes c.args.self.now back [] [] =
    goes-same c.begin_round-listed.new.self c.args.self.now c.give_turns.new.self back [] [] c.begin_round-listed.ensures.same (sym c.put_back.ensures)
    c.give_turns.ensures.goes in
    cut-after c.args.self.now back c.ask_to_keep.new.self _ _ c.ask_to_keep.result goes c.ask_to_keep.ensures.cut

pub returns-in-Settled-clause-due : goal.returns-in-Settled-clause-due
returns-in-Settled-clause-due g c =
    let back = c.put_back.new.self in
    let settled : back.phase ≡ phase.Settled = ap (λ (h : HubValue). h.phase) (sym c.self-2.view_is) ∙ c.in-Settled.is in
    inr (
      settled,
      λ place d short there. had-rests d
          (c.self-2.invariant.3 (ap (λ (h : HubValue). h.phase) c.self-2.view_is ∙ settled) place d short
          (ap (λ (h : HubValue). client_at h place) c.self-2.view_is ∙ there))
          (all-so HadTurn IsAtRest c.begin_round-listed.new.self.clients c.give_turns.new.self.clients c.begin_round-listed.result rests-had
          c.begin_round-listed.ensures.listed c.give_turns.ensures.turns place d short
          (subst (λ (h : HubValue). client_at h place ≡ Some d) c.put_back.ensures there)),
    )

pub ask_to_keep-requires-clause-answering : goal.ask_to_keep-requires-clause-answering
ask_to_keep-requires-clause-answering g c =
    let back = c.put_back.new.self in
    let lines : takes_lines back.phase ≡ true = ap (λ (h : HubValue). takes_lines h.phase) c.put_back.ensures ∙ c.give_turns.ensures.phase in
    lines-answering back.phase lines (λ settled. c.in_default.not-Settled (ap (λ (h : HubValue). h.phase) c.self-2.view_is ∙ settled))
