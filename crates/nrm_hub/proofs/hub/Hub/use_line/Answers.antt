-- A line of the client at the place was taken, or none.
use Rattle.std.proofs.Common.{ℕ, ◌≡◌, ◌∙◌, true, false, List, [], None, Option, Some, ap, get_or, length, refl, subst, sym}
use Rattle.std.specs.Prelude.{is_some}
use Rattle.nrm_hub.specs.Clients.{ClientValue}
use Rattle.nrm_hub.specs.Hub.{HubValue, takes_lines}
use Rattle.nrm_hub.specs.Inner.Seats.{MakesSo, Only}
use Rattle.nrm_hub.specs.Register.{RegisterValue}
use Rattle.nrm_hub.specs.Seats.{AreSeated, AreTold}
use Rattle.nrm_hub.specs.Waiting.{HadTurn}
use Rattle.nrm_hub.specs.declared.phase.Phase.TheVariants as phase
use Rattle.nrm_hub.proofs.DuePlaces.{alone-only, makes-on}
use Rattle.nrm_hub.proofs.Going.{goes-nothing, goes-same}
use Rattle.nrm_hub.proofs.HubPlaces.{alone-seated}
use Rattle.nrm_hub.proofs.HubSteps.{TookAt, goes-seated, goes-stayed, took-at, took-nothing}
use Rattle.nrm_hub.proofs.HubTurns.{took-so}
use Rattle.nrm_hub.proofs.OfFields.{hub_of}
use Rattle.nrm_hub.proofs.Phases.{frames-replayed, lines-frames}
use Rattle.nrm_hub.proofs.hub.Hub.use_line.Goals as goal

-- whether it was a desk
was-none : (o : Option ℕ) → is_some o ≡ false → o ≡ None
was-none None is = refl
was-none (Some d) is = absurd (cc)

pub returns-in-Nothing-clause-goes : goal.returns-in-Nothing-clause-goes
returns-in-Nothing-clause-goes c =
    let old : HubValue = hub_of c.self.inside.register c.self.inside.clients.items c.self.inside.opened c.self.inside.phase in
    let new : HubValue = record old { register = c.use_line_at-took.new.register; clients = c.use_line_at-took.new.clients.items } in
    goes-same old c.args.self.now old new [] [] c.self.view_is
    (took-nothing old c.args.place new.register new.clients c.use_line_at-took.result c.in-Nothing.is c.use_line_at-took.ensures.takes) (goes-nothing old)

pub returns-in-Nothing-clause-turn : goal.returns-in-Nothing-clause-turn
returns-in-Nothing-clause-turn c =
    let clients = c.self.inside.clients.items in
    let taken = c.use_line_at-took.new.clients.items in
    subst (λ (cs : List (Option ClientValue)). MakesSo HadTurn cs taken c.args.place) (ap (λ (h : HubValue). h.clients) c.self.view_is)
    (took-so c.self.inside.register c.use_line_at-took.new.register clients c.args.place taken c.use_line_at-took.result c.use_line_at-took.ensures.takes.takes)

-- what was read of the clients is read of them
read-desk : (read clients : List (Option ClientValue)) (place : ℕ) (was : Option ℕ) → read ≡ clients
    → ((d : ClientValue) → get_or read place None ≡ Some d → was ≡ d.desk) → (d : ClientValue) → get_or clients place None ≡ Some d → was ≡ d.desk
read-desk read clients place was same is =
    subst (λ (cs : List (Option ClientValue)). (d : ClientValue) → get_or cs place None ≡ Some d → was ≡ d.desk) same is

pub invariant_of-self : goal.invariant_of-self
invariant_of-self c =
    let old : HubValue = hub_of c.self.inside.register c.self.inside.clients.items c.self.inside.opened c.self.inside.phase in
    let lines : takes_lines old.phase ≡ true = ap (λ (h : HubValue). takes_lines h.phase) c.self.view_is ∙ c.requires in
    let taken = c.use_line_at-took.new.clients.items in
    let same : old.clients ≡ taken = ap (λ (h : HubValue). h.clients)
    (took-nothing old c.args.place c.use_line_at-took.new.register taken c.use_line_at-took.result c.in-Nothing.is c.use_line_at-took.ensures.takes) in (
      c.use_line_at-took.ensures.seated,
      c.use_line_at-took.ensures.due c.self.inside.due c.self.invariant.1,
      λ e. absurd (frames-replayed old.phase (lines-frames old.phase lines) e),
      λ e. subst AreTold same (c.self.invariant.3 e),
    )

pub returns-then-is_none-clause-goes : goal.returns-then-is_none-clause-goes
returns-then-is_none-clause-goes c =
    let old : HubValue = hub_of c.self.inside.register c.self.inside.clients.items c.self.inside.opened c.self.inside.phase in
    let lines : takes_lines old.phase ≡ true = ap (λ (h : HubValue). takes_lines h.phase) c.self.view_is ∙ c.requires in
    let taken = c.use_line_at-took.new.clients.items in
    let at : TookAt old c.args.place c.use_line_at-took.new.register taken =
    took-at old c.args.place c.use_line_at-took.new.register taken c.use_line_at-took.result lines c.in_default.not-Nothing c.use_line_at-took.ensures.takes in
    let desk = read-desk c.deref.result.now old.clients c.args.place c.desk_of-was.result c.deref.ensures.value c.desk_of-was.ensures.desk at.before at.there in
    let new : HubValue = record old { register = c.seat.new.register; clients = c.seat.new.clients.items; phase = phase.Answering } in
    goes-same old c.args.self.now new new [] [] c.self.view_is refl
    (goes-seated old c.args.place c.use_line_at-took.new.register taken at c.seat.new.register c.seat.new.clients.items
    (sym desk ∙ was-none c.desk_of-was.result c.if-is_none.ensures) c.seat.ensures.register (c.seat.ensures.alone at.after at.now))

pub returns-else-is_none-clause-goes : goal.returns-else-is_none-clause-goes
returns-else-is_none-clause-goes c =
    let old : HubValue = hub_of c.self.inside.register c.self.inside.clients.items c.self.inside.opened c.self.inside.phase in
    let lines : takes_lines old.phase ≡ true = ap (λ (h : HubValue). takes_lines h.phase) c.self.view_is ∙ c.requires in
    let taken = c.use_line_at-took.new.clients.items in
    let at : TookAt old c.args.place c.use_line_at-took.new.register taken =
    took-at old c.args.place c.use_line_at-took.new.register taken c.use_line_at-took.result lines c.in_default.not-Nothing c.use_line_at-took.ensures.takes in
    let desk = read-desk c.deref.result.now old.clients c.args.place c.desk_of-was.result c.deref.ensures.value c.desk_of-was.ensures.desk at.before at.there in
    let new : HubValue = record old { register = c.use_line_at-took.new.register; clients = taken; phase = phase.Answering } in
    goes-same old c.args.self.now new new [] [] c.self.view_is refl
    (goes-stayed old c.args.place c.use_line_at-took.new.register taken at (ap (λ (o : Option ℕ). is_some o) (sym desk) ∙ c.if-is_none.ensures))

pub invariant_of-self-then-is_none : goal.invariant_of-self-then-is_none
invariant_of-self-then-is_none c =
    let old : HubValue = hub_of c.self.inside.register c.self.inside.clients.items c.self.inside.opened c.self.inside.phase in
    let lines : takes_lines old.phase ≡ true = ap (λ (h : HubValue). takes_lines h.phase) c.self.view_is ∙ c.requires in
    let taken = c.use_line_at-took.new.clients.items in
    let r = c.use_line_at-took.new.register in
    let at : TookAt old c.args.place r taken =
    took-at old c.args.place r taken c.use_line_at-took.result lines c.in_default.not-Nothing c.use_line_at-took.ensures.takes in
    let seated : AreSeated c.seat.new.clients.items (length r.desks) =
    subst (λ (cs : List (Option ClientValue)). AreSeated cs (length r.desks)) (sym (c.seat.ensures.alone at.after at.now))
    (alone-seated taken (length r.desks) c.args.place at.after at.after.desk at.now c.use_line_at-took.ensures.seated) in (
      subst (λ (x : RegisterValue). AreSeated c.seat.new.clients.items (length x.desks)) (sym c.seat.ensures.register) seated,
      c.seat.ensures.due c.self.inside.due (c.use_line_at-took.ensures.due c.self.inside.due c.self.invariant.1),
      λ e. absurd (cc),
      λ e. absurd (cc),
    )

pub invariant_of-self-else-is_none : goal.invariant_of-self-else-is_none
invariant_of-self-else-is_none c = (
  c.use_line_at-took.ensures.seated,
  c.use_line_at-took.ensures.due c.self.inside.due c.self.invariant.1,
  λ e. absurd (cc),
  λ e. absurd (cc),
)

pub returns-then-is_none-clause-turn : goal.returns-then-is_none-clause-turn
returns-then-is_none-clause-turn c =
    let old : HubValue = hub_of c.self.inside.register c.self.inside.clients.items c.self.inside.opened c.self.inside.phase in
    let lines : takes_lines old.phase ≡ true = ap (λ (h : HubValue). takes_lines h.phase) c.self.view_is ∙ c.requires in
    let clients = c.self.inside.clients.items in
    let taken = c.use_line_at-took.new.clients.items in
    let at : TookAt old c.args.place c.use_line_at-took.new.register taken =
    took-at old c.args.place c.use_line_at-took.new.register taken c.use_line_at-took.result lines c.in_default.not-Nothing c.use_line_at-took.ensures.takes in
    subst (λ (cs : List (Option ClientValue)). MakesSo HadTurn cs c.seat.new.clients.items c.args.place) (ap (λ (h : HubValue). h.clients) c.self.view_is)
    (makes-on HadTurn clients taken c.seat.new.clients.items c.args.place
    (took-so c.self.inside.register c.use_line_at-took.new.register clients c.args.place taken c.use_line_at-took.result c.use_line_at-took.ensures.takes.takes)
    (subst (λ (cs : List (Option ClientValue)). Only HadTurn taken cs) (sym (c.seat.ensures.alone at.after at.now))
    (alone-only taken c.args.place at.after at.after.desk at.now)))

pub returns-else-is_none-clause-turn : goal.returns-else-is_none-clause-turn
returns-else-is_none-clause-turn c =
    let clients = c.self.inside.clients.items in
    let taken = c.use_line_at-took.new.clients.items in
    subst (λ (cs : List (Option ClientValue)). MakesSo HadTurn cs taken c.args.place) (ap (λ (h : HubValue). h.clients) c.self.view_is)
    (took-so c.self.inside.register c.use_line_at-took.new.register clients c.args.place taken c.use_line_at-took.result c.use_line_at-took.ensures.takes.takes)
