-- The row is entered beside the step of the controller; where memory ran out nothing else changes.
use Rattle.std.proofs.Common.{ℕ, ◌≡◌, ◌∙◌, ◌+◌, ◌<◌, [], List, length, map, get_or, ap, arith, inr, sym, subst, true}
use Rattle.std.specs.Prelude.{slice_set}
use Rattle.std.proofs.lemmas.List.{get_or_read}
use Rattle.nrm_model.specs.Network.{NetworkValue}
use Rattle.nrm_session.specs.Answering.{IsTellable, reply_in}
use Rattle.nrm_session.specs.Replies.{memory}
use Rattle.nrm_session.specs.declared.reply.Reply.{Reply as Answered}
use Rattle.nrm_hub.specs.Inner.Answered.{CarriesOut, carried}
use Rattle.nrm_hub.specs.Register.{Carries, DeskValue, IsRegister, RegisterValue, desk_at, is_of_row, new_desk}
use Rattle.nrm_hub.specs.declared.limits.TheConstants.{MOST_ROWS}
use Rattle.nrm_hub.proofs.Entered.{entered, entered-so, kept-all, kept-desk, name-kept, of-row, passed, ran-out}
use Rattle.nrm_hub.proofs.OfFields.{register_of}
use Rattle.nrm_hub.proofs.register.Register.carry.Goals as goal

-- the desk as it was
desk-is : (r given : RegisterValue) (desk : ℕ) (read was : DeskValue) → r ≡ given → desk < length given.desks → read ≡ get_or r.desks desk read → was ≡ read
    → was ≡ desk_at r desk
desk-is r given desk read was same there at is =
    is ∙ get_or_read r.desks desk read (omega (arith, there, ap (λ (r : RegisterValue). length r.desks) same)) at (new_desk [])

pub invariant_of-self-in-Memory : goal.invariant_of-self-in-Memory
invariant_of-self-in-Memory c =
    let r : RegisterValue = register_of c.self.inside.controller c.self.inside.desks.items c.self.inside.owners.items c.self.inside.rows c.self.inside.text.items in
    let control = c.carry_out-reply.new.controller in
    let was : DeskValue = record { name = c.at.inside.name; next = c.at.inside.next; held = c.at.inside.held.items } in
    let at : was ≡ desk_at r c.args.desk =
    desk-is r c.args.self.now c.args.desk c.index_mut-at.result.now was c.self.view_is c.requires.desk c.index_mut-at.ensures.value c.at.view_is in
    let desks = kept-desk r.desks c.args.desk c.at.inside.name c.at.inside.next c.at.inside.held.items c.make_room.new.held.items
    c.in_ok-make_room.ensures.held at in
    let reply : reply_in control c.carry_out-reply.result ≡ memory = ap (λ (a : Answered). reply_in control a) c.in-Memory.is in
    let is : IsRegister (record r { control = control }) = passed r control c.args.command.now (reply_in control c.carry_out-reply.result) c.self.invariant.0
    c.carry_out-reply.ensures.sound c.carry_out-reply.ensures.step (inr reply) in (
      subst IsRegister (sym (kept-all r control _ c.make_room.new.owners.items c.make_room.new.text.items desks c.in_ok-make_room.ensures.owners
          c.in_ok-make_room.ensures.text)) is,
      c.self.invariant.1 ∙ ap (λ (desks : List DeskValue). map (λ (d : DeskValue). d.name) desks) (sym desks),
    )

pub returns-in-Memory-clause-carries : goal.returns-in-Memory-clause-carries
returns-in-Memory-clause-carries c =
    let r : RegisterValue = register_of c.self.inside.controller c.self.inside.desks.items c.self.inside.owners.items c.self.inside.rows c.self.inside.text.items in
    let control = c.carry_out-reply.new.controller in
    let was : DeskValue = record { name = c.at.inside.name; next = c.at.inside.next; held = c.at.inside.held.items } in
    let kept : DeskValue = record { name = c.at.inside.name; next = c.at.inside.next; held = c.make_room.new.held.items } in
    let at : was ≡ desk_at r c.args.desk =
    desk-is r c.args.self.now c.args.desk c.index_mut-at.result.now was c.self.view_is c.requires.desk c.index_mut-at.ensures.value c.at.view_is in
    let desks = kept-desk r.desks c.args.desk c.at.inside.name c.at.inside.next c.at.inside.held.items c.make_room.new.held.items
    c.in_ok-make_room.ensures.held at in
    let new : RegisterValue = record {
      control = control;
      desks = slice_set r.desks c.args.desk kept;
      owners = c.make_room.new.owners.items;
      rows = r.rows;
      text = c.make_room.new.text.items;
    } in
    subst (λ (old : RegisterValue). CarriesOut old new c.args.desk c.args.sequence c.args.command.now c.carry_out-reply.result) c.self.view_is
    (ran-out r control (slice_set r.desks c.args.desk kept) c.make_room.new.owners.items c.make_room.new.text.items c.args.desk c.args.sequence
    c.args.command.now c.carry_out-reply.result desks c.in_ok-make_room.ensures.owners c.in_ok-make_room.ensures.text c.in-Memory.is
    c.carry_out-reply.ensures.step)

pub row_line-line-requires : goal.row_line-line-requires
row_line-line-requires c = record {
  command = c.requires.command;
  tellable = subst (λ (net : NetworkValue). IsTellable net c.carry_out-reply.result) (sym c.network.ensures.network) c.carry_out-reply.ensures.tellable;
  of_row = of-row c.self.inside.controller c.carry_out-reply.new.controller c.args.command.now c.carry_out-reply.result c.self.invariant.0.control
      c.carry_out-reply.ensures.step c.requires.changes c.in_default.not-Memory;
}

carries-now : (c : goal.After-self-2-1) → (
    let r : RegisterValue = register_of c.self.inside.controller c.self.inside.desks.items c.self.inside.owners.items c.self.inside.rows c.self.inside.text.items in
    Carries r (record {
      control = c.carry_out-reply.new.controller;
      desks = slice_set r.desks c.args.desk (record { name = c.at.inside.name; next = c.args.sequence + 1; held = c.hold.new.held.items });
      owners = c.own.new.owners.items;
      rows = r.rows + 1;
      text = c.append.new.text.items;
    }) c.args.desk c.args.sequence c.args.command.now c.carry_out-reply.result)
carries-now c =
    let r : RegisterValue = register_of c.self.inside.controller c.self.inside.desks.items c.self.inside.owners.items c.self.inside.rows c.self.inside.text.items in
    let control = c.carry_out-reply.new.controller in
    let was : DeskValue = record { name = c.at.inside.name; next = c.at.inside.next; held = c.at.inside.held.items } in
    let at : was ≡ desk_at r c.args.desk =
    desk-is r c.args.self.now c.args.desk c.index_mut-at.result.now was c.self.view_is c.requires.desk c.index_mut-at.ensures.value c.at.view_is in
    entered-so r control c.args.desk c.args.sequence c.args.command.now c.carry_out-reply.result c.at.inside.name c.at.inside.next c.at.inside.held.items
    c.make_room.new.held.items c.hold.new.held.items c.make_room.new.owners.items c.own.new.owners.items c.make_room.new.text.items c.append.new.text.items
    c.bytes.result.now at c.in_ok-make_room.ensures.held c.hold.ensures c.in_ok-make_room.ensures.owners c.own.ensures c.in_ok-make_room.ensures.text
    c.append.ensures (c.bytes.ensures ∙ c.row_line-line.ensures control (sym c.network.ensures.network)) c.carry_out-reply.ensures.step c.in_default.not-Memory

line-now : (c : goal.After-self-2-1) → is_of_row c.carry_out-reply.result ≡ true
line-now c = of-row c.self.inside.controller c.carry_out-reply.new.controller c.args.command.now c.carry_out-reply.result c.self.invariant.0.control
    c.carry_out-reply.ensures.step c.requires.changes c.in_default.not-Memory

pub invariant_of-self-2 : goal.invariant_of-self-2
invariant_of-self-2 c =
    let r : RegisterValue = register_of c.self.inside.controller c.self.inside.desks.items c.self.inside.owners.items c.self.inside.rows c.self.inside.text.items in
    let was : DeskValue = record { name = c.at.inside.name; next = c.at.inside.next; held = c.at.inside.held.items } in
    let after : DeskValue = record { name = c.at.inside.name; next = c.args.sequence + 1; held = c.hold.new.held.items } in
    let at : was ≡ desk_at r c.args.desk =
    desk-is r c.args.self.now c.args.desk c.index_mut-at.result.now was c.self.view_is c.requires.desk c.index_mut-at.ensures.value c.at.view_is in
    let there : c.args.desk < length r.desks = omega (arith, c.requires.desk, ap (λ (r : RegisterValue). length r.desks) c.self.view_is) in
    let few : r.rows < MOST_ROWS = omega (arith, c.requires.rows, ap (λ (r : RegisterValue). r.rows) c.self.view_is) in (
      entered r _ c.args.desk c.args.sequence c.args.command.now c.carry_out-reply.result c.self.invariant.0 c.carry_out-reply.ensures.sound (carries-now c)
          there few c.requires.sequence c.requires.command c.carry_out-reply.ensures.tellable (line-now c),
      c.self.invariant.1 ∙ sym (name-kept r c.args.desk after (ap (λ (d : DeskValue). d.name) at)),
    )

pub returns : goal.returns
returns c =
    let old : RegisterValue = register_of c.self.inside.controller c.self.inside.desks.items c.self.inside.owners.items c.self.inside.rows c.self.inside.text.items in
    let new : RegisterValue = record {
      control = c.carry_out-reply.new.controller;
      desks = slice_set old.desks c.args.desk (record { name = c.at.inside.name; next = c.args.sequence + 1; held = c.hold.new.held.items });
      owners = c.own.new.owners.items;
      rows = old.rows + 1;
      text = c.append.new.text.items;
    } in
    record {
      carries = subst (λ (r : RegisterValue). CarriesOut r new c.args.desk c.args.sequence c.args.command.now c.carry_out-reply.result) c.self.view_is
          (carried c.carry_out-reply.result (line-now c) (carries-now c));
      err = tt;
      tellable = c.carry_out-reply.ensures.tellable;
    }
