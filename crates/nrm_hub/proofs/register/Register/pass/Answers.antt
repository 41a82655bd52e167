-- A line that changes nothing sells no booking.
use Rattle.std.proofs.Common.{inl}
use Rattle.nrm_hub.specs.Register.{RegisterValue}
use Rattle.nrm_hub.proofs.Entered.{passed}
use Rattle.nrm_hub.proofs.OfFields.{register_of}
use Rattle.nrm_hub.proofs.register.Register.pass.Goals as goal

pub invariant_of-self : goal.invariant_of-self
invariant_of-self c =
    let r : RegisterValue = register_of c.self.inside.controller c.self.inside.desks.items c.self.inside.owners.items c.self.inside.rows c.self.inside.text.items in (
      passed r c.carry_out.new.controller c.args.command.now _ c.self.invariant.0 c.carry_out.ensures.sound c.carry_out.ensures.step (inl c.requires.looks),
      c.self.invariant.1,
    )
