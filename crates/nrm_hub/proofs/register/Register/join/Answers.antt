-- The desk of a name is found by the table of names.
use Rattle.std.proofs.Common.{◌≡◌, ◌∙◌, ◌<◌, Some, length, ap, arith, sym, subst}
use Rattle.nrm_model.proofs.NameLemmas.{number-below, number-same}
use Rattle.nrm_hub.specs.Register.{DeskValue, RegisterValue, desk_named, there}
use Rattle.nrm_hub.proofs.register.Register.join.Goals as goal

pub overflow_cast-result : goal.overflow_cast-result
overflow_cast-result c =
    let few = c.self.invariant.0.few in
    let below = number-below (λ (desk : DeskValue). desk.name) c.args.name.now c.self.inside.desks.items c.self.inside.names c.in-Some.desk c.self.invariant.1 c.in-Some.ensures in
    omega arith

pub returns-in-Some-clause-joins : goal.returns-in-Some-clause-joins
returns-in-Some-clause-joins c =
    let named : Some c.in-Some.desk ≡ desk_named c.args.self.now c.args.name.now = c.in-Some.ensures
    ∙ number-same (λ (desk : DeskValue). desk.name) c.args.name.now c.self.inside.desks.items c.self.inside.names c.self.invariant.1
    ∙ ap (λ (r : RegisterValue). desk_named r c.args.name.now) c.self.view_is in
    there c.in-Some.desk (sym named)

pub returns-in-Some-clause-within : goal.returns-in-Some-clause-within
returns-in-Some-clause-within c =
    let below = number-below (λ (desk : DeskValue). desk.name) c.args.name.now c.self.inside.desks.items c.self.inside.names c.in-Some.desk c.self.invariant.1 c.in-Some.ensures in
    subst (λ (r : RegisterValue). c.in-Some.desk < length r.desks) c.self.view_is below

pub join_new-requires : goal.join_new-requires
join_new-requires c = record {
  new = sym (c.in-None.ensures ∙ number-same (λ (desk : DeskValue). desk.name) c.args.name.now c.self.inside.desks.items c.self.inside.names c.self.invariant.1
      ∙ ap (λ (r : RegisterValue). desk_named r c.args.name.now) c.self.view_is);
  spare = c.requires.spare;
}
