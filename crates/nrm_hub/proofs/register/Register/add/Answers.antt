-- A desk is added beside its name.
use Rattle.std.proofs.Common.{ℕ, ◌≡◌, ◌∙◌, ◌<◌, ◌++◌, ◌∷◌, [], List, None, length, map, ap, arith, sym, subst}
use Rattle.nrm_hub.specs.Register.{DeskValue, IsRegister, RegisterValue, desk_named, new_desk}
use Rattle.nrm_hub.specs.declared.limits.TheConstants.{MOST_DESKS}
use Rattle.nrm_hub.proofs.Entered.{added, names-added, not-named}
use Rattle.nrm_hub.proofs.OfFields.{register_of}
use Rattle.nrm_hub.proofs.register.Register.add.Goals as goal

pub add-requires : goal.add-requires
add-requires c =
    let r : RegisterValue = register_of c.self.inside.controller c.self.inside.desks.items c.self.inside.owners.items c.self.inside.rows c.self.inside.text.items in
    not-named r c.self.inside.names c.args.name.now c.self.invariant.1
    (subst (λ (r : RegisterValue). desk_named r c.args.name.now ≡ None) (sym c.self.view_is) c.requires.new)

pub invariant_of-self-in-Ok : goal.invariant_of-self-in-Ok
invariant_of-self-in-Ok c =
    let r : RegisterValue = register_of c.self.inside.controller c.self.inside.desks.items c.self.inside.owners.items c.self.inside.rows c.self.inside.text.items in
    let name : List ℕ = c.args.name.now in
    let items : c.push.new.self.items ≡ r.desks ++ new_desk name ∷ [] =
    c.in_ok-push.ensures.items ∙ ap (λ (d : DeskValue). r.desks ++ d ∷ []) c.new.ensures in
    let few : length r.desks < MOST_DESKS = omega (arith, c.requires.few, ap (λ (r : RegisterValue). length r.desks) c.self.view_is) in (
      subst (λ (desks : List DeskValue). IsRegister (record r { desks = desks })) (sym items) (added r name c.self.invariant.0 few),
      c.in-Ok.ensures.added ∙ ap (λ (names : List (List ℕ)). names ++ name ∷ []) c.self.invariant.1 ∙ sym (names-added r.desks name)
          ∙ ap (λ (desks : List DeskValue). map (λ (d : DeskValue). d.name) desks) (sym items),
    )
