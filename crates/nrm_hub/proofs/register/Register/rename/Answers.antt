-- The desk and its name change together.
use Rattle.std.proofs.Common.{ℕ, ◌≡◌, ◌∙◌, List, None, map, ap, sym, subst}
use Rattle.std.specs.Prelude.{slice_set}
use Rattle.nrm_hub.specs.Register.{DeskValue, IsRegister, RegisterValue, desk_named, new_desk}
use Rattle.nrm_hub.proofs.Entered.{names-renamed, not-named, renamed-so}
use Rattle.nrm_hub.proofs.OfFields.{register_of}
use Rattle.nrm_hub.proofs.register.Register.rename.Goals as goal

pub rename-requires-clause-new : goal.rename-requires-clause-new
rename-requires-clause-new c =
    let r : RegisterValue = register_of c.self.inside.controller c.self.inside.desks.items c.self.inside.owners.items c.self.inside.rows c.self.inside.text.items in
    not-named r c.self.inside.names c.args.name.now c.self.invariant.1
    (subst (λ (r : RegisterValue). desk_named r c.args.name.now ≡ None) (sym c.self.view_is) c.requires.new)

pub invariant_of-self-2 : goal.invariant_of-self-2
invariant_of-self-2 c =
    let r : RegisterValue = register_of c.self.inside.controller c.self.inside.desks.items c.self.inside.owners.items c.self.inside.rows c.self.inside.text.items in
    let name : List ℕ = c.args.name.now in
    let desk : new_desk name ≡ c.new.result = sym c.new.ensures in (
      subst (λ (desk : DeskValue). IsRegister (record r { desks = slice_set r.desks c.args.desk desk })) desk
          (renamed-so r c.args.desk name c.self.invariant.0),
      c.in_ok-rename.ensures.renamed ∙ ap (λ (names : List (List ℕ)). slice_set names c.args.desk name) c.self.invariant.1
          ∙ sym (names-renamed r.desks c.args.desk name)
          ∙ ap (λ (desk : DeskValue). map (λ (k : DeskValue). k.name) (slice_set r.desks c.args.desk desk)) desk,
    )
