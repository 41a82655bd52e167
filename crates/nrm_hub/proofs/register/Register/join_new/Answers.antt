-- The desk is added behind the others.
use Rattle.std.proofs.Common.{ℕ, ◌≡◌, ◌++◌, ◌∷◌, [], arith, length, ap, sym, subst}
use Rattle.nrm_hub.specs.Register.{Joins, RegisterValue, added, new_desk}
use Rattle.nrm_hub.proofs.register.Register.join_new.Goals as goal

pub returns-in-Ok-clause-joins : goal.returns-in-Ok-clause-joins
returns-in-Ok-clause-joins c =
    let old : RegisterValue = c.args.self.now in
    let more : RegisterValue = record old { desks = old.desks ++ new_desk c.args.name.now ∷ [] } in
    let count : c.len-desk.result ≡ length old.desks =
    omega (arith, c.len-desk.ensures, c.self.inside.desks.ok.0, ap (λ (r : RegisterValue). length r.desks) c.self.view_is) in
    subst (λ (r : RegisterValue). Joins c.args.spare old c.args.name.now r c.len-desk.result) (sym c.in-Ok.ensures.added)
    (subst (λ (d : ℕ). Joins c.args.spare old c.args.name.now more d) (sym count) (added c.requires.new))
