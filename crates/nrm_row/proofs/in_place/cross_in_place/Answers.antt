-- The numbers that are multiplied have the bound that the subtraction asks for.
use Rattle.std.proofs.Common.{arith, ◌*◌, ◌*ℤ◌, ◌-ℤ◌, ap, ap₂, sym, subst, ◌∙◌, get_or, length, map, pos, to_z, of_z, to_z-of_z, w64}
use Rattle.std.proofs.lemmas.List.{get_or-map}
use Rattle.nrm_fraction.specs.Rows.{number_at}
use Rattle.nrm_row.specs.Numbers.{IsBounded}
use Rattle.nrm_row.proofs.InPlace.{scaled_at_most}
use Rattle.nrm_row.proofs.in_place.cross_in_place.Goals as goal

pub subtract-requires-clause-bounded : goal.subtract-requires-clause-bounded
subtract-requires-clause-bounded c =
    subst (λ xs. IsBounded (c.args.most * c.unsigned_abs.result) xs) (sym c.multiply.ensures)
    (subst (λ n. IsBounded (c.args.most * n) (map (λ x. x *ℤ to_z w64 (of_z w64 c.args.e)) c.args.xs.now)) (sym c.unsigned_abs.ensures.value) (scaled_at_most c.args.xs.now (to_z w64 (of_z w64 c.args.e)) c.args.most c.requires.bounded))

pub returns-clause-numbers : goal.returns-clause-numbers
returns-clause-numbers c = λ k l.
    c.subtract.ensures.numbers k (omega (arith, ap length c.multiply.ensures))
    ∙ ap₂ (λ y a. y -ℤ a *ℤ number_at c.args.us.now k)
    (ap (λ xs. get_or xs k (pos 0)) c.multiply.ensures ∙ get_or-map (λ x. x *ℤ to_z w64 (of_z w64 c.args.e)) c.args.xs.now k (pos 0) (pos 0) l ∙ ap (λ e. get_or c.args.xs.now k (pos 0) *ℤ e) (to_z-of_z c.ranges.e))
    (to_z-of_z c.ranges.a)
