use Rattle.std.proofs.Common.{◌≡◌, ◌∙◌, ◌∷◌, [], List, refl}
use Rattle.std.specs.Prelude.{ℤ, pos}
use Rattle.nrm_fraction.specs.Large.{size_limit}
use Rattle.nrm_lp.specs.Shape.{HasShape}
use Rattle.nrm_dual.proofs.PassesCertify.{shape_out}
use Rattle.nrm_samples.specs.Programs.{two_legs_five_products_program}
use Rattle.nrm_session_tests.proofs.report.hand_certificate.Goals as goal

shaped : (x p : List ℤ) → x ≡ pos 12 ∷ pos 20 ∷ pos 0 ∷ pos 1 ∷ pos 2 ∷ [] → p ≡ pos 0 ∷ pos 6 ∷ []
    → HasShape size_limit 5 2 (record { q = pos 2; x = x; den = pos 4; p = p; value = pos 3004 })
shaped x p x_is p_is =
    rw (x_is, p_is) (shape_out size_limit two_legs_five_products_program (record { q = pos 2; x = pos 12 ∷ pos 20 ∷ pos 0 ∷ pos 1 ∷ pos 2 ∷ []; den = pos 4; p = pos 0 ∷ pos 6 ∷ []; value = pos 3004 }) refl)

pub returns : goal.returns
returns c = shaped c.new.result c.new-2.result (c.new.ensures ∙ c.in_ok-from_array.ensures.items) (c.new-2.ensures ∙ c.in_ok-from_array-2.ensures.items)
