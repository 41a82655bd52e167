-- The program is within the limits.
use Rattle.std.proofs.Common.{refl}
use Rattle.nrm_solver_tests.proofs.TestPrograms.{limited}
use Rattle.nrm_solver_tests.proofs.simplex.dear_triangle.Goals as goal

pub new-requires : goal.new-requires
new-requires c =
    limited _ _ _ _ _ _ _ _ (c.in_ok-caps.ensures.items_if_clones_equal (λ x same. same)) (c.in_ok-bounds.ensures.items_if_clones_equal (λ x same. same))
    (c.in_ok-fares.ensures.items_if_clones_equal (λ x same. same)) c.in_ok-legs.ensures refl
