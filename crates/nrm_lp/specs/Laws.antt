-- The laws over the definitions: weak duality, and that the closing of a path that ends is optimal, its allocation and
-- its bid prices both.
use Rattle.std.specs.Prelude.{ℕ, List, ◌*◌, ◌≤◌}
use Rattle.nrm_lp.specs.Program.{ProgramValue, IsProgram, IsAllocation, IsPrices, IsOptimalAllocation, IsOptimalPrices, gain, cost}
use Rattle.nrm_lp.specs.Tableau.{Tableau}
use Rattle.nrm_lp.specs.Path.{IsLast}
use Rattle.nrm_lp.specs.Closing.{closing}

-- no allocation has a greater revenue than any bid prices cost, as fractions
abbrev pub WeakDuality : Type 0
WeakDuality =
    (a : ProgramValue) → IsProgram a → (q d : ℕ) (x p : List ℕ) → IsAllocation a q x → IsPrices a d p → gain a x * d ≤ cost a d p * q

-- where a path ends, its closing is optimal
abbrev pub EndsOptimal : Type 0
EndsOptimal = (a : ProgramValue) → IsProgram a → (t : Tableau) → IsLast a t → IsOptimalAllocation a (closing a t).q (closing a t).x
    × IsOptimalPrices a (closing a t).den (closing a t).p
