-- The laws of the conditions: what passes them shows what it should, whoever made it, and what shows that passes.
use Rattle.std.specs.Prelude.{ℕ, ◌≡◌, nat_abs, length}
use Rattle.nrm_fraction.specs.Large.{size_limit}
use Rattle.nrm_lp.specs.declared.certificate.Certificate.{Certificate}
use Rattle.nrm_lp.specs.Program.{ProgramValue, IsProgram, IsOptimalAllocation, IsOptimalPrices, cost}
use Rattle.nrm_lp.specs.Tableau.{Tableau}
use Rattle.nrm_lp.specs.Closing.{certificate}
use Rattle.nrm_lp.specs.Overflow.{Closes}
use Rattle.nrm_lp.specs.Shape.{HasShape}
use Rattle.nrm_lp.specs.Certified.{Certifies, sizes}
use Rattle.nrm_dual.specs.Conditions.{first_failing, verdict_on}
use Rattle.nrm_dual.specs.declared.verdict.Verdict.TheVariants.{Optimal}

-- a certificate at which no condition fails is one of an optimal allocation and optimal bid prices, whoever made it
abbrev pub PassesCertify : Type 0
PassesCertify = (limit : ℕ) (a : ProgramValue) → IsProgram a → (c : Certificate) → first_failing limit a c ≡ Optimal → Certifies limit a c

-- and where a certificate is one, no condition fails
abbrev pub CertifiedPass : Type 0
CertifiedPass = (limit : ℕ) (a : ProgramValue) (c : Certificate) → Certifies limit a c → first_failing limit a c ≡ Optimal

-- so the certificate of a path that ends and isn't Large passes
abbrev pub ClosingsPass : Type 0
ClosingsPass = (a : ProgramValue) → IsProgram a → (n : ℕ) (t : Tableau) → Closes size_limit a n t → verdict_on a (certificate a t) ≡ Optimal

-- and where some path closes, each certificate of the shape passes whose allocation and bid prices are optimal and whose value is
-- the cost of its prices, whoever made it
abbrev pub OptimalPasses : Type 0
OptimalPasses = (limit : ℕ) (a : ProgramValue) → IsProgram a → (n : ℕ) (t : Tableau) → Closes limit a n t
    → (c : Certificate) → HasShape limit (length a.bounds) (length a.caps) c
    → IsOptimalAllocation a (nat_abs c.q) (sizes c.x) → IsOptimalPrices a (nat_abs c.den) (sizes c.p)
    → nat_abs c.value ≡ cost a (nat_abs c.den) (sizes c.p) → first_failing limit a c ≡ Optimal
