-- Where one allocation and its prices meet, each optimal pair does.
use Rattle.std.proofs.Common.{◌≡◌, ℕ, ◌*◌, ◌<◌, ◌≤◌, nat_abs, length, List, arith, sym, ap, ◌∙◌, subst}
use native.Mathlib.Nat.{mul-le-mul_right, le_of_mul-le-mul_right}
use Rattle.nrm_lp.specs.declared.certificate.Certificate.{Certificate}
use Rattle.nrm_lp.specs.Program.{ProgramValue, IsProgram, IsOptimalAllocation, IsOptimalPrices, gain, cost}
use Rattle.nrm_lp.specs.Tableau.{Tableau}
use Rattle.nrm_lp.specs.Overflow.{Closes}
use Rattle.nrm_lp.specs.Shape.{HasShape}
use Rattle.nrm_lp.specs.Certified.{Meet, Certifies, sizes}
use Rattle.nrm_lp.proofs.Duality.{weak_duality}
use Rattle.nrm_lp.proofs.Meeting.{ends_meet, meet_of}

-- gains and costs as fractions: g over q is at most c over d, at least g0 over q0, and c over d at most c0 over d0,
-- which is g0 over q0
same : (g c g0 c0 q d q0 d0 : ℕ) → 1 ≤ q0 → 1 ≤ d0 → g * d ≤ c * q → g0 * q ≤ g * q0 → c * d0 ≤ c0 * d → g0 * d0 ≡ c0 * q0 → g * d ≡ c * q
same g c g0 c0 q d q0 d0 some_q some_d weak allocation prices meets =
    let up : (c * d0) * (q * q0) ≤ (c0 * d) * (q * q0) = mul-le-mul_right (q * q0) prices in
    let on : (g0 * q) * (d0 * d) ≤ (g * q0) * (d0 * d) = mul-le-mul_right (d0 * d) allocation in
    let eq : (g0 * d0) * (d * q) ≡ (c0 * q0) * (d * q) = ap (λ t. t * (d * q)) meets in
    let all : (c * q) * (q0 * d0) ≤ (g * d) * (q0 * d0) = omega (arith, up, on, eq) in
    let some : 0 < q0 * d0 = omega (arith, mul-le-mul_right d0 some_q, some_d) in
    let back : c * q ≤ g * d = le_of_mul-le-mul_right all some in
    omega (arith, back, weak)

pub optimal_meet : (a : ProgramValue) → IsProgram a → (q d value : ℕ) (x p : List ℕ) → Meet a q x d p value → (q' d' : ℕ) (x' p' : List ℕ) → IsOptimalAllocation a q' x' → IsOptimalPrices a d' p' → Meet a q' x' d' p' (cost a d' p')
optimal_meet a ok q d value x p meet q' d' x' p' best least =
    meet_of a ok q' d' x' p' best.allocation least.prices
    (same (gain a x') (cost a d' p') (gain a x) (cost a d p) q' d' q d meet.allocation.whole meet.prices.whole
    (weak_duality a q' d' x' p' ok best.allocation least.prices)
    (best.best q x meet.allocation)
    (least.best d p meet.prices)
    (sym meet.worth ∙ ap (λ v. v * q) meet.value_is))

pub optimal_certify : (limit : ℕ) (a : ProgramValue) → IsProgram a → (n : ℕ) (t : Tableau) → Closes limit a n t → (c : Certificate) → HasShape limit (length a.bounds) (length a.caps) c → IsOptimalAllocation a (nat_abs c.q) (sizes c.x) → IsOptimalPrices a (nat_abs c.den) (sizes c.p) → nat_abs c.value ≡ cost a (nat_abs c.den) (sizes c.p) → Certifies limit a c
optimal_certify limit a ok n t closes c shape best least value =
    record {
      shape = shape;
      meet = subst (Meet a (nat_abs c.q) (sizes c.x) (nat_abs c.den) (sizes c.p)) (sym value)
          (optimal_meet a ok _ _ _ _ _ (ends_meet a ok t (n, closes.0.path, closes.1)) (nat_abs c.q) (nat_abs c.den) (sizes c.x) (sizes c.p) best least);
      best_allocation = best;
      best_prices = least;
    }
