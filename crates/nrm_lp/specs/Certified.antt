-- Complementary slackness: an allocation and bid prices that meet, what a certificate of them says, and that the
-- closing of a path is one.
use Rattle.std.specs.Prelude.{ℕ, ◌≡◌, ◌<◌, ◌≤◌, ◌*◌, ℤ, nat_abs, List, [], length, map, get_or, slice_index}
use Rattle.nrm_lp.specs.declared.certificate.Certificate.{Certificate}
use Rattle.nrm_lp.specs.Program.{ProgramValue, IsProgram, IsAllocation, IsPrices, IsOptimalAllocation, IsOptimalPrices, load, price_sum}
use Rattle.nrm_lp.specs.Program.{gain, cost}
use Rattle.nrm_lp.specs.Tableau.{Tableau}
use Rattle.nrm_lp.specs.Path.{IsLast}
use Rattle.nrm_lp.specs.Closing.{closing, value_over, certificate}
use Rattle.nrm_lp.specs.Overflow.{Closes}
use Rattle.nrm_lp.specs.Shape.{HasShape}

-- an allocation and bid prices that meet: a leg with a price above 0 is full, a product short of its bound isn't worth
-- more than the bid prices of its legs, and one that is sold isn't worth less; the value is the cost of the prices, and
-- the revenue
pub record Meet (a : ProgramValue) (q : ℕ) (x : List ℕ) (d : ℕ) (p : List ℕ) (value : ℕ) : Type 0 where
  pub allocation : IsAllocation a q x
  pub prices : IsPrices a d p
  pub full : (leg : ℕ) → leg < length a.caps → 0 < slice_index p leg → load leg a.legs x ≡ q * slice_index a.caps leg
  pub unmet : (product : ℕ) → product < length a.bounds → slice_index x product < q * slice_index a.bounds product
      → d * slice_index a.fares product ≤ price_sum p (get_or a.legs product [])
  pub used : (product : ℕ) → product < length a.bounds → 0 < slice_index x product
      → price_sum p (get_or a.legs product []) ≤ d * slice_index a.fares product
  pub value_is : value ≡ cost a d p
  pub worth : value * q ≡ gain a x * d

-- whole numbers without their signs
abbrev pub sizes : List ℤ → List ℕ
sizes ns = map (λ n. nat_abs n) ns

-- a certificate shows what it should: it has the shape of the program's, its allocation and its bid prices meet, and
-- both are optimal
pub record Certifies (limit : ℕ) (a : ProgramValue) (c : Certificate) : Type 0 where
  pub shape : HasShape limit (length a.bounds) (length a.caps) c
  pub meet : Meet a (nat_abs c.q) (sizes c.x) (nat_abs c.den) (sizes c.p) (nat_abs c.value)
  pub best_allocation : IsOptimalAllocation a (nat_abs c.q) (sizes c.x)
  pub best_prices : IsOptimalPrices a (nat_abs c.den) (sizes c.p)

-- where a path ends, the allocation and the bid prices of its closing meet
abbrev pub EndsMeet : Type 0
EndsMeet = (a : ProgramValue) → IsProgram a → (t : Tableau) → IsLast a t
    → Meet a (closing a t).q (closing a t).x (closing a t).den (closing a t).p (value_over a t (closing a t).den)

-- the certificate of a path that ends, and whose closing isn't Large, shows what it should
abbrev pub ClosesCertify : Type 0
ClosesCertify = (limit : ℕ) → 1 < limit → (a : ProgramValue) → IsProgram a → (n : ℕ) (t : Tableau) → Closes limit a n t
    → Certifies limit a (certificate a t)

-- where some allocation and bid prices meet, all that are optimal do, whichever path or hand they come from
abbrev pub OptimalMeet : Type 0
OptimalMeet = (a : ProgramValue) → IsProgram a → (q d value : ℕ) (x p : List ℕ) → Meet a q x d p value
    → (q' d' : ℕ) (x' p' : List ℕ) → IsOptimalAllocation a q' x' → IsOptimalPrices a d' p' → Meet a q' x' d' p' (cost a d' p')

-- and where a path closes, each certificate of the shape whose allocation and bid prices are optimal, and whose value
-- is the cost of its prices, shows what it should: not only the certificate of the closing
abbrev pub OptimalCertify : Type 0
OptimalCertify = (limit : ℕ) (a : ProgramValue) → IsProgram a → (n : ℕ) (t : Tableau) → Closes limit a n t
    → (c : Certificate) → HasShape limit (length a.bounds) (length a.caps) c
    → IsOptimalAllocation a (nat_abs c.q) (sizes c.x) → IsOptimalPrices a (nat_abs c.den) (sizes c.p)
    → nat_abs c.value ≡ cost a (nat_abs c.den) (sizes c.p) → Certifies limit a c
