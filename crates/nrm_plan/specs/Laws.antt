-- Laws of plans.
use Rattle.std.specs.Prelude.{ℕ, ◌≡◌, ◌≢◌, ◌⊎◌, ◌<◌, ℤ, List, [], Some, length, slice_index_or}
use Rattle.std.specs.Int.{IsInRange}
use Rattle.nrm_model.specs.Limits.{IsNetwork}
use Rattle.nrm_model.specs.Network.{NetworkValue}
use Rattle.nrm_model.specs.declared.mode.Mode.{Mode}
use Rattle.nrm_model.specs.declared.mode.Mode.TheVariants.{FirstCome}
use Rattle.nrm_lp.specs.declared.certificate.Certificate.{Certificate}
use Rattle.nrm_virtual.specs.Buckets.{bucket_count, bucket_of}
use Rattle.nrm_virtual.specs.Table.{HasPair, bucket_in}
use Rattle.nrm_emsr.specs.Protections.{protection_of}
use Rattle.nrm_plan.specs.Nesting.{NestsValue, level_at}
use Rattle.nrm_plan.specs.Plans.{AreSeatsLeft, HasOptimalPrices, IsPlanFor, IsPlanOf, PlanOverflows, PlanValue}

-- each plan of a network that solves a linear program has optimal bid prices
abbrev pub PlansAreOptimal : Type 0
PlansAreOptimal =
    (net : NetworkValue) (plan : PlanValue) → IsNetwork net → IsPlanOf net plan → plan.mode ≢ FirstCome → HasOptimalPrices net plan

-- a network, a mode, seats left and a period of the network have a plan, or their linear program is Large
abbrev pub EachHasAPlan : Type 0
EachHasAPlan = (net : NetworkValue) (m : Mode) (left : List ℕ) (period : ℕ) → AreSeatsLeft net left → IsInRange 1 net.periods period
    → ((plan : PlanValue) × IsPlanFor net m left period plan) ⊎ ((n : ℕ) × (number : ℤ) × PlanOverflows net m left period n number)

-- they have one plan, or their linear program is Large after one number of pivots and with one number, and not both
pub record HasOnePlan (net : NetworkValue) (m : Mode) (left : List ℕ) (period : ℕ) : Type 0 where
  pub plan : (plan other : PlanValue) → IsPlanFor net m left period plan → IsPlanFor net m left period other → other ≡ plan
  pub overflow : (n n' : ℕ) (number number' : ℤ) → PlanOverflows net m left period n number
      → PlanOverflows net m left period n' number' → (n' ≡ n)
      × (number' ≡ number)
  pub apart : (plan : PlanValue) (n : ℕ) (number : ℤ) → IsPlanFor net m left period plan → PlanOverflows net m left period n number → ⊥

abbrev pub PlansAreDetermined : Type 0
PlansAreDetermined = (net : NetworkValue) (m : Mode) (left : List ℕ) (period : ℕ) → HasOnePlan net m left period

-- where a plan has nests, a product's bucket on a leg that it uses, and the seats protected for a leg's buckets 1 to this one, are those
-- that the definitions give at the plan's bid prices from its period on
pub record AreThoseDefined (net : NetworkValue) (plan : PlanValue) (nests : NestsValue) : Type 0 where
  pub prices : Certificate
  pub in_force : plan.certificate ≡ Some prices
  pub buckets : (leg product : ℕ) → HasPair nests.buckets leg product
      → bucket_in nests.buckets leg product ≡ Some (bucket_of net prices leg product)
  pub levels : (leg bucket : ℕ) → leg < length net.legs → bucket < bucket_count net leg
      → level_at (slice_index_or nests.protections leg []) bucket ≡ protection_of net prices leg plan.period bucket

abbrev pub NestsAreThoseDefined : Type 0
NestsAreThoseDefined = (net : NetworkValue) (plan : PlanValue) (nests : NestsValue) → IsPlanOf net plan → plan.nests ≡ Some nests
    → AreThoseDefined net plan nests
