-- The laws of the dynamic program of a leg.
use Rattle.std.specs.Prelude.{ℕ, ◌+◌, ◌*◌, ◌≤◌, ◌≡◌}
use Rattle.nrm_legdp.specs.Policies.{DemandValue, Policy, IsPolicy, earned, value, by_protections}

-- a further seat adds no more than the seat before it
abbrev pub DifferencesFall : Type 0
DifferencesFall = (c : DemandValue) (j x : ℕ) → value c j (x + 2) + value c j x ≤ 2 * value c j (x + 1)

-- no policy earns more than the value
abbrev pub NoPolicyEarnsMore : Type 0
NoPolicyEarnsMore = (c : DemandValue) (sells : Policy) → IsPolicy sells → (j x : ℕ) → earned c sells j x ≤ value c j x

-- what is sold by protections is a policy, and it earns the value
pub record ProtectionsEarnAll : Type 0 where
  pub policy : (c : DemandValue) (seats : ℕ) → IsPolicy (by_protections c seats)
  pub all : (c : DemandValue) (seats j x : ℕ) → x ≤ seats → earned c (by_protections c seats) j x ≡ value c j x
