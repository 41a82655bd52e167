-- What `cuts` writes of a leg: the thresholds that group its fares at the least cost.
use Rattle.std.specs.Prelude.{ℕ, ◌≡◌, ◌≢◌, List, [], ◌∷◌, ◌++◌, map, codes, decimal, Some}
use Rattle.nrm_text.specs.Words.{text_line}
use Rattle.nrm_model.specs.Inventory.{inventory_of, products_on}
use Rattle.nrm_model.specs.Network.{NetworkValue, leg_named}
use Rattle.nrm_cluster.specs.Divisions.{AreCuts, CutsValue}
use Rattle.nrm_cluster.specs.Points.{ArePointsOf, PointsValue, asked_on}

-- a word, the name of a leg and some numbers
abbrev pub numbers_line : List ℕ → List ℕ → List ℕ → List ℕ
numbers_line word leg numbers = text_line (word ∷ leg ∷ map (λ number. decimal number) numbers)

-- the thresholds and the centres of the groups, in whole currency units, and what they cost
abbrev pub cuts_text : List ℕ → CutsValue → List ℕ
cuts_text leg found =
    numbers_line (codes "cuts") leg found.cuts ++ numbers_line (codes "centres") leg found.centres
    ++ numbers_line (codes "cost") leg (found.cost ∷ [])

-- products use the leg of this name, and the text tells the thresholds that cut their fares into at most so many groups
pub record IsCut (net : NetworkValue) (leg : List ℕ) (groups : ℕ) (text : List ℕ) : Type 0 where
  pub number : ℕ
  pub points : PointsValue
  pub found : CutsValue
  pub named : leg_named net leg ≡ Some number
  pub used : products_on (inventory_of net) number ≢ []
  pub points_of_leg : ArePointsOf (asked_on net number) points
  pub cuts : AreCuts points groups found
  pub told : text ≡ cuts_text leg found

-- no product uses a leg of this name
abbrev pub IsUnused : NetworkValue → List ℕ → Type 0
IsUnused net leg = (number : ℕ) → leg_named net leg ≡ Some number → products_on (inventory_of net) number ≡ []
