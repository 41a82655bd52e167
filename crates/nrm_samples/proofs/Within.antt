-- The sample networks are within the limits.
use Rattle.std.proofs.Common.{ℕ, ◌≡◌, List, true}
use Rattle.nrm_model.specs.declared.leg.Leg.{Leg}
use Rattle.nrm_model.specs.declared.product.Product.{Product}
use Rattle.nrm_model.specs.Limits.{IsNetwork}
use Rattle.nrm_model.specs.Network.{NetworkValue}
use Rattle.nrm_model.proofs.Fits.{IsNetwork-from_test, network_fits}

-- lists that hold the parts of a network within the limits make one
pub of_parts : (net : NetworkValue) → network_fits net ≡ true → (legs : List Leg) (products : List Product) (demand : List ℕ)
    → legs ≡ net.legs → products ≡ net.products → demand ≡ net.demand
    → IsNetwork (record { histories = net.histories; periods = net.periods; legs = legs; products = products; demand = demand })
of_parts net fits legs products demand legs_are products_are demand_is =
    rw (legs_are, products_are, demand_is) (IsNetwork-from_test net fits)
