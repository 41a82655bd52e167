-- A network of flight legs, the products that are sold on it, and the demand of past departures.
use Rattle.std.specs.Prelude.{ℕ, List, [], ◌∷◌, Option, slice_get, unwrap_or, map, bytes_eq, min}
use Rattle.std.specs.List.{position_from}
use Rattle.nrm_model.specs.declared.leg.Leg.{Leg}
use Rattle.nrm_model.specs.declared.product.Product.{Product}

-- a network: how many histories and periods it has, its legs, its products, and the demand product by product, in each
-- history by history and period by period
pub record NetworkValue : Type 0 where
  pub histories : ℕ
  pub periods : ℕ
  pub legs : List Leg
  pub products : List Product
  pub demand : List ℕ

-- the leg and the product of a number; past the last one they have no name, no seats, no fare and no refund
abbrev pub leg_of : NetworkValue → ℕ → Leg
leg_of net leg = unwrap_or (slice_get net.legs leg) (record { name = []; seats = 0; authorised = 0; cuts = [] })

abbrev pub product_of : NetworkValue → ℕ → Product
product_of net product = unwrap_or (slice_get net.products product) (record { name = []; fare = 0; refund = 0; legs = [] })

-- the number of the leg, or of the product, that has the name, if one has it
abbrev pub leg_named : NetworkValue → List ℕ → Option ℕ
leg_named net name = position_from (λ leg. bytes_eq leg.name name) 0 net.legs

abbrev pub product_named : NetworkValue → List ℕ → Option ℕ
product_named net name = position_from (λ product. bytes_eq product.name name) 0 net.products

-- the least of these numbers, and 0 of none
abbrev pub least_of : List ℕ → ℕ
least_of [] = 0
least_of (x ∷ []) = x
least_of (x ∷ y ∷ more) = min x (least_of (y ∷ more))

-- the least authorised seats among a product's legs
abbrev pub least_authorised_of : NetworkValue → ℕ → ℕ
least_authorised_of net product = least_of (map (λ leg. (leg_of net leg).authorised) (product_of net product).legs)
