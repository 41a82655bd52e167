-- The account of a request: what stood on its legs as it was asked, and what follows from that by the rule alone.
use Rattle.std.specs.Prelude.{ℕ, ◌+◌, ◌-◌, ◌*◌, Bool, false, List, [], ◌∷◌, find, map, nat_abs, nat_lt, slice_index, Option, Some, None, if◌then◌else◌}
use Rattle.std.specs.Option.{option_map_or}
use Rattle.nrm_model.specs.Inventory.{inventory_of}
use Rattle.nrm_model.specs.Network.{NetworkValue, leg_of, product_of}
use Rattle.nrm_model.specs.declared.mode.Mode.{Mode}
use Rattle.nrm_model.specs.declared.mode.Mode.TheVariants as mode
use Rattle.nrm_book.specs.Bookings.{left_on, sold_on}
use Rattle.nrm_book.specs.declared.booking.Booking.{Booking}
use Rattle.nrm_lp.specs.declared.certificate.Certificate.{Certificate}
use Rattle.nrm_lp.specs.Certified.{sizes}
use Rattle.nrm_plan.specs.Plans.{PlanValue, protected_from}
use Rattle.nrm_session.specs.Replies.{Reply, no_fare, no_leg, sold}

-- one leg of a request: its authorised seats, those of them that are sold and that are left, the seats that are protected from the product,
-- the party that needs a seat each, and the leg's bid price over the account's denominator, 0 where bid prices decide nothing
pub record LegAccount : Type 0 where
  pub name : List ℕ
  pub authorised : ℕ
  pub sold : ℕ
  pub left : ℕ
  pub protected : ℕ
  pub needs : ℕ
  pub price : ℕ

-- a request: its product's fare, its legs in the product's own order, the denominator of their bid prices, where these decide, and the number
-- that the booking would get
pub record RequestAccount : Type 0 where
  pub fare : ℕ
  pub legs : List LegAccount
  pub den : Option ℕ
  pub number : ℕ

-- ---- the rule, over the numbers of an account alone

-- a leg is short where what is needed and what is protected are more than what is left
abbrev pub is_short : LegAccount → Bool
is_short leg = nat_lt leg.left (leg.needs + leg.protected)

-- by so many seats
abbrev pub seats_short : LegAccount → ℕ
seats_short leg = leg.needs + leg.protected - leg.left

-- the sum of the bid prices, over the denominator
abbrev pub prices_in_all : List LegAccount → ℕ
prices_in_all [] = 0
prices_in_all (leg ∷ legs) = leg.price + prices_in_all legs

-- the fare is below that sum, where bid prices decide
abbrev pub is_below : ℕ → List LegAccount → Option ℕ → Bool
is_below fare legs None = false
is_below fare legs (Some den) = nat_lt (den * fare) (prices_in_all legs)

-- the first leg that is short is named; else a fare below the sum of the bid prices is refused; else the request is sold
abbrev pub ruled : RequestAccount → Reply
ruled account =
    option_map_or (λ leg. no_leg leg.name) (find is_short account.legs)
    (if is_below account.fare account.legs account.den then no_fare else sold account.number)

-- ---- the account of a request for a product, a party of so many, in a state of the network

-- the denominator of the bid prices, where these decide, and the bid price of a leg over it
abbrev pub deciding_den : Mode → Option Certificate → Option ℕ
deciding_den mode.FirstCome cert = None
deciding_den mode.Bid None = None
deciding_den mode.Bid (Some cert) = Some (nat_abs cert.den)
deciding_den mode.Davn cert = None

abbrev pub deciding_price : Mode → Option Certificate → ℕ → ℕ
deciding_price mode.FirstCome cert leg = 0
deciding_price mode.Bid None leg = 0
deciding_price mode.Bid (Some cert) leg = slice_index (sizes cert.p) leg
deciding_price mode.Davn cert leg = 0

abbrev pub leg_account : NetworkValue → PlanValue → List Booking → ℕ → ℕ → ℕ → LegAccount
leg_account net plan bookings product party leg = record {
  name = (leg_of net leg).name;
  authorised = (leg_of net leg).authorised;
  sold = sold_on (inventory_of net) bookings leg;
  left = left_on (inventory_of net) bookings leg;
  protected = protected_from net plan leg product;
  needs = party;
  price = deciding_price plan.mode plan.certificate leg;
}

abbrev pub request_account : NetworkValue → PlanValue → List Booking → ℕ → ℕ → ℕ → RequestAccount
request_account net plan bookings number product party = record {
  fare = (product_of net product).fare;
  legs = map (leg_account net plan bookings product party) (product_of net product).legs;
  den = deciding_den plan.mode plan.certificate;
  number = number;
}
