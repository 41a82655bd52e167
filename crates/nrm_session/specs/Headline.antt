-- The headline, to be read aloud: when a request is sold, and what is replied where it isn't.
use Rattle.std.specs.Prelude.{ℕ, ◌≡◌, ◌≢◌, ◌↔◌, ◌⊎◌, ◌+◌, ◌*◌, ◌≤◌, List, [], ◌∷◌, ◌++◌, All, Some, nat_abs}
use Rattle.nrm_model.specs.Inventory.{inventory_of}
use Rattle.nrm_model.specs.Network.{NetworkValue, leg_of, product_named, product_of}
use Rattle.nrm_model.specs.declared.mode.Mode.{Mode}
use Rattle.nrm_model.specs.declared.mode.Mode.TheVariants as mode
use Rattle.nrm_lp.specs.declared.certificate.Certificate.{Certificate}
use Rattle.nrm_lp.specs.Certified.{sizes}
use Rattle.nrm_lp.specs.Program.{price_sum}
use Rattle.nrm_plan.specs.Plans.{PlanValue, protected_from}
use Rattle.nrm_book.specs.Bookings.{left_on}
use Rattle.nrm_control.specs.State.{SeatState, after_request}
use Rattle.nrm_stream.specs.declared.command.Command.TheVariants as command
use Rattle.nrm_session.specs.Replies.{Reply, sold, no_leg, no_fare}
use Rattle.nrm_session.specs.Step.{Step}

-- the plan in force is of this mode, and these are its bid prices
pub record InForce (plan : PlanValue) (its_mode : Mode) (prices : Certificate) : Type 0 where
  pub in_mode : plan.mode ≡ its_mode
  pub at_prices : plan.certificate ≡ Some prices

-- the sum of the bid prices of a product's legs, over the denominator of the prices
abbrev pub bid_price_sum : NetworkValue → Certificate → ℕ → ℕ
bid_price_sum net prices product = price_sum (sizes prices.p) (product_of net product).legs

-- On a leg, the party plus the seats that are protected from the product are no more than the seats left. By the mode of the plan in
-- force none are protected under first come, first served and by bid prices, and under virtual nesting those that are protected for
-- the buckets above the product's own (`protected_from`). A difference of whole numbers ends at 0, so the seats left would be 0 if
-- more were sold than there are; no leg ever has.
abbrev pub SeatsCover : NetworkValue → SeatState → ℕ → ℕ → ℕ → Type 0
SeatsCover net s product party leg = party + protected_from net s.plan leg product ≤ left_on (inventory_of net) s.bookings leg

-- They do on every leg of the product.
abbrev pub EveryLegCovers : NetworkValue → SeatState → ℕ → ℕ → Type 0
EveryLegCovers net s product party = All (SeatsCover net s product party) (product_of net product).legs

-- In bid-price mode, the fare reaches the sum of the bid prices of its legs.
abbrev pub FareReaches : NetworkValue → SeatState → ℕ → Type 0
FareReaches net s product = (prices : Certificate) → InForce s.plan mode.Bid prices
    → bid_price_sum net prices product ≤ nat_abs prices.den * (product_of net product).fare

-- In the product's own order, a leg of this name is the first on which they don't cover.
pub record FirstLegShort (net : NetworkValue) (s : SeatState) (product party : ℕ) (name : List ℕ) : Type 0 where
  pub before : List ℕ
  pub leg : ℕ
  pub after : List ℕ
  pub order : (product_of net product).legs ≡ before ++ leg ∷ after
  pub covered : All (SeatsCover net s product party) before
  pub short : ¬ (SeatsCover net s product party leg)
  pub its_name : (leg_of net leg).name ≡ name

-- The reply sells with the next number exactly when every leg covers and the fare reaches. It names a leg exactly when that is
-- the first leg short. It says that the fare refuses exactly when every leg covers and the fare doesn't reach.
pub record Headline (net : NetworkValue) (s : SeatState) (product party : ℕ) (reply : Reply) : Type 0 where
  pub is_sold : (reply ≡ sold s.next) ↔ (EveryLegCovers net s product party × FareReaches net s product)
  pub names_leg : (name : List ℕ) → (reply ≡ no_leg name) ↔ FirstLegShort net s product party name
  pub names_fare : (reply ≡ no_fare) ↔ (EveryLegCovers net s product party × ¬ (FareReaches net s product))

-- one of the three, and no other
abbrev pub IsOneOfThree : SeatState → Reply → Type 0
IsOneOfThree s reply = (reply ≡ sold s.next) ⊎ ((name : List ℕ) × (reply ≡ no_leg name)) ⊎ (reply ≡ no_fare)

-- after `sold` the booking stands, behind the others and under the number that is told; after another reply the bookings are as they were
pub record BookingStands (s : SeatState) (product party : ℕ) (reply : Reply) (s' : SeatState) : Type 0 where
  pub booked : reply ≡ sold s.next → s'.bookings ≡ s.bookings ++ record { number = s.next; product = product; party = party } ∷ []
  pub refused : reply ≢ sold s.next → s'.bookings ≡ s.bookings

-- what a step says at a request
pub record RequestIsAnswered (net : NetworkValue) (s : SeatState) (product party : ℕ) (reply : Reply) (s' : SeatState) : Type 0 where
  pub headline : Headline net s product party reply
  pub no_other : IsOneOfThree s reply
  pub stands : BookingStands s product party reply s'

-- in every state each step at a request for a product of the network says this; and each reply of which the headline holds is one
-- of such a step, so there is no other
abbrev pub RequestsAreAnswered : Type 0
RequestsAreAnswered = (net : NetworkValue) (s : SeatState) (name : List ℕ) (product party : ℕ) → product_named net name ≡ Some product
    → ((reply : Reply) (s' : SeatState) → Step net s (command.Book name party) reply s' → RequestIsAnswered net s product party reply s')
    × ((reply : Reply) → Headline net s product party reply → Step net s (command.Book name party) reply
    (after_request net s product party))
