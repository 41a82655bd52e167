-- What is written of a leg and of a plan.
use Rattle.std.specs.Prelude.{ℕ, ◌==◌, nat_abs, map, length, List, [], ◌∷◌, ◌++◌, flat_map, decimal, codes, Option, Some, None}
use Rattle.std.specs.Prelude.{if◌then◌else◌}
use Rattle.std.specs.List.{range_with_len}
use Rattle.nrm_fraction.specs.Fraction.{◌over◌}
use Rattle.nrm_text.specs.Fractions.{fraction_text}
use Rattle.nrm_text.specs.Words.{text_line}
use Rattle.nrm_model.specs.Inventory.{inventory_of, products_on}
use Rattle.nrm_model.specs.Network.{NetworkValue, leg_of, product_of}
use Rattle.nrm_model.specs.declared.mode.Mode.{Mode}
use Rattle.nrm_model.specs.declared.mode.Mode.TheVariants as mode
use Rattle.nrm_book.specs.Bookings.{sold_of, sold_on, left_on}
use Rattle.nrm_book.specs.declared.booking.Booking.{Booking}
use Rattle.nrm_lp.specs.declared.certificate.Certificate.{Certificate}
use Rattle.nrm_virtual.specs.Adjusted.{adjusted_fare}
use Rattle.nrm_virtual.specs.Buckets.{bucket_of}
use Rattle.nrm_emsr.specs.Protections.{protections_of}
use Rattle.nrm_plan.specs.Plans.{PlanValue}
use Rattle.nrm_dual.specs.Texts.{certificate_text}

-- how a leg stands: its physical seats, its authorised seats, and of those the ones sold and left
abbrev pub leg_line : NetworkValue → List Booking → ℕ → List ℕ
leg_line net bookings leg =
    text_line (codes "leg" ∷ (leg_of net leg).name ∷ codes "seats" ∷ decimal (leg_of net leg).seats
    ∷ codes "authorised" ∷ decimal (leg_of net leg).authorised ∷ codes "sold" ∷ decimal (sold_on (inventory_of net) bookings leg)
    ∷ codes "left" ∷ decimal (left_on (inventory_of net) bookings leg) ∷ [])

-- a product on a leg with the seats that it has sold, and nothing if it has sold none
abbrev pub sold_line : NetworkValue → ℕ → ℕ → ℕ → List ℕ
sold_line net leg product sold =
    if sold == 0 then [] else text_line (codes "on" ∷ (leg_of net leg).name ∷ (product_of net product).name ∷ decimal sold ∷ [])

abbrev pub on_line : NetworkValue → List Booking → ℕ → ℕ → List ℕ
on_line net bookings leg product = sold_line net leg product (sold_of bookings product)

-- the leg text: the leg's line, then each product on it with a seat sold, in file order
abbrev pub leg_text : NetworkValue → List Booking → ℕ → List ℕ
leg_text net bookings leg = leg_line net bookings leg ++ flat_map (on_line net bookings leg) (products_on (inventory_of net) leg)

-- a product in a nest: its adjusted fare and its bucket
abbrev pub nest_line : NetworkValue → Certificate → ℕ → ℕ → List ℕ
nest_line net cert leg product =
    text_line (codes "nest" ∷ (leg_of net leg).name ∷ (product_of net product).name
    ∷ fraction_text (adjusted_fare net cert leg product over nat_abs cert.den) ∷ decimal (bucket_of net cert leg product) ∷ [])

-- the protections of a leg, for each of its buckets but the last
abbrev pub protect_line : NetworkValue → Certificate → ℕ → ℕ → List ℕ
protect_line net cert period leg =
    text_line (codes "protect" ∷ (leg_of net leg).name ∷ map (λ seats. decimal seats) (protections_of net cert leg period))

-- the nests: leg by leg each product on it, in file order; then the protections, leg by leg
abbrev pub nests_text : NetworkValue → ℕ → Certificate → List ℕ
nests_text net period cert =
    flat_map (λ leg. flat_map (nest_line net cert leg) (products_on (inventory_of net) leg)) (range_with_len 0 (length net.legs))
    ++ flat_map (protect_line net cert period) (range_with_len 0 (length net.legs))

-- the plan text: the one word `first` where no linear program is solved; under bid-price control the certificate; and under virtual nesting
-- the certificate and the nests
abbrev pub text_of_plan : NetworkValue → Mode → ℕ → Option Certificate → List ℕ
text_of_plan net m period None = codes "first\n"
text_of_plan net mode.FirstCome period (Some cert) = certificate_text net cert
text_of_plan net mode.Bid period (Some cert) = certificate_text net cert
text_of_plan net mode.Davn period (Some cert) = certificate_text net cert ++ nests_text net period cert

abbrev pub plan_text : NetworkValue → PlanValue → List ℕ
plan_text net plan = text_of_plan net plan.mode plan.period plan.certificate
