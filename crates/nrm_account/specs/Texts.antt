-- The text of an account.
use Rattle.std.specs.Prelude.{ℕ, zero, suc, ◌-◌, ◌*◌, Bool, true, false, pos, List, [], ◌++◌, codes, decimal, find, flat_map, length, Option, Some, None}
use Rattle.std.specs.Prelude.{if◌then◌else◌}
use Rattle.std.specs.List.{range_with_len}
use Rattle.std.specs.Int.{is_in_range}
use Rattle.std.specs.Option.{option_map_or}
use Rattle.nrm_fraction.specs.Fraction.{◌over◌}
use Rattle.nrm_text.specs.Fractions.{fraction_text}
use Rattle.nrm_text.specs.Words.{spaced}
use Rattle.nrm_model.specs.Inventory.{inventory_of}
use Rattle.nrm_model.specs.Network.{NetworkValue, leg_of, product_named, product_of}
use Rattle.nrm_model.specs.declared.mode.Mode.{Mode}
use Rattle.nrm_model.specs.declared.mode.Mode.TheVariants as mode
use Rattle.nrm_book.specs.Bookings.{booking_numbered, left_on, worth_of}
use Rattle.nrm_book.specs.declared.booking.Booking.{Booking}
use Rattle.nrm_lp.specs.declared.certificate.Certificate.{Certificate}
use Rattle.nrm_plan.specs.Plans.{PlanValue}
use Rattle.nrm_control.specs.Refunds.{refund_of, withheld_of}
use Rattle.nrm_control.specs.State.{SeatState}
use Rattle.nrm_stream.specs.Commands.{command_text}
use Rattle.nrm_stream.specs.declared.command.Command.{Command}
use Rattle.nrm_stream.specs.declared.command.Command.TheVariants as command
use Rattle.nrm_session.specs.Replies.{Reply, leg_told, plan_told, text_of}
use Rattle.nrm_account.specs.Account.{LegAccount, RequestAccount, is_below, is_short, leg_account, prices_in_all, request_account, seats_short}
use Rattle.nrm_account.specs.Largest.{beyond, largest_party}
use Rattle.nrm_account.specs.Lines.{counted, ended}
use Rattle.nrm_account.specs.Nests.{nest_text}

-- ---- what was asked

-- the line of a number, and what it asked for
abbrev pub asked_line : ℕ → Command → List ℕ
asked_line line c = ended (codes "line" ++ spaced (decimal line) ++ spaced (command_text c))

-- ---- the plan in force

abbrev pub mode_word : Mode → List ℕ
mode_word mode.FirstCome = codes "first"
mode_word mode.Bid = codes "bid"
mode_word mode.Davn = codes "davn"

-- it was made by the line of a number, or it is the opening's
abbrev pub since_text : ℕ → List ℕ
since_text zero = spaced (codes "opening")
since_text (suc line) = counted (codes "line") (suc line)

abbrev pub plan_line : ℕ → PlanValue → List ℕ
plan_line planned plan = ended (codes "plan" ++ spaced (mode_word plan.mode) ++ since_text planned ++ counted (codes "period") plan.period)

-- ---- a request

abbrev pub product_line : NetworkValue → ℕ → List ℕ
product_line net product =
    ended (codes "product" ++ spaced (product_of net product).name ++ counted (codes "fare") (product_of net product).fare
    ++ counted (codes "refund") (product_of net product).refund)

-- whether a leg covers the request, or by how many seats it is short
abbrev pub covering_text : LegAccount → List ℕ
covering_text leg = if is_short leg then counted (codes "short") (seats_short leg) else spaced (codes "covers")

abbrev pub leg_line : LegAccount → List ℕ
leg_line leg =
    ended (codes "leg" ++ spaced leg.name ++ counted (codes "authorised") leg.authorised ++ counted (codes "sold") leg.sold ++ counted (codes "left") leg.left
    ++ counted (codes "protected") leg.protected ++ counted (codes "needs") leg.needs ++ covering_text leg)

-- the nest of the product on a leg, where the mode has nests
abbrev pub nest_in_mode : NetworkValue → Mode → Option Certificate → ℕ → ℕ → ℕ → List ℕ
nest_in_mode net mode.FirstCome cert period leg product = []
nest_in_mode net mode.Bid cert period leg product = []
nest_in_mode net mode.Davn None period leg product = []
nest_in_mode net mode.Davn (Some cert) period leg product = nest_text net cert period leg product

abbrev pub leg_text : NetworkValue → PlanValue → List Booking → ℕ → ℕ → ℕ → List ℕ
leg_text net plan bookings product party leg =
    nest_in_mode net plan.mode plan.certificate plan.period leg product ++ leg_line (leg_account net plan bookings product party leg)

abbrev pub price_line : ℕ → LegAccount → List ℕ
price_line den leg = ended (codes "price" ++ spaced leg.name ++ spaced (fraction_text (pos leg.price over den)))

-- the fare reaches the sum of the bid prices, or by how much it is below
abbrev pub reaching_text : ℕ → List LegAccount → ℕ → List ℕ
reaching_text fare legs den =
    if is_below fare legs (Some den)
    then spaced (codes "below") ++ spaced (fraction_text (pos (prices_in_all legs - den * fare) over den))
    else spaced (codes "reaches")

abbrev pub sum_line : ℕ → List LegAccount → ℕ → List ℕ
sum_line fare legs den =
    ended (codes "sum" ++ spaced (fraction_text (pos (prices_in_all legs) over den)) ++ counted (codes "fare") fare ++ reaching_text fare legs den)

-- the fare against the bid prices, where these decide and no leg is short
abbrev pub fare_text : ℕ → List LegAccount → Option ℕ → List ℕ
fare_text fare legs None = []
fare_text fare legs (Some den) =
    option_map_or (λ leg. []) (find is_short legs) (flat_map (price_line den) legs ++ sum_line fare legs den)

abbrev pub fare_text_of : RequestAccount → List ℕ
fare_text_of account = fare_text account.fare account.legs account.den

-- the largest party that would be sold, and what one seat more would be answered
abbrev pub largest_line : NetworkValue → PlanValue → List Booking → ℕ → ℕ → List ℕ
largest_line net plan bookings number product =
    codes "largest" ++ spaced (decimal (largest_party net plan bookings product)) ++ spaced (codes "then")
    ++ spaced (text_of (beyond net plan bookings number product (largest_party net plan bookings product)))

abbrev pub request_text : NetworkValue → ℕ → PlanValue → List Booking → ℕ → ℕ → ℕ → List ℕ
request_text net planned plan bookings number product party =
    plan_line planned plan ++ product_line net product ++ flat_map (leg_text net plan bookings product party) (product_of net product).legs
    ++ fare_text_of (request_account net plan bookings number product party) ++ largest_line net plan bookings number product

-- ---- a cancellation

-- the booking, what it is worth, its percentage, what is given back and what is withheld
abbrev pub booking_line : NetworkValue → Booking → List ℕ
booking_line net booking =
    ended (codes "booking" ++ spaced (decimal booking.number) ++ spaced (codes "product") ++ spaced (product_of net booking.product).name
    ++ counted (codes "party") booking.party ++ counted (codes "fare") (product_of net booking.product).fare
    ++ counted (codes "worth") (worth_of (inventory_of net) booking) ++ counted (codes "refund") (product_of net booking.product).refund)

abbrev pub back_line : NetworkValue → Booking → List ℕ
back_line net booking = ended (codes "back" ++ spaced (decimal (refund_of net booking)) ++ counted (codes "withheld") (withheld_of net booking))

abbrev pub cancellation_text : NetworkValue → Booking → List ℕ
cancellation_text net booking = booking_line net booking ++ back_line net booking

-- ---- an optimisation

-- the seats left on a leg, which it is made at
abbrev pub left_line : NetworkValue → List Booking → ℕ → List ℕ
left_line net bookings leg =
    ended (codes "left" ++ spaced (leg_of net leg).name ++ spaced (decimal (left_on (inventory_of net) bookings leg)))

abbrev pub left_text : NetworkValue → List Booking → List ℕ
left_text net bookings = flat_map (left_line net bookings) (range_with_len 0 (length net.legs))

-- ---- all of it

-- what a line is accounted for by: the plan in force and the line that made it, the bookings that stand and the next number, before the line
abbrev pub reasons : NetworkValue → ℕ → PlanValue → List Booking → ℕ → Command → List ℕ
reasons net planned plan bookings number (command.Book name party) =
    option_map_or (λ product. request_text net planned plan bookings number product party) (product_named net name) []
reasons net planned plan bookings number (command.Cancel live) =
    option_map_or (cancellation_text net) (booking_numbered bookings live) []
reasons net planned plan bookings number (command.Reoptimise period) =
    if is_in_range 1 net.periods period then left_text net bookings else []
reasons net planned plan bookings number (command.Leg name) = []
reasons net planned plan bookings number command.Hindsight = []
reasons net planned plan bookings number command.Plan = []
reasons net planned plan bookings number command.Bad = []

-- a reply is told, but for the texts of a leg and of a plan
abbrev pub is_accounted : Reply → Bool
is_accounted (leg_told text) = false
is_accounted (plan_told text) = false
is_accounted _ = true

abbrev pub answer_text : Reply → List ℕ
answer_text reply = if is_accounted reply then codes "answer " ++ text_of reply else []

-- the line that was asked, the reasons in the state before it, and the reply
abbrev pub account_text : NetworkValue → ℕ → ℕ → SeatState → Command → Reply → List ℕ
account_text net line planned s c reply =
    asked_line line c ++ reasons net planned s.plan s.bookings s.next c ++ answer_text reply
