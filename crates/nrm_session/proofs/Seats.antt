-- No step oversells a leg.
use Rattle.std.proofs.Common.{Bool, true, false, if◌then◌else◌, ℕ, ◌≡◌, ◌∙◌, ◌<◌, ◌≤◌, All, not, ◌==◌, List, [], ◌∷◌, length, map, find}
use Rattle.std.proofs.Common.{Option, Some, None, MatchOption, refl, sym, subst, arith, bytes_eq}
use Rattle.std.specs.Bool.{MatchBool}
use Rattle.std.specs.Option.{option_map_or}
use Rattle.std.proofs.lemmas.List.{length-map}
use Rattle.std.proofs.lemmas.List.Elements.{All-filter, All-nil, All-push, All-weaker}
use Rattle.nrm_model.specs.declared.product.Product.{Product}
use Rattle.nrm_model.specs.Inventory.{inventory_of, legs_of}
use Rattle.nrm_model.specs.Network.{NetworkValue, leg_named, product_named, product_of}
use Rattle.nrm_model.proofs.Inventories.{legs-are}
use Rattle.nrm_model.proofs.NameLemmas.{number-below, position_from-map}
use Rattle.nrm_book.specs.declared.booking.Booking.{Booking}
use Rattle.nrm_book.specs.Bookings.{booking_numbered, left_on}
use Rattle.nrm_book.proofs.Kept.{seats-added, sold_on-without}
use Rattle.nrm_book.proofs.Sold.{AreProducts, sold_on-by_booking}
use Rattle.nrm_plan.specs.Plans.{PlanValue, fare_refuses, protected_from}
use Rattle.nrm_control.specs.Refunds.{refund_of}
use Rattle.nrm_control.specs.State.{SeatState, after_answer, after_cancellation, after_request, answer_in, opening}
use Rattle.nrm_control.specs.Verdict.{leg_refuses}
use Rattle.nrm_control.specs.declared.answer.Answer.TheVariants as answer
use Rattle.nrm_control.proofs.Inventories.{none-refuses}
use Rattle.nrm_stream.specs.declared.command.Command.{Command}
use Rattle.nrm_stream.specs.declared.command.Command.TheVariants as command
use Rattle.nrm_report.specs.Texts.{leg_text}
use Rattle.nrm_session.specs.Replies.{Reply, unknown, cancelled, leg_told, reply_to}
use Rattle.nrm_session.specs.Step.{Reoptimises, Step, optimises, overflows, runs_out_of_memory, lacks_period}
use Rattle.nrm_session.specs.Run.{Run}
use Rattle.nrm_session.specs.Laws.{IsSound, NoLegOversold, RunsOversellNoLeg}

-- the bookings are of the network's products, and no leg is oversold
record Sound (net : NetworkValue) (s : SeatState) : Type 0 where
  products : AreProducts (inventory_of net) s.bookings
  seats : NoLegOversold net s

-- a request that no leg refuses has the seats
kept-sold : (net : NetworkValue) (s : SeatState) (j party number : ℕ) → Sound net s → j < length net.products
    → find (leg_refuses net s.plan s.bookings j party) (product_of net j).legs ≡ None
    → Sound net (after_answer s j party (answer.Sold number))
kept-sold net s j party number kept below none =
    let short : j < length (inventory_of net).legs = omega (arith, length-map net.products (λ (p : Product). p.legs), below) in
    let own : All (λ i. party ≤ left_on (inventory_of net) s.bookings i) (legs_of (inventory_of net) j) =
    rw (legs-are net j) (none-refuses (left_on (inventory_of net) s.bookings) (λ i. protected_from net s.plan i j) party (product_of net j).legs
    none) in
    record {
      products = All-push (λ (b : Booking). b.product < length (inventory_of net).legs) s.bookings
          (record { number = number; product = j; party = party }) kept.products short;
      seats = λ i at. seats-added (inventory_of net) s.bookings (record { number = number; product = j; party = party }) i kept.products
          short own (kept.seats i at);
    }

kept-request : (net : NetworkValue) (s : SeatState) (j party : ℕ) → Sound net s → j < length net.products
    → Sound net (after_request net s j party)
kept-request net s j party kept below = by (find (leg_refuses net s.plan s.bookings j party) (product_of net j).legs) refl
  where
    by-fare : (refuses : Bool) → find (leg_refuses net s.plan s.bookings j party) (product_of net j).legs ≡ None
        → Sound net (after_answer s j party (if refuses then answer.Fare else answer.Sold s.next))
    by-fare true e = record { products = kept.products; seats = kept.seats }
    by-fare false e = kept-sold net s j party s.next kept below e

    by : (o : Option ℕ) → find (leg_refuses net s.plan s.bookings j party) (product_of net j).legs ≡ o
        → Sound net (after_answer s j party (option_map_or answer.Leg o
        (if fare_refuses net s.plan j then answer.Fare else answer.Sold s.next)))
    by None e = by-fare (fare_refuses net s.plan j) e
    by (Some i) e = record { products = kept.products; seats = kept.seats }

kept-cancelled : (net : NetworkValue) (s : SeatState) (number : ℕ) → Sound net s → Sound net (after_cancellation net s number)
kept-cancelled net s number kept = record {
  products = All-filter (λ (b : Booking). not (b.number == number)) (λ (b : Booking). b.product < length (inventory_of net).legs)
      s.bookings kept.products;
  seats = λ i at. omega (arith, sold_on-without (inventory_of net) s.bookings number i kept.products, kept.seats i at);
}

-- a product that is found by its name is one of the network's
pub product-below : (net : NetworkValue) (name : List ℕ) (j : ℕ) → product_named net name ≡ Some j → j < length net.products
product-below net name j found =
    number-below (λ (p : Product). p.name) name net.products (map (λ (p : Product). p.name) net.products) j refl
    (sym (position_from-map (λ (p : Product). p.name) (λ other. bytes_eq other name) 0 net.products ∙ found))

stays : (net : NetworkValue) (s s' : SeatState) → Sound net s → s' ≡ s → Sound net s'
stays net s s' kept same = subst (Sound net) (sym same) kept

step-keeps : (net : NetworkValue) (s : SeatState) (c : Command) (reply : Reply) (s' : SeatState) → Sound net s → Step net s c reply s'
    → Sound net s'
step-keeps net s (command.Book name party) reply s' kept step = by (product_named net name) refl step
  where
    by : (o : Option ℕ) → product_named net name ≡ o → MatchOption o ((reply ≡ unknown) × (s' ≡ s))
        (λ j. (reply ≡ reply_to net (answer_in net s j party)) × (s' ≡ after_request net s j party)) → Sound net s'
    by None e told = stays net s s' kept told.1
    by (Some j) e told = subst (Sound net) (sym told.1) (kept-request net s j party kept (product-below net name j e))
step-keeps net s (command.Cancel number) reply s' kept step = by (booking_numbered s.bookings number) step
  where
    by : (o : Option Booking) → MatchOption o ((reply ≡ unknown) × (s' ≡ s))
        (λ b. (reply ≡ cancelled number (refund_of net b)) × (s' ≡ after_cancellation net s number)) → Sound net s'
    by None told = stays net s s' kept told.1
    by (Some b) told = subst (Sound net) (sym told.1) (kept-cancelled net s number kept)
step-keeps net s (command.Reoptimise k) reply s' kept step = by (lacks_period net k) step
  where
    again : (told : Reply) (after : SeatState) → Reoptimises net s k told after → Sound net after
    again told after (optimises plan for) = record { products = kept.products; seats = kept.seats }
    again told after (overflows n number large) = kept
    again told after (runs_out_of_memory solves) = kept

    by : (beyond : Bool) → MatchBool beyond ((reply ≡ unknown) × (s' ≡ s)) (Reoptimises net s k reply s') → Sound net s'
    by true told = stays net s s' kept told.1
    by false made = again reply s' made
step-keeps net s (command.Leg name) reply s' kept step = by (leg_named net name) step
  where
    by : (o : Option ℕ) → MatchOption o ((reply ≡ unknown) × (s' ≡ s)) (λ i. (reply ≡ leg_told (leg_text net s.bookings i)) × (s' ≡ s))
        → Sound net s'
    by None told = stays net s s' kept told.1
    by (Some i) told = stays net s s' kept told.1
step-keeps net s command.Hindsight reply s' kept step = stays net s s' kept step.1
step-keeps net s command.Plan reply s' kept step = stays net s s' kept step.1
step-keeps net s command.Bad reply s' kept step = stays net s s' kept step.1

run-keeps : (net : NetworkValue) (s : SeatState) (commands : List Command) (replies : List Reply) (s' : SeatState) → Sound net s
    → Run net s commands replies s' → Sound net s'
run-keeps net s [] [] s' kept run = stays net s s' kept run
run-keeps net s [] (reply ∷ replies) s' kept run = absurd run
run-keeps net s (c ∷ commands) [] s' kept run = absurd run
run-keeps net s (c ∷ commands) (reply ∷ replies) s' kept (mid, step, run) =
    run-keeps net mid commands replies s' (step-keeps net s c reply mid kept step) run

opens-kept : (net : NetworkValue) (plan : PlanValue) → Sound net (opening plan)
opens-kept net plan = record {
  products = All-nil (λ (b : Booking). b.product < length (inventory_of net).legs);
  seats = λ i at. let none = sold_on-by_booking (inventory_of net) i []
      (All-nil (λ (b : Booking). b.product < length (inventory_of net).legs)) in omega (arith, none);
}

-- the inventory has a list of legs for each product
out : (net : NetworkValue) (s : SeatState) → Sound net s → IsSound net s
out net s kept = record {
  products =
      All-weaker (λ (b : Booking). b.product < length (inventory_of net).legs) (λ (b : Booking). b.product < length net.products)
      (λ b below. omega (arith, length-map net.products (λ (p : Product). p.legs), below)) s.bookings kept.products;
  seats = kept.seats;
}

into : (net : NetworkValue) (s : SeatState) → IsSound net s → Sound net s
into net s kept = record {
  products =
      All-weaker (λ (b : Booking). b.product < length net.products) (λ (b : Booking). b.product < length (inventory_of net).legs)
      (λ b below. omega (arith, length-map net.products (λ (p : Product). p.legs), below)) s.bookings kept.products;
  seats = kept.seats;
}

pub kept : RunsOversellNoLeg
kept = (
  (λ net plan. out net (opening plan) (opens-kept net plan)),
  (λ net s s' commands replies kept run. out net s' (run-keeps net s commands replies s' (into net s kept) run)),
)
