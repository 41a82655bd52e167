-- At each line of hindsight, the value bounds every selection of the requests so far, and the bookings that stand are one.
use Rattle.std.proofs.Common.{ℕ, ◌≡◌, ◌∙◌, ◌<◌, ◌≤◌, All, Bool, true, false, not, ◌==◌, List, [], ◌∷◌, ◌++◌, length, Option, Some, None}
use Rattle.std.proofs.Common.{MatchOption, append_assoc, refl, sym, ap, subst, arith}
use Rattle.std.specs.Bool.{MatchBool}
use Rattle.std.specs.Option.{option_map_or}
use Rattle.std.proofs.lemmas.List.{append-nil, length-map, map-append}
use Rattle.std.proofs.lemmas.List.Elements.{All-weaker}
use Rattle.nrm_fraction.specs.Fraction.{Fraction}
use Rattle.nrm_model.specs.Inventory.{inventory_of, authorised_of}
use Rattle.nrm_model.specs.Network.{NetworkValue, leg_named, product_named}
use Rattle.nrm_model.specs.declared.leg.Leg.{Leg}
use Rattle.nrm_model.specs.declared.product.Product.{Product}
use Rattle.nrm_dlp.specs.Hindsight.{IsAttained, IsHindsight}
use Rattle.nrm_dlp.specs.Programs.{hindsight_program}
use Rattle.nrm_dlp.proofs.Attained.{attained}
use Rattle.nrm_book.specs.declared.booking.Booking.{Booking}
use Rattle.nrm_book.specs.Bookings.{booking_numbered, revenue_of, sold_on}
use Rattle.nrm_hindsight.specs.Requests.{Request, request_of, requests_of, tallies_of}
use Rattle.nrm_hindsight.specs.Selections.{BoundsSelections, ChosenFrom, IsSelection}
use Rattle.nrm_hindsight.specs.Selections.ChosenFrom.{none}
use Rattle.nrm_hindsight.proofs.Choices.{chosen-push, kept-chosen, left-out-push}
use Rattle.nrm_hindsight.proofs.Selections.{bookings-selected, selections-bounded}
use Rattle.nrm_hindsight.proofs.Tallies.{tallies-capped}
use Rattle.nrm_control.specs.Standing.{ControlValue, IsControl, Represents}
use Rattle.nrm_control.specs.Refunds.{refund_of}
use Rattle.nrm_control.specs.State.{SeatState, after_answer, after_cancellation, after_request, answer_in, opening}
use Rattle.nrm_control.specs.declared.answer.Answer.{Answer}
use Rattle.nrm_control.specs.declared.answer.Answer.TheVariants as answer
use Rattle.nrm_report.specs.Texts.{leg_text}
use Rattle.nrm_stream.specs.declared.command.Command.{Command}
use Rattle.nrm_stream.specs.declared.command.Command.TheVariants as command
use Rattle.nrm_session.specs.Hindsight.{BoundsFrom, HindsightBounds, HindsightBoundsOn, request_in, requests_in}
use Rattle.nrm_session.specs.Laws.{IsSound}
use Rattle.nrm_session.specs.Replies.{Reply, cancelled, hindsight_told, leg_told, reply_to, unknown}
use Rattle.nrm_session.specs.Step.{LooksBack, Reoptimises, Step, is_large, lacks_memory, optimises, overflows, tells, runs_out_of_memory}
use Rattle.nrm_session.specs.Step.{lacks_period}
use Rattle.nrm_session.specs.Run.{Run}
use Rattle.nrm_session.proofs.Seats.{kept}

-- what is remembered after some requests more: those too, and the bookings are still a choice
record Remembers (s : SeatState) (more : List Request) (s' : SeatState) : Type 0 where
  requests : s'.requests ≡ s.requests ++ more
  choice : ChosenFrom s.requests (requests_of s.bookings) → ChosenFrom s'.requests (requests_of s'.bookings)

same-requests : (s s' : SeatState) → s' ≡ s → Remembers s [] s'
same-requests s s' same = record {
  requests = ap (λ (state : SeatState). state.requests) same ∙ sym (append-nil s.requests);
  choice = λ choice. subst (λ (state : SeatState). ChosenFrom state.requests (requests_of state.bookings)) (sym same) choice;
}

-- ---- one request
after-answer : (s : SeatState) (j party : ℕ) (given : Answer) → Remembers s (record { product = j; party = party } ∷ [])
    (after_answer s j party given)
after-answer s j party (answer.Sold number) = record {
  requests = refl;
  choice = λ choice.
      let b : Booking = record { number = number; product = j; party = party } in
      subst (ChosenFrom (s.requests ++ request_of b ∷ [])) (sym (map-append request_of s.bookings (b ∷ [])))
      (chosen-push (request_of b) choice);
}
after-answer s j party (answer.Leg i) = record {
  requests = refl;
  choice = λ choice. left-out-push (record { product = j; party = party }) choice;
}
after-answer s j party answer.Fare = record {
  requests = refl;
  choice = λ choice. left-out-push (record { product = j; party = party }) choice;
}

-- ---- one line
after-step : (net : NetworkValue) (s : SeatState) (c : Command) (reply : Reply) (s' : SeatState) → Step net s c reply s'
    → Remembers s (request_in net c) s'
after-step net s (command.Book name party) reply s' step = by (product_named net name) step
  where
    by : (o : Option ℕ) → MatchOption o ((reply ≡ unknown) × (s' ≡ s))
        (λ j. (reply ≡ reply_to net (answer_in net s j party)) × (s' ≡ after_request net s j party))
        → Remembers s (option_map_or (λ j. record { product = j; party = party } ∷ []) o []) s'
    by None told = same-requests s s' told.1
    by (Some j) told = subst (Remembers s (record { product = j; party = party } ∷ [])) (sym told.1)
        (after-answer s j party (answer_in net s j party))
after-step net s (command.Cancel number) reply s' step = by (booking_numbered s.bookings number) step
  where
    by : (o : Option Booking) → MatchOption o ((reply ≡ unknown) × (s' ≡ s))
        (λ b. (reply ≡ cancelled number (refund_of net b)) × (s' ≡ after_cancellation net s number)) → Remembers s [] s'
    by None told = same-requests s s' told.1
    by (Some b) told =
        subst (Remembers s []) (sym told.1)
        (record {
          requests = sym (append-nil s.requests);
          choice = λ choice. kept-chosen (λ booking. not (booking.number == number))
              s.bookings choice;
        })
after-step net s (command.Reoptimise k) reply s' step = by (lacks_period net k) step
  where
    again : (told : Reply) (after : SeatState) → Reoptimises net s k told after → Remembers s [] after
    again told after (optimises plan for) = record { requests = sym (append-nil s.requests); choice = λ choice. choice }
    again told after (overflows n number large) = same-requests s s refl
    again told after (runs_out_of_memory solves) = same-requests s s refl

    by : (beyond : Bool) → MatchBool beyond ((reply ≡ unknown) × (s' ≡ s)) (Reoptimises net s k reply s') → Remembers s [] s'
    by true told = same-requests s s' told.1
    by false made = again reply s' made
after-step net s (command.Leg name) reply s' step = by (leg_named net name) step
  where
    by : (o : Option ℕ) → MatchOption o ((reply ≡ unknown) × (s' ≡ s)) (λ i. (reply ≡ leg_told (leg_text net s.bookings i)) × (s' ≡ s))
        → Remembers s [] s'
    by None told = same-requests s s' told.1
    by (Some i) told = same-requests s s' told.1
after-step net s command.Hindsight reply s' step = same-requests s s' step.1
after-step net s command.Plan reply s' step = same-requests s s' step.1
after-step net s command.Bad reply s' step = same-requests s s' step.1

-- ---- a run
after-run : (net : NetworkValue) (s : SeatState) (commands : List Command) (replies : List Reply) (s' : SeatState)
    → Run net s commands replies s' → Remembers s (requests_in net commands) s'
after-run net s [] [] s' run = same-requests s s' run
after-run net s [] (reply ∷ replies) s' run = absurd run
after-run net s (c ∷ commands) [] s' run = absurd run
after-run net s (c ∷ commands) (reply ∷ replies) s' (mid, step, run) =
    let first = after-step net s c reply mid step in
    let more = after-run net mid commands replies s' run in
    record {
      requests = more.requests ∙ ap (λ (requests : List Request). requests ++ requests_in net commands) first.requests
          ∙ append_assoc s.requests (request_in net c) (requests_in net commands);
      choice = λ choice. more.choice (first.choice choice);
    }

-- what a line of hindsight tells
pub told-so : (net : NetworkValue) (s : SeatState) (reply : Reply) (value : Fraction) (revenue withheld : ℕ) → LooksBack net s reply
    → reply ≡ hindsight_told value revenue withheld
    → IsHindsight net (tallies_of net s.requests) value × (revenue_of (inventory_of net) s.bookings ≡ revenue) × (s.withheld ≡ withheld)
told-so net s reply value revenue withheld (tells found is) e =
    let same : found ≡ value = cc in
    (subst (IsHindsight net (tallies_of net s.requests)) same is, cc, cc)
told-so net s reply value revenue withheld (is_large n number large) e = cc
told-so net s reply value revenue withheld lacks_memory e = cc

pub bounded : HindsightBoundsOn
bounded net s ok keeps choice commands replies mid after value revenue withheld run step =
    let remembers = after-run net s commands replies mid run in
    let held = kept.1 net s mid commands replies keeps run in
    let (is, worth, rest) = told-so net mid (hindsight_told value revenue withheld) value revenue withheld step.0 refl in
    let (selection, earned) = bookings-selected net mid.requests mid.bookings (remembers.choice choice) held.seats in
    record {
      bound = subst (λ (requests : List Request). BoundsSelections net requests value) remembers.requests
          (selections-bounded net mid.requests value ok is);
      attained = subst (λ (requests : List Request). IsAttained (hindsight_program net (tallies_of net requests)) value) remembers.requests
          (attained net (tallies_of net mid.requests) value ok (tallies-capped net mid.requests) is);
      selection = subst (λ (requests : List Request). IsSelection net requests (requests_of mid.bookings)) remembers.requests selection;
      earned = earned ∙ worth;
    }

pub openings-bounded : HindsightBounds
openings-bounded net plan ok = bounded net (opening plan) ok (kept.0 net plan) none

-- and from each state that a controller represents
pub control-bounds : (control : ControlValue) → IsControl control → (s : SeatState) → Represents control s → BoundsFrom control.net s
control-bounds control is s stands = bounded control.net s is.network keeps stands.choice
  where
    within : (b : Booking) → b.product < length (inventory_of control.net).legs → b.product < length control.net.products
    within b below = omega (arith, length-map control.net.products (λ (p : Product). p.legs), below)

    keeps : IsSound control.net s
    keeps = record {
      products =
          subst (λ (bookings : List Booking). All (λ (b : Booking). b.product < length control.net.products) bookings) (sym stands.bookings)
          (All-weaker (λ (b : Booking). b.product < length (inventory_of control.net).legs)
          (λ (b : Booking). b.product < length control.net.products) within control.bookings is.book.products);
      seats = λ i at.
          subst (λ (bookings : List Booking). sold_on (inventory_of control.net) bookings i ≤ authorised_of (inventory_of control.net) i)
          (sym stands.bookings)
          (is.book.seats i (omega (arith, length-map control.net.legs (λ (leg : Leg). leg.authorised), at)));
    }
