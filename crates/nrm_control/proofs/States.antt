-- The states that a controller represents after a call.
use Rattle.std.proofs.Common.{ℕ, ◌≡◌, ◌+◌, ◌<◌, ◌∙◌, List, ◌∷◌, [], ◌++◌, ◌==◌, not, length, refl, sym, ap, subst}
use Rattle.std.proofs.lemmas.List.{map-append}
use Rattle.nrm_model.specs.Network.{NetworkValue}
use Rattle.nrm_plan.specs.Plans.{PlanValue}
use Rattle.nrm_book.specs.declared.booking.Booking.{Booking}
use Rattle.nrm_book.specs.Book.{BookValue, with_booking, with_loaded}
use Rattle.nrm_book.specs.Bookings.{without}
use Rattle.nrm_hindsight.specs.Requests.{Request, request_of, requests_of, tallies_of}
use Rattle.nrm_hindsight.specs.Selections.{ChosenFrom}
use Rattle.nrm_hindsight.proofs.Choices.{chosen-push, kept-chosen, left-out-push}
use Rattle.nrm_hindsight.proofs.Tallies.{requests-stand}
use Rattle.nrm_control.specs.Refunds.{withheld_by}
use Rattle.nrm_control.specs.Verdict.{verdict_of}
use Rattle.nrm_control.specs.State.{SeatState, after_answer, after_cancellation, after_request, answer_in}
use Rattle.nrm_control.specs.Standing.{ControlValue, Represents, RepresentsSome, with_answer, with_request}
use Rattle.nrm_control.specs.declared.answer.Answer.{Answer}
use Rattle.nrm_control.specs.declared.answer.Answer.TheVariants as answer
use Rattle.nrm_control.proofs.Tallies.{tallies-after}

-- the answer in a state that the controller represents is the controller's
pub answer-same : (old : ControlValue) (s : SeatState) (j party : ℕ) → Represents old s → answer_in old.net s j party ≡ verdict_of old.net old.plan old.bookings old.next j party
answer-same old s j party stands = λ i. verdict_of old.net (stands.plan i) (stands.bookings i) (stands.next i) j party

-- the tallies and the choice, where a request came
tallied : (old : ControlValue) (s : SeatState) (j party : ℕ) → j < length old.net.products → Represents old s
    → tallies_of old.net (s.requests ++ record { product = j; party = party } ∷ []) ≡ with_request old.net old.tallies j party
tallied old s j party short stands = tallies-after old.net s.requests j party short ∙ ap (λ (tallies : List ℕ). with_request old.net tallies j party) stands.tallies

chosen : (requests : List Request) (bookings : List Booking) (b : Booking) → ChosenFrom requests (requests_of bookings)
    → ChosenFrom (requests ++ request_of b ∷ []) (requests_of (bookings ++ b ∷ []))
chosen requests bookings b choice = subst (ChosenFrom (requests ++ request_of b ∷ [])) (sym (map-append request_of bookings (b ∷ []))) (chosen-push (request_of b) choice)

pub answered : (old : ControlValue) (s : SeatState) (j party : ℕ) (given : Answer) → j < length old.net.products → Represents old s → Represents (with_answer old j party given) (after_answer s j party given)
answered old s j party (answer.Sold number) short stands = record {
  plan = stands.plan;
  bookings = ap (λ bookings. bookings ++ record { number = number; product = j; party = party } ∷ []) stands.bookings;
  next = refl;
  tallies = tallied old s j party short stands;
  choice = chosen s.requests s.bookings (record { number = number; product = j; party = party }) stands.choice;
  withheld = stands.withheld;
}
answered old s j party (answer.Leg i) short stands = record { plan = stands.plan; bookings = stands.bookings; next = stands.next; tallies = tallied old s j party short stands; choice = left-out-push (record { product = j; party = party }) stands.choice; withheld = stands.withheld }
answered old s j party answer.Fare short stands = record { plan = stands.plan; bookings = stands.bookings; next = stands.next; tallies = tallied old s j party short stands; choice = left-out-push (record { product = j; party = party }) stands.choice; withheld = stands.withheld }

pub request-stands : (old new : ControlValue) (j party : ℕ) (given : Answer) → j < length old.net.products → given ≡ verdict_of old.net old.plan old.bookings old.next j party → new ≡ with_answer old j party given
    → (s : SeatState) → Represents old s → Represents new (after_request old.net s j party)
request-stands old new j party given short is changed s stands =
    let after : after_answer s j party given ≡ after_request old.net s j party = ap (after_answer s j party) (is ∙ sym (answer-same old s j party stands)) in
    subst (λ (control : ControlValue). Represents control (after_request old.net s j party)) (sym changed)
    (subst (λ (s' : SeatState). Represents (with_answer old j party given) s') after (answered old s j party given short stands))

-- the same where the controller is seen through its parts
pub request-stands-through : (inside old new : ControlValue) (j party : ℕ) (given : Answer) → inside ≡ old → j < length old.net.products → given ≡ verdict_of old.net old.plan old.bookings old.next j party → new ≡ with_answer inside j party given
    → (s : SeatState) → Represents old s → Represents new (after_request old.net s j party)
request-stands-through inside old new j party given is short verdict changed = request-stands old new j party given short verdict (changed ∙ ap (λ (control : ControlValue). with_answer control j party given) is)

-- what the book's next booking makes of the controller
pub sold-is : (net : NetworkValue) (plan : PlanValue) (book new : BookValue) (tallies more : List ℕ) (withheld j party number : ℕ) → number ≡ book.next → new ≡ with_booking book j party → more ≡ with_request net tallies j party
    → record { net = net; plan = plan; bookings = new.bookings; next = new.next; tallies = more; withheld = withheld }
    ≡ with_answer (record { net = net; plan = plan; bookings = book.bookings; next = book.next; tallies = tallies; withheld = withheld }) j party (answer.Sold number)
sold-is net plan book new tallies more withheld j party number is added grown =
    (λ k. record { net = net; plan = plan; bookings = (added k).bookings; next = (added k).next; tallies = grown k; withheld = withheld })
    ∙ ap (λ n. with_answer (record { net = net; plan = plan; bookings = book.bookings; next = book.next; tallies = tallies; withheld = withheld }) j party (answer.Sold n)) (sym is)

-- a controller after a cancellation
abbrev pub without_booking : ControlValue → ℕ → ControlValue
without_booking control number = record control {
  bookings = without control.bookings number;
  withheld = control.withheld + withheld_by control.net control.bookings number;
}

-- the states after a cancellation, where the controller is seen through its parts
pub cancelled-stands : (inside old new : ControlValue) (number : ℕ) → inside ≡ old
    → new ≡ record inside { bookings = without inside.bookings number; withheld = inside.withheld + withheld_by inside.net inside.bookings number }
    → (s : SeatState) → Represents old s → Represents new (after_cancellation old.net s number)
cancelled-stands inside old new number is removed s stands =
    subst (λ (control : ControlValue). Represents control (after_cancellation old.net s number)) (sym (removed ∙ ap (λ (control : ControlValue). without_booking control number) is))
    (record {
      plan = stands.plan;
      bookings = ap (λ (bookings : List Booking). without bookings number) stands.bookings;
      next = stands.next;
      tallies = stands.tallies;
      choice = kept-chosen (λ booking. not (booking.number == number)) s.bookings stands.choice;
      withheld = λ k. stands.withheld k + withheld_by old.net (stands.bookings k) number;
    })

-- what the book without a booking makes of the controller
pub removed-is : (net : NetworkValue) (plan : PlanValue) (book new : BookValue) (tallies : List ℕ) (withheld more number : ℕ) → new ≡ record book { bookings = without book.bookings number }
    → more ≡ withheld + withheld_by net book.bookings number
    → ◌≡◌ {A = ControlValue} (record { net = net; plan = plan; bookings = new.bookings; next = new.next; tallies = tallies; withheld = more })
    (record { net = net; plan = plan; bookings = without book.bookings number; next = book.next; tallies = tallies; withheld = withheld + withheld_by net book.bookings number })
removed-is net plan book new tallies withheld more number removed grown =
    λ k. record { net = net; plan = plan; bookings = (removed k).bookings; next = (removed k).next; tallies = tallies; withheld = grown k }

-- and what a refusal makes of it
pub tallied-is : (net : NetworkValue) (plan : PlanValue) (book : BookValue) (tallies more : List ℕ) (withheld j party : ℕ) → more ≡ with_request net tallies j party
    → ◌≡◌ {A = ControlValue} (record { net = net; plan = plan; bookings = book.bookings; next = book.next; tallies = more; withheld = withheld })
    (record { net = net; plan = plan; bookings = book.bookings; next = book.next; tallies = with_request net tallies j party; withheld = withheld })
tallied-is net plan book tallies more withheld j party grown = λ k. record { net = net; plan = plan; bookings = book.bookings; next = book.next; tallies = grown k; withheld = withheld }

-- what a booking that is loaded makes of the controller, and of the states that it represents
pub loaded-is : (net : NetworkValue) (plan : PlanValue) (book new : BookValue) (tallies more : List ℕ) (withheld : ℕ) (b : Booking) → new ≡ with_loaded book b → more ≡ with_request net tallies b.product b.party
    → record { net = net; plan = plan; bookings = new.bookings; next = new.next; tallies = more; withheld = withheld }
    ≡ with_answer (record { net = net; plan = plan; bookings = book.bookings; next = book.next; tallies = tallies; withheld = withheld }) b.product b.party (answer.Sold b.number)
loaded-is net plan book new tallies more withheld b added grown = λ k. record { net = net; plan = plan; bookings = (added k).bookings; next = (added k).next; tallies = grown k; withheld = withheld }

pub loaded-stands : (inside old new : ControlValue) (b : Booking) → inside ≡ old → b.product < length old.net.products → new ≡ with_answer inside b.product b.party (answer.Sold b.number)
    → (s : SeatState) → Represents old s → Represents new (after_answer s b.product b.party (answer.Sold b.number))
loaded-stands inside old new b is short changed s stands =
    subst (λ (control : ControlValue). Represents control (after_answer s b.product b.party (answer.Sold b.number))) (sym (changed ∙ ap (λ (control : ControlValue). with_answer control b.product b.party (answer.Sold b.number)) is))
    (answered old s b.product b.party (answer.Sold b.number) short stands)

-- a controller represents some state
pub some-state : RepresentsSome
some-state control kept =
    let (requests, tallies, choice) = requests-stand control.net control.bookings control.tallies kept.tallied.capped kept.tallied.booked in (
      record { plan = control.plan; bookings = control.bookings; next = control.next; requests = requests; withheld = control.withheld },
      record { plan = refl; bookings = refl; next = refl; tallies = tallies; choice = choice; withheld = refl },
    )
