-- What was sold in all is the revenue of the bookings that stand, what was given back, and what is withheld.
use Rattle.std.proofs.Common.{ℕ, ◌≡◌, ◌∙◌, ◌+◌, ◌*◌, ◌<◌, ◌==◌, All, Bool, true, false, if◌then◌else◌, not, List, [], ◌∷◌, ◌++◌, find}
use Rattle.std.proofs.Common.{Option, Some, None, MatchOption, refl, sym, ap, subst, arith}
use Rattle.std.specs.Bool.{MatchBool}
use Rattle.std.specs.Option.{option_map_or}
use Rattle.std.proofs.lemmas.List.Elements.{All-filter, All-nil, All-push}
use Rattle.std.proofs.lemmas.List.Kept.{AllPairs-filter}
use Rattle.std.proofs.lemmas.List.Quantifiers.{all_pairs_push}
use Rattle.std.proofs.lemmas.List.Sums.{sum_by-cons, sum_by_push}
use Rattle.nrm_fraction.specs.Fraction.{Fraction}
use Rattle.nrm_model.specs.Inventory.{fare_of, inventory_of}
use Rattle.nrm_model.specs.Limits.{IsNetwork}
use Rattle.nrm_model.specs.Network.{NetworkValue, leg_named, product_named, product_of}
use Rattle.nrm_model.proofs.Inventories.{fare-is}
use Rattle.nrm_book.specs.declared.booking.Booking.{Booking}
use Rattle.nrm_book.specs.Bookings.{NumbersRise, booking_numbered, revenue_of, worth_of}
use Rattle.nrm_plan.specs.Plans.{PlanValue, fare_refuses, value_of}
use Rattle.nrm_control.specs.Refunds.{refund_of, withheld_by, withheld_of}
use Rattle.nrm_control.specs.State.{SeatState, after_answer, after_cancellation, after_request, answer_in, opening}
use Rattle.nrm_control.specs.Verdict.{leg_refuses}
use Rattle.nrm_control.specs.declared.answer.Answer.{Answer}
use Rattle.nrm_control.specs.declared.answer.Answer.TheVariants as answer
use Rattle.nrm_control.proofs.Cancellations.{refund-and-rest, sum-without}
use Rattle.nrm_report.specs.Texts.{leg_text}
use Rattle.nrm_stream.specs.declared.command.Command.{Command}
use Rattle.nrm_stream.specs.declared.command.Command.TheVariants as command
use Rattle.nrm_session.specs.Money.{MoneyAddsUp, MoneyGoesOn, given_back, given_back_in_all, paid_for, sold_in_all}
use Rattle.nrm_session.specs.Replies.{Reply, cancelled, hindsight_told, leg_told, optimised_at, overflow, memory, reply_to, sold, unknown}
use Rattle.nrm_session.specs.Run.{Run}
use Rattle.nrm_session.specs.Step.{LooksBack, Reoptimises, Step, is_large, lacks_memory, lacks_period, optimises, overflows, tells}
use Rattle.nrm_session.specs.Step.{runs_out_of_memory}
use Rattle.nrm_session.proofs.Hindsights.{told-so}

-- the numbers of the bookings rise, and stay below the next one: so a number is that of one booking at most
record Numbered (s : SeatState) : Type 0 where
  rising : NumbersRise s.bookings
  below : All (λ (b : Booking). b.number < s.next) s.bookings

-- what the bookings that stand are worth, and what is withheld
abbrev held : NetworkValue → SeatState → ℕ
held net s = revenue_of (inventory_of net) s.bookings + s.withheld

-- one line: what it sold comes to that, and what it gave back goes
record Moves (net : NetworkValue) (s : SeatState) (c : Command) (reply : Reply) (s' : SeatState) : Type 0 where
  numbered : Numbered s'
  sum : held net s + paid_for net c reply ≡ held net s' + given_back reply

stays : (net : NetworkValue) (s : SeatState) (c : Command) (reply told : Reply) (s' : SeatState) → Numbered s → paid_for net c told ≡ 0
    → given_back told ≡ 0 → (reply ≡ told) × (s' ≡ s) → Moves net s c reply s'
stays net s c reply told s' numbered paid given (is, same) = record {
  numbered = subst Numbered (sym same) numbered;
  sum =
      let before = ap (held net) same in
      let none = ap (paid_for net c) is ∙ paid in
      let nothing = ap given_back is ∙ given in
      omega (arith, before, none, nothing);
}

-- ---- a request
sale-sum : (before after worth paid withheld : ℕ) → after ≡ before + worth → paid ≡ worth → before + withheld + paid ≡ after + withheld + 0
sale-sum before after worth paid withheld more own = omega (arith, more, own)

sold-moves : (net : NetworkValue) (s : SeatState) (name : List ℕ) (j party : ℕ) → Numbered s → product_named net name ≡ Some j
    → Moves net s (command.Book name party) (sold s.next) (after_answer s j party (answer.Sold s.next))
sold-moves net s name j party numbered found =
    let b : Booking = record { number = s.next; product = j; party = party } in
    let paid : paid_for net (command.Book name party) (sold s.next) ≡ worth_of (inventory_of net) b =
    ap (λ o. option_map_or (λ j. party * (product_of net j).fare) o 0) found ∙ ap (λ f. party * f) (sym (fare-is net j)) in
    record {
      numbered = record {
        rising = all_pairs_push (λ (earlier later : Booking). earlier.number < later.number) s.bookings b numbered.rising numbered.below;
        below = All-push (λ (b : Booking). b.number < s.next + 1) s.bookings b (λ k d at. omega (arith, numbered.below k d at))
            (omega arith);
      };
      sum = sale-sum (revenue_of (inventory_of net) s.bookings) (revenue_of (inventory_of net) (s.bookings ++ b ∷ []))
          (worth_of (inventory_of net) b) (paid_for net (command.Book name party) (sold s.next)) s.withheld
          (sum_by_push (worth_of (inventory_of net)) s.bookings b) paid;
    }

abbrev AnswerMoves : NetworkValue → SeatState → List ℕ → ℕ → ℕ → Answer → Type 0
AnswerMoves net s name j party given = Moves net s (command.Book name party) (reply_to net given) (after_answer s j party given)

request-moves : (net : NetworkValue) (s : SeatState) (name : List ℕ) (j party : ℕ) → Numbered s → product_named net name ≡ Some j
    → Moves net s (command.Book name party) (reply_to net (answer_in net s j party)) (after_request net s j party)
request-moves net s name j party numbered found =
    by (find (leg_refuses net s.plan s.bookings j party) (product_of net j).legs)
  where
    by-fare : (refuses : Bool) → AnswerMoves net s name j party (if refuses then answer.Fare else answer.Sold s.next)
    by-fare true = record { numbered = record { rising = numbered.rising; below = numbered.below }; sum = refl }
    by-fare false = sold-moves net s name j party numbered found

    by : (o : Option ℕ)
        → AnswerMoves net s name j party (option_map_or answer.Leg o (if fare_refuses net s.plan j then answer.Fare else answer.Sold s.next))
    by None = by-fare (fare_refuses net s.plan j)
    by (Some i) = record { numbered = record { rising = numbered.rising; below = numbered.below }; sum = refl }

-- ---- a cancellation
cancel-sum : (before after worth refund rest withheld by : ℕ) → after + worth ≡ before → refund + rest ≡ worth → by ≡ rest
    → before + withheld + 0 ≡ after + (withheld + by) + refund
cancel-sum before after worth refund rest withheld by gone parts is = omega (arith, gone, parts, is)

cancel-moves : (net : NetworkValue) (s : SeatState) (number : ℕ) (b : Booking) → IsNetwork net → Numbered s
    → booking_numbered s.bookings number ≡ Some b
    → Moves net s (command.Cancel number) (cancelled number (refund_of net b)) (after_cancellation net s number)
cancel-moves net s number b is numbered live = record {
  numbered = record {
    rising = AllPairs-filter (λ (earlier later : Booking). earlier.number < later.number)
        (λ (b : Booking). not (b.number == number)) s.bookings numbered.rising;
    below = All-filter (λ (b : Booking). not (b.number == number)) (λ (b : Booking). b.number < s.next) s.bookings numbered.below;
  };
  sum = cancel-sum (revenue_of (inventory_of net) s.bookings) (revenue_of (inventory_of net) (after_cancellation net s number).bookings)
      (worth_of (inventory_of net) b) (refund_of net b) (withheld_of net b) s.withheld (withheld_by net s.bookings number)
      (sum-without s.bookings number b numbered.rising live (worth_of (inventory_of net))) (refund-and-rest net is b)
      (ap (λ o. option_map_or (withheld_of net) o 0) live);
}

-- ---- no other line moves money
none-planned : (o : Option Fraction) → given_back (optimised_at o) ≡ 0
none-planned None = refl
none-planned (Some value) = refl

again-moves : (net : NetworkValue) (s : SeatState) (k : ℕ) (reply : Reply) (s' : SeatState) → Numbered s → Reoptimises net s k reply s'
    → Moves net s (command.Reoptimise k) reply s'
again-moves net s k reply s' numbered (optimises plan for) = record {
  numbered = record { rising = numbered.rising; below = numbered.below };
  sum = omega (arith, none-planned (value_of net plan));
}
again-moves net s k reply s' numbered (overflows n number large) =
    stays net s (command.Reoptimise k) overflow overflow s numbered refl refl (refl, refl)
again-moves net s k reply s' numbered (runs_out_of_memory solves) =
    stays net s (command.Reoptimise k) memory memory s numbered refl refl (refl, refl)

none-looking : (net : NetworkValue) (s : SeatState) (reply : Reply) → LooksBack net s reply → given_back reply ≡ 0
none-looking net s reply (tells value is) = refl
none-looking net s reply (is_large n number large) = refl
none-looking net s reply lacks_memory = refl

-- ---- any line
step-moves : (net : NetworkValue) (s : SeatState) (c : Command) (reply : Reply) (s' : SeatState) → IsNetwork net → Numbered s
    → Step net s c reply s' → Moves net s c reply s'
step-moves net s (command.Book name party) reply s' is numbered step = by (product_named net name) refl step
  where
    by : (o : Option ℕ) → product_named net name ≡ o → MatchOption o ((reply ≡ unknown) × (s' ≡ s))
        (λ j. (reply ≡ reply_to net (answer_in net s j party)) × (s' ≡ after_request net s j party))
        → Moves net s (command.Book name party) reply s'
    by None e told = stays net s (command.Book name party) reply unknown s' numbered refl refl told
    by (Some j) e told =
        subst (λ (r : Reply). Moves net s (command.Book name party) r s') (sym told.0)
        (subst (Moves net s (command.Book name party) (reply_to net (answer_in net s j party))) (sym told.1)
        (request-moves net s name j party numbered e))
step-moves net s (command.Cancel number) reply s' is numbered step = by (booking_numbered s.bookings number) refl step
  where
    by : (o : Option Booking) → booking_numbered s.bookings number ≡ o → MatchOption o ((reply ≡ unknown) × (s' ≡ s))
        (λ b. (reply ≡ cancelled number (refund_of net b)) × (s' ≡ after_cancellation net s number))
        → Moves net s (command.Cancel number) reply s'
    by None e told = stays net s (command.Cancel number) reply unknown s' numbered refl refl told
    by (Some b) e told =
        subst (λ (r : Reply). Moves net s (command.Cancel number) r s') (sym told.0)
        (subst (Moves net s (command.Cancel number) (cancelled number (refund_of net b))) (sym told.1)
        (cancel-moves net s number b is numbered e))
step-moves net s (command.Reoptimise k) reply s' is numbered step = by (lacks_period net k) step
  where
    by : (beyond : Bool) → MatchBool beyond ((reply ≡ unknown) × (s' ≡ s)) (Reoptimises net s k reply s')
        → Moves net s (command.Reoptimise k) reply s'
    by true told = stays net s (command.Reoptimise k) reply unknown s' numbered refl refl told
    by false made = again-moves net s k reply s' numbered made
step-moves net s (command.Leg name) reply s' is numbered step = by (leg_named net name) step
  where
    by : (o : Option ℕ) → MatchOption o ((reply ≡ unknown) × (s' ≡ s)) (λ i. (reply ≡ leg_told (leg_text net s.bookings i)) × (s' ≡ s))
        → Moves net s (command.Leg name) reply s'
    by None told = stays net s (command.Leg name) reply unknown s' numbered refl refl told
    by (Some i) told = stays net s (command.Leg name) reply (leg_told (leg_text net s.bookings i)) s' numbered refl refl told
step-moves net s command.Hindsight reply s' is numbered step =
    stays net s command.Hindsight reply reply s' numbered refl (none-looking net s reply step.0) (refl, step.1)
step-moves net s command.Plan reply s' is numbered step = stays net s command.Plan reply _ s' numbered refl refl step
step-moves net s command.Bad reply s' is numbered step = stays net s command.Bad reply _ s' numbered refl refl step

-- ---- a run
run-moves : (net : NetworkValue) (s : SeatState) (commands : List Command) (replies : List Reply) (s' : SeatState) → IsNetwork net
    → Numbered s → Run net s commands replies s'
    → held net s + sold_in_all net commands replies ≡ held net s' + given_back_in_all replies
run-moves net s [] [] s' is numbered run = let same = ap (held net) run in omega (arith, same)
run-moves net s [] (reply ∷ replies) s' is numbered run = absurd run
run-moves net s (c ∷ commands) [] s' is numbered run = absurd run
run-moves net s (c ∷ commands) (reply ∷ replies) s' is numbered (mid, step, run) =
    let first = step-moves net s c reply mid is numbered step in
    let more = run-moves net mid commands replies s' is first.numbered run in
    let all = sum_by-cons given_back reply replies in
    omega (arith, first.sum, more, all)

opens : (plan : PlanValue) → Numbered (opening plan)
opens plan = record {
  rising = λ i j d low high. absurd (omega (arith, high));
  below = All-nil (λ (b : Booking). b.number < 1);
}

pub adds-up : MoneyAddsUp
adds-up net plan commands replies s is run =
    let all = run-moves net (opening plan) commands replies s is (opens plan) run in
    record {
      sum = omega (arith, all);
      told = λ value revenue withheld after step.
          let (found, worth, rest) = told-so net s (hindsight_told value revenue withheld) value revenue withheld step.0 refl in
          (sym worth, sym rest);
    }

pub goes-on : MoneyGoesOn
goes-on net s commands replies s' is numbered run =
    let all = run-moves net s commands replies s' is (record { rising = numbered.rising; below = numbered.below }) run in omega (arith, all)
