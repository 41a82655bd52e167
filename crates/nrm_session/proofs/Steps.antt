-- The steps that a controller makes, and their replies.
use Rattle.std.proofs.Common.{ℕ, ℤ, ◌≡◌, ◌≢◌, ◌∙◌, ◌+◌, Bool, false, List, Option, Some, None, Result, Ok, Err, MatchOption, OnErr, OnOk, IfErr, IfOk, option_map, pos, refl, sym}
use Rattle.std.proofs.Common.{ap, subst, arith}
use Rattle.std.specs.Bool.{MatchBool}
use Rattle.nrm_fraction.specs.Fraction.{Fraction, ◌over◌}
use Rattle.nrm_model.specs.Inventory.{inventory_of}
use Rattle.nrm_model.specs.Network.{NetworkValue, leg_named, leg_of, product_named}
use Rattle.nrm_model.specs.declared.mode.Mode.{Mode}
use Rattle.nrm_model.specs.declared.mode.Mode.TheVariants as mode
use Rattle.nrm_dlp.specs.Hindsight.{HindsightOverflows, IsHindsight}
use Rattle.nrm_simplex.specs.declared.fault.SolveFault.{SolveFault}
use Rattle.nrm_simplex.specs.declared.fault.SolveFault.TheVariants as fault
use Rattle.nrm_simplex.specs.Solving.{IsSolveFault}
use Rattle.nrm_dlp.specs.Programs.{hindsight_program}
use Rattle.nrm_book.specs.declared.booking.Booking.{Booking}
use Rattle.nrm_book.specs.Bookings.{booking_numbered, revenue_of, without}
use Rattle.nrm_control.specs.Refunds.{refund_of, withheld_by}
use Rattle.nrm_control.specs.State.{SeatState, after_cancellation, after_request, answer_in, seats_left, with_plan}
use Rattle.nrm_control.specs.Standing.{ControlValue, Represents, with_answer}
use Rattle.nrm_control.specs.Verdict.{verdict_of}
use Rattle.nrm_control.specs.declared.answer.Answer.{Answer}
use Rattle.nrm_control.specs.declared.answer.Answer.TheVariants as answer
use Rattle.nrm_plan.specs.Plans.{IsPlanFault, IsPlanFor, PlanOverflows, PlanValue, value_of}
use Rattle.nrm_control.proofs.States.{answer-same}
use Rattle.nrm_report.specs.Texts.{leg_text}
use Rattle.nrm_stream.specs.declared.command.Command.TheVariants as command
use Rattle.nrm_session.specs.Replies.{Reply, unknown, no_leg, no_fare, cancelled, overflow, memory, hindsight_told, leg_told, optimised_at}
use Rattle.nrm_session.specs.Replies.{reply_to}
use Rattle.nrm_session.specs.Step.{Gives, LooksBack, Reoptimises, Step, is_large, lacks_memory, lacks_period, optimises, overflows, tells}
use Rattle.nrm_session.specs.Step.{runs_out_of_memory}
use Rattle.std.specs.Int.{IsInRange}
use Rattle.nrm_session.proofs.Periods.{has-not}
use Rattle.nrm_session.specs.Answering.{Steps, reply_in}
use Rattle.nrm_session.specs.Inner.Solved.{reply_looking_back, reply_planned}

-- a request that was refused leaves the network and the next number
refused-steps : (old new : ControlValue) (name : List ℕ) (j party : ℕ) (given : Answer) → Some j ≡ product_named old.net name → given
    ≡ verdict_of old.net old.plan old.bookings old.next j party → new.net ≡ old.net → new.next ≡ old.next
    → ((s : SeatState) → Represents old s → Represents new (after_request old.net s j party))
    → Steps old new (command.Book name party) (reply_to new.net given)
refused-steps old new name j party given found refuses net next stay =
    let reply : Reply = reply_to new.net given in
    record {
      network = net;
      next = omega (arith, next);
      step = λ s stands.
          let after : SeatState = after_request old.net s j party in
          let told : reply ≡ reply_to old.net (answer_in old.net s j party) = ap (λ (net : NetworkValue). reply_to net given) net
          ∙ ap (reply_to old.net) (refuses ∙ sym (answer-same old s j party stands)) in (
            after,
            subst (λ (o : Option ℕ). MatchOption o (Gives unknown reply s after)
                (λ j'. (reply ≡ reply_to old.net (answer_in old.net s j' party)) × (after ≡ after_request old.net s j' party))) found
                (told, refl),
            stay s stands,
          );
    }

-- by a leg, and by the fare
pub leg-refuses : (old new : ControlValue) (name : List ℕ) (j party leg : ℕ) → Some j ≡ product_named old.net name → answer.Leg leg
    ≡ verdict_of old.net old.plan old.bookings old.next j party → new ≡ with_answer old j party (answer.Leg leg)
    → ((s : SeatState) → Represents old s → Represents new (after_request old.net s j party))
    → Steps old new (command.Book name party) (no_leg (leg_of new.net leg).name)
leg-refuses old new name j party leg found refuses changed =
    refused-steps old new name j party (answer.Leg leg) found refuses (ap (λ (control : ControlValue). control.net) changed)
    (ap (λ (control : ControlValue). control.next) changed)

pub fare-refuses : (old new : ControlValue) (name : List ℕ) (j party : ℕ) → Some j ≡ product_named old.net name → answer.Fare
    ≡ verdict_of old.net old.plan old.bookings old.next j party → new ≡ with_answer old j party answer.Fare
    → ((s : SeatState) → Represents old s → Represents new (after_request old.net s j party))
    → Steps old new (command.Book name party) no_fare
fare-refuses old new name j party found refuses changed =
    refused-steps old new name j party answer.Fare found refuses (ap (λ (control : ControlValue). control.net) changed)
    (ap (λ (control : ControlValue). control.next) changed)

-- a leg that was found is told of
pub leg-steps : (control : ControlValue) (name : List ℕ) (i : ℕ) → Some i ≡ leg_named control.net name
    → Steps control control (command.Leg name) (leg_told (leg_text control.net control.bookings i))
leg-steps control name i found = record {
  network = refl;
  next = omega arith;
  step = λ s stands.
      let told : Gives (leg_told (leg_text control.net s.bookings i)) (leg_told (leg_text control.net control.bookings i)) s s =
      (ap (λ bookings. leg_told (leg_text control.net bookings i)) (sym stands.bookings), refl) in (
        s,
        subst (λ (o : Option ℕ). MatchOption o (Gives unknown (leg_told (leg_text control.net control.bookings i)) s s)
            (λ i'. Gives (leg_told (leg_text control.net s.bookings i')) (leg_told (leg_text control.net control.bookings i)) s s)) found
            told,
        stands,
      );
}

-- a booking that was cancelled is one that was live
live-booking : (net : NetworkValue) (found : Option Booking) (refund : ℕ) → Some refund ≡ option_map (refund_of net) found
    → (booking : Booking) × (found ≡ Some booking) × (refund ≡ refund_of net booking)
live-booking net None refund is = cc
live-booking net (Some booking) refund is = (booking, refl, cc)

pub cancel-steps : (old new : ControlValue) (number refund : ℕ) → Some refund
    ≡ option_map (refund_of old.net) (booking_numbered old.bookings number)
    → new ≡ record old { bookings = without old.bookings number; withheld = old.withheld + withheld_by old.net old.bookings number }
    → ((s : SeatState) → Represents old s → Represents new (after_cancellation old.net s number))
    → Steps old new (command.Cancel number) (cancelled number refund)
cancel-steps old new number refund is removed stay =
    let (booking, live, given) = live-booking old.net (booking_numbered old.bookings number) refund is in
    record {
      network = ap (λ (control : ControlValue). control.net) removed;
      next = let same = ap (λ (control : ControlValue). control.next) removed in omega (arith, same);
      step = λ s stands.
          let there : Some booking ≡ booking_numbered s.bookings number =
          sym live ∙ ap (λ bookings. booking_numbered bookings number) (sym stands.bookings) in
          let after : SeatState = after_cancellation old.net s number in
          let told : (cancelled number refund ≡ cancelled number (refund_of old.net booking)) × (after ≡ after) = (ap (cancelled number) given, refl) in (
            after,
            subst (λ (o : Option Booking). MatchOption o (Gives unknown (cancelled number refund) s after)
                (λ b. (cancelled number refund ≡ cancelled number (refund_of old.net b)) × (after ≡ after))) there told,
            stay s stands,
          );
    }

-- ---- a line of hindsight, which changes nothing
module _ (control : ControlValue) where
  looks : (reply : Reply) → ((s : SeatState) → Represents control s → LooksBack control.net s reply)
      → Steps control control command.Hindsight reply
  looks reply told = record { network = refl; next = omega arith; step = λ s stands. (s, (told s stands, refl), stands) }

  hindsight-steps : (value : Fraction) (revenue withheld : ℕ) → IsHindsight control.net control.tallies value
      → revenue ≡ revenue_of (inventory_of control.net) control.bookings → withheld ≡ control.withheld
      → Steps control control command.Hindsight (hindsight_told value revenue withheld)
  hindsight-steps value revenue withheld is worth rest =
      looks (hindsight_told value revenue withheld)
      (λ s stands. subst (LooksBack control.net s)
      (λ k. hindsight_told value ((ap (revenue_of (inventory_of control.net)) stands.bookings ∙ sym worth) k) ((stands.withheld ∙ sym rest) k))
      (tells value (subst (λ (tallies : List ℕ). IsHindsight control.net tallies value) (sym stands.tallies) is)))

  hindsight-overflows : (n : ℕ) (number : ℤ) → HindsightOverflows control.net control.tallies n number
      → Steps control control command.Hindsight overflow
  hindsight-overflows n number large = looks overflow (λ s stands. is_large n number
      (subst (λ (tallies : List ℕ). HindsightOverflows control.net tallies n number) (sym stands.tallies) large))

  hindsight-lacks-memory : Steps control control command.Hindsight memory
  hindsight-lacks-memory = looks memory (λ s stands. lacks_memory)

  -- by what was answered
  pub looking-back-steps : (answer : Result (ℕ × ℕ) SolveFault) (revenue withheld : ℕ)
      → IfOk answer (λ value. IsHindsight control.net control.tallies (pos value.0 over value.1))
      → IfErr answer (IsSolveFault (hindsight_program control.net control.tallies))
      → revenue ≡ revenue_of (inventory_of control.net) control.bookings → withheld ≡ control.withheld
      → Steps control control command.Hindsight (reply_in control (reply_looking_back answer revenue withheld))
  looking-back-steps (Ok (num, den)) revenue withheld is fault worth rest = hindsight-steps (pos num over den) revenue withheld is worth rest
  looking-back-steps (Err (fault.Overflow pivots number)) revenue withheld is (n, large, counted) worth rest = hindsight-overflows n number large
  looking-back-steps (Err fault.NoMemory) revenue withheld is fault worth rest = hindsight-lacks-memory

-- ---- an optimisation at a period that the network has
module _ (old new : ControlValue) (k : ℕ) (within : IsInRange 1 old.net.periods k) where
  period : lacks_period old.net k ≡ false
  period = has-not old.net k within

  in-period : (s s' : SeatState) (reply : Reply) → Reoptimises old.net s k reply s' → Step old.net s (command.Reoptimise k) reply s'
  in-period s s' reply made = subst (λ (beyond : Bool). MatchBool beyond (Gives unknown reply s s') (Reoptimises old.net s k reply s'))
      (sym period) made

  -- what holds of the controller's plan and bookings holds of a state's that it represents
  of-state : (P : Mode → List Booking → Type 0) (s : SeatState) → Represents old s → P old.plan.mode old.bookings → P s.plan.mode s.bookings
  of-state P s stands holds =
      subst (λ (bookings : List Booking). P s.plan.mode bookings) (sym stands.bookings)
      (subst (λ (m : Mode). P m old.bookings) (ap (λ (plan : PlanValue). plan.mode) (sym stands.plan)) holds)

  planned-steps : IsPlanFor old.net old.plan.mode (seats_left old.net old.bookings) k new.plan → new ≡ record old { plan = new.plan }
      → ((s : SeatState) → Represents old s → Represents new (with_plan s new.plan)) → (told : Option Fraction) → told
      ≡ value_of old.net new.plan → Steps old new (command.Reoptimise k) (optimised_at told)
  planned-steps for rest stay told value = record {
    network = ap (λ (control : ControlValue). control.net) rest;
    next = let same = ap (λ (control : ControlValue). control.next) rest in omega (arith, same);
    step = λ s stands. (
      with_plan s new.plan,
      in-period s (with_plan s new.plan) (optimised_at told)
          (subst (λ (reply : Reply). Reoptimises old.net s k reply (with_plan s new.plan)) (ap optimised_at (sym value))
          (optimises new.plan (of-state (λ m bookings. IsPlanFor old.net m (seats_left old.net bookings) k new.plan) s stands for))),
      stay s stands,
    );
  }

  -- nothing changed
  kept-steps : new ≡ old → (reply : Reply) → ((s : SeatState) → Represents old s → Reoptimises old.net s k reply s)
      → Steps old new (command.Reoptimise k) reply
  kept-steps same reply made = record {
    network = ap (λ (control : ControlValue). control.net) same;
    next = let next = ap (λ (control : ControlValue). control.next) same in omega (arith, next);
    step = λ s stands. (s, in-period s s reply (made s stands), subst (λ (control : ControlValue). Represents control s) (sym same) stands);
  }

  overflow-steps : new ≡ old → (n : ℕ) (number : ℤ) → PlanOverflows old.net old.plan.mode (seats_left old.net old.bookings) k n number
      → Steps old new (command.Reoptimise k) overflow
  overflow-steps same n number large = kept-steps same overflow (λ s stands. overflows n number
      (of-state (λ m bookings. PlanOverflows old.net m (seats_left old.net bookings) k n number) s stands large))

  memory-steps : new ≡ old → old.plan.mode ≢ mode.FirstCome → Steps old new (command.Reoptimise k) memory
  memory-steps same solves = kept-steps same memory (λ s stands. runs_out_of_memory (of-state (λ m bookings. m ≢ mode.FirstCome) s stands solves))

  -- by what was answered
  pub replanned-steps : (answer : Result (Option (ℕ × ℕ)) SolveFault)
      → OnOk answer (IsPlanFor old.net old.plan.mode (seats_left old.net old.bookings) k new.plan)
      → IfOk answer (λ told. option_map (λ value. pos value.0 over value.1) told ≡ value_of old.net new.plan)
      → IfErr answer (IsPlanFault old.net old.plan.mode (seats_left old.net old.bookings) k)
      → OnErr answer (new ≡ old) → new ≡ record old { plan = new.plan }
      → ((s : SeatState) → Represents old s → Represents new (with_plan s new.plan))
      → Steps old new (command.Reoptimise k) (reply_in new (reply_planned answer))
  replanned-steps (Ok (Some (num, den))) for value fault same rest stay = planned-steps for rest stay (Some (pos num over den)) value
  replanned-steps (Ok None) for value fault same rest stay = planned-steps for rest stay None value
  replanned-steps (Err (fault.Overflow pivots number)) for value (n, large, counted) same rest stay = overflow-steps same n number large
  replanned-steps (Err fault.NoMemory) for value solves same rest stay = memory-steps same solves
