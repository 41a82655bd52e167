-- Sessions and replies by hand, on a network of two legs with a seat each: BACK takes BC and then AB.
use Rattle.std.proofs.Common.{lit<, ap, arith, inl, inr, zero, suc}
use Rattle.std.specs.Prelude.{◌≡◌, ◌<◌, ◌≤◌, ℕ, pos, List, [], ◌∷◌, ◌++◌, codes, length, take, get_or, Option, Some, None, option_map, refl}
use Rattle.std.specs.Fmt.{digits}
use Rattle.nrm_fraction.specs.Fraction.{Fraction}
use Rattle.nrm_lp.specs.Means.{mean_value}
use Rattle.nrm_lp.specs.declared.certificate.Certificate.{Certificate}
use Rattle.nrm_model.specs.Inventory.{inventory_of, authorised_of}
use Rattle.nrm_model.specs.Network.{NetworkValue, leg_of}
use Rattle.nrm_model.specs.declared.mode.Mode.TheVariants as modes
use Rattle.nrm_samples.specs.Networks.{two_legs_authorised}
use Rattle.nrm_plan.specs.Plans.{PlanValue}
use Rattle.nrm_book.specs.Bookings.{revenue_of, sold_on}
use Rattle.nrm_control.specs.State.{SeatState, opening, after_cancellation, after_request}
use Rattle.nrm_control.specs.Standing.{ControlValue}
use Rattle.nrm_stream.specs.declared.command.Command.TheVariants as command
use Rattle.nrm_session.specs.Answering.{IsTellable, reply_in}
use Rattle.nrm_session.specs.Hindsight.{requests_in}
use Rattle.nrm_session.specs.Laws.{NoLegOversold, Solves}
use Rattle.nrm_session.specs.Money.{given_back_in_all, sold_in_all}
use Rattle.nrm_session.specs.PhysicalSeats.{DifferInSeats, SameButLegText}
use Rattle.nrm_session.specs.Serving.{SentOn, ServesBy, Streams, WritesCut}
use Rattle.nrm_session.specs.declared.serving.End.TheVariants as end
use Rattle.nrm_stream.specs.Commands.{whole_commands}
use Rattle.nrm_stream.specs.declared.command.Command.{Command}
use Rattle.nrm_session.specs.Replies.{Reply, bad, leg_told, unknown, sold, no_leg, no_fare, cancelled, hindsight_told, memory, optimised}
use Rattle.nrm_session.specs.Replies.{optimised_at, optimised_none, overflow, plan_told, text_of}
use Rattle.nrm_session.specs.Run.{Run}
use Rattle.nrm_session.specs.Step.{LooksBack, Reoptimises, Step, is_large, lacks_memory, optimises, overflows, tells, runs_out_of_memory}
use Rattle.nrm_session.specs.declared.reply.Reply.TheVariants as answered

abbrev there_and_back : NetworkValue
there_and_back = record {
  histories = 1;
  periods = 1;
  legs = record { name = codes "AB"; seats = 1; authorised = 1; cuts = [] } ∷ record { name = codes "BC"; seats = 1; authorised = 1; cuts = [] } ∷ [];
  products = record { name = codes "BACK"; fare = 500; refund = 100; legs = 1 ∷ 0 ∷ [] } ∷ record { name = codes "LOC"; fare = 200; refund = 100; legs = 0 ∷ [] } ∷ [];
  demand = 0 ∷ 0 ∷ [];
}

-- first come, first served, for every seat or for none
abbrev first_for : ℕ → List ℕ → PlanValue
first_for period left = record { mode = modes.FirstCome; period = period; left = left; certificate = None; nests = None }

abbrev first : PlanValue
first = first_for 1 (1 ∷ 1 ∷ [])

-- one seat of BACK is sold, and one was refused
abbrev sold_once : PlanValue → SeatState
sold_once plan = record {
  plan = plan;
  bookings = record { number = 1; product = 0; party = 1 } ∷ [];
  next = 2;
  requests = record { product = 0; party = 1 } ∷ record { product = 0; party = 1 } ∷ [];
  withheld = 0;
}

-- both legs refuse the second request, and the first in the product's own order is named; the request is remembered
both_legs_refuse : Run there_and_back (opening first) (command.Book (codes "BACK") 1 ∷ command.Book (codes "BACK") 1 ∷ [])
    (sold 1 ∷ no_leg (codes "BC") ∷ []) (sold_once first)
both_legs_refuse = (after_request there_and_back (opening first) 0 1, (refl, refl), (sold_once first, (refl, refl), refl))

-- the plan in force is told
a_plan : Step there_and_back (opening first) command.Plan (plan_told (codes "first\n")) (opening first)
a_plan = (refl, refl)

-- a new plan is for the seats left now, and nothing else changes; there is no second period
plans_again : Step there_and_back (sold_once first) (command.Reoptimise 1) optimised_none (sold_once (first_for 1 (0 ∷ 0 ∷ [])))
plans_again = optimises (first_for 1 (0 ∷ 0 ∷ [])) (record {
  mode_is = refl;
  left_is = refl;
  period_is = refl;
  planned = record {
    left = record { legs = refl; seats = λ i short. within i short };
    period = (omega arith, omega arith);
    certificate = refl;
    nests = refl;
  };
})
  where
    within : (i : ℕ) → i < 2 → get_or (0 ∷ 0 ∷ []) i 0 ≤ (leg_of there_and_back i).authorised
    within zero short = omega arith
    within (suc zero) short = omega arith
    within (suc (suc i)) short = absurd (omega (arith, short))

after_the_last_period : (s : SeatState) → Step there_and_back s (command.Reoptimise 2) unknown s
after_the_last_period s = (refl, refl)

-- first come, first served never runs out of memory
never_run_out : (s : SeatState) → Reoptimises there_and_back (sold_once first) 1 memory s → ⊥
never_run_out s made = by memory s refl made
  where
    by : (reply : Reply) (s' : SeatState) → reply ≡ memory → Reoptimises there_and_back (sold_once first) 1 reply s' → ⊥
    by reply s' e (optimises plan for) = planned plan.certificate e
      where
        planned : (cert : Option Certificate) → optimised_at (option_map (mean_value 1) cert) ≡ memory → ⊥
        planned None e = cc
        planned (Some cert) e = cc
    by reply s' e (overflows n number large) = cc
    by reply s' e (runs_out_of_memory solves) = solves refl

-- a line of hindsight tells a value, or it is too large, or memory runs out; nothing else, and nothing changes
never_bad : (net : NetworkValue) (s s' : SeatState) → Step net s command.Hindsight bad s' → ⊥
never_bad net s s' step = by bad refl step.0
  where
    by : (reply : Reply) → reply ≡ bad → LooksBack net s reply → ⊥
    by reply e (tells value is) = cc
    by reply e (is_large n number large) = cc
    by reply e lacks_memory = cc

may_run_out : (net : NetworkValue) (s : SeatState) → Step net s command.Hindsight memory s
may_run_out net s = (lacks_memory, refl)

-- both requests are remembered, the refused one too; one for a product that isn't there is none
both_asked : requests_in there_and_back (command.Book (codes "BACK") 1 ∷ command.Cancel 1 ∷ command.Book (codes "NONE") 1
    ∷ command.Book (codes "LOC") 2 ∷ command.Hindsight ∷ [])
    ≡ record { product = 0; party = 1 } ∷ record { product = 1; party = 2 } ∷ []
both_asked = refl

-- a leg may be full, and no more
all_sold : NoLegOversold there_and_back (sold_once first)
all_sold = λ i below. one i below
  where
    one : (i : ℕ) → i < 2 → sold_on (inventory_of there_and_back) (sold_once first).bookings i ≤ authorised_of (inventory_of there_and_back) i
    one zero below = omega arith
    one (suc zero) below = omega arith
    one (suc (suc i)) below = absurd (omega (arith, below))

sold_twice : NoLegOversold there_and_back (record (sold_once first) { bookings = record { number = 1; product = 1; party = 2 } ∷ [] }) → ⊥
sold_twice kept = let first = kept 0 (lit< tt) in omega (arith, first)

-- what a reply means where the controller stands
abbrev standing : ControlValue
standing = record {
  net = there_and_back;
  plan = first;
  bookings = record { number = 1; product = 0; party = 1 } ∷ [];
  next = 2;
  tallies = 1 ∷ 0 ∷ [];
  withheld = 0;
}

the_second_leg : reply_in standing (answered.NoLeg 1) ≡ no_leg (codes "BC")
the_second_leg = refl

the_leg_told : text_of (reply_in standing (answered.Leg 1)) ≡ codes "leg BC seats 1 authorised 1 sold 1 left 0\non BC BACK 1\n"
unfolding digits
the_leg_told = refl

a_third_leg : IsTellable there_and_back (answered.NoLeg 2) → ⊥
a_third_leg below = omega (arith, below)

-- each text once
text_of_bad : text_of bad ≡ codes "bad\n"
text_of_bad = refl

text_of_unknown : text_of unknown ≡ codes "unknown\n"
text_of_unknown = refl

text_of_sold : text_of (sold 7) ≡ codes "ok 7\n"
unfolding digits
text_of_sold = refl

text_of_no_leg : text_of (no_leg (codes "AB")) ≡ codes "no AB\n"
text_of_no_leg = refl

text_of_cancelled : text_of (cancelled 7 1000) ≡ codes "cancelled 7 1000\n"
unfolding digits
text_of_cancelled = refl

text_of_no_fare : text_of no_fare ≡ codes "no fare\n"
text_of_no_fare = refl

text_of_optimised : (value : Fraction) → value.num ≡ pos 65595 → value.den ≡ 2 → text_of (optimised value) ≡ codes "optimised 65595/2\n"
unfolding digits
text_of_optimised value num den = rw (num, den) refl

text_of_optimised_none : text_of (optimised_at None) ≡ codes "optimised none\n"
text_of_optimised_none = refl

text_of_overflow : text_of overflow ≡ codes "overflow\n"
text_of_overflow = refl

text_of_hindsight : (value : Fraction) → value.num ≡ pos 301 → value.den ≡ 2 → text_of (hindsight_told value 101 202)
    ≡ codes "hindsight 301/2 revenue 101 withheld 202\n"
unfolding digits
text_of_hindsight value num den = rw (num, den) refl

text_of_memory : text_of memory ≡ codes "memory\n"
text_of_memory = refl

-- ---- memory may run out where a linear program is solved, and nowhere else
no_program_for_a_leg : Solves there_and_back (sold_once first) (command.Leg (codes "AB")) → ⊥
no_program_for_a_leg solves = solves

no_program_by_first_come : Solves there_and_back (sold_once first) (command.Reoptimise 1) → ⊥
no_program_by_first_come solves = solves.0 refl

no_program_past_the_last_period : (plan : PlanValue) → Solves there_and_back (sold_once plan) (command.Reoptimise 2) → ⊥
no_program_past_the_last_period plan solves = omega (arith, solves.1.1)

-- ---- a put failed within `bad`, of the second line of `x`, `y` and `z`: three bytes and not four went out of it
cut_within : WritesCut there_and_back (opening first) (command.Bad ∷ command.Bad ∷ command.Bad ∷ []) (codes "bad\nbad") (opening first)
cut_within = record {
  before = command.Bad ∷ [];
  cut = command.Bad;
  after = command.Bad ∷ [];
  commands_are = refl;
  replies = bad ∷ [];
  mid = opening first;
  run = (opening first, (refl, refl), refl);
  reply = bad;
  step = (refl, refl);
  count = 3;
  short = omega arith;
  output = refl;
}

-- ---- a session ends done only at the end of the input, and within its limit; a byte too many is told with the lines before it
abbrev at_bytes : List ℕ → List ℕ → Streams
at_bytes coming held = record { coming = Some coming; held = Some held; source_faults = 0; sink_faults = 0 }

not_done_before_the_end : (whole cut : List Command → List ℕ → Type 0)
    → ServesBy whole cut (at_bytes (codes "xy") []) (at_bytes (codes "y") []) 9 end.Done → ⊥
not_done_before_the_end whole cut (taken, output, took, ended, means) = let no : codes "y" ≡ [] = ended in cc no

one_byte_too_many : (whole cut : List Command → List ℕ → Type 0) → ServesBy whole cut (at_bytes (codes "x\ny") [])
    (at_bytes [] (codes "bad\n")) 2 end.TooLong
    → (taken : List ℕ) × (output : List ℕ) × (codes "x\ny" ≡ taken ++ []) × (length taken ≡ 3) × (codes "bad\n" ≡ [] ++ output)
    × whole (whole_commands (take 2 taken)) output
one_byte_too_many whole cut served = served

-- ---- with a failed put nothing is said of what was kept back, and else it is nothing
kept_back_at_the_end : SentOn [] (codes "ok 1\n") end.Done → ⊥
kept_back_at_the_end sent = let no : codes "ok 1\n" ≡ [] = sent refl in cc no

-- ---- money, where a third is given back: 398 was paid and 131 given back, then 597 was paid; the refused party paid nothing
abbrev money_lines : List Command
money_lines = command.Book (codes "LOC") 2 ∷ command.Cancel 1 ∷ command.Cancel 1 ∷ command.Book (codes "THRU") 2 ∷ command.Book (codes "LOC") 3
    ∷ command.Book (codes "NONE") 1 ∷ []

abbrev money_replies : List Reply
money_replies = sold 1 ∷ cancelled 1 131 ∷ unknown ∷ no_leg (codes "BC") ∷ sold 2 ∷ unknown ∷ []

abbrev sold_two : SeatState
sold_two = after_request two_legs_authorised (opening first) 1 2

abbrev gave_back : SeatState
gave_back = after_cancellation two_legs_authorised sold_two 1

abbrev refused_two : SeatState
refused_two = after_request two_legs_authorised gave_back 0 2

abbrev sold_three : SeatState
sold_three = after_request two_legs_authorised refused_two 1 3

money_run : Run two_legs_authorised (opening first) money_lines money_replies sold_three
money_run = (
  sold_two,
  (refl, refl),
  (
    gave_back,
    (refl, refl),
    (
      gave_back,
      (refl, refl),
      (
        refused_two,
        (refl, refl),
        (
          sold_three,
          (refl, refl),
          (sold_three, (refl, refl), refl),
        ),
      ),
    ),
  ),
)

sold_by_hand : sold_in_all two_legs_authorised money_lines money_replies ≡ 995
sold_by_hand = refl

given_back_by_hand : given_back_in_all money_replies ≡ 131
given_back_by_hand = refl

-- the three parts of 995 are other numbers
standing_by_hand : revenue_of (inventory_of two_legs_authorised) sold_three.bookings ≡ 597
standing_by_hand = refl

withheld_by_hand : sold_three.withheld ≡ 267
withheld_by_hand = refl

-- ---- two networks that differ in their physical seats, and one that differs in authorised seats; other replies than a leg's text are the same
abbrev fewer_seats : NetworkValue
fewer_seats = record two_legs_authorised {
  legs = record { name = codes "AB"; seats = 0; authorised = 4; cuts = [] } ∷ record { name = codes "BC"; seats = 999; authorised = 1; cuts = [] } ∷ [];
}

abbrev fewer_authorised : NetworkValue
fewer_authorised = record two_legs_authorised {
  legs = record { name = codes "AB"; seats = 3; authorised = 3; cuts = [] } ∷ record { name = codes "BC"; seats = 2; authorised = 1; cuts = [] } ∷ [];
}

they_differ_in_seats : DifferInSeats two_legs_authorised fewer_seats
they_differ_in_seats = refl

they_differ_in_more : DifferInSeats two_legs_authorised fewer_authorised → ⊥
they_differ_in_more same = let four = ap (λ (net : NetworkValue). authorised_of (inventory_of net) 0) same in omega (arith, four)

another_number : SameButLegText (sold 1) (sold 2) → ⊥
another_number (inl same) = cc same
another_number (inr (text, told, sells, other)) = cc sells

another_text : SameButLegText (leg_told (codes "x")) (leg_told (codes "y"))
another_text = inr (codes "x", codes "y", refl, refl)
