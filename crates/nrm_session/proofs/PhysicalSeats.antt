-- Physical seats decide nothing: two networks that differ in them alone have the same steps, but for the text of a leg.
use Rattle.std.proofs.Common.{ℕ, ℤ, ◌≡◌, ◌∙◌, ◌+◌, Bool, true, false, if◌then◌else◌, List, [], ◌∷◌, length, find, map, min, nat_lt, Option, Some, None}
use Rattle.std.proofs.Common.{MatchOption, inl, inr, refl, subst}
use Rattle.std.specs.Bool.{MatchBool}
use Rattle.std.specs.List.{range_with_len}
use Rattle.std.specs.Option.{option_map_or}
use Rattle.nrm_fraction.specs.Fraction.{Fraction}
use Rattle.nrm_fraction.specs.Large.{size_limit}
use Rattle.nrm_model.specs.declared.leg.Leg.{Leg}
use Rattle.nrm_model.specs.Inventory.{inventory_of}
use Rattle.nrm_model.specs.declared.mode.Mode.{Mode}
use Rattle.nrm_model.specs.Network.{NetworkValue, leg_named, product_named, product_of}
use Rattle.nrm_lp.specs.Overflow.{Overflows}
use Rattle.nrm_lp.specs.Program.{ProgramValue}
use Rattle.nrm_simplex.specs.Solving.{IsClosing}
use Rattle.nrm_dlp.specs.Hindsight.{IsHindsight}
use Rattle.nrm_dlp.specs.Programs.{hindsight_program, opening_program, program_at}
use Rattle.nrm_book.specs.declared.booking.Booking.{Booking}
use Rattle.nrm_book.specs.Bookings.{left_on}
use Rattle.nrm_hindsight.specs.Requests.{Request, asked_for, tallies_of}
use Rattle.nrm_plan.specs.Plans.{IsOpeningPlan, IsPlanFor, OpeningOverflows, PlanOverflows, PlanValue, fare_refuses}
use Rattle.nrm_control.specs.State.{SeatState, after_answer, after_request, answer_in, seats_left}
use Rattle.nrm_control.specs.declared.answer.Answer.{Answer}
use Rattle.nrm_control.specs.declared.answer.Answer.TheVariants as answer
use Rattle.nrm_report.specs.Texts.{leg_text}
use Rattle.nrm_stream.specs.declared.command.Command.{Command}
use Rattle.nrm_stream.specs.declared.command.Command.TheVariants as command
use Rattle.nrm_session.specs.Replies.{Reply, leg_told, no_leg, plan_told, reply_to, unknown}
use Rattle.nrm_session.specs.Step.{Gives, LooksBack, Reoptimises, Step, is_large, lacks_memory, lacks_period, optimises, overflows, tells}
use Rattle.nrm_session.specs.Step.{runs_out_of_memory}
use Rattle.nrm_session.specs.Run.{Run}
use Rattle.nrm_session.specs.PhysicalSeats.{DifferInSeats, OpeningsAreSame, PhysicalSeatsDecideNothing, SameButLegText, SameButLegTexts, SessionsAreSame}
use Rattle.nrm_model.proofs.SeatlessLegs.{AreSameLegs, with_legs, count-same, inventory-same, least-same, name-same, named-same}
use Rattle.nrm_plan.proofs.SeatlessPlans.{plan_for-same, protected-same}
use Rattle.nrm_report.proofs.SeatlessTexts.{text-same}

-- a step on another network, to the same state, whose reply is the same but for the text of a leg
abbrev HasStep : NetworkValue → SeatState → Command → Reply → SeatState → Type 0
HasStep net s c reply s' = (told : Reply) × Step net s c told s' × SameButLegText reply told

-- a run on another network, to the same state, whose replies are the same but for the texts of legs
abbrev HasRun : NetworkValue → SeatState → SeatState → List Command → List Reply → Type 0
HasRun net s s' commands replies = (others : List Reply) × Run net s commands others s' × SameButLegTexts replies others

module _ (net : NetworkValue) (legs : List Leg) (same : AreSameLegs net.legs legs) where
  abbrev other : NetworkValue
  other = with_legs net legs

  -- ---- requests
  answer-same : (s : SeatState) (j party : ℕ) → answer_in net s j party ≡ answer_in other s j party
  answer-same s j party = λ m. option_map_or answer.Leg
      (find (λ i. nat_lt (left_on (inventory-same net legs same m) s.bookings i) (party + protected-same net legs same s.plan i j m))
      (product_of net j).legs)
      (if fare_refuses net s.plan j then answer.Fare else answer.Sold s.next)

  answered-same : (a : Answer) → reply_to net a ≡ reply_to other a
  answered-same (answer.Sold number) = refl
  answered-same (answer.Leg i) = λ m. no_leg (name-same net legs same i m)
  answered-same answer.Fare = refl

  -- ---- an optimisation
  seats_left-same : (bookings : List Booking) → seats_left net bookings ≡ seats_left other bookings
  seats_left-same bookings =
      λ m. map (left_on (inventory-same net legs same m) bookings) (range_with_len 0 (count-same net legs same m))

  again-same : (s : SeatState) (k : ℕ) (reply : Reply) (s' : SeatState) → Reoptimises net s k reply s' → Reoptimises other s k reply s'
  again-same s k reply s' (optimises plan for) =
      optimises plan (subst (λ left. IsPlanFor other s.plan.mode left k plan) (seats_left-same s.bookings)
      (plan_for-same net legs same s.plan.mode (seats_left net s.bookings) k plan for))
  again-same s k reply s' (overflows n number large) =
      overflows n number (subst (λ left. PlanOverflows other s.plan.mode left k n number) (seats_left-same s.bookings) large)
  again-same s k reply s' (runs_out_of_memory solves) = runs_out_of_memory solves

  -- ---- hindsight
  tallies-same : (requests : List Request) → tallies_of net requests ≡ tallies_of other requests
  tallies-same requests =
      λ m. map (λ j. min (asked_for requests j) (least-same net legs same j m)) (range_with_len 0 (length net.products))

  hindsight_program-same : (requests : List Request)
      → hindsight_program net (tallies_of net requests) ≡ hindsight_program other (tallies_of other requests)
  hindsight_program-same requests = λ m. record {
    caps = (inventory-same net legs same m).authorised;
    bounds = tallies-same requests m;
    fares = (inventory_of net).fares;
    legs = (inventory_of net).legs;
  }

  hindsight-same : (requests : List Request) (value : Fraction) → IsHindsight net (tallies_of net requests) value
      → IsHindsight other (tallies_of other requests) value
  hindsight-same requests value is = record {
    certificate = is.certificate;
    closing = subst (λ (a : ProgramValue). IsClosing a is.certificate) (hindsight_program-same requests) is.closing;
    value_is = is.value_is;
  }

  looks-same : (s : SeatState) (reply : Reply) → LooksBack net s reply → LooksBack other s reply
  looks-same s reply (tells value is) = tells value (hindsight-same s.requests value is)
  looks-same s reply (is_large n number large) =
      is_large n number (subst (λ (a : ProgramValue). Overflows size_limit a n number) (hindsight_program-same s.requests) large)
  looks-same s reply lacks_memory = lacks_memory

  -- ---- one step, and a run
  book-same : (s : SeatState) (party : ℕ) (o : Option ℕ) (reply : Reply) (s' : SeatState)
      → MatchOption o (Gives unknown reply s s') (λ j. (reply ≡ reply_to net (answer_in net s j party)) × (s' ≡ after_request net s j party))
      → MatchOption o (Gives unknown reply s s')
      (λ j. (reply ≡ reply_to other (answer_in other s j party)) × (s' ≡ after_request other s j party))
  book-same s party None reply s' gives = gives
  book-same s party (Some j) reply s' gives = (
    gives.0 ∙ answered-same (answer_in net s j party) ∙ (λ m. reply_to other (answer-same s j party m)),
    gives.1 ∙ (λ m. after_answer s j party (answer-same s j party m)),
  )

  leg_told-same : (s : SeatState) (o : Option ℕ) (reply : Reply) (s' : SeatState)
      → MatchOption o (Gives unknown reply s s') (λ i. Gives (leg_told (leg_text net s.bookings i)) reply s s')
      → (told : Reply) × MatchOption o (Gives unknown told s s') (λ i. Gives (leg_told (leg_text other s.bookings i)) told s s')
      × SameButLegText reply told
  leg_told-same s None reply s' gives = (reply, gives, inl refl)
  leg_told-same s (Some i) reply s' gives = (
    leg_told (leg_text other s.bookings i),
    (refl, gives.1),
    inr (leg_text net s.bookings i, leg_text other s.bookings i, gives.0, refl),
  )

  again-or-unknown : (s : SeatState) (k : ℕ) (lacks : Bool) (reply : Reply) (s' : SeatState)
      → MatchBool lacks (Gives unknown reply s s') (Reoptimises net s k reply s')
      → MatchBool lacks (Gives unknown reply s s') (Reoptimises other s k reply s')
  again-or-unknown s k true reply s' gives = gives
  again-or-unknown s k false reply s' gives = again-same s k reply s' gives

  step-same : (s : SeatState) (c : Command) (reply : Reply) (s' : SeatState) → Step net s c reply s' → HasStep other s c reply s'
  step-same s (command.Book name party) reply s' step = (reply, book-same s party (product_named net name) reply s' step, inl refl)
  step-same s (command.Cancel number) reply s' step = (reply, step, inl refl)
  step-same s (command.Reoptimise k) reply s' step = (reply, again-or-unknown s k (lacks_period net k) reply s' step, inl refl)
  step-same s (command.Leg name) reply s' step = subst (λ (o : Option ℕ). (told : Reply)
      × MatchOption o (Gives unknown told s s') (λ i. Gives (leg_told (leg_text other s.bookings i)) told s s') × SameButLegText reply told)
      (named-same net legs same name) (leg_told-same s (leg_named net name) reply s' step)
  step-same s command.Hindsight reply s' step = (reply, (looks-same s reply step.0, step.1), inl refl)
  step-same s command.Plan reply s' step =
      (reply, (step.0 ∙ (λ m. plan_told (text-same net legs same s.plan m)), step.1), inl refl)
  step-same s command.Bad reply s' step = (reply, step, inl refl)

  run-same : (s s' : SeatState) (commands : List Command) (replies : List Reply) → Run net s commands replies s'
      → HasRun other s s' commands replies
  run-same s s' [] [] run = ([], run, tt)
  run-same s s' [] (reply ∷ replies) run = absurd run
  run-same s s' (c ∷ commands) [] run = absurd run
  run-same s s' (c ∷ commands) (reply ∷ replies) (mid, step, run) =
      let (told, step', alike) = step-same s c reply mid step in
      let (others, run', alike') = run-same mid s' commands replies run in
      (told ∷ others, (mid, step', run'), (alike, alike'))

  program-same : opening_program net ≡ opening_program other
  program-same = λ at. program_at net (inventory-same net legs same at).authorised 1

  overflow-same : (m : Mode) (n : ℕ) (number : ℤ) → OpeningOverflows net m n number → OpeningOverflows other m n number
  overflow-same m n number large =
      subst (λ (left : List ℕ). PlanOverflows other m left 1 n number) (λ at. (inventory-same net legs same at).authorised) large

  opening-same : (m : Mode) (plan : PlanValue) → IsOpeningPlan net m plan → IsOpeningPlan other m plan
  opening-same m plan for =
      subst (λ (left : List ℕ). IsPlanFor other m left 1 plan) (λ at. (inventory-same net legs same at).authorised)
      (plan_for-same net legs same m (inventory_of net).authorised 1 plan for)

-- the other network is the one with the other's legs
module _ (net second : NetworkValue) (differ : DifferInSeats net second) where
  is-second : with_legs net second.legs ≡ second
  is-second = λ at. record {
    histories = (differ at).histories;
    periods = (differ at).periods;
    legs = second.legs;
    products = (differ at).products;
    demand = (differ at).demand;
  }

  same-legs : AreSameLegs net.legs second.legs
  same-legs = record { but_seats = λ at. (differ at).legs }

openings : (net second : NetworkValue) (m : Mode) → DifferInSeats net second → OpeningsAreSame net second m
openings net second m differ = subst (λ (o : NetworkValue). OpeningsAreSame net o m) (is-second net second differ) (record {
  plan = opening-same net second.legs (same-legs net second differ) m;
  overflow = overflow-same net second.legs (same-legs net second differ) m;
  program = program-same net second.legs (same-legs net second differ);
})

sessions : SessionsAreSame
sessions net second s s' commands replies differ run =
    subst (λ (o : NetworkValue). HasRun o s s' commands replies) (is-second net second differ)
    (run-same net second.legs (same-legs net second differ) s s' commands replies run)

pub decide-nothing : PhysicalSeatsDecideNothing
decide-nothing = record { openings = openings; sessions = sessions }
