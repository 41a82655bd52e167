-- Sessions and refusals written down, from the bytes of the file and of the stream to the bytes that are written.
use Rattle.std.specs.Prelude.{◌≡◌, ◌≢◌, ◌<◌, ◌≤◌, ℕ, ℤ, length, zero, suc, pos, get_or, List, [], ◌∷◌, map, codes, refl, Option, Some, None, Ok, Err}
use Rattle.std.proofs.Common.{◌∙◌, ap, arith, inl, inr, subst, take}
use Rattle.nrm_gen.specs.MadeNetwork.{made_network}
use Rattle.std.specs.Fmt.{digits}
use Rattle.nrm_fraction.specs.Fraction.{whole}
use Rattle.nrm_model.specs.Network.{NetworkValue, leg_of}
use Rattle.nrm_model.specs.Inventory.{inventory_of}
use Rattle.nrm_model.specs.declared.mode.Mode.{Mode}
use Rattle.nrm_model.specs.declared.mode.Mode.TheVariants as mode
use Rattle.nrm_model.specs.declared.limits.TheConstants.{MOST_STREAM_BYTES}
use Rattle.nrm_network.specs.Canonical.{canonical_file}
use Rattle.nrm_network.specs.declared.fault.Why.TheVariants as why
use Rattle.nrm_network.proofs.OnLiterals.{network_on_literals}
use Rattle.nrm_plan.specs.Plans.{IsOpeningPlan, OpeningOverflows, PlanValue}
use Rattle.nrm_plan.proofs.Plans.{one-plan}
use Rattle.nrm_report.specs.Texts.{plan_text}
use Rattle.nrm_control.specs.State.{SeatState, opening, after_request, after_cancellation}
use Rattle.nrm_stream.specs.Commands.{commands_of}
use Rattle.nrm_session.specs.Replies.{Reply, bad, unknown, sold, no_leg, no_fare, cancelled, optimised_none, overflow, hindsight_told, leg_told, plan_told}
use Rattle.nrm_dual.specs.declared.verdict.Verdict.TheVariants as verdict
use Rattle.nrm_common_cli.specs.Outside.{Outside, FilesFailed, SourceFailed, SinkFailed, Wrote}
use Rattle.nrm_cli.specs.Ends.{Completes, Ends, Failures, IsDone, OrRanOut, OrRanOutTelling, RunWrites, status_of}
use Rattle.nrm_cli.specs.Jobs.{job_of, run_file, plan_file, check_file, print_file, run_made, cut_leg, value_leg}
use Rattle.nrm_cli.specs.Tells.{IsOfNetwork, Tells, usage as tells_usage, refused as tells_refused, of_network as tells_of_network, file_fault as tells_file_fault}
use Rattle.nrm_findings.specs.Summary.{nothing_counted}
use Rattle.nrm_findings.proofs.Examples.{two_legs}
use Rattle.nrm_cli.specs.Made.{counts_from, hindsight_in, last_of}
use Rattle.nrm_findings.specs.declared.summary.Counts.{Counts}
use Rattle.nrm_cli.specs.Statuses.{number_of}
use Rattle.nrm_cli.specs.declared.status.Status.{Status}
use Rattle.nrm_cli.specs.declared.status.Status.TheVariants as status
use Rattle.nrm_common_cli.specs.Refusals.{network_under, refusal_line, no_file, at_row, file_fault_line}

-- as a file of the first version, and as it is printed
abbrev two_legs_file : List ℕ
two_legs_file = codes "periods,1,1\nleg,AB,3\nleg,BC,2\nproduct,THRU,500,AB,BC\nproduct,LOC,200,AB\n"

abbrev two_legs_printed : List ℕ
two_legs_printed = codes "periods,1,1,2\nleg,AB,3,3\nleg,BC,2,2\nproduct,THRU,500,AB,BC\nproduct,LOC,200,AB\n"

-- the opening plan of first come, first served
abbrev first : PlanValue
first = record { mode = mode.FirstCome; period = 1; left = 3 ∷ 2 ∷ []; certificate = None; nests = None }

first_planned : IsOpeningPlan two_legs mode.FirstCome first
first_planned = record { mode_is = refl; left_is = refl; period_is = refl; planned = record { left = record { legs = refl; seats = λ i short. within i short }; period = (omega arith, omega arith); certificate = refl; nests = refl } }
  where
    within : (i : ℕ) → i < 2 → get_or (3 ∷ 2 ∷ []) i 0 ≤ (leg_of two_legs i).authorised
    within zero short = omega arith
    within (suc zero) short = omega arith
    within (suc (suc i)) short = absurd (omega (arith, short))

opened : network_under (Some two_legs_file) ≡ Ok two_legs
unfolding network_on_literals
opened = refl

printed : canonical_file two_legs ≡ two_legs_printed
unfolding digits
printed = refl

-- two requests are refused, by the second leg and by the first; then a product that isn't there
abbrev requests : List ℕ
requests = codes "book THRU 2\nbook THRU 1\nbook LOC 1\nbook LOC 1\nbook X 1\n"

abbrev after_two_seats : SeatState
after_two_seats = after_request two_legs (opening first) 0 2

abbrev after_refusal : SeatState
after_refusal = after_request two_legs after_two_seats 0 1

abbrev after_three_seats : SeatState
after_three_seats = after_request two_legs after_refusal 1 1

abbrev after_requests : SeatState
after_requests = after_request two_legs after_three_seats 1 1

answered : RunWrites two_legs first (commands_of requests) (codes "ok 1\nno BC\nok 2\nno AB\nunknown\n")
unfolding digits
answered = (
  after_requests,
  record {
    replies = sold 1 ∷ no_leg (codes "BC") ∷ sold 2 ∷ no_leg (codes "AB") ∷ unknown ∷ [];
    run = (after_two_seats, (refl, refl), (after_refusal, (refl, refl), (after_three_seats, (refl, refl), (after_requests, (refl, refl), (after_requests, (refl, refl), refl)))));
    output = refl;
  },
)

-- a booking is cancelled, once; a leg is told; lines that are no good ones, and a last line without its end
abbrev mixed : List ℕ
mixed = codes "book THRU 2\ncancel 1\ncancel 1\nleg AB\nplan\n\nbook  LOC 1\nbook LOC 1"

abbrev after_cancel : SeatState
after_cancel = after_cancellation two_legs after_two_seats 1

abbrev after_mixed : SeatState
after_mixed = after_request two_legs after_cancel 1 1

answered_mixed : RunWrites two_legs first (commands_of mixed) (codes "ok 1\ncancelled 1 1000\nunknown\nleg AB seats 3 authorised 3 sold 0 left 3\nfirst\nbad\nbad\nok 2\n")
unfolding digits
answered_mixed = (
  after_mixed,
  record {
    replies = sold 1 ∷ cancelled 1 1000 ∷ unknown ∷ leg_told (codes "leg AB seats 3 authorised 3 sold 0 left 3\n") ∷ plan_told (codes "first\n") ∷ bad ∷ bad ∷ sold 2 ∷ [];
    run = (after_two_seats, (refl, refl), (after_cancel, (refl, refl), (after_cancel, (refl, refl), (after_cancel, (refl, refl), (after_cancel, (refl, refl), (after_cancel, (refl, refl), (after_cancel, (refl, refl), (after_mixed, (refl, refl), refl))))))));
    output = refl;
  },
)

refused_kind : network_under (Some (codes "periods,1,1\nfare,AB\n")) ≡ Err (at_row 2 why.Kind)
unfolding network_on_literals
refused_kind = refl

line_of_no_file : refusal_line no_file ≡ codes "refused no file\n"
line_of_no_file = refl

line_of_a_kind : refusal_line (at_row 2 why.Kind) ≡ codes "refused row 2 why 1 kind\n"
unfolding digits
line_of_a_kind = refl

line_of_a_size : refusal_line (at_row 0 why.Size) ≡ codes "refused row 0 why 13 size\n"
unfolding digits
line_of_a_size = refl

line_of_a_fault : file_fault_line ≡ codes "file fault\n"
line_of_a_fault = refl

words_of_a_run : job_of (codes "run" ∷ codes "first" ∷ codes "F" ∷ []) ≡ Some (run_file mode.FirstCome (codes "F"))
words_of_a_run = refl

words_of_a_print : job_of (codes "print" ∷ codes "F" ∷ []) ≡ Some (print_file (codes "F"))
words_of_a_print = refl

one_word : job_of (codes "run" ∷ []) ≡ None
one_word = refl

words_of_a_run_by_bid_prices : job_of (codes "run" ∷ codes "bid" ∷ codes "F" ∷ []) ≡ Some (run_file mode.Bid (codes "F"))
words_of_a_run_by_bid_prices = refl

words_of_a_plan : job_of (codes "plan" ∷ codes "bid" ∷ codes "F" ∷ []) ≡ Some (plan_file mode.Bid (codes "F"))
words_of_a_plan = refl

words_of_no_plan : job_of (codes "plan" ∷ codes "first" ∷ codes "F" ∷ []) ≡ Some (plan_file mode.FirstCome (codes "F"))
words_of_no_plan = refl

plan_without_a_mode : job_of (codes "plan" ∷ codes "F" ∷ []) ≡ None
plan_without_a_mode = refl

words_of_a_run_by_nests : job_of (codes "run" ∷ codes "davn" ∷ codes "F" ∷ []) ≡ Some (run_file mode.Davn (codes "F"))
words_of_a_run_by_nests = refl

words_of_a_made_run : job_of (codes "gen" ∷ codes "davn" ∷ codes "4294967295" ∷ []) ≡ Some (run_made mode.Davn 4294967295)
words_of_a_made_run = refl

number_too_great : job_of (codes "gen" ∷ codes "bid" ∷ codes "4294967296" ∷ []) ≡ None
number_too_great = refl

number_with_a_nought_before_it : job_of (codes "gen" ∷ codes "bid" ∷ codes "01" ∷ []) ≡ None
number_with_a_nought_before_it = refl

-- a run is summed up by the counts of all its replies but the last, and by what the last one tells
abbrev some_replies : List Reply
some_replies =
    sold 1 ∷ no_leg (codes "AB") ∷ sold 2 ∷ no_fare ∷ overflow ∷ optimised_none ∷ cancelled 2 200 ∷ unknown ∷ leg_told [] ∷ leg_told [] ∷ bad ∷ hindsight_told (whole (pos 1200)) 1000 0 ∷ []

abbrev their_counts : Counts
their_counts = record { sold = 2; no_leg = 1; no_fare = 1; cancelled = 1; unknown = 1; legs = 2; optimised = 1; overflow = 1 }

counts : counts_from nothing_counted some_replies ≡ their_counts
counts = refl

last_told : hindsight_in (last_of some_replies) ≡ Some (whole (pos 1200))
last_told = refl

no_value : hindsight_in overflow ≡ None
no_value = refl

-- each kind of reply has a count of its own
counted_apart : counts_from nothing_counted
    (no_leg (codes "AB") ∷ no_leg (codes "AB") ∷ no_fare ∷ cancelled 2 200 ∷ cancelled 3 200 ∷ cancelled 4 200 ∷ unknown ∷ unknown ∷ unknown ∷ unknown
    ∷ overflow ∷ bad ∷ [])
    ≡ record { sold = 0; no_leg = 2; no_fare = 1; cancelled = 3; unknown = 4; legs = 0; optimised = 0; overflow = 1 }
counted_apart = refl

other_mode : job_of (codes "run" ∷ codes "fast" ∷ codes "F" ∷ []) ≡ None
other_mode = refl

one_word_more : job_of (codes "print" ∷ codes "F" ∷ codes "G" ∷ []) ≡ None
one_word_more = refl

-- ---- each status by its number
numbers : map number_of (status.Done ∷ status.Wrong ∷ status.Usage ∷ status.Refused ∷ status.ReadFault ∷ status.WriteFault ∷ status.NoMemory ∷ status.Overflow ∷ status.TooLong ∷ status.FileFault ∷ status.NoLeg ∷ status.NoClass ∷ [])
    ≡ 0 ∷ 1 ∷ 2 ∷ 3 ∷ 4 ∷ 5 ∷ 6 ∷ 7 ∷ 8 ∷ 9 ∷ 10 ∷ 11 ∷ []
numbers = refl

-- each verdict by its status and its line
statuses : map status_of (verdict.Optimal ∷ verdict.WrongShape ∷ verdict.WrongProduct 0 ∷ verdict.WrongLeg 0 ∷ verdict.WrongValue ∷ [])
    ≡ status.Done ∷ status.Wrong ∷ status.Wrong ∷ status.Wrong ∷ status.Wrong ∷ []
statuses = refl

words_of_a_check : job_of (codes "check" ∷ codes "F" ∷ codes "C" ∷ []) ≡ Some (check_file (codes "F") (codes "C"))
words_of_a_check = refl

words_of_cuts : job_of (codes "cuts" ∷ codes "F" ∷ codes "AB" ∷ codes "10" ∷ []) ≡ Some (cut_leg (codes "F") (codes "AB") 10)
words_of_cuts = refl

too_many_groups : job_of (codes "cuts" ∷ codes "F" ∷ codes "AB" ∷ codes "11" ∷ []) ≡ None
too_many_groups = refl

no_groups : job_of (codes "cuts" ∷ codes "F" ∷ codes "AB" ∷ codes "0" ∷ []) ≡ None
no_groups = refl

cuts_of_no_name : job_of (codes "cuts" ∷ codes "F" ∷ codes "ab" ∷ codes "2" ∷ []) ≡ None
cuts_of_no_name = refl

words_of_values : job_of (codes "dp" ∷ codes "F" ∷ codes "AB" ∷ []) ≡ Some (value_leg (codes "F") (codes "AB"))
words_of_values = refl

values_of_no_name : job_of (codes "dp" ∷ codes "F" ∷ [] ∷ []) ≡ None
values_of_no_name = refl

-- ---- a stream of 21 bytes is short enough, so its replies are written, or memory ran out
abbrev over : Option (List ℕ) → Option (List ℕ) → Outside
over coming held = record { files = Some (λ name. Some two_legs_file); coming = coming; held = held; file_faults = 0; source_faults = 0; sink_faults = 0 }

completed : (s : Status) (after : Outside) → Completes (Some (run_file mode.FirstCome (codes "F"))) (over (Some (codes "book LOC 1\nbook X 1\n")) (Some [])) after s
    → (FilesFailed (over (Some (codes "book LOC 1\nbook X 1\n")) (Some [])) after → ⊥) → (SourceFailed (over (Some (codes "book LOC 1\nbook X 1\n")) (Some [])) after → ⊥) → (SinkFailed (over (Some (codes "book LOC 1\nbook X 1\n")) (Some [])) after → ⊥)
    → IsDone (run_file mode.FirstCome (codes "F")) two_legs (over (Some (codes "book LOC 1\nbook X 1\n")) (Some [])) after s
completed s after completes files source sink =
    completes (run_file mode.FirstCome (codes "F")) two_legs refl (λ name. Some two_legs_file, refl, opened) (record { files = λ names. files; stream = λ takes. source; output = sink })

-- ---- a made run asks nothing of the files nor of the stream, which may both have failed
abbrev nowhere : ℕ → Outside
nowhere faults = record { files = None; coming = None; held = Some []; file_faults = faults; source_faults = faults; sink_faults = 0 }

made_of_nothing : (s : Status) → Completes (Some (run_made mode.FirstCome 7)) (nowhere 0) (nowhere 1) s → IsDone (run_made mode.FirstCome 7) (made_network 7) (nowhere 0) (nowhere 1) s
made_of_nothing s completes =
    completes (run_made mode.FirstCome 7) (made_network 7) refl refl (record { files = λ names. absurd names; stream = λ takes. absurd takes; output = λ rose. omega (arith, rose) })

-- ---- a file that failed is told, and nothing else: where another text was cut, a usage line or a printed file, the files' count is as it was, so no file
-- may be fetched after a put that failed
abbrev wrote_some : ℕ → List ℕ → Outside
wrote_some files held = record { files = None; coming = None; held = Some held; file_faults = files; source_faults = 0; sink_faults = 1 }

cut_after_a_fetch : (first : ℕ) (rest : List ℕ) → first ≢ 102 → Failures status.WriteFault (nowhere 0) (wrote_some 1 (first ∷ rest)) → ⊥
cut_after_a_fetch first rest other (source, inl same) = omega (arith, same)
cut_after_a_fetch first rest other (source, inr (rose, inl front)) = by front.count front.short front.grown
  where
    by : (n : ℕ) → n < 11 → first ∷ rest ≡ take n file_fault_line → ⊥
    by zero few same = cc same
    by (suc n) few same = other (ap (λ (bytes : List ℕ). get_or bytes 0 0) same)
cut_after_a_fetch first rest other (source, inr (rose, inr whole)) = other (ap (λ (bytes : List ℕ). get_or bytes 0 0) whole)

cut_usage_after_a_fetch : Failures status.WriteFault (nowhere 0) (wrote_some 1 (codes "usage")) → ⊥
cut_usage_after_a_fetch = cut_after_a_fetch 117 (codes "sage") (λ same. omega (arith, same))

cut_file_after_a_fetch : Failures status.WriteFault (nowhere 0) (wrote_some 1 (codes "periods,1")) → ⊥
cut_file_after_a_fetch = cut_after_a_fetch 112 (codes "eriods,1") (λ same. omega (arith, same))

failed_twice : Failures status.FileFault (nowhere 0) (record (nowhere 0) { source_faults = 1 }) → ⊥
failed_twice (source, sink) = omega (arith, source)

-- ---- what each status says, once: a usage line only for words that ask for nothing, and no status but 0 for a plan
no-usage : (s : Status) → IsOfNetwork s → s ≡ status.Usage → ⊥
no-usage s fits is = rw is at fits

usage_for_a_job : (before after : Outside) → Ends (Some (print_file (codes "F"))) before after status.Usage → ⊥
usage_for_a_job before after ends = by ends.tells refl
  where
    by : {s : Status} {text : List ℕ} → Tells (Some (print_file (codes "F"))) before after s text → s ≡ status.Usage → ⊥
    by (tells_usage none) is = cc none
    by (tells_refused refusal why) is = cc
    by (tells_of_network job net opens fits told) is = no-usage _ fits is
    by (tells_file_fault job asks names rose) is = cc

-- running out of memory wrote nothing and took nothing
wrote_though_out_of_memory : Ends (Some (print_file (codes "F"))) (nowhere 0) (record (nowhere 0) { held = Some (codes "x") }) status.NoMemory → ⊥
wrote_though_out_of_memory (kept, left) = let no : codes "x" ≡ [] = kept in cc no

-- ---- what completeness says where there is an opening plan: its text is written, and the replies to a stream that is told and short
module _ (m : Mode) (file : List ℕ) (net : NetworkValue) (plan : PlanValue) (is : IsOpeningPlan net m plan) (before after : Outside) (s : Status) where
  no-overflow : (n : ℕ) (number : ℤ) → OpeningOverflows net m n number → ⊥
  no-overflow n number large = (one-plan net m (inventory_of net).authorised 1).apart plan n number is large

  same-plan : (other : PlanValue) → IsOpeningPlan net m other → other ≡ plan
  same-plan other is' = (one-plan net m (inventory_of net).authorised 1).plan plan other is is'

  planned_whole : IsDone (plan_file m file) net before after s → OrRanOut before after s status.Done (plan_text net plan)
  planned_whole (inl (inl (text, inl (other, is', same, done), wrote))) =
      inl (done, subst (λ (t : List ℕ). Wrote before after t) (same ∙ ap (plan_text net) (same-plan other is')) wrote)
  planned_whole (inl (inl (text, inr (n, number, large, overflowed, same), wrote))) = absurd (no-overflow n number large)
  planned_whole (inl (inr out)) = inr out
  planned_whole (inr never) = absurd never

  answered_whole : (stream : List ℕ) → before.coming ≡ Some stream → length stream ≤ MOST_STREAM_BYTES → IsDone (run_file m file) net before after s
      → OrRanOutTelling (λ goes output. (goes ≡ status.Done) × RunWrites net plan (commands_of stream) output) before after s
  answered_whole stream coming short (inl (inl (text, (n, number, large, overflowed, same), wrote))) = absurd (no-overflow n number large)
  answered_whole stream coming short (inl (inr out)) = inr out
  answered_whole stream coming short (inr (other, is', through)) =
      let (done, output, writes, wrote) = through stream coming short in
      inl (output, (done, subst (λ (p : PlanValue). RunWrites net p (commands_of stream) output) (same-plan other is') writes), wrote)
