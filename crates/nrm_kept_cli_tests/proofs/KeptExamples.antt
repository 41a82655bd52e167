-- Rows, steps and runs by hand, on a network of two legs: AB has 3 seats and BC has 2.
use Rattle.std.proofs.Common.{zero, suc}
use Rattle.std.specs.Prelude.{◌≡◌, ℕ, [], ◌∷◌, codes, flat_map, Some, None, Ok, Err, refl}
use Rattle.std.specs.Fmt.{digits}
use Rattle.nrm_model.specs.declared.mode.Mode.TheVariants as modes
use Rattle.nrm_plan.specs.Plans.{PlanValue}
use Rattle.nrm_book.specs.declared.booking.Booking.{Booking}
use Rattle.nrm_control.specs.State.{SeatState}
use Rattle.nrm_stream.specs.declared.command.Command.TheVariants as command
use Rattle.nrm_samples.specs.Networks.{two_legs}
use Rattle.nrm_session.specs.Replies.{sold, cancelled, memory}
use Rattle.nrm_keeper.specs.declared.row.KeptRow.{KeptRow}
use Rattle.nrm_kept_cli.specs.Jobs.{kept_job_of, store_refused_line}
use Rattle.nrm_kept_cli.specs.Laws.{carried_out, replies_to_those}
use Rattle.nrm_kept_cli.specs.Statuses.{number_of}
use Rattle.nrm_kept_cli.specs.Rows.{load, loaded_state, next_behind, nothing_loaded, rows_of}
use Rattle.nrm_kept_cli.specs.declared.status.KeptStatus.TheVariants as status
use Rattle.nrm_kept_cli.specs.Run.{KeptRun, count_after}
use Rattle.nrm_kept_cli.specs.Step.{ChangesBook, KeptStep, as_ever, not_stored, lacks_memory, told, store, kept_text}

abbrev first : PlanValue
first = record { mode = modes.FirstCome; period = 1; left = 3 ∷ 2 ∷ []; certificate = None; nests = None }

abbrev through : ℕ → ℕ → Booking
through number party = record { number = number; product = 0; party = party }

abbrev local : ℕ → ℕ → Booking
local number party = record { number = number; product = 1; party = party }

abbrev through_row : ℕ → ℕ → KeptRow
through_row number party = record { number = number; product = codes "THRU"; party = party }

abbrev local_row : ℕ → ℕ → KeptRow
local_row number party = record { number = number; product = codes "LOC"; party = party }

-- the rows of a book
rows : rows_of two_legs (through 1 2 ∷ local 4 1 ∷ []) ≡ through_row 1 2 ∷ local_row 4 1 ∷ []
rows = refl

-- rows load with gaps between their numbers, and the next number is one above the last
loads : load two_legs (local_row 2 1 ∷ through_row 7 2 ∷ []) ≡ Ok (record { bookings = local 2 1 ∷ through 7 2 ∷ []; next = 8 })
loads = refl

no_rows : load two_legs [] ≡ Ok (record { bookings = []; next = 1 })
no_rows = refl

-- the bookings are the past requests
state_of_rows : loaded_state first (record { bookings = local 2 1 ∷ []; next = 3 })
    ≡ record { plan = first; bookings = local 2 1 ∷ []; next = 3; requests = record { product = 1; party = 1 } ∷ []; withheld = 0 }
state_of_rows = refl

-- an unknown product; a number that is no higher than the one before it; 0; one too high; no seat; a party of none, and a party beyond the seats
unknown_product : load two_legs (record { number = 5; product = codes "NONE"; party = 1 } ∷ []) ≡ Err 5
unknown_product = refl

same_number : load two_legs (local_row 2 1 ∷ local_row 2 1 ∷ []) ≡ Err 2
same_number = refl

number_nought : load two_legs (local_row 0 1 ∷ []) ≡ Err 0
number_nought = refl

highest_number : load two_legs (local_row 99999999999 1 ∷ []) ≡ Ok (record { bookings = local 99999999999 1 ∷ []; next = 100000000000 })
highest_number = refl

number_too_high : load two_legs (local_row 100000000000 1 ∷ []) ≡ Err 100000000000
number_too_high = refl

no_party : load two_legs (local_row 1 0 ∷ []) ≡ Err 1
no_party = refl

-- three local seats fill AB, so the through row behind them is the one that is refused
no_seat_left : load two_legs (local_row 1 3 ∷ through_row 2 1 ∷ []) ≡ Err 2
no_seat_left = refl

-- ---- a first run: a booking of each product, and the first one cancelled
abbrev began : SeatState
began = loaded_state first nothing_loaded

abbrev one_sold : SeatState
one_sold = record { plan = first; bookings = through 1 2 ∷ []; next = 2; requests = record { product = 0; party = 2 } ∷ []; withheld = 0 }

abbrev two_sold : SeatState
two_sold = record { plan = first; bookings = through 1 2 ∷ local 2 1 ∷ []; next = 3; requests = record { product = 0; party = 2 } ∷ record { product = 1; party = 1 } ∷ []; withheld = 0 }

abbrev one_left : SeatState
one_left = record { plan = first; bookings = local 2 1 ∷ []; next = 3; requests = record { product = 0; party = 2 } ∷ record { product = 1; party = 1 } ∷ []; withheld = 0 }

first_run : KeptRun two_legs began (command.Book (codes "THRU") 2 ∷ command.Book (codes "LOC") 1 ∷ command.Cancel 1 ∷ []) (told (sold 1) ∷ told (sold 2) ∷ told (cancelled 1 1000) ∷ []) one_left
first_run = (one_sold, as_ever (sold 1) one_sold (refl, refl), (two_sold, as_ever (sold 2) two_sold (refl, refl), (one_left, as_ever (cancelled 1 1000) one_left (refl, refl), refl)))

first_output : flat_map kept_text (told (sold 1) ∷ told (sold 2) ∷ told (cancelled 1 1000) ∷ []) ≡ codes "ok 1\nok 2\ncancelled 1 1000\n"
unfolding digits
first_output = refl

first_rows : rows_of two_legs one_left.bookings ≡ local_row 2 1 ∷ []
first_rows = refl

-- and one that goes on from its rows: the cancelled booking is no past request, and its number may come again in another run
abbrev went_on : SeatState
went_on = record { plan = first; bookings = local 2 1 ∷ through 3 2 ∷ []; next = 4; requests = record { product = 1; party = 1 } ∷ record { product = 0; party = 2 } ∷ []; withheld = 0 }

second_run : KeptRun two_legs (loaded_state first (record { bookings = local 2 1 ∷ []; next = 3 })) (command.Book (codes "THRU") 2 ∷ []) (told (sold 3) ∷ []) went_on
second_run = (went_on, as_ever (sold 3) went_on (refl, refl), refl)

second_rows : rows_of two_legs went_on.bookings ≡ local_row 2 1 ∷ through_row 3 2 ∷ []
second_rows = refl

-- ---- the store fails at the second booking, which then gets the number all the same
abbrev sold_again : SeatState
sold_again = two_sold

failing_run : KeptRun two_legs began (command.Book (codes "THRU") 2 ∷ command.Book (codes "LOC") 1 ∷ command.Book (codes "LOC") 1 ∷ []) (told (sold 1) ∷ store ∷ told (sold 2) ∷ []) two_sold
failing_run = (one_sold, as_ever (sold 1) one_sold (refl, refl), (one_sold, not_stored (1, refl, refl), (two_sold, as_ever (sold 2) two_sold (refl, refl), refl)))

failing_output : flat_map kept_text (told (sold 1) ∷ store ∷ told (sold 2) ∷ []) ≡ codes "ok 1\nstore\nok 2\n"
unfolding digits
failing_output = refl

counted_once : count_after (told (sold 1) ∷ store ∷ told (sold 2) ∷ []) 4 ≡ 5
counted_once = refl

-- a request that isn't sold, and a number that isn't live, leave the book, so the store can't fail there
refused_keeps : ChangesBook two_legs began (command.Book (codes "THRU") 3) → ⊥
refused_keeps (zero, found, sells) = cc
refused_keeps (suc j, found, sells) = cc

dead_keeps : ChangesBook two_legs one_left (command.Cancel 1) → ⊥
dead_keeps (b, live) = cc

-- running out of memory there changes nothing
run_out : KeptStep two_legs two_sold (command.Cancel 2) (told memory) two_sold
run_out = lacks_memory (local 2 1, refl)

-- ---- lines and words
refused_line : store_refused_line 5 ≡ codes "refused store number 5\n"
unfolding digits
refused_line = refl

three_words : kept_job_of (codes "first" ∷ codes "F" ∷ codes "STORE" ∷ []) ≡ Some (record { mode = modes.FirstCome; file = codes "F" })
three_words = refl

no_store : kept_job_of (codes "first" ∷ codes "F" ∷ []) ≡ None
no_store = refl

-- a word more, and a mode that is none
four_words : kept_job_of (codes "first" ∷ codes "F" ∷ codes "STORE" ∷ codes "MORE" ∷ []) ≡ None
four_words = refl

no_mode : kept_job_of (codes "last" ∷ codes "F" ∷ codes "STORE" ∷ []) ≡ None
no_mode = refl

-- the count ends at the last value of u64
counted_no_further : count_after (store ∷ store ∷ []) 18446744073709551614 ≡ 18446744073709551615
counted_no_further = refl

-- the number behind some bookings, and behind none
next_numbers : (next_behind 1 [] ≡ 1) × (next_behind 1 (local 2 1 ∷ through 7 2 ∷ []) ≡ 8)
next_numbers = (refl, refl)

-- the lines that were carried out, of one that was, one whose booking wasn't stored, and one for which memory ran out
those_carried_out : (carried_out (command.Cancel 1 ∷ command.Cancel 2 ∷ command.Cancel 3 ∷ []) (told (cancelled 1 500) ∷ store ∷ told memory ∷ []) ≡ command.Cancel 1 ∷ [])
    × (replies_to_those (told (cancelled 1 500) ∷ store ∷ told memory ∷ []) ≡ cancelled 1 500 ∷ [])
those_carried_out = (refl, refl)

-- the exit statuses
numbers : (number_of status.Done ≡ 0) × (number_of status.Usage ≡ 2) × (number_of status.Refused ≡ 3) × (number_of status.ReadFault ≡ 4)
    × (number_of status.WriteFault ≡ 5) × (number_of status.NoMemory ≡ 6) × (number_of status.Overflow ≡ 7) × (number_of status.TooLong ≡ 8)
    × (number_of status.FileFault ≡ 9) × (number_of status.StoreFault ≡ 12) × (number_of status.StoreRefused ≡ 13)
numbers = (refl, refl, refl, refl, refl, refl, refl, refl, refl, refl, refl)
