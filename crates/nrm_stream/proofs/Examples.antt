-- Lines, and what they ask for.
use Rattle.std.proofs.Common.{◌≡◌, [], ◌∷◌, codes, refl, replicate, length, arith, Some, None}
use Rattle.std.specs.Fmt.{digits}
use Rattle.nrm_stream.specs.Lines.{lines_of, whole_lines}
use Rattle.nrm_stream.specs.Commands.{command_of, command_text, commands_of, whole_commands, IsCommand}
use Rattle.nrm_stream.specs.Splitting.{Feeds, finished, kept_of}
use Rattle.nrm_stream.specs.declared.command.Command.TheVariants as command

longest_name : command_of (codes "book ABCDEFGHIJKL 999") ≡ command.Book (codes "ABCDEFGHIJKL") 999
longest_name = refl

too_long_a_name : command_of (codes "book ABCDEFGHIJKLM 999") ≡ command.Bad
too_long_a_name = refl

many_bytes : command_of (replicate 1000 120) ≡ command.Bad
many_bytes = refl

one_seat : command_of (codes "book ABL 1") ≡ command.Book (codes "ABL") 1
one_seat = refl

carriage_return : command_of (codes "book ABL 1\r") ≡ command.Book (codes "ABL") 1
carriage_return = refl

cancel_nought : command_of (codes "cancel 0") ≡ command.Cancel 0
cancel_nought = refl

cancel_last : command_of (codes "cancel 999999999999") ≡ command.Cancel 999999999999
cancel_last = refl

cancel_too_great : command_of (codes "cancel 1000000000000") ≡ command.Bad
cancel_too_great = refl

the_plan : command_of (codes "plan") ≡ command.Plan
the_plan = refl

first_period : command_of (codes "reoptimise 1") ≡ command.Reoptimise 1
first_period = refl

no_period : command_of (codes "reoptimise 0") ≡ command.Bad
no_period = refl

last_period : command_of (codes "reoptimise 99") ≡ command.Reoptimise 99
last_period = refl

past_the_last_period : command_of (codes "reoptimise 100") ≡ command.Bad
past_the_last_period = refl

a_leg : command_of (codes "leg AB") ≡ command.Leg (codes "AB")
a_leg = refl

looking_back : command_of (codes "hindsight") ≡ command.Hindsight
looking_back = refl

no_party : command_of (codes "book ABL 0") ≡ command.Bad
no_party = refl

too_great_a_party : command_of (codes "book ABL 1000") ≡ command.Bad
too_great_a_party = refl

two_spaces : command_of (codes "book ABL  1") ≡ command.Bad
two_spaces = refl

upper_case : command_of (codes "BOOK ABL 1") ≡ command.Bad
upper_case = refl

nothing : command_of [] ≡ command.Bad
nothing = refl

-- what a command promises of its numbers, at both ends
within : IsCommand (command.Cancel 999999999999) × IsCommand (command.Reoptimise 1) × IsCommand (command.Reoptimise 99)
within = (omega arith, omega arith, omega arith)

above_the_numbers : IsCommand (command.Cancel 1000000000000) → ⊥
above_the_numbers h = absurd (omega arith)

below_the_periods : IsCommand (command.Reoptimise 0) → ⊥
below_the_periods h = absurd (omega arith)

above_the_periods : IsCommand (command.Reoptimise 100) → ⊥
above_the_periods h = absurd (omega arith)

three_lines : lines_of (codes "plan\n\nleg AB") ≡ codes "plan" ∷ [] ∷ codes "leg AB" ∷ []
three_lines = refl

two_whole : whole_lines (codes "plan\n\nleg AB") ≡ codes "plan" ∷ [] ∷ []
two_whole = refl

no_line : lines_of [] ≡ []
no_line = refl

ended : lines_of (codes "plan\n") ≡ codes "plan" ∷ []
ended = refl

asked : commands_of (codes "book THRU 2\nbook X 1") ≡ command.Book (codes "THRU") 2 ∷ command.Book (codes "X") 1 ∷ []
asked = refl

asked_by_whole_lines : whole_commands (codes "plan\nbook X 1") ≡ command.Plan ∷ []
asked_by_whole_lines = refl

-- a line in two pieces
first_piece : Feeds [] (codes "book AB") (7, None) (kept_of (codes "book AB"))
first_piece = (refl, refl)

second_piece : Feeds (codes "book AB") (codes "L 1\nplan") (4, Some (command.Book (codes "ABL") 1)) (kept_of [])
second_piece = (refl, refl)

-- a carriage return at the end of a piece, and its line feed in the next
return_at_a_cut : Feeds (codes "pl") (codes "an\r") (3, None) (kept_of (codes "plan\r"))
return_at_a_cut = (refl, refl)

feed_after_the_cut : Feeds (codes "plan\r") (codes "\nplan") (1, Some command.Plan) (kept_of [])
feed_after_the_cut = (refl, refl)

-- the longest good line, and one that is longer by a byte
longest_line : kept_of (codes "book ABCDEFGHIJKL 999\r") ≡ Some (codes "book ABCDEFGHIJKL 999\r")
longest_line = refl

longest_length : length (codes "book ABCDEFGHIJKL 999\r") ≡ 22
longest_length = refl

longest_asked : command_of (codes "book ABCDEFGHIJKL 999\r") ≡ command.Book (codes "ABCDEFGHIJKL") 999
longest_asked = refl

longer_line : kept_of (replicate 23 120) ≡ None
longer_line = refl

-- the end of the stream
nothing_left : finished [] ≡ None
nothing_left = refl

one_byte_left : finished (codes "x") ≡ Some command.Bad
one_byte_left = refl

left_without_a_line_feed : finished (codes "leg AB") ≡ Some (command.Leg (codes "AB"))
left_without_a_line_feed = refl

blank_behind_a_word : (command_of (codes "plan ") ≡ command.Bad) × (command_of (codes "hindsight ") ≡ command.Bad)
blank_behind_a_word = (refl, refl)

-- the words of each command, and what is read of them
written_request : command_text (command.Book (codes "ABL") 999) ≡ codes "book ABL 999"
unfolding digits
written_request = refl

written_cancellation : command_text (command.Cancel 999999999999) ≡ codes "cancel 999999999999"
unfolding digits
written_cancellation = refl

written_reoptimisation : command_text (command.Reoptimise 99) ≡ codes "reoptimise 99"
unfolding digits
written_reoptimisation = refl

written_leg : command_text (command.Leg (codes "AB")) ≡ codes "leg AB"
written_leg = refl

written_words : (command_text command.Hindsight ≡ codes "hindsight") × (command_text command.Plan ≡ codes "plan") × (command_text command.Bad ≡ codes "bad")
written_words = (refl, refl, refl)

request_read_back : command_of (command_text (command.Book (codes "ABL") 999)) ≡ command.Book (codes "ABL") 999
unfolding digits
request_read_back = refl

cancellation_read_back : command_of (command_text (command.Cancel 999999999999)) ≡ command.Cancel 999999999999
unfolding digits
cancellation_read_back = refl

reoptimisation_read_back : command_of (command_text (command.Reoptimise 99)) ≡ command.Reoptimise 99
unfolding digits
reoptimisation_read_back = refl

leg_read_back : command_of (command_text (command.Leg (codes "AB"))) ≡ command.Leg (codes "AB")
leg_read_back = refl

words_read_back : (command_of (command_text command.Hindsight) ≡ command.Hindsight) × (command_of (command_text command.Plan) ≡ command.Plan) × (command_of (command_text command.Bad) ≡ command.Bad)
words_read_back = (refl, refl, refl)
