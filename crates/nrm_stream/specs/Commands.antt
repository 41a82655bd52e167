-- The command of a line.
use Rattle.std.specs.Prelude.{ℕ, ◌≡◌, ◌≤◌, ◌==◌, List, [], ◌∷◌, ◌++◌, map, codes, decimal, bytes_eq, Option, Some, None, IsTrue, ⊤, if◌then◌else◌}
use Rattle.std.specs.Int.{IsInRange}
use Rattle.std.specs.Option.{option_map_or}
use Rattle.std.specs.List.{slice_split}
use Rattle.std.specs.Str.Lines.{strip_carriage_return}
use Rattle.nrm_text.specs.Names.{is_name, name_in}
use Rattle.nrm_text.specs.Numbers.{whole_between}
use Rattle.nrm_text.specs.Words.{spaced}
use Rattle.nrm_model.specs.declared.limits.TheConstants.{LAST_BOOKING, MOST_PARTY}
use Rattle.nrm_stream.specs.Lines.{lines_of, whole_lines}
use Rattle.nrm_stream.specs.declared.parse.TheConstants.{LAST_PERIOD}
use Rattle.nrm_stream.specs.declared.command.Command.{Command}
use Rattle.nrm_stream.specs.declared.command.Command.TheVariants as command

-- a request, where the name is a name and the party a whole number from 1 to 999
abbrev pub booking_of : Option (List ℕ) → Option ℕ → Command
booking_of (Some product) (Some party) = command.Book product party
booking_of (Some product) None = command.Bad
booking_of None party = command.Bad

-- a word, and what follows it
abbrev pub one_word : List ℕ → Command
one_word word =
    if bytes_eq word (codes "hindsight") then command.Hindsight
    else if bytes_eq word (codes "plan") then command.Plan
    else command.Bad

abbrev pub two_words : List ℕ → List ℕ → Command
two_words word next =
    if bytes_eq word (codes "cancel") then option_map_or command.Cancel (whole_between 0 LAST_BOOKING next) command.Bad
    else if bytes_eq word (codes "reoptimise") then option_map_or command.Reoptimise (whole_between 1 LAST_PERIOD next) command.Bad
    else if bytes_eq word (codes "leg") then option_map_or command.Leg (name_in next) command.Bad
    else command.Bad

abbrev pub three_words : List ℕ → List ℕ → List ℕ → Command
three_words word name party =
    if bytes_eq word (codes "book") then booking_of (name_in name) (whole_between 1 MOST_PARTY party) else command.Bad

-- the command of the words; every other line is bad
abbrev pub command_of_words : List (List ℕ) → Command
command_of_words [] = command.Bad
command_of_words (word ∷ []) = one_word word
command_of_words (word ∷ next ∷ []) = two_words word next
command_of_words (word ∷ name ∷ party ∷ []) = three_words word name party
command_of_words (word ∷ name ∷ party ∷ further ∷ more) = command.Bad

-- the command of a line: one carriage return at its end is dropped, and one space stands between each two words
abbrev pub command_of : List ℕ → Command
command_of line = command_of_words (slice_split (λ c. c == 32) (strip_carriage_return line))

-- a request is for a party of 1 to 999, a cancellation names a number of at most twelve digits, and a plan begins at a period of 1 to 99
abbrev pub IsCommand : Command → Type 0
IsCommand (command.Book product party) = IsInRange 1 MOST_PARTY party
IsCommand (command.Cancel number) = number ≤ LAST_BOOKING
IsCommand (command.Reoptimise period) = IsInRange 1 LAST_PERIOD period
IsCommand (command.Leg name) = ⊤
IsCommand command.Hindsight = ⊤
IsCommand command.Plan = ⊤
IsCommand command.Bad = ⊤

-- the words of a command: a line that is read as it
abbrev pub command_text : Command → List ℕ
command_text (command.Book product party) = codes "book" ++ spaced product ++ spaced (decimal party)
command_text (command.Cancel number) = codes "cancel" ++ spaced (decimal number)
command_text (command.Reoptimise period) = codes "reoptimise" ++ spaced (decimal period)
command_text (command.Leg name) = codes "leg" ++ spaced name
command_text command.Hindsight = codes "hindsight"
command_text command.Plan = codes "plan"
command_text command.Bad = codes "bad"

-- a name in it is one that is read as a name
abbrev pub HasNames : Command → Type 0
HasNames (command.Book product party) = IsTrue (is_name product)
HasNames (command.Cancel number) = ⊤
HasNames (command.Reoptimise period) = ⊤
HasNames (command.Leg name) = IsTrue (is_name name)
HasNames command.Hindsight = ⊤
HasNames command.Plan = ⊤
HasNames command.Bad = ⊤

-- the words of a command are read as it
abbrev pub WrittenCommandsAreRead : Type 0
WrittenCommandsAreRead = (c : Command) → IsCommand c → HasNames c → command_of (command_text c) ≡ c

-- the commands of the whole lines of the bytes
abbrev pub whole_commands : List ℕ → List Command
whole_commands bytes = map command_of (whole_lines bytes)

-- the commands of a stream
abbrev pub commands_of : List ℕ → List Command
commands_of bytes = map command_of (lines_of bytes)
