-- What lines ask, who may, rows and their texts, and what is held of a desk, by hand.
use Rattle.std.proofs.Common.{ap, sym}
use Rattle.std.specs.Prelude.{ℕ, ◌≡◌, ◌++◌, ◌||◌, [], ◌∷◌, bytes_eq, codes, length, refl, replicate, Some, None, true, false, List}
use Rattle.std.specs.Fmt.{digits}
use Rattle.nrm_frames.specs.Headers.{no_rights}
use Rattle.nrm_frames.specs.declared.why.Why.TheVariants as why
use Rattle.nrm_stream.specs.declared.command.Command.TheVariants as command
use Rattle.nrm_session.specs.Replies.{bad, leg_told, memory, no_fare, no_leg, plan_told, sold, text_of, unknown}
use Rattle.nrm_session.specs.declared.reply.Reply.TheVariants as answered
use Rattle.nrm_hub.specs.Again.{StopsAt, no_row, not_next, row_of, unended}
use Rattle.nrm_hub.specs.Asked.{allows, asked_in, is_change, owner_of}
use Rattle.nrm_hub.specs.Clients.{ClientValue, after_line, closed_for, joined_as, new_client, whole}
use Rattle.nrm_hub.specs.Desks.{entry_in, held_after, next_after, rows_of, seller_by, turn_in}
use Rattle.nrm_hub.specs.Hub.{alone}
use Rattle.nrm_hub.specs.Lines.{at_line, available_line, bound_words, carried, denied_line, is_same, otherwise, passed, reason_used, row_under, told_text}
use Rattle.nrm_hub.specs.Register.{RegisterValue, desk_named, owners_after, there, trimmed}
use Rattle.nrm_hub.specs.Rows.{Entry, row_text, rows_text}
use Rattle.nrm_hub.specs.Taking.{TakesLine, may_greet, greets as greets_by}
use Rattle.nrm_hub.specs.declared.again.AgainFault.TheVariants as fault
use Rattle.nrm_hub.specs.declared.limits.TheConstants.{MOST_DESKS, MOST_HELD, MOST_LINE, MOST_LINES, MOST_ROWS, MOST_WAITING}
use Rattle.nrm_hub.specs.declared.row.Row.{Row}
use Rattle.nrm_control.specs.Standing.{ControlValue}
use Rattle.nrm_hub.specs.declared.asked.Asked.TheVariants as asked

-- ---- what lines ask
greets : asked_in (codes "desk DESK-A") ≡ asked.Greeting (codes "DESK-A") None
greets = refl

greets_with_a_number : asked_in (codes "desk DESK-A 7\r") ≡ asked.Greeting (codes "DESK-A") (Some 7)
greets_with_a_number = refl

no_number_0 : asked_in (codes "desk DESK-A 0") ≡ asked.Says command.Bad
no_number_0 = refl

last_number : asked_in (codes "desk A 999999999999999") ≡ asked.Greeting (codes "A") (Some 999999999999999)
last_number = refl

beyond_the_last : asked_in (codes "desk A 1000000000000000") ≡ asked.Says command.Bad
beyond_the_last = refl

small_letters : asked_in (codes "desk a") ≡ asked.Says command.Bad
small_letters = refl

asks : asked_in (codes "ask THRU") ≡ asked.Ask (codes "THRU")
asks = refl

cancels : asked_in (codes "cancel 7") ≡ asked.Says (command.Cancel 7)
cancels = refl

-- ---- who may: the bookings 1, 2 and 3 are of the desks 4, 5 and 4
first_owner : owner_of (4 ∷ 5 ∷ 4 ∷ []) 1 ≡ Some 4
first_owner = refl

no_owner : owner_of (4 ∷ 5 ∷ 4 ∷ []) 0 ≡ None
no_owner = refl

own : allows (record no_rights { cancel_own = true }) (4 ∷ 5 ∷ []) 5 (command.Cancel 2) ≡ true
own = refl

not_own : allows (record no_rights { cancel_own = true }) (4 ∷ 5 ∷ []) 5 (command.Cancel 1) ≡ false
not_own = refl

nobodys : allows (record no_rights { cancel_own = true }) (4 ∷ 5 ∷ []) 5 (command.Cancel 3) ≡ false
nobodys = refl

any : allows (record no_rights { cancel_any = true }) [] 5 (command.Cancel 3) ≡ true
any = refl

plans : allows (record no_rights { plan = true }) [] 0 command.Plan ≡ false
plans = refl

reoptimises : allows (record no_rights { plan = true }) [] 0 (command.Reoptimise 1) ≡ true
reoptimises = refl

looks : allows (record no_rights { look = true }) [] 0 command.Hindsight ≡ true
looks = refl

bad_is_anybodys : allows no_rights [] 0 command.Bad ≡ true
bad_is_anybodys = refl

looks_change_nothing : is_change command.Plan ≡ false
looks_change_nothing = refl

-- ---- rows
row : row_text 12 (codes "DESK-A") 3 (command.Book (codes "THRU") 2) (sold 4) ≡ codes "12\tDESK-A\t3\tbook THRU 2\tok 4\n"
unfolding digits
row = refl

two_rows : rows_text 6 (record { desk = codes "A"; sequence = 1; command = command.Cancel 2; reply = unknown }
    ∷ record { desk = codes "B"; sequence = 9; command = command.Reoptimise 2; reply = no_fare } ∷ [])
    ≡ codes "7\tA\t1\tcancel 2\tunknown\n8\tB\t9\treoptimise 2\tno fare\n"
unfolding digits
two_rows = refl

read : row_of (codes "12\tDESK-A\t3\tbook THRU 2\tok 4")
    ≡ Some (record { number = 12; name = codes "DESK-A"; sequence = 3; command = command.Book (codes "THRU") 2 })
read = refl

look_is_no_row : row_of (codes "12\tDESK-A\t3\tplan\tfirst") ≡ None
look_is_no_row = refl

four_fields : row_of (codes "12\tDESK-A\t3\tbook THRU 2") ≡ None
four_fields = refl

-- ---- what became of lines
has_a_row : entry_in (codes "A") 3 (carried (command.Cancel 2) unknown)
    ≡ record { desk = codes "A"; sequence = 3; command = command.Cancel 2; reply = unknown } ∷ []
has_a_row = refl

has_none : entry_in (codes "A") 3 (passed command.Plan bad) ≡ []
has_none = refl

is_a_turn : turn_in (passed command.Bad bad) ≡ (command.Bad, bad) ∷ []
is_a_turn = refl

no_turn : turn_in otherwise ≡ []
no_turn = refl

sold_by : seller_by (codes "A") (sold 3) ≡ codes "A" ∷ []
sold_by = refl

owned : owners_after (4 ∷ []) 5 (answered.Sold 2) ≡ 4 ∷ 5 ∷ []
owned = refl

not_owned : owners_after (4 ∷ []) 5 (answered.Cancelled 1 200) ≡ 4 ∷ []
not_owned = refl

-- ---- texts
greeted : at_line 12 ≡ codes "at 12\n"
unfolding digits
greeted = refl

hubs_own : denied_line ++ (text_of bad) ++ (text_of memory) ≡ codes "denied\nbad\nmemory\n"
hubs_own = refl

bounds : (bound_words (no_leg (codes "AB")) ≡ codes "leg" ∷ codes "AB" ∷ []) × (bound_words no_fare ≡ codes "fare" ∷ [])
    × (bound_words bad ≡ codes "most" ∷ [])
bounds = (refl, refl, refl)

empty_line : (told_text (leg_told (codes "leg\n")) ≡ codes "leg\n\n") × (told_text (plan_told (codes "first\n")) ≡ codes "first\n\n")
    × (told_text unknown ≡ codes "unknown\n")
empty_line = (refl, refl, refl)

-- ---- what is held of a desk
abbrev held : List Row
held = record { sequence = 3; command = command.Cancel 1; reply = answered.Unknown }
    ∷ record { sequence = 5; command = command.Cancel 2; reply = answered.Unknown } ∷ []

under_5 : row_under held 5 ≡ Some (record { sequence = 5; command = command.Cancel 2; reply = answered.Unknown })
under_5 = refl

under_4 : row_under held 4 ≡ None
under_4 = refl

used_between : reason_used held 4 ≡ why.Sequence
used_between = refl

used_before : reason_used held 2 ≡ why.Old
used_before = refl

same : is_same (command.Book (codes "A") 2) (command.Book (codes "A") 2) ≡ true
same = refl

other_party : is_same (command.Book (codes "A") 2) (command.Book (codes "A") 3) ≡ false
other_party = refl

other_kind : is_same (command.Cancel 2) (command.Reoptimise 2) ≡ false
other_kind = refl

-- ---- limits
held_at_least : MOST_HELD ≡ 100
held_at_least = refl

line_below : MOST_LINE ≡ 1000
line_below = refl

most_waiting : MOST_WAITING ≡ 131072
most_waiting = refl

most_lines : MOST_LINES ≡ 100
most_lines = refl

most_desks : MOST_DESKS ≡ 100000
most_desks = refl

most_rows : MOST_ROWS ≡ 4294967296
most_rows = refl

-- 199 rows are held, and of 200 the last hundred
still_held : length {A = Row} (trimmed (replicate 199 (record { sequence = 3; command = command.Cancel 1; reply = answered.Unknown }))) ≡ 199
still_held = refl

dropped : length {A = Row} (trimmed (replicate 200 (record { sequence = 3; command = command.Cancel 1; reply = answered.Unknown }))) ≡ 100
dropped = refl

-- ---- greetings
own_name : (c : ClientValue) → c.name ≡ codes "A" → may_greet c (codes "A") ≡ true
own_name c is = ap (λ (name : List ℕ). bytes_eq name (codes "A") || c.rights.greet) is

other_name : may_greet (new_client 0 (codes "A") (record no_rights { look = true })) (codes "B") ≡ false
other_name = refl

by_right : may_greet (new_client 0 (codes "A") (record no_rights { greet = true })) (codes "B") ≡ true
by_right = refl

-- the number of a greeting counts, though it isn't the next one of the desk
by_its_number : (r : RegisterValue) (d : ℕ) (rest : List ℕ) → desk_named r (codes "A") ≡ Some d
    → TakesLine None r (new_client 0 (codes "A") no_rights) (codes "desk A 7") rest r
    (record (joined_as (after_line (new_client 0 (codes "A") no_rights) (codes "desk A 7") rest) d 7) { told = [] ++ at_line 7 }) otherwise (at_line 7)
by_its_number r d rest is = greets_by (codes "A") (Some 7) r d 7 _ refl refl refl (there d is) refl whole

-- the line feed of a line is used with it
used_with_its_end : (after_line (new_client 0 (codes "A") no_rights) (codes "plan") []).used ≡ 5
used_with_its_end = refl

-- ---- seats that are asked for
no_product : (control : ControlValue) → available_line control (codes "THRU") None ≡ codes "ask THRU unknown\n"
no_product control = refl

-- ---- rows again: nothing stops behind the last
first-of : (line behind : List ℕ) → line ++ 10 ∷ behind ≡ [] → ⊥
first-of [] behind is = absurd (cc)
first-of (x ∷ line) behind is = absurd (cc)

no_row_is_missing : (r : RegisterValue) (n : ℕ) → StopsAt r [] (fault.NoRow n) → ⊥
no_row_is_missing r _ (unended some none) = some refl
no_row_is_missing r _ (no_row line behind cut read) = first-of line behind (sym cut)
no_row_is_missing r _ (not_next line behind row cut read late) = first-of line behind (sym cut)

-- ---- another client is the desk: of three clients the second, which is it too, is to be closed
elsewhere : alone (Some (new_client 0 [] no_rights) ∷ Some (joined_as (new_client 1 [] no_rights) 5 1)
    ∷ Some (joined_as (new_client 2 [] no_rights) 5 1) ∷ []) 2 (joined_as (new_client 2 [] no_rights) 5 1) (Some 5)
    ≡ Some (new_client 0 [] no_rights) ∷ Some (closed_for (joined_as (new_client 1 [] no_rights) 5 1) why.Elsewhere)
    ∷ Some (joined_as (new_client 2 [] no_rights) 5 1) ∷ []
elsewhere = refl

-- ---- what a desk knows: its own rows among those of another, in their order
abbrev row_by : List ℕ → ℕ → Entry
row_by name sequence = record { desk = name; sequence = sequence; command = command.Cancel 1; reply = unknown }

abbrev rows_of_two : List Entry
rows_of_two = row_by (codes "A") 3 ∷ row_by (codes "B") 9 ∷ row_by (codes "A") 5 ∷ []

own_rows : rows_of (codes "A") rows_of_two ≡ row_by (codes "A") 3 ∷ row_by (codes "A") 5 ∷ []
own_rows = refl

next_of_its_own : next_after 1 (rows_of (codes "A") rows_of_two) ≡ 6
next_of_its_own = refl

no_row_yet : next_after 1 (rows_of (codes "C") rows_of_two) ≡ 1
no_row_yet = refl

both_held : held_after [] (rows_of (codes "A") rows_of_two) ≡ row_by (codes "A") 3 ∷ row_by (codes "A") 5 ∷ []
both_held = refl
