-- What a line of a client asks of the hub, and whether the client may.
use Rattle.std.specs.Prelude.{ℕ, ◌==◌, ◌-◌, ◌||◌, ◌&&◌, Bool, true, false, List, [], ◌∷◌, bytes_eq, codes, Option, Some, None, if◌then◌else◌, slice_get, option_map, unwrap_or}
use Rattle.std.specs.List.{slice_split}
use Rattle.std.specs.Str.Lines.{strip_carriage_return}
use Rattle.nrm_text.specs.Names.{name_in}
use Rattle.nrm_text.specs.Numbers.{whole_between}
use Rattle.nrm_stream.specs.Commands.{command_of}
use Rattle.nrm_stream.specs.declared.command.Command.{Command}
use Rattle.nrm_stream.specs.declared.command.Command.TheVariants as command
use Rattle.nrm_frames.specs.declared.rights.Rights.{Rights}
use Rattle.nrm_hub.specs.declared.limits.TheConstants.{LAST_SEQUENCE}
use Rattle.nrm_hub.specs.declared.asked.Asked.{Asked}
use Rattle.nrm_hub.specs.declared.asked.Asked.TheVariants as asked

-- a greeting with a number, where both are well formed
abbrev pub greeting_of : Option (List ℕ) → Option ℕ → Option Asked
greeting_of (Some name) (Some number) = Some (asked.Greeting name (Some number))
greeting_of name number = None

abbrev pub asked_of_two : List ℕ → List ℕ → Option Asked
asked_of_two word name =
    if bytes_eq word (codes "desk") then option_map (λ n. asked.Greeting n None) (name_in name)
    else if bytes_eq word (codes "ask") then option_map asked.Ask (name_in name) else None

abbrev pub asked_of_three : List ℕ → List ℕ → List ℕ → Option Asked
asked_of_three word name number =
    if bytes_eq word (codes "desk") then greeting_of (name_in name) (whole_between 1 LAST_SEQUENCE number) else None

-- `desk NAME`, `desk NAME SEQUENCE` and `ask PRODUCT` are words to the hub
abbrev pub asked_of_words : List (List ℕ) → Option Asked
asked_of_words (word ∷ name ∷ []) = asked_of_two word name
asked_of_words (word ∷ name ∷ number ∷ []) = asked_of_three word name number
asked_of_words other = None

-- every other line is a command of the session
abbrev pub asked_in : List ℕ → Asked
asked_in line = unwrap_or (asked_of_words (slice_split (λ c. c == 32) (strip_carriage_return line))) (asked.Says (command_of line))

-- a line of this command may change something, so it has a row in the journal
abbrev pub is_change : Command → Bool
is_change (command.Book product party) = true
is_change (command.Cancel number) = true
is_change (command.Reoptimise period) = true
is_change other = false

-- the desk that a booking was sold to: the owners are those of the bookings 1, 2, 3 ..
abbrev pub owner_of : List ℕ → ℕ → Option ℕ
owner_of owners number = if number == 0 then None else slice_get owners (number - 1)

abbrev pub is_desk : ℕ → Option ℕ → Bool
is_desk desk None = false
is_desk desk (Some owner) = owner == desk

-- whether a desk may have this command carried out
abbrev pub allows : Rights → List ℕ → ℕ → Command → Bool
allows rights owners desk (command.Book product party) = rights.book
allows rights owners desk (command.Cancel number) = rights.cancel_any || (rights.cancel_own && is_desk desk (owner_of owners number))
allows rights owners desk (command.Reoptimise period) = rights.plan
allows rights owners desk command.Bad = true
allows rights owners desk other = rights.look
