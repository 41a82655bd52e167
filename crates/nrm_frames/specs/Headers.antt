-- The line at the head of a frame that comes in.
use Rattle.std.specs.Prelude.{ℕ, ◌==◌, List, [], ◌∷◌, true, false, bytes_eq, codes, Option, Some, None, option_and_then, option_map, if◌then◌else◌}
use Rattle.std.specs.List.{slice_split}
use Rattle.nrm_text.specs.Names.{name_in}
use Rattle.nrm_text.specs.Numbers.{whole_between}
use Rattle.nrm_frames.specs.declared.rights.Rights.{Rights}
use Rattle.nrm_frames.specs.declared.limits.TheConstants.{LAST_PLACE, MOST_PAYLOAD}
use Rattle.nrm_frames.specs.declared.header.Header.{Header}
use Rattle.nrm_frames.specs.declared.header.Header.TheVariants as header

-- a client that may do nothing
abbrev pub no_rights : Rights
no_rights = record { look = false; book = false; cancel_own = false; cancel_any = false; plan = false; greet = false }

-- these rights and one more, by its word; `none` adds none, and no other word is one
abbrev pub with_right : Rights → List ℕ → Option Rights
with_right rights word =
    if bytes_eq word (codes "look") then Some (record rights { look = true })
    else if bytes_eq word (codes "book") then Some (record rights { book = true })
    else if bytes_eq word (codes "cancel-own") then Some (record rights { cancel_own = true })
    else if bytes_eq word (codes "cancel-any") then Some (record rights { cancel_any = true })
    else if bytes_eq word (codes "plan") then Some (record rights { plan = true })
    else if bytes_eq word (codes "greet") then Some (record rights { greet = true })
    else if bytes_eq word (codes "none") then Some rights else None

-- these rights and those of further words
abbrev pub with_rights : Rights → List (List ℕ) → Option Rights
with_rights rights [] = Some rights
with_rights rights (word ∷ more) = option_and_then (λ further. with_rights further more) (with_right rights word)

-- the rights of a word: words joined by commas
abbrev pub rights_in : List ℕ → Option Rights
rights_in word = with_rights no_rights (slice_split (λ c. c == 44) word)

-- a client at a place, with the name of its desk and its rights
abbrev pub opening_of : Option ℕ → Option (List ℕ) → Option Rights → Option Header
opening_of (Some place) (Some name) (Some rights) = Some (header.Open place name rights)
opening_of place name rights = None

abbrev pub piece_of : Option ℕ → Option ℕ → Option Header
piece_of (Some place) (Some size) = Some (header.Came place size)
piece_of place size = None

-- how many bytes come behind the line of a frame, and the place of a client
abbrev pub size_in : List ℕ → Option ℕ
size_in word = whole_between 0 MOST_PAYLOAD word

abbrev pub place_in : List ℕ → Option ℕ
place_in word = whole_between 0 LAST_PLACE word

abbrev pub header_of_one : List ℕ → Option Header
header_of_one word =
    if bytes_eq word (codes "kept") then Some header.Kept else if bytes_eq word (codes "end") then Some header.End else None

abbrev pub header_of_two : List ℕ → List ℕ → Option Header
header_of_two word next =
    if bytes_eq word (codes "gone") then option_map header.Gone (place_in next)
    else if bytes_eq word (codes "again") then option_map header.Again (size_in next) else None

abbrev pub header_of_three : List ℕ → List ℕ → List ℕ → Option Header
header_of_three word place size = if bytes_eq word (codes "came") then piece_of (place_in place) (size_in size) else None

abbrev pub header_of_four : List ℕ → List ℕ → List ℕ → List ℕ → Option Header
header_of_four word place name rights =
    if bytes_eq word (codes "open") then opening_of (place_in place) (name_in name) (rights_in rights) else None

-- the header of the words of a line, with one space between each two; other words are none
abbrev pub header_of_words : List (List ℕ) → Option Header
header_of_words (word ∷ []) = header_of_one word
header_of_words (word ∷ next ∷ []) = header_of_two word next
header_of_words (word ∷ place ∷ size ∷ []) = header_of_three word place size
header_of_words (word ∷ place ∷ name ∷ rights ∷ []) = header_of_four word place name rights
header_of_words other = None

abbrev pub header_of : List ℕ → Option Header
header_of line = header_of_words (slice_split (λ c. c == 32) line)

-- how many bytes come behind the line
abbrev pub size_of : Header → ℕ
size_of (header.Again size) = size
size_of (header.Came place size) = size
size_of other = 0
