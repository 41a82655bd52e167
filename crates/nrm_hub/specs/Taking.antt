-- How one line of a client is taken, be it the first or a later one.
use Rattle.std.specs.Prelude.{ℕ, ◌≡◌, ◌+◌, Bool, true, false, List, [], bytes_eq, length, Option, Some, None, ◌≤◌, ◌||◌, if◌then◌else◌, unwrap_or}
use Rattle.nrm_session.specs.Replies.{memory, text_of}
use Rattle.nrm_frames.specs.declared.why.Why.{Why}
use Rattle.nrm_frames.specs.declared.why.Why.TheVariants as why
use Rattle.nrm_hub.specs.Asked.{asked_in}
use Rattle.nrm_hub.specs.Clients.{ClientValue, Hears, after_line, closed_for, joined_as}
use Rattle.nrm_hub.specs.Lines.{Answers, How, Refuses, at_line, denied_line, otherwise}
use Rattle.nrm_hub.specs.Register.{Joins, RegisterValue, desk_at, desk_named}
use Rattle.nrm_hub.specs.declared.limits.TheConstants.{MOST_DESKS}
use Rattle.nrm_hub.specs.declared.asked.Asked.{Asked}
use Rattle.nrm_hub.specs.declared.asked.Asked.TheVariants as asked

-- a client may greet by the name that it was opened with, and by another if it has that right
abbrev pub may_greet : ClientValue → List ℕ → Bool
may_greet c name = bytes_eq c.name name || c.rights.greet

-- the name by which a client that is no desk becomes one: that of its greeting, if it may greet by it; and its own, by any other line
abbrev pub name_by : ClientValue → Asked → Option (List ℕ)
name_by c (asked.Greeting name number) = if may_greet c name then Some name else None
name_by c other = Some c.name

-- a desk of that name isn't there
abbrev pub IsNew : RegisterValue → ClientValue → List ℕ → Type 0
IsNew r c line = (name : List ℕ) × (name_by c (asked_in line) ≡ Some name) × (desk_named r name ≡ None)

-- What one line of a client does: to what all have in common, to the client, what became of the line, and the text of its reply. Of a client
-- that is no desk yet, a greeting makes it one; so does any other line, by its own name, before it is answered.
pub data TakesLine (spare : Option ℕ) (r : RegisterValue) (c : ClientValue) (line rest : List ℕ) : RegisterValue → ClientValue → How → List ℕ → Type 0 where
  greets : (name : List ℕ) (number : Option ℕ) (r' : RegisterValue) (d n : ℕ) (c' : ClientValue) → c.desk ≡ None
      → asked_in line ≡ asked.Greeting name number → may_greet c name ≡ true → Joins spare r name r' d
      → n ≡ unwrap_or number (desk_at r' d).next → Hears (joined_as (after_line c line rest) d n) (at_line n) c'
      → TakesLine spare r c line rest r' c' otherwise (at_line n)
  may_not_greet : (name : List ℕ) (number : Option ℕ) (c' : ClientValue) → c.desk ≡ None → asked_in line ≡ asked.Greeting name number
      → may_greet c name ≡ false → Hears (after_line c line rest) denied_line c' → TakesLine spare r c line rest r c' otherwise denied_line
  lacks_memory : (c' : ClientValue) → c.desk ≡ None → IsNew r c line → Hears (after_line c line rest) (text_of memory) c'
      → TakesLine spare r c line rest r c' otherwise (text_of memory)
  too_many : c.desk ≡ None → IsNew r c line → MOST_DESKS ≤ length r.desks → spare ≡ None
      → TakesLine spare r c line rest r (closed_for (after_line c line rest) why.Desks) otherwise []
  answers : (d : ℕ) (r' : RegisterValue) (c' : ClientValue) (how : How) (text : List ℕ) → c.desk ≡ Some d → Answers r c.rights d c.number line r' how text
      → Hears (record (after_line c line rest) { number = c.number + 1 }) text c' → TakesLine spare r c line rest r' c' how text
  refuses : (d : ℕ) (reason : Why) → c.desk ≡ Some d → Refuses r c.rights d c.number line reason
      → TakesLine spare r c line rest r (closed_for (after_line c line rest) reason) otherwise []
