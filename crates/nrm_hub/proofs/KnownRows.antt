-- What a desk knows is what its own rows leave.
use Rattle.std.proofs.Common.{ℕ, ◌≡◌, ◌∙◌, ◌+◌, bytes_eq, Bool, true, false, cond, List, [], ◌∷◌, ◌++◌, All, drop, length, map, nat_lt, refl, sym, ap, append-nil}
use Rattle.std.proofs.lemmas.List.{drop-map, length-map, map-append}
use Rattle.std.proofs.lemmas.List.Elements.{All-head, All-tail, All-weaker, filter-append}
use Rattle.std.proofs.lemmas.Slice.Eq.{bytes_eq-Decides}
use Rattle.std.specs.Prelude.{filter}
use Rattle.nrm_control.specs.Standing.{ControlValue}
use Rattle.nrm_hub.specs.Desks.{KnowsItsRows, entry_with, held_after, next_after, rows_of}
use Rattle.nrm_hub.specs.Register.{DeskValue, is_of_row, new_desk, trimmed, with_row}
use Rattle.nrm_hub.specs.Rows.{Entry}
use Rattle.nrm_hub.specs.declared.limits.TheConstants.{MOST_HELD}
use Rattle.nrm_hub.specs.declared.row.Row.{Row}
use Rattle.nrm_hub.proofs.RegisterLists.{map-same}
use Rattle.nrm_hub.proofs.RegisterReplies.{reply-same}

-- ---- the rows of a desk
abbrev is_of : List ℕ → Entry → Bool
is_of name entry = bytes_eq entry.desk name

one-kept : (name : List ℕ) (entry : Entry) (b : Bool) → is_of name entry ≡ b → filter (is_of name) (entry ∷ []) ≡ cond b (entry ∷ []) []
one-kept name entry b is = ap (λ (b : Bool). cond b (entry ∷ []) []) is

own-more : (name : List ℕ) (rows : List Entry) (entry : Entry) → entry.desk ≡ name → rows_of name (rows ++ entry ∷ []) ≡ rows_of name rows ++ entry ∷ []
own-more name rows entry same =
    filter-append (is_of name) rows (entry ∷ [])
    ∙ ap (λ (more : List Entry). rows_of name rows ++ more) (one-kept name entry true ((bytes_eq-Decides entry.desk name).1 same))

other-more : (name : List ℕ) (rows : List Entry) (entry : Entry) → bytes_eq entry.desk name ≡ false → rows_of name (rows ++ entry ∷ []) ≡ rows_of name rows
other-more name rows entry apart =
    filter-append (is_of name) rows (entry ∷ [])
    ∙ ap (λ (more : List Entry). rows_of name rows ++ more) (one-kept name entry false apart) ∙ append-nil (rows_of name rows)

none-first : (name : List ℕ) (entry : Entry) (rows : List Entry) (b : Bool) → is_of name entry ≡ b → b ≡ false → rows_of name rows ≡ []
    → rows_of name (entry ∷ rows) ≡ []
none-first name entry rows b is is_false none =
    ap (λ (b : Bool). cond b (entry ∷ rows_of name rows) (rows_of name rows)) (is ∙ is_false) ∙ none

pub none-of : (name : List ℕ) (rows : List Entry) → All (λ entry. is_of name entry ≡ false) rows → rows_of name rows ≡ []
none-of name [] all = refl
none-of name (entry ∷ rows) all =
    none-first name entry rows (is_of name entry) refl (All-head (λ (e : Entry). is_of name e ≡ false) entry rows all)
    (none-of name rows (All-tail (λ (e : Entry). is_of name e ≡ false) entry rows all))

-- ---- one row more
next-more : (next : ℕ) (rows : List Entry) (entry : Entry) → next_after next (rows ++ entry ∷ []) ≡ entry.sequence + 1
next-more next [] entry = refl
next-more next (first ∷ rows) entry = next-more (first.sequence + 1) rows entry

held-more : (held rows : List Entry) (entry : Entry) → held_after held (rows ++ entry ∷ []) ≡ trimmed (held_after held rows ++ entry ∷ [])
held-more held [] entry = refl
held-more held (first ∷ rows) entry = held-more (trimmed (held ++ first ∷ [])) rows entry

map-by : {A B : Type 0} (f : A → B) (xs : List A) (b c : Bool) → b ≡ c → map f (cond b xs (drop MOST_HELD xs)) ≡ cond c (map f xs) (drop MOST_HELD (map f xs))
map-by f xs true true same = refl
map-by f xs true false same = absurd (cc)
map-by f xs false true same = absurd (cc)
map-by f xs false false same = sym (drop-map f MOST_HELD xs)

map-trimmed : {A B : Type 0} (f : A → B) (xs : List A) → map f (trimmed xs) ≡ trimmed (map f xs)
map-trimmed f xs =
    map-by f xs (nat_lt (length xs) (MOST_HELD + MOST_HELD)) (nat_lt (length (map f xs)) (MOST_HELD + MOST_HELD))
    (ap (λ (n : ℕ). nat_lt n (MOST_HELD + MOST_HELD)) (sym (length-map xs f)))

-- ---- a desk knows its rows from the beginning, on the same network, and with a row of its own or of another desk
pub knows-none : (control : ControlValue) (name : List ℕ) (rows : List Entry) → All (λ entry. is_of name entry ≡ false) rows
    → KnowsItsRows control (new_desk name) rows
knows-none control name rows others =
    let none = none-of name rows others in
    record { next = sym (ap (λ (l : List Entry). next_after 1 l) none); held = sym (ap (λ (l : List Entry). held_after [] l) none) }

same-entries : (old new : ControlValue) (name : List ℕ) (held : List Row) → new.net ≡ old.net → All (λ row. is_of_row row.reply ≡ true) held
    → map (entry_with new name) held ≡ map (entry_with old name) held
same-entries old new name held same lines =
    map-same (entry_with new name) (entry_with old name) held
    (All-weaker (λ (row : Row). is_of_row row.reply ≡ true) (λ (row : Row). entry_with new name row ≡ entry_with old name row)
    (λ row line. λ i. record { desk = name; sequence = row.sequence; command = row.command; reply = reply-same old new row.reply same line i })
    held lines)

pub knows-on : (old new : ControlValue) (desk : DeskValue) (rows : List Entry) → new.net ≡ old.net → All (λ row. is_of_row row.reply ≡ true) desk.held
    → KnowsItsRows old desk rows → KnowsItsRows new desk rows
knows-on old new desk rows same lines knows = record { next = knows.next; held = same-entries old new desk.name desk.held same lines ∙ knows.held }

pub knows-other : (control : ControlValue) (desk : DeskValue) (rows : List Entry) (entry : Entry) → bytes_eq entry.desk desk.name ≡ false
    → KnowsItsRows control desk rows → KnowsItsRows control desk (rows ++ entry ∷ [])
knows-other control desk rows entry apart knows =
    let same = sym (other-more desk.name rows entry apart) in
    record {
      next = knows.next ∙ ap (λ (l : List Entry). next_after 1 l) same;
      held = knows.held ∙ ap (λ (l : List Entry). held_after [] l) same;
    }

pub knows-own : (control : ControlValue) (desk : DeskValue) (row : Row) (rows : List Entry) → KnowsItsRows control desk rows
    → KnowsItsRows control (with_row desk row) (rows ++ entry_with control desk.name row ∷ [])
knows-own control desk row rows knows =
    let entry : Entry = entry_with control desk.name row in
    let own : rows_of desk.name (rows ++ entry ∷ []) ≡ rows_of desk.name rows ++ entry ∷ [] = own-more desk.name rows entry refl in
    record {
      next = sym (ap (λ (l : List Entry). next_after 1 l) own ∙ next-more 1 (rows_of desk.name rows) entry);
      held = map-trimmed (entry_with control desk.name) (desk.held ++ row ∷ [])
          ∙ ap (λ (l : List Entry). trimmed l) (map-append (entry_with control desk.name) desk.held (row ∷ [])
          ∙ ap (λ (l : List Entry). l ++ entry ∷ []) knows.held)
          ∙ sym (ap (λ (l : List Entry). held_after [] l) own ∙ held-more [] (rows_of desk.name rows) entry);
    }
