-- Rows of the journal that are given again, one after another.
use Rattle.std.proofs.Common.{ℕ, ◌≡◌, ◌≢◌, ◌∙◌, ◌+◌, ◌-◌, ◌<◌, ◌≤◌, ◌==◌, Bool, true, false, List, [], ◌∷◌, ◌++◌, length, take, drop, map, get_or, Option, Some, None}
use Rattle.std.proofs.Common.{refl, sym, ap, subst, arith, append-nil, append_assoc, bytes_eq, length-append, nat_eq}
use Rattle.std.specs.Prelude.{All, not, position}
use Rattle.std.specs.List.{join_with_byte, slice_split}
use Rattle.std.proofs.Math.Seq.{get_or-append_seam, take-append_seam}
use Rattle.std.proofs.lemmas.Bool.{false≢true, true≢false}
use Rattle.std.proofs.lemmas.Iterator.Adapters.{position_from-zero}
use Rattle.std.proofs.lemmas.List.{get_or-map, length-map}
use Rattle.std.proofs.lemmas.List.Quantifiers.{position-Some}
use Rattle.std.proofs.lemmas.List.Splits.{join_with_byte-slice_split}
use Rattle.std.proofs.lemmas.List.Sums.{fails_before_first}
use Rattle.std.proofs.lemmas.Slice.Eq.{bytes_eq-Decides}
use Rattle.nrm_text.specs.Names.{name_in}
use Rattle.nrm_text.specs.Numbers.{whole_between}
use Rattle.nrm_text.proofs.Places.{missing}
use Rattle.nrm_model.proofs.NameLemmas.{number-same}
use Rattle.nrm_stream.specs.Commands.{command_of}
use Rattle.nrm_stream.specs.declared.command.Command.{Command}
use Rattle.nrm_stream.proofs.Cuts.{some-parts, split-found}
use Rattle.nrm_session.specs.Answering.{reply_in}
use Rattle.nrm_session.specs.declared.reply.Reply.{Reply as Answered}
use Rattle.nrm_session.specs.declared.reply.Reply.TheVariants as answered
use Rattle.nrm_hub.specs.Again.{FailsAgain, StopsAt, no_memory, no_row, not_next, other, row_of, row_of_fields, row_with, unended}
use Rattle.nrm_hub.specs.Asked.{is_change}
use Rattle.nrm_hub.specs.Inner.Answered.{CarriesOut, carried, ran_out}
use Rattle.nrm_hub.specs.Inner.Rows.{CarriesRow, IsRowFault, RowsAgain, read_as}
use Rattle.nrm_hub.specs.Register.{Carries, DeskValue, Joins, RegisterValue, added, desk_at, desk_named, name_at, new_desk, replaced, there}
use Rattle.nrm_hub.specs.Rows.{Entry, row_text, rows_text}
use Rattle.nrm_hub.specs.World.{GivesAgain, next, none}
use Rattle.nrm_hub.specs.declared.again.AgainFault.{AgainFault}
use Rattle.nrm_hub.specs.declared.again.AgainFault.TheVariants as fault
use Rattle.nrm_hub.specs.declared.again.ReadRow.{ReadRow}
use Rattle.nrm_hub.specs.declared.limits.TheConstants.{LAST_SEQUENCE, MOST_ROWS}

abbrev fields : List ℕ → List (List ℕ)
fields line = slice_split (λ c. c == 9) line

-- the row of a line with four tabs
five : (number name sequence command : List ℕ) (parts : List (List ℕ)) → 1 ≤ length parts
    → row_of_fields (number ∷ name ∷ sequence ∷ command ∷ parts)
    ≡ row_with (whole_between 1 MOST_ROWS number) (name_in name) (whole_between 1 LAST_SEQUENCE sequence) (command_of command)
five number name sequence command [] some = absurd (omega arith)
five number name sequence command (reply ∷ more) some = refl

pub of-five : (line number one : List ℕ) → fields line ≡ number ∷ fields one → (name two : List ℕ) → fields one ≡ name ∷ fields two
    → (sequence three : List ℕ) → fields two ≡ sequence ∷ fields three → (command four : List ℕ) → fields three ≡ command ∷ fields four
    → row_of line ≡ row_with (whole_between 1 MOST_ROWS number) (name_in name) (whole_between 1 LAST_SEQUENCE sequence) (command_of command)
of-five line number one first name two second sequence three third command four last =
    ap (λ (f : List (List ℕ)). row_of_fields f) (first ∙ ap (λ (f : List (List ℕ)). number ∷ f) (second
    ∙ ap (λ (f : List (List ℕ)). name ∷ f) (third ∙ ap (λ (f : List (List ℕ)). sequence ∷ f) last)))
    ∙ five number name sequence command (fields four) (some-parts (λ c. c == 9) four)

-- the bytes begin with the line that was cut off them
join-first : (line : List ℕ) (parts : List (List ℕ)) → 1 ≤ length parts → join_with_byte 10 (line ∷ parts) ≡ line ++ 10 ∷ join_with_byte 10 parts
join-first line [] some = absurd (omega arith)
join-first line (part ∷ more) some = refl

pub first-line : (bytes line behind : List ℕ) → slice_split (λ c. c == 10) bytes ≡ line ∷ slice_split (λ c. c == 10) behind → bytes ≡ line ++ 10 ∷ behind
first-line bytes line behind cut =
    sym (join_with_byte-slice_split 10 bytes) ∙ ap (λ (parts : List (List ℕ)). join_with_byte 10 parts) cut
    ∙ join-first line (slice_split (λ c. c == 10) behind) (some-parts (λ c. c == 10) behind)
    ∙ ap (λ (b : List ℕ). line ++ 10 ∷ b) (join_with_byte-slice_split 10 behind)

-- bytes that are one part have no end of a line
pub one-part : (bytes : List ℕ) → slice_split (λ c. c == 10) bytes ≡ bytes ∷ [] → All (λ c. (c == 10) ≡ false) bytes
one-part bytes cut = by (position (λ c. c == 10) bytes) refl
  where
    by : (at : Option ℕ) → position (λ c. c == 10) bytes ≡ at → All (λ c. (c == 10) ≡ false) bytes
    by None is = λ k d short. fails_before_first (λ c. c == 10) bytes k d (omega (arith, missing (λ c. c == 10) bytes is))
    by (Some i) is =
        let rest : List ℕ = take (length bytes - (i + 1)) (drop (i + 1) bytes) in
        let two : slice_split (λ c. c == 10) bytes ≡ take i bytes ∷ slice_split (λ c. c == 10) rest = (split-found (λ c. c == 10) bytes i is).0 in
        let some : 1 ≤ length (slice_split (λ c. c == 10) rest) = some-parts (λ c. c == 10) rest in
        absurd (omega (arith, ap (λ (parts : List (List ℕ)). length parts) (sym cut ∙ two), some))

-- who joins has the name, and no row is written for it
found-name : (r : RegisterValue) (name : List ℕ) (d : ℕ) → desk_named r name ≡ Some d → name_at r d ≡ name
found-name r name d named =
    let names : List (List ℕ) = map (λ (desk : DeskValue). desk.name) r.desks in
    let test : List ℕ → Bool = λ other. bytes_eq other name in
    let is : position test names ≡ Some d = position_from-zero test names ∙ number-same (λ (desk : DeskValue). desk.name) name r.desks names refl ∙ named in
    let (within, passes, before) = position-Some test names d [] is in
    let short : d < length r.desks = omega (arith, within, length-map r.desks (λ (desk : DeskValue). desk.name)) in
    let same : get_or names d [] ≡ name = (bytes_eq-Decides (get_or names d []) name).0 passes in
    sym (get_or-map (λ (desk : DeskValue). desk.name) r.desks d (new_desk []) [] short) ∙ same

pub joined-name : (old : RegisterValue) (name : List ℕ) (new : RegisterValue) (d : ℕ) → Joins None old name new d → name_at new d ≡ name
joined-name old name new d (there e named) = found-name old name e named
joined-name old name new d (added absent) = ap (λ (desk : DeskValue). desk.name) (get_or-append_seam old.desks (new_desk name) [] (new_desk []))
joined-name old name new d (replaced e absent full is) = absurd (cc)

pub joined-rows : (old : RegisterValue) (name : List ℕ) (new : RegisterValue) (d : ℕ) → Joins None old name new d → new.rows ≡ old.rows
joined-rows old name new d (there e named) = refl
joined-rows old name new d (added absent) = refl
joined-rows old name new d (replaced e absent full is) = refl

pub joined-text : (old : RegisterValue) (name : List ℕ) (new : RegisterValue) (d : ℕ) → Joins None old name new d → new.text ≡ old.text
joined-text old name new d (there e named) = refl
joined-text old name new d (added absent) = refl
joined-text old name new d (replaced e absent full is) = refl

-- what was carried out, but for memory, has its row
pub has-row : (old new : RegisterValue) (d sequence : ℕ) (c : Command) (a : Answered) → CarriesOut old new d sequence c a → a ≢ answered.Memory
    → Carries old new d sequence c a
has-row old new d sequence c a (ran_out passes) apart = absurd (apart refl)
has-row old new d sequence c a (carried b line carries) apart = carries

pub carried-so : (old joined new : RegisterValue) (row : ReadRow) (d : ℕ) (a : Answered) → Joins None old row.name joined d
    → (desk_at joined d).next ≤ row.sequence → CarriesOut joined new d row.sequence row.command a → a ≢ answered.Memory → CarriesRow old new row
carried-so old joined new row d a joins later out apart = record {
  joined = joined;
  desk = d;
  reply = a;
  joins = joins;
  next = later;
  carries = has-row joined new d row.sequence row.command a out apart;
}

-- a row that was carried out by a register with no text is its text then
pub text-is : (old mid : RegisterValue) (row : ReadRow) → old.text ≡ [] → (carries : CarriesRow old mid row)
    → mid.text ≡ row_text (old.rows + 1) row.name row.sequence row.command (reply_in mid.control carries.reply)
text-is old mid row given carries =
    let joins = carries.joins in
    let name : name_at carries.joined carries.desk ≡ row.name = joined-name old row.name carries.joined carries.desk joins in
    let rows : carries.joined.rows ≡ old.rows = joined-rows old row.name carries.joined carries.desk joins in
    let text : carries.joined.text ≡ [] = joined-text old row.name carries.joined carries.desk joins ∙ given in
    let reply = reply_in mid.control carries.reply in
    carries.carries.text
    ∙ ap (λ (t : List ℕ). t ++ row_text (carries.joined.rows + 1) (name_at carries.joined carries.desk) row.sequence row.command reply) text
    ∙ ap (λ (n : ℕ). row_text (n + 1) (name_at carries.joined carries.desk) row.sequence row.command reply) rows
    ∙ ap (λ (n : List ℕ). row_text (old.rows + 1) n row.sequence row.command reply) name

pub count-after : (old mid : RegisterValue) (row : ReadRow) → CarriesRow old mid row → mid.rows ≡ old.rows + 1
count-after old mid row carries = omega (arith, carries.carries.rows, joined-rows old row.name carries.joined carries.desk carries.joins)

-- bytes that were compared
is-equal : (b : Bool) → false ≡ not b → b ≡ true
is-equal true is = refl
is-equal false is = cc

is-other : (b : Bool) → true ≡ not b → b ≡ true → ⊥
is-other true is same = absurd (false≢true (sym is))
is-other false is same = absurd (false≢true same)

pub same-bytes : (xs ys : List ℕ) → false ≡ not (bytes_eq xs ys) → xs ≡ ys
same-bytes xs ys is = (bytes_eq-Decides xs ys).0 (is-equal (bytes_eq xs ys) is)

pub other-bytes : (xs ys : List ℕ) → true ≡ not (bytes_eq xs ys) → xs ≢ ys
other-bytes xs ys is = λ same. is-other (bytes_eq xs ys) is ((bytes_eq-Decides xs ys).1 same)

-- it was given again where this is the row
pub one-again : (old mid : RegisterValue) (row : ReadRow) (whole : List ℕ) → old.text ≡ [] → is_change row.command ≡ true → CarriesRow old mid row
    → mid.text ≡ whole → RowsAgain old (record mid { text = [] }) whole
one-again old mid row whole given changes carries same =
    let reply = reply_in mid.control carries.reply in
    record {
      rows = record { desk = row.name; sequence = row.sequence; command = row.command; reply = reply } ∷ [];
      again = next old carries.joined mid (record mid { text = [] }) carries.desk row.sequence row.name row.command carries.reply [] carries.joins changes
          carries.next carries.carries (none (record mid { text = [] }));
      payload_is = sym same ∙ text-is old mid row given carries
          ∙ sym (append-nil (row_text (old.rows + 1) row.name row.sequence row.command reply));
    }

-- or the row is another one
pub other-row : (old mid : RegisterValue) (row : ReadRow) (line whole : List ℕ) → old.text ≡ [] → whole ≡ line ++ 10 ∷ [] → row_of line ≡ Some (read_as row)
    → CarriesRow old mid row → mid.text ≢ whole → StopsAt old whole (fault.Differs mid.rows)
other-row old mid row line whole given ends read carries apart =
    subst (λ (n : ℕ). StopsAt old whole (fault.Differs n)) (sym (count-after old mid row carries))
    (other line [] (read_as row) carries.joined mid carries.desk carries.reply ends read carries.joins carries.carries
    (λ same. apart (text-is old mid row given carries ∙ sym same ∙ sym ends)))

-- or it could not be carried out
pub faulty-row : (old : RegisterValue) (row : ReadRow) (line whole : List ℕ) (why : AgainFault) → whole ≡ line ++ 10 ∷ [] → row_of line ≡ Some (read_as row)
    → IsRowFault old row why → StopsAt old whole why
faulty-row old row line whole (fault.NoRow number) ends read (is, late) =
    subst (λ (n : ℕ). StopsAt old whole (fault.NoRow n)) (sym is) (not_next line [] (read_as row) ends read late)
faulty-row old row line whole (fault.Differs number) ends read is = absurd is
faulty-row old row line whole fault.NoMemory ends read is = no_memory

-- what stops at a line stops at all that it begins
with-behind : (line behind more rest whole : List ℕ) → rest ≡ whole ++ more → whole ≡ line ++ 10 ∷ behind → rest ≡ line ++ 10 ∷ (behind ++ more)
with-behind line behind more rest whole is ends = is ∙ ap (λ (w : List ℕ). w ++ more) ends ∙ append_assoc line (10 ∷ behind) more

-- a line that is cut off, with its end, and what stands behind it
pub end-within : (rest line behind : List ℕ) → rest ≡ line ++ 10 ∷ behind → length line + 1 ≤ length rest
end-within rest line behind cut = omega (arith, ap (λ (b : List ℕ). length b) cut, length-append line (10 ∷ behind))

pub split-end : (rest line behind : List ℕ) → rest ≡ line ++ 10 ∷ behind → rest ≡ (line ++ 10 ∷ []) ++ behind
split-end rest line behind cut = cut ∙ sym (append_assoc line (10 ∷ []) behind)

pub with-end : (rest line behind : List ℕ) → rest ≡ line ++ 10 ∷ behind → take (length line + 1) rest ≡ line ++ 10 ∷ []
with-end rest line behind cut =
    let count : length line + 1 ≡ length (line ++ 10 ∷ []) = omega (arith, length-append line (10 ∷ [])) in
    ap (λ (n : ℕ). take n rest) count ∙ ap (λ (b : List ℕ). take (length (line ++ 10 ∷ [])) b) (split-end rest line behind cut)
    ∙ take-append_seam (line ++ 10 ∷ []) behind

pub whole-front : (rest line behind : List ℕ) → rest ≡ line ++ 10 ∷ behind → rest ≡ take (length line + 1) rest ++ behind
whole-front rest line behind cut = split-end rest line behind cut ∙ ap (λ (b : List ℕ). b ++ behind) (sym (with-end rest line behind cut))

has-end : (line : List ℕ) → All (λ c. (c == 10) ≡ false) (line ++ 10 ∷ []) → ⊥
has-end line ended =
    let at : get_or (line ++ 10 ∷ []) (length line) 0 ≡ 10 = get_or-append_seam line 10 [] 0 in
    let not : (get_or (line ++ 10 ∷ []) (length line) 0 == 10) ≡ false = ended (length line) 0 (omega (arith, length-append line (10 ∷ []))) in
    let no : (10 == 10) ≡ false = subst (λ (c : ℕ). (c == 10) ≡ false) at not in
    cc

pub stops-there : (r : RegisterValue) (line whole more rest : List ℕ) (why : AgainFault) → whole ≡ line ++ 10 ∷ [] → rest ≡ whole ++ more → StopsAt r whole why
    → StopsAt r rest why
stops-there r line whole more rest why ends is (unended some lacks) = absurd (has-end line (subst (λ (w : List ℕ). All (λ c. (c == 10) ≡ false) w) ends lacks))
stops-there r line whole more rest why ends is (no_row first behind cut read) = no_row first (behind ++ more) (with-behind first behind more rest whole is cut) read
stops-there r line whole more rest why ends is (not_next first behind row cut read late) =
    not_next first (behind ++ more) row (with-behind first behind more rest whole is cut) read late
stops-there r line whole more rest why ends is (other first behind row joined mid d reply cut read joins carries apart) =
    other first (behind ++ more) row joined mid d reply (with-behind first behind more rest whole is cut) read joins carries apart
stops-there r line whole more rest why ends is no_memory = no_memory

-- rows that are given again one after another
pub then-again : (r mid r' : RegisterValue) (rows more : List Entry) → GivesAgain r rows mid → GivesAgain mid more r' → GivesAgain r (rows ++ more) r'
then-again r mid r' rows more (none same) rest = rest
then-again r mid r' rows more (next from joined one last d sequence name command reply behind joins changes new carries given) rest =
    next from joined one r' d sequence name command reply (behind ++ more) joins changes new carries
    (then-again (record one { text = [] }) mid r' behind more given rest)

pub counted : (r r' : RegisterValue) (rows : List Entry) → GivesAgain r rows r' → r'.rows ≡ r.rows + length rows
counted r r' rows (none same) = omega arith
counted r r' rows (next from joined one last d sequence name command reply behind joins changes new carries given) =
    omega (arith, counted (record one { text = [] }) r' behind given, carries.rows, joined-rows from name joined d joins)

pub rows_text-joined : (before : ℕ) (rows more : List Entry) → rows_text before (rows ++ more) ≡ rows_text before rows ++ rows_text (before + length rows) more
rows_text-joined before [] more = ap (λ (n : ℕ). rows_text n more) (omega arith)
rows_text-joined before (entry ∷ rows) more =
    let first : List ℕ = row_text (before + 1) entry.desk entry.sequence entry.command entry.reply in
    let count : (before + 1) + length rows ≡ before + length (entry ∷ rows) = omega arith in
    ap (λ (t : List ℕ). first ++ t) (rows_text-joined (before + 1) rows more ∙ ap (λ (n : ℕ). rows_text (before + 1) rows ++ rows_text n more) count)
    ∙ sym (append_assoc first (rows_text (before + 1) rows) (rows_text (before + length (entry ∷ rows)) more))

-- some first rows were given again, and this is the rest
pub record AgainSoFar (old new : RegisterValue) (payload rest : List ℕ) : Type 0 where
  pub rows : List Entry
  pub again : GivesAgain old rows new
  pub payload_is : payload ≡ rows_text old.rows rows ++ rest
  pub given : new.text ≡ []

pub none-yet : (r : RegisterValue) (payload : List ℕ) → r.text ≡ [] → AgainSoFar r r payload payload
none-yet r payload given = record { rows = []; again = none r; payload_is = refl; given = given }

pub one-more : (old mid new : RegisterValue) (payload rest whole behind : List ℕ) → AgainSoFar old mid payload rest → RowsAgain mid new whole → rest ≡ whole ++ behind
    → new.text ≡ [] → AgainSoFar old new payload behind
one-more old mid new payload rest whole behind so_far one cut given =
    let count : mid.rows ≡ old.rows + length so_far.rows = counted old mid so_far.rows so_far.again in
    let text : whole ≡ rows_text (old.rows + length so_far.rows) one.rows = one.payload_is ∙ ap (λ (n : ℕ). rows_text n one.rows) count in
    record {
      rows = so_far.rows ++ one.rows;
      again = then-again old mid new so_far.rows one.rows so_far.again one.again;
      payload_is = so_far.payload_is ∙ ap (λ (r : List ℕ). rows_text old.rows so_far.rows ++ r) (cut ∙ ap (λ (w : List ℕ). w ++ behind) text)
          ∙ sym (append_assoc (rows_text old.rows so_far.rows) (rows_text (old.rows + length so_far.rows) one.rows) behind)
          ∙ ap (λ (t : List ℕ). t ++ behind) (sym (rows_text-joined old.rows so_far.rows one.rows));
      given = given;
    }

pub stops-here : (old new : RegisterValue) (payload rest : List ℕ) (why : AgainFault) → AgainSoFar old new payload rest → StopsAt new rest why
    → FailsAgain old payload why
stops-here old new payload rest why so_far stops = record {
  rows = so_far.rows;
  mid = new;
  rest = rest;
  again = so_far.again;
  payload_is = so_far.payload_is;
  stops = stops;
}

-- something waits still
pub some-waits : (xs : List ℕ) (test : Bool) → test ≡ nat_eq (length xs) 0 → test ≡ false → xs ≢ []
some-waits [] test is some nothing = true≢false (sym is ∙ some)
some-waits (x ∷ xs) test is some nothing = absurd (cc)
