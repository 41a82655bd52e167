-- What holds of a register once a desk has joined, a line has passed, or a row is entered.
use Rattle.std.proofs.Common.{ℕ, zero, suc, ◌≡◌, ◌≢◌, ◌∙◌, ◌+◌, ◌<◌, ◌≤◌, ◌⊎◌, inl, inr, Bool, true, false, cond, ◌||◌, List, [], ◌∷◌, ◌++◌, length, drop, map, get_or, Option, Some, None, MatchOption}
use Rattle.std.proofs.Common.{refl, sym, ap, subst, arith, bytes_eq, length-append, length-drop}
use Rattle.std.specs.Prelude.{All, nat_lt, slice_set, if◌then◌else◌}
use Rattle.std.specs.List.{list_any, position_from}
use Rattle.std.proofs.lemmas.Bool.{false≢true, ltb-true}
use Rattle.std.proofs.lemmas.List.{length-set, map-append, set-get_or}
use Rattle.std.proofs.lemmas.List.Elements.{All-nil, All-push, All-set, All-weaker}
use Rattle.std.proofs.Math.Seq.{map-set_same}
use Rattle.nrm_model.specs.Network.{NetworkValue, leg_named}
use Rattle.nrm_model.proofs.NameLemmas.{number-same}
use Rattle.nrm_control.specs.State.{SeatState}
use Rattle.nrm_control.specs.Standing.{ControlValue, IsControl}
use Rattle.nrm_control.proofs.States.{some-state}
use Rattle.nrm_stream.specs.Commands.{IsCommand}
use Rattle.nrm_stream.specs.declared.command.Command.{Command}
use Rattle.nrm_stream.specs.declared.command.Command.TheVariants as command
use Rattle.nrm_session.specs.Answering.{IsTellable, Steps, reply_in}
use Rattle.nrm_session.specs.Replies.{Reply, memory}
use Rattle.nrm_session.specs.Replies.{unknown}
use Rattle.nrm_session.specs.Step.{Step}
use Rattle.nrm_session.specs.declared.reply.Reply.{Reply as Answered}
use Rattle.nrm_session.specs.declared.reply.Reply.TheVariants as answered
use Rattle.nrm_session.proofs.OtherLines.{other-lines}
use Rattle.nrm_hub.specs.Asked.{is_change}
use Rattle.nrm_hub.specs.Register.{Carries, DeskValue, IsDesk, IsRegister, IsTold, RegisterValue, desk_at, desk_named, is_of_row, new_desk, new_register, renamed}
use Rattle.nrm_hub.specs.Register.{name_at, owners_after, trimmed, with_row}
use Rattle.nrm_hub.specs.Inner.Answered.{CarriesOut, ran_out}
use Rattle.nrm_hub.specs.Rows.{row_text}
use Rattle.nrm_hub.specs.declared.limits.TheConstants.{LAST_SEQUENCE, MOST_DESKS, MOST_HELD, MOST_ROWS}
use Rattle.nrm_hub.specs.declared.row.Row.{Row}
use Rattle.nrm_hub.proofs.RegisterLists.{all-trimmed}
use Rattle.nrm_hub.proofs.RegisterReplies.{is-of-row}

-- any reply but that one says something else
pub not-memory : (control : ControlValue) (a : Answered) → a ≢ answered.Memory → reply_in control a ≢ memory
not-memory control answered.Bad apart = λ e. cc
not-memory control answered.Unknown apart = λ e. cc
not-memory control (answered.Sold number) apart = λ e. cc
not-memory control (answered.NoLeg i) apart = λ e. cc
not-memory control answered.NoFare apart = λ e. cc
not-memory control (answered.Cancelled number refund) apart = λ e. cc
not-memory control (answered.Optimised num den) apart = λ e. cc
not-memory control answered.OptimisedNone apart = λ e. cc
not-memory control answered.Overflow apart = λ e. cc
not-memory control answered.Memory apart = absurd (apart refl)
not-memory control (answered.Hindsight num den revenue withheld) apart = λ e. cc
not-memory control (answered.Leg i) apart = λ e. cc
not-memory control answered.Plan apart = λ e. cc

-- a reply that a row may have
pub of-row : (old new : ControlValue) (c : Command) (a : Answered) → IsControl old → Steps old new c (reply_in new a) → is_change c ≡ true → a ≢ answered.Memory
    → is_of_row a ≡ true
of-row old new c a kept steps changes apart =
    let (s, stands) = some-state old kept in
    let (s', step, stood) = steps.step s stands in
    is-of-row old.net s s' c new a changes step (not-memory new a apart)

-- a line that changes nothing leaves the state
same-either : {X : Type 0} (o : Option X) (reply none : Reply) (some : X → Reply) (s' kept : SeatState)
    → MatchOption o ((reply ≡ none) × (s' ≡ kept)) (λ x. (reply ≡ some x) × (s' ≡ kept)) → s' ≡ kept
same-either None reply none some s' kept given = given.1
same-either (Some x) reply none some s' kept given = given.1

same-looking : (net : NetworkValue) (s s' : SeatState) (c : Command) (reply : Reply) → is_change c ≡ false → Step net s c reply s' → s' ≡ s
same-looking net s s' (command.Book name party) reply looks step = absurd (false≢true (sym looks))
same-looking net s s' (command.Cancel number) reply looks step = absurd (false≢true (sym looks))
same-looking net s s' (command.Reoptimise k) reply looks step = absurd (false≢true (sym looks))
same-looking net s s' (command.Leg name) reply looks step = same-either (leg_named net name) reply unknown _ s' s step
same-looking net s s' command.Hindsight reply looks step = step.1
same-looking net s s' command.Plan reply looks step = step.1
same-looking net s s' command.Bad reply looks step = step.1

pub same-state : (net : NetworkValue) (s s' : SeatState) (c : Command) (reply : Reply) → (is_change c ≡ false) ⊎ (reply ≡ memory) → Step net s c reply s' → s' ≡ s
same-state net s s' c reply (inl looks) step = same-looking net s s' c reply looks step
same-state net s s' c reply (inr is) step =
    let run_out : Step net s c memory s' = subst (λ (r : Reply). Step net s c r s') is step in
    (other-lines net s s' c run_out).1

-- so no booking was sold then
same-next : (old new : ControlValue) (c : Command) (reply : Reply) → IsControl old → Steps old new c reply → (is_change c ≡ false) ⊎ (reply ≡ memory)
    → new.next ≡ old.next
same-next old new c reply kept steps which =
    let (s, stands) = some-state old kept in
    let (s', step, stood) = steps.step s stands in
    sym stood.next ∙ ap (λ (s : SeatState). s.next) (same-state old.net s s' c reply which step) ∙ stands.next

-- rows can be told on the same network
told-on : (old new : ControlValue) → new.net ≡ old.net → (row : Row) → IsTold old row → IsTold new row
told-on old new same row told = record {
  tellable = subst (λ (net : NetworkValue). IsTellable net row.reply) (sym same) told.tellable;
  line = told.line;
  command = told.command;
}

desk-on : (old new : ControlValue) → new.net ≡ old.net → (desk : DeskValue) → IsDesk old desk → IsDesk new desk
desk-on old new same desk is = record {
  next = is.next;
  few = is.few;
  told = All-weaker (IsTold old) (IsTold new) (told-on old new same) desk.held is.told;
}

desks-on : (old new : ControlValue) → new.net ≡ old.net → (desks : List DeskValue) → All (IsDesk old) desks → All (IsDesk new) desks
desks-on old new same desks are = All-weaker (IsDesk old) (IsDesk new) (desk-on old new same) desks are

-- a line passed without a row
pub passed : (r : RegisterValue) (control : ControlValue) (c : Command) (reply : Reply) → IsRegister r → IsControl control → Steps r.control control c reply
    → (is_change c ≡ false) ⊎ (reply ≡ memory) → IsRegister (record r { control = control })
passed r control c reply is kept steps which =
    let same : control.next ≡ r.control.next = same-next r.control control c reply is.control steps which in
    record {
      control = kept;
      next = omega (arith, same, is.next);
      rows = is.rows;
      few = is.few;
      desks = desks-on r.control control steps.network r.desks is.desks;
    }

-- fewer than two hundred rows are held, and each is one of those that were
few-by : (b : Bool) (held : List Row) → nat_lt (length held) (MOST_HELD + MOST_HELD) ≡ b → length held ≤ MOST_HELD + MOST_HELD
    → length (if b then held else drop MOST_HELD held) < MOST_HELD + MOST_HELD
few-by true held is few = ltb-true (length held) (MOST_HELD + MOST_HELD) is
few-by false held is few = omega (arith, few, length-drop MOST_HELD held)

few-trimmed : (held : List Row) → length held ≤ MOST_HELD + MOST_HELD → length (trimmed held) < MOST_HELD + MOST_HELD
few-trimmed held few = few-by (nat_lt (length held) (MOST_HELD + MOST_HELD)) held refl few

-- a desk with one more row
desk-with : (control : ControlValue) (desk : DeskValue) (row : Row) → IsDesk control desk → IsTold control row → row.sequence ≤ LAST_SEQUENCE
    → IsDesk control (with_row desk row)
desk-with control desk row is told within = record {
  next = omega (arith, within);
  few = few-trimmed (desk.held ++ row ∷ []) (omega (arith, is.few, length-append desk.held (row ∷ [])));
  told = all-trimmed (IsTold control) (desk.held ++ row ∷ []) (All-push (IsTold control) desk.held row is.told told);
}

-- a row of a desk was entered
pub entered : (old new : RegisterValue) (desk sequence : ℕ) (c : Command) (a : Answered) → IsRegister old → IsControl new.control
    → Carries old new desk sequence c a → desk < length old.desks → old.rows < MOST_ROWS → sequence ≤ LAST_SEQUENCE → IsCommand c → IsTellable new.control.net a
    → is_of_row a ≡ true → IsRegister new
entered old new desk sequence c a is kept carries there few within is_command tellable line =
    let row : Row = record { sequence = sequence; command = c; reply = a } in
    let same : All (IsDesk new.control) old.desks = desks-on old.control new.control carries.steps.network old.desks is.desks in
    let told : IsTold new.control row = record { tellable = tellable; line = line; command = is_command } in
    let one : IsDesk new.control (with_row (desk_at old desk) row) =
    desk-with new.control (desk_at old desk) row (same desk (new_desk []) there) told within in
    let all : All (IsDesk new.control) (slice_set old.desks desk (with_row (desk_at old desk) row)) =
    All-set (IsDesk new.control) old.desks desk (with_row (desk_at old desk) row) one same in
    record {
      control = kept;
      next = omega (arith, carries.steps.next, is.next, carries.rows);
      rows = omega (arith, carries.rows, few);
      few = omega (arith, ap length carries.desks, length-set old.desks desk (with_row (desk_at old desk) row), is.few);
      desks = subst (λ (desks : List DeskValue). All (IsDesk new.control) desks) (sym carries.desks) all;
    }

-- a register that has just begun
pub begun : (control : ControlValue) → IsControl control → control.next ≡ 1 → IsRegister (new_register control)
begun control kept first = record {
  control = kept;
  next = omega (arith, first);
  rows = omega arith;
  few = omega arith;
  desks = All-nil (IsDesk control);
}

-- a desk was added
pub added : (r : RegisterValue) (name : List ℕ) → IsRegister r → length r.desks < MOST_DESKS → IsRegister (record r { desks = r.desks ++ new_desk name ∷ [] })
added r name is few =
    let one : IsDesk r.control (new_desk name) = record { next = omega arith; few = omega arith; told = All-nil (IsTold r.control) } in
    record {
      control = is.control;
      next = is.next;
      rows = is.rows;
      few = omega (arith, few, length-append r.desks (new_desk name ∷ []));
      desks = All-push (IsDesk r.control) r.desks (new_desk name) is.desks one;
    }

pub names-added : (desks : List DeskValue) (name : List ℕ)
    → map (λ (d : DeskValue). d.name) (desks ++ new_desk name ∷ []) ≡ map (λ (d : DeskValue). d.name) desks ++ name ∷ []
names-added desks name = map-append (λ (d : DeskValue). d.name) desks (new_desk name ∷ [])

-- a desk has another name
pub renamed-so : (r : RegisterValue) (d : ℕ) (name : List ℕ) → IsRegister r → IsRegister (renamed r d name)
renamed-so r d name is =
    let one : IsDesk r.control (new_desk name) = record { next = omega arith; few = omega arith; told = All-nil (IsTold r.control) } in
    record {
      control = is.control;
      next = is.next;
      rows = is.rows;
      few = omega (arith, is.few, length-set r.desks d (new_desk name));
      desks = All-set (IsDesk r.control) r.desks d (new_desk name) one is.desks;
    }

pub names-renamed : (desks : List DeskValue) (d : ℕ) (name : List ℕ)
    → map (λ (k : DeskValue). k.name) (slice_set desks d (new_desk name)) ≡ slice_set (map (λ (k : DeskValue). k.name) desks) d name
names-renamed [] d name = refl
names-renamed (x ∷ xs) zero name = refl
names-renamed (x ∷ xs) (suc d) name = ap (λ (names : List (List ℕ)). x.name ∷ names) (names-renamed xs d name)

-- where nothing passes a test none does
none-first : {X : Type 0} (test : X → Bool) (b : Bool) (i : ℕ) (xs : List X) → cond b (Some i) (position_from test (i + 1) xs) ≡ None
    → (position_from test (i + 1) xs ≡ None → list_any test xs ≡ false) → (b || list_any test xs) ≡ false
none-first test true i xs is rest = cc
none-first test false i xs is rest = rest is

none-any : {X : Type 0} (test : X → Bool) (i : ℕ) (xs : List X) → position_from test i xs ≡ None → list_any test xs ≡ false
none-any test i [] is = refl
none-any test i (x ∷ xs) is = none-first test (test x) i xs is (none-any test (i + 1) xs)

-- a name that no desk has is not in the table of names
pub not-named : (r : RegisterValue) (names : List (List ℕ)) (name : List ℕ) → names ≡ map (λ (d : DeskValue). d.name) r.desks → desk_named r name ≡ None
    → list_any (λ other. bytes_eq other name) names ≡ false
not-named r names name are none =
    none-any (λ other. bytes_eq other name) 0 names (number-same (λ (d : DeskValue). d.name) name r.desks names are ∙ none)

-- a desk that is as it was, in its place
pub kept-desk : (desks : List DeskValue) (i : ℕ) (name : List ℕ) (next : ℕ) (held held' : List Row) → held' ≡ held
    → record { name = name; next = next; held = held } ≡ get_or desks i (new_desk []) → slice_set desks i (record { name = name; next = next; held = held' }) ≡ desks
kept-desk desks i name next held held' same is =
    let there : record { name = name; next = next; held = held' } ≡ get_or desks i (new_desk []) =
    ap (λ (h : List Row). let d : DeskValue = record { name = name; next = next; held = h } in d) same ∙ is in
    ap (λ (d : DeskValue). slice_set desks i d) there ∙ set-get_or desks i (new_desk [])

-- all but the controller is as it was
pub kept-all : (r : RegisterValue) (control : ControlValue) (desks : List DeskValue) (owners text : List ℕ) → desks ≡ r.desks → owners ≡ r.owners → text ≡ r.text
    → record { control = control; desks = desks; owners = owners; rows = r.rows; text = text } ≡ record r { control = control }
kept-all r control desks owners text one two three = λ i. record { control = control; desks = one i; owners = two i; rows = r.rows; text = three i }

-- memory ran out, and nothing changes
pub ran-out : (r : RegisterValue) (control : ControlValue) (desks : List DeskValue) (owners text : List ℕ) (desk sequence : ℕ) (c : Command) (a : Answered)
    → desks ≡ r.desks → owners ≡ r.owners → text ≡ r.text → a ≡ answered.Memory → Steps r.control control c (reply_in control a)
    → CarriesOut r (record { control = control; desks = desks; owners = owners; rows = r.rows; text = text }) desk sequence c a
ran-out r control desks owners text desk sequence c a one two three is steps =
    let steps' : Steps r.control control c memory = subst (λ (a : Answered). Steps r.control control c (reply_in control a)) is steps in
    let new : RegisterValue = record { control = control; desks = desks; owners = owners; rows = r.rows; text = text } in
    subst (λ (a : Answered). CarriesOut r new desk sequence c a) (sym is)
    (ran_out (record { steps = steps'; rest = kept-all r control desks owners text one two three }))

-- a row was entered, part by part
pub entered-so : (r : RegisterValue) (control : ControlValue) (desk sequence : ℕ) (c : Command) (a : Answered) (name : List ℕ) (next : ℕ)
    (held held' held'' : List Row) (owners owners' text text' line : List ℕ)
    → record { name = name; next = next; held = held } ≡ desk_at r desk → held' ≡ held
    → held'' ≡ trimmed (held' ++ record { sequence = sequence; command = c; reply = a } ∷ []) → owners ≡ r.owners → owners' ≡ owners_after owners desk a
    → text ≡ r.text → text' ≡ text ++ line → line ≡ row_text (r.rows + 1) name sequence c (reply_in control a) → Steps r.control control c (reply_in control a)
    → a ≢ answered.Memory
    → Carries r (record {
      control = control;
      desks = slice_set r.desks desk (record { name = name; next = sequence + 1; held = held'' });
      owners = owners';
      rows = r.rows + 1;
      text = text';
    }) desk sequence c a
entered-so r control desk sequence c a name next held held' held'' owners owners' text text' line at same trims owned owns had joined is steps apart =
    let row : Row = record { sequence = sequence; command = c; reply = a } in
    let named : name ≡ name_at r desk = ap (λ (d : DeskValue). d.name) at in
    let holds : held'' ≡ trimmed ((desk_at r desk).held ++ row ∷ []) =
    trims ∙ ap (λ (h : List Row). trimmed (h ++ row ∷ [])) (same ∙ ap (λ (d : DeskValue). d.held) at) in
    record {
      steps = steps;
      some = not-memory control a apart;
      desks = λ i. slice_set r.desks desk (record { name = named i; next = sequence + 1; held = holds i });
      owners = owns ∙ ap (λ (o : List ℕ). owners_after o desk a) owned;
      rows = refl;
      text = joined ∙ ap (λ (t : List ℕ). t ++ line) had
          ∙ ap (λ (l : List ℕ). r.text ++ l) (is ∙ ap (λ (n : List ℕ). row_text (r.rows + 1) n sequence c (reply_in control a)) named);
    }

-- and its name stays
pub name-kept : (r : RegisterValue) (desk : ℕ) (changed : DeskValue) → changed.name ≡ name_at r desk
    → map (λ (d : DeskValue). d.name) (slice_set r.desks desk changed) ≡ map (λ (d : DeskValue). d.name) r.desks
name-kept r desk changed same = map-set_same (λ (d : DeskValue). d.name) r.desks desk changed (new_desk []) same
