-- What a register has of the rows that were carried out, and how it goes on.
use Rattle.std.proofs.Common.{ℕ, ◌≡◌, ◌≢◌, ◌∙◌, bytes_eq, false, inl, inr, Option, ◌+◌, ◌<◌, ◌≤◌, true, List, [], ◌∷◌, ◌++◌, All, AllPairs, flat_map, length, get_or, set, map}
use Rattle.std.proofs.Common.{Some, None, refl, sym, ap, subst, arith, append_assoc, append-nil, length-append, length-set}
use Rattle.std.specs.List.{position_from}
use Rattle.std.proofs.lemmas.Bool.{cases_lt}
use Rattle.std.proofs.lemmas.Grind.{flat_map-append}
use Rattle.std.proofs.lemmas.List.{get_or-set_other, get_or-set_same, get_or_append_left, get_or_push, length_push, map-append}
use Rattle.std.proofs.lemmas.List.Elements.{All-get_or, All-nil, All-push, All-weaker}
use Rattle.std.proofs.lemmas.List.Quantifiers.{all_pairs_push}
use Rattle.nrm_model.specs.Network.{NetworkValue}
use Rattle.nrm_control.specs.State.{SeatState}
use Rattle.nrm_control.specs.Standing.{ControlValue, Represents}
use Rattle.nrm_stream.specs.declared.command.Command.{Command}
use Rattle.nrm_session.specs.Answering.{Steps, reply_in}
use Rattle.nrm_session.specs.Replies.{Reply, text_of}
use Rattle.nrm_session.specs.Run.{Run}
use Rattle.nrm_session.specs.Step.{Step}
use Rattle.nrm_session.specs.declared.reply.Reply.{Reply as Answered}
use Rattle.nrm_session.specs.declared.reply.Reply.TheVariants as answered
use Rattle.nrm_session.proofs.Answered.{run-joined}
use Rattle.nrm_hub.specs.Asked.{is_change}
use Rattle.nrm_hub.specs.Desks.{IsOneRun, KnowsItsRows, NumbersRise, Turn, seller_of, turn_again}
use Rattle.nrm_hub.specs.Register.{Carries, DeskValue, Joins, Passes, RegisterValue, added, desk_at, is_of_row, name_at, new_desk, new_register}
use Rattle.nrm_hub.specs.Register.{owners_after, replaced, there, with_row}
use Rattle.nrm_hub.specs.Clients.{ClientValue}
use Rattle.nrm_hub.specs.Rows.{Entry}
use Rattle.nrm_hub.specs.Spare.{IsSpare}
use Rattle.nrm_model.proofs.NameLemmas.{bytes_eq-apart}
use Rattle.nrm_hub.specs.World.{GivesAgain, next as row_again, none as nothing_again}
use Rattle.nrm_hub.specs.declared.row.Row.{Row}
use Rattle.nrm_hub.proofs.KnownRows.{knows-none, knows-on, knows-other, knows-own}
use Rattle.nrm_hub.proofs.RegisterLists.{EachIsFound, IsAmong, all-trimmed, among-last, among-longer, at-push, at-set, found-pushed, map-same, named}
use Rattle.nrm_hub.proofs.RegisterLists.{named-at, named-elsewhere, named-in-place, named-longer, named-set, nat_eq-cases, none-found, rel-set}
use Rattle.nrm_hub.proofs.RegisterReplies.{is-of-row, owners-named, reply-same}

-- ---- one run
abbrev commands_in : List Turn → List Command
commands_in turns = map (λ (turn : Turn). turn.0) turns

abbrev replies_in : List Turn → List Reply
replies_in turns = map (λ (turn : Turn). turn.1) turns

run-nothing : (start : ControlValue) → IsOneRun start start []
run-nothing start = record { network = refl; run = λ s stands. (s, stands, refl) }

pub run-more : (start old new : ControlValue) (turns : List Turn) (c : Command) (reply : Reply) → IsOneRun start old turns
    → Steps old new c reply → IsOneRun start new (turns ++ (c, reply) ∷ [])
run-more start old new turns c reply one steps = record {
  network = steps.network ∙ one.network;
  run = λ s stands.
      let (s', stood, run) = one.run s stands in
      let (s'', step, stood') = steps.step s' stood in
      let last : Run start.net s' (c ∷ []) (reply ∷ []) s'' =
      (s'', subst (λ (net : NetworkValue). Step net s' c reply s'') one.network step, refl) in
      let all : Run start.net s (commands_in turns ++ c ∷ []) (replies_in turns ++ reply ∷ []) s'' =
      run-joined (Step start.net) text_of s (commands_in turns) (replies_in turns) s' (c ∷ []) (reply ∷ []) s'' run last in
      let commands : Run start.net s (commands_in (turns ++ (c, reply) ∷ [])) (replies_in turns ++ reply ∷ []) s'' =
      subst (λ (l : List Command). Run start.net s l (replies_in turns ++ reply ∷ []) s'')
      (sym (map-append (λ (turn : Turn). turn.0) turns ((c, reply) ∷ []))) all in
      let replies : Run start.net s (commands_in (turns ++ (c, reply) ∷ [])) (replies_in (turns ++ (c, reply) ∷ [])) s'' =
      subst (λ (l : List Reply). Run start.net s (commands_in (turns ++ (c, reply) ∷ [])) l s'')
      (sym (map-append (λ (turn : Turn). turn.1) turns ((c, reply) ∷ []))) commands in
      (s'', stood', replies);
}

-- ---- desks and rows
-- a row that a desk of this name holds is one of the rows
pub record IsOfRows (control : ControlValue) (name : List ℕ) (rows : List Entry) (row : Row) : Type 0 where
  pub line : is_of_row row.reply ≡ true
  pub entry : Entry
  pub among : IsAmong entry rows
  pub desk : entry.desk ≡ name
  pub sequence : entry.sequence ≡ row.sequence
  pub command : entry.command ≡ row.command
  pub reply : entry.reply ≡ reply_in control row.reply

abbrev pub HoldsRows : ControlValue → List Entry → DeskValue → Type 0
HoldsRows control rows desk = All (IsOfRows control desk.name rows) desk.held

-- a row is one of a desk, and its number is below the one that the desk's next line may have
pub record IsOfDesk (desks : List DeskValue) (entry : Entry) : Type 0 where
  pub desk : ℕ
  pub found : position_from (named entry.desk) 0 desks ≡ Some desk
  pub above : 0 < entry.sequence
  pub below : entry.sequence < (get_or desks desk (new_desk [])).next

abbrev pub name_of : List DeskValue → ℕ → List ℕ
name_of desks d = (get_or desks d (new_desk [])).name

-- each desk is found by its name, each row is one of a desk, and each row that is held is one of the rows; the owners are desks that have rows
pub record DesksFit (control : ControlValue) (desks : List DeskValue) (owners : List ℕ) (rows : List Entry) : Type 0 where
  pub each : EachIsFound desks
  pub some : (d : ℕ) → 0 < (get_or desks d (new_desk [])).next
  pub owned : All (IsOfDesk desks) rows
  pub held : (d : ℕ) → HoldsRows control rows (get_or desks d (new_desk []))
  pub knows : (d : ℕ) → d < length desks → KnowsItsRows control (get_or desks d (new_desk [])) rows
  pub known : All (λ owner. owner < length desks) owners
  pub sold : All (λ owner. 1 < (get_or desks owner (new_desk [])).next) owners
  pub sellers : map (name_of desks) owners ≡ flat_map seller_of rows

-- and so the register: all is one run, the rows are counted, and of each desk their numbers rise
pub record Fits (start control : ControlValue) (desks : List DeskValue) (owners : List ℕ) (count : ℕ) (rows : List Entry) (turns : List Turn)
    : Type 0 where
  pub run : IsOneRun start control turns
  pub counted : count ≡ length rows
  pub rise : AllPairs NumbersRise rows
  pub fit : DesksFit control desks owners rows

abbrev pub FitsIn : ControlValue → RegisterValue → List Entry → List Turn → Type 0
FitsIn start r rows turns = Fits start r.control r.desks r.owners r.rows rows turns

pub fits-new : (start : ControlValue) → FitsIn start (new_register start) [] []
fits-new start = record {
  run = run-nothing start;
  counted = refl;
  rise = λ i j d less short. absurd (omega arith);
  fit = record {
    each = λ d short. absurd (omega arith);
    some = λ d. omega arith;
    owned = All-nil (IsOfDesk []);
    held = λ d. All-nil (IsOfRows start [] []);
    knows = λ d short. absurd (omega arith);
    known = All-nil (λ (owner : ℕ). owner < 0);
    sold = All-nil (λ (owner : ℕ). 1 < 1);
    sellers = refl;
  };
}

-- ---- what desks know
-- no row is one of a desk that isn't there
others-by : (desks : List DeskValue) (name : List ℕ) (rows : List Entry) → All (IsOfDesk desks) rows → position_from (named name) 0 desks ≡ None
    → All (λ entry. bytes_eq entry.desk name ≡ false) rows
others-by desks name rows owned new =
    All-weaker (IsOfDesk desks) (λ (entry : Entry). bytes_eq entry.desk name ≡ false)
    (λ entry is. bytes_eq-apart entry.desk name
    (λ same. none-found (sym new ∙ ap (λ (n : List ℕ). position_from (named n) 0 desks) (sym same) ∙ is.found))) rows owned

lines-of : (control : ControlValue) (rows : List Entry) (desk : DeskValue) → HoldsRows control rows desk → All (λ row. is_of_row row.reply ≡ true) desk.held
lines-of control rows desk holds =
    All-weaker (IsOfRows control desk.name rows) (λ (row : Row). is_of_row row.reply ≡ true) (λ row is. is.line) desk.held holds

-- ---- a desk joins
module _ (control : ControlValue) (desks : List DeskValue) (owners : List ℕ) (rows : List Entry) (name : List ℕ)
    (f : DesksFit control desks owners rows) (new : position_from (named name) 0 desks ≡ None) where
  abbrev more : List DeskValue
  more = desks ++ new_desk name ∷ []

  longer : length more ≡ length desks + 1
  longer = length-append desks (new_desk name ∷ [])

  same-at : (d : ℕ) → d < length desks → get_or more d (new_desk []) ≡ get_or desks d (new_desk [])
  same-at d short = get_or_append_left desks (new_desk name ∷ []) (new_desk []) d short

  owned-more : (entry : Entry) → IsOfDesk desks entry → IsOfDesk more entry
  owned-more entry is = record {
    desk = is.desk;
    found = named-longer entry.desk desks (new_desk name ∷ []) 0 is.desk is.found;
    above = is.above;
    below = subst (λ (desk : DeskValue). entry.sequence < desk.next)
        (sym (same-at is.desk (named-at entry.desk desks is.desk is.found).0)) is.below;
  }

  knows-joined : (d : ℕ) → d < length more → KnowsItsRows control (get_or more d (new_desk [])) rows
  knows-joined d short =
      elim (cases_lt d (length desks)) [
        | inl less ↦ subst (λ (desk : DeskValue). KnowsItsRows control desk rows) (sym (same-at d less)) (f.knows d less)
        | inr from ↦
            let last : d ≡ length desks = omega (arith, longer, short, from) in
            subst (λ (desk : DeskValue). KnowsItsRows control desk rows) (sym (get_or_push desks (new_desk name) (new_desk []) d (sym last)))
            (knows-none control name rows (others-by desks name rows f.owned new))
      ]

  desks-joined : DesksFit control more owners rows
  desks-joined = record {
    each = found-pushed desks name f.each new;
    some = at-push (λ (desk : DeskValue). 0 < desk.next) (new_desk []) desks (new_desk name) (omega arith) f.some;
    owned = All-weaker (IsOfDesk desks) (IsOfDesk more) owned-more rows f.owned;
    held = at-push (HoldsRows control rows) (new_desk []) desks (new_desk name) (All-nil (IsOfRows control name rows)) f.held;
    knows = knows-joined;
    known = All-weaker (λ (owner : ℕ). owner < length desks) (λ (owner : ℕ). owner < length more) (λ owner less. omega (arith, longer, less))
        owners f.known;
    sold = λ k e short. subst (λ (desk : DeskValue). 1 < desk.next) (sym (same-at (get_or owners k e) (f.known k e short))) (f.sold k e short);
    sellers = map-same (name_of more) (name_of desks) owners
        (All-weaker (λ (owner : ℕ). owner < length desks) (λ (owner : ℕ). name_of more owner ≡ name_of desks owner)
        (λ owner less. ap (λ (desk : DeskValue). desk.name) (same-at owner less)) owners f.known) ∙ f.sellers;
  }

-- ---- a desk without rows has another name
module _ (control : ControlValue) (desks : List DeskValue) (owners : List ℕ) (rows : List Entry) (name : List ℕ) (d : ℕ)
    (f : DesksFit control desks owners rows) (new : position_from (named name) 0 desks ≡ None) (within : d < length desks)
    (unused : (get_or desks d (new_desk [])).next ≡ 1) where
  abbrev changed : List DeskValue
  changed = set desks d (new_desk name)

  as-long : length changed ≡ length desks
  as-long = length-set desks d (new_desk name)

  other-at : (k : ℕ) → k ≢ d → get_or changed k (new_desk []) ≡ get_or desks k (new_desk [])
  other-at k apart = get_or-set_other desks d k (new_desk name) (new_desk []) apart

  -- a name that is found is another one
  apart-from : (other : List ℕ) (k : ℕ) → position_from (named other) 0 desks ≡ Some k → bytes_eq name other ≡ false
  apart-from other k found = bytes_eq-apart name other
      (λ same. none-found (sym new ∙ ap (λ (n : List ℕ). position_from (named n) 0 desks) same ∙ found))

  found-still : (other : List ℕ) (k : ℕ) → k ≢ d → position_from (named other) 0 desks ≡ Some k
      → position_from (named other) 0 changed ≡ Some k
  found-still other k apart found =
      named-elsewhere other desks d 0 k (new_desk name) (apart-from other k found) (λ same. apart (omega (arith, same))) found

  each-changed : EachIsFound changed
  each-changed k short = elim (nat_eq-cases k d) [
    | inl same ↦ found-here k same
    | inr apart ↦
        subst (λ (desk : DeskValue). position_from (named desk.name) 0 changed ≡ Some k) (sym (other-at k apart))
        (found-still (name_of desks k) k apart (f.each k (omega (arith, short, as-long))))
  ]
    where
      found-here : (k : ℕ) → k ≡ d → position_from (named (name_of changed k)) 0 changed ≡ Some k
      found-here k same =
          let there : get_or changed d (new_desk []) ≡ new_desk name = get_or-set_same desks d (new_desk name) (new_desk []) within in
          subst (λ (i : ℕ). position_from (named (name_of changed i)) 0 changed ≡ Some i) (sym same)
          (subst (λ (desk : DeskValue). position_from (named desk.name) 0 changed ≡ Some d) (sym there)
          (named-in-place name desks d 0 within new ∙ ap (λ (n : ℕ). Some n) (omega arith)))

  not-of : (entry : Entry) (is : IsOfDesk desks entry) → is.desk ≢ d
  not-of entry is same =
      let next : (get_or desks is.desk (new_desk [])).next ≡ 1 = ap (λ (k : ℕ). (get_or desks k (new_desk [])).next) same ∙ unused in
      omega (arith, is.below, is.above, next)

  owned-still : (entry : Entry) → IsOfDesk desks entry → IsOfDesk changed entry
  owned-still entry is = record {
    desk = is.desk;
    found = found-still entry.desk is.desk (not-of entry is) is.found;
    above = is.above;
    below = subst (λ (desk : DeskValue). entry.sequence < desk.next) (sym (other-at is.desk (not-of entry is))) is.below;
  }

  not-owner : (k e : ℕ) → k < length owners → get_or owners k e ≢ d
  not-owner k e short same =
      let next : (get_or desks (get_or owners k e) (new_desk [])).next ≡ 1 = ap (λ (i : ℕ). (get_or desks i (new_desk [])).next) same ∙ unused in
      omega (arith, f.sold k e short, next)

  knows-renamed : (k : ℕ) → k < length changed → KnowsItsRows control (get_or changed k (new_desk [])) rows
  knows-renamed k short =
      elim (nat_eq-cases k d) [
        | inl same ↦
            let there : get_or changed k (new_desk []) ≡ new_desk name =
            ap (λ (i : ℕ). get_or changed i (new_desk [])) same ∙ get_or-set_same desks d (new_desk name) (new_desk []) within in
            subst (λ (desk : DeskValue). KnowsItsRows control desk rows) (sym there)
            (knows-none control name rows (others-by desks name rows f.owned new))
        | inr apart ↦
            subst (λ (desk : DeskValue). KnowsItsRows control desk rows) (sym (other-at k apart)) (f.knows k (omega (arith, short, as-long)))
      ]

  desks-renamed : DesksFit control changed owners rows
  desks-renamed = record {
    each = each-changed;
    some = at-set (λ (desk : DeskValue). 0 < desk.next) (new_desk []) desks d (new_desk name) (omega arith) f.some;
    owned = All-weaker (IsOfDesk desks) (IsOfDesk changed) owned-still rows f.owned;
    held = at-set (HoldsRows control rows) (new_desk []) desks d (new_desk name) (All-nil (IsOfRows control name rows)) f.held;
    knows = knows-renamed;
    known = λ k e short. omega (arith, f.known k e short, as-long);
    sold = λ k e short.
        subst (λ (desk : DeskValue). 1 < desk.next) (sym (other-at (get_or owners k e) (not-owner k e short))) (f.sold k e short);
    sellers = map-same (name_of changed) (name_of desks) owners
        (λ k e short. ap (λ (desk : DeskValue). desk.name) (other-at (get_or owners k e) (not-owner k e short))) ∙ f.sellers;
  }

-- a desk that is there and has no row
abbrev pub IsUnused : RegisterValue → ℕ → Type 0
IsUnused r d = (d < length r.desks) × ((desk_at r d).next ≡ 1)

pub unused-none : (r : RegisterValue) (d : ℕ) → None ≡ Some d → IsUnused r d
unused-none r d is = absurd (cc)

pub unused-spare : (r : RegisterValue) (clients : List (Option ClientValue)) (spare : Option ℕ) → IsSpare r clients spare → (d : ℕ)
    → spare ≡ Some d → IsUnused r d
unused-spare r clients None is d same = absurd (cc)
unused-spare r clients (Some e) is d same = subst (λ (k : ℕ). IsUnused r k) (cc) (is.within, is.unused)

pub fits-joined : {spare : Option ℕ} (start : ControlValue) (r r' : RegisterValue) (name : List ℕ) (d : ℕ) (rows : List Entry) (turns : List Turn)
    → ((e : ℕ) → spare ≡ Some e → IsUnused r e) → FitsIn start r rows turns → Joins spare r name r' d → FitsIn start r' rows turns
fits-joined start r _ name _ rows turns unused f (there d found) = f
fits-joined start r _ name _ rows turns unused f (added new) = record {
  run = f.run;
  counted = f.counted;
  rise = f.rise;
  fit = desks-joined r.control r.desks r.owners rows name f.fit new;
}
fits-joined start r _ name _ rows turns unused f (replaced d new full is) = record {
  run = f.run;
  counted = f.counted;
  rise = f.rise;
  fit = desks-renamed r.control r.desks r.owners rows name d f.fit new (unused d is).0 (unused d is).1;
}

-- it is there and has the name, and the desks that there were are there still; the text is the same
pub record Joined (r r' : RegisterValue) (name : List ℕ) (d : ℕ) : Type 0 where
  pub within : d < length r'.desks
  pub name_is : name_at r' d ≡ name
  pub longer : length r.desks ≤ length r'.desks
  pub text : r'.text ≡ r.text
  pub rows : r'.rows ≡ r.rows

pub joined : {spare : Option ℕ} (r r' : RegisterValue) (name : List ℕ) (d : ℕ) → ((e : ℕ) → spare ≡ Some e → IsUnused r e)
    → Joins spare r name r' d → Joined r r' name d
joined r _ name _ unused (there d found) =
    let at = named-at name r.desks d found in
    record { within = at.0; name_is = at.1; longer = omega arith; text = refl; rows = refl }
joined r _ name _ unused (added new) =
    let long : length (r.desks ++ new_desk name ∷ []) ≡ length r.desks + 1 = length-append r.desks (new_desk name ∷ []) in
    record {
      within = omega (arith, long);
      name_is = ap (λ (desk : DeskValue). desk.name) (get_or_push r.desks (new_desk name) (new_desk []) (length r.desks) refl);
      longer = omega (arith, long);
      text = refl;
      rows = refl;
    }
joined r _ name _ unused (replaced d new full is) =
    let long : length (set r.desks d (new_desk name)) ≡ length r.desks = length-set r.desks d (new_desk name) in
    let within : d < length r.desks = (unused d is).0 in
    record {
      within = omega (arith, long, within);
      name_is = ap (λ (desk : DeskValue). desk.name) (get_or-set_same r.desks d (new_desk name) (new_desk []) within);
      longer = omega (arith, long);
      text = refl;
      rows = refl;
    }

-- ---- a line is carried out
-- what holds of each owner holds of each one after it, if it holds of this desk
known-in : (P : ℕ → Type 0) (owners : List ℕ) (d : ℕ) (a : Answered) → P d → All P owners → All P (owners_after owners d a)
known-in P owners d (answered.Sold number) within all = All-push P owners d all within
known-in P owners d answered.Bad within all = all
known-in P owners d answered.Unknown within all = all
known-in P owners d (answered.NoLeg i) within all = all
known-in P owners d answered.NoFare within all = all
known-in P owners d (answered.Cancelled number refund) within all = all
known-in P owners d (answered.Optimised num den) within all = all
known-in P owners d answered.OptimisedNone within all = all
known-in P owners d answered.Overflow within all = all
known-in P owners d answered.Memory within all = all
known-in P owners d (answered.Hindsight num den revenue withheld) within all = all
known-in P owners d (answered.Leg i) within all = all
known-in P owners d answered.Plan within all = all

known-after : (desks : List DeskValue) (d : ℕ) (desk : DeskValue) (owners : List ℕ) (a : Answered) → d < length desks
    → All (λ owner. owner < length desks) owners → All (λ owner. owner < length (set desks d desk)) (owners_after owners d a)
known-after desks d desk owners a within all = subst (λ (count : ℕ). All (λ owner. owner < count) (owners_after owners d a))
    (sym (length-set desks d desk)) (known-in (λ (owner : ℕ). owner < length desks) owners d a within all)

-- a desk keeps its name, and its next number doesn't fall
abbrev GoesOn : DeskValue → DeskValue → Type 0
GoesOn old new = (new.name ≡ old.name) × (old.next ≤ new.next)

module _ (old new : ControlValue) (desks : List DeskValue) (owners : List ℕ) (rows : List Entry) (d n : ℕ) (c : Command) (a : Answered)
    (f : DesksFit old desks owners rows) (same : new.net ≡ old.net) (within : d < length desks) (line : is_of_row a ≡ true)
    (above : (get_or desks d (new_desk [])).next ≤ n) where
  abbrev desk : DeskValue
  desk = get_or desks d (new_desk [])

  abbrev row : Row
  row = record { sequence = n; command = c; reply = a }

  abbrev desks' : List DeskValue
  desks' = set desks d (with_row desk row)

  abbrev entry : Entry
  entry = record { desk = desk.name; sequence = n; command = c; reply = reply_in new a }

  goes-on : (k : ℕ) → GoesOn (get_or desks k (new_desk [])) (get_or desks' k (new_desk []))
  goes-on = rel-set GoesOn (new_desk []) (λ x. (refl, omega arith)) desks d (with_row desk row) (refl, omega (arith, above))

  found' : (name : List ℕ) → position_from (named name) 0 desks' ≡ position_from (named name) 0 desks
  found' name = named-set name desks d 0 (with_row desk row) refl

  each' : EachIsFound desks'
  each' k short =
      let long : length desks' ≡ length desks = length-set desks d (with_row desk row) in
      let before : k < length desks = omega (arith, short, long) in
      found' (name_of desks' k)
      ∙ subst (λ (name : List ℕ). position_from (named name) 0 desks ≡ Some k) (sym (goes-on k).0) (f.each k before)

  owned-on : (e : Entry) → IsOfDesk desks e → IsOfDesk desks' e
  owned-on e is = record {
    desk = is.desk;
    found = found' e.desk ∙ is.found;
    above = is.above;
    below = omega (arith, is.below, (goes-on is.desk).1);
  }

  owned-last : IsOfDesk desks' entry
  owned-last = record {
    desk = d;
    found = found' desk.name ∙ f.each d within;
    above = omega (arith, above, f.some d);
    below = subst (λ (k : DeskValue). n < k.next) (sym (get_or-set_same desks d (with_row desk row) (new_desk []) within)) (omega arith);
  }

  held-on : (name : List ℕ) (x : Row) → IsOfRows old name rows x → IsOfRows new name (rows ++ entry ∷ []) x
  held-on name x is = record {
    line = is.line;
    entry = is.entry;
    among = among-longer is.entry rows (entry ∷ []) is.among;
    desk = is.desk;
    sequence = is.sequence;
    command = is.command;
    reply = is.reply ∙ sym (reply-same old new x.reply same is.line);
  }

  held-last : IsOfRows new desk.name (rows ++ entry ∷ []) row
  held-last = record {
    line = line;
    entry = entry;
    among = among-last entry rows;
    desk = refl;
    sequence = refl;
    command = refl;
    reply = refl;
  }

  held-all : (k : DeskValue) → HoldsRows old rows k → HoldsRows new (rows ++ entry ∷ []) k
  held-all k holds = All-weaker (IsOfRows old k.name rows) (IsOfRows new k.name (rows ++ entry ∷ [])) (held-on k.name) k.held holds

  held' : (k : ℕ) → HoldsRows new (rows ++ entry ∷ []) (get_or desks' k (new_desk []))
  held' = at-set (HoldsRows new (rows ++ entry ∷ [])) (new_desk []) desks d (with_row desk row)
      (all-trimmed (IsOfRows new desk.name (rows ++ entry ∷ [])) (desk.held ++ row ∷ [])
      (All-push (IsOfRows new desk.name (rows ++ entry ∷ [])) desk.held row (held-all desk (f.held d)) held-last))
      (λ k. held-all (get_or desks k (new_desk [])) (f.held k))

  -- another desk has another name
  apart-names : (k : ℕ) → k < length desks → k ≢ d → bytes_eq desk.name (name_of desks k) ≡ false
  apart-names k short apart =
      bytes_eq-apart desk.name (name_of desks k)
      (λ same_name.
      let found : Some k ≡ Some d =
      sym (f.each k short) ∙ ap (λ (name : List ℕ). position_from (named name) 0 desks) (sym same_name) ∙ f.each d within in
      let same_place : k ≡ d = cc in
      apart same_place)

  knows-still : (k : ℕ) → k < length desks → KnowsItsRows new (get_or desks k (new_desk [])) rows
  knows-still k short =
      knows-on old new (get_or desks k (new_desk [])) rows same (lines-of old rows (get_or desks k (new_desk [])) (f.held k)) (f.knows k short)

  knows' : (k : ℕ) → k < length desks' → KnowsItsRows new (get_or desks' k (new_desk [])) (rows ++ entry ∷ [])
  knows' k short =
      let long : length desks' ≡ length desks = length-set desks d (with_row desk row) in
      let before : k < length desks = omega (arith, short, long) in
      elim (nat_eq-cases k d) [
        | inl here ↦
            let there : get_or desks' k (new_desk []) ≡ with_row desk row =
            ap (λ (i : ℕ). get_or desks' i (new_desk [])) here ∙ get_or-set_same desks d (with_row desk row) (new_desk []) within in
            subst (λ (x : DeskValue). KnowsItsRows new x (rows ++ entry ∷ [])) (sym there) (knows-own new desk row rows (knows-still d within))
        | inr apart ↦
            subst (λ (x : DeskValue). KnowsItsRows new x (rows ++ entry ∷ []))
            (sym (get_or-set_other desks d k (with_row desk row) (new_desk []) apart))
            (knows-other new (get_or desks k (new_desk [])) rows entry (apart-names k before apart) (knows-still k before))
      ]

  sellers' : map (name_of desks') (owners_after owners d a) ≡ flat_map seller_of (rows ++ entry ∷ [])
  sellers' = owners-named (name_of desks') owners d desk.name new a (goes-on d).0
      ∙ ap (λ (names : List (List ℕ)). names ++ (seller_of entry ++ []))
      (map-same (name_of desks') (name_of desks) owners (λ k e short. (goes-on (get_or owners k e)).0) ∙ f.sellers)
      ∙ sym (flat_map-append seller_of rows (entry ∷ []))

  sold-last : 1 < (get_or desks' d (new_desk [])).next
  sold-last = subst (λ (k : DeskValue). 1 < k.next) (sym (get_or-set_same desks d (with_row desk row) (new_desk []) within))
      (omega (arith, above, f.some d))

  desks-carried : DesksFit new desks' (owners_after owners d a) (rows ++ entry ∷ [])
  desks-carried = record {
    each = each';
    some = λ k. omega (arith, f.some k, (goes-on k).1);
    owned = All-push (IsOfDesk desks') rows entry (All-weaker (IsOfDesk desks) (IsOfDesk desks') owned-on rows f.owned) owned-last;
    held = held';
    knows = knows';
    known = known-after desks d (with_row desk row) owners a within f.known;
    sold = known-in (λ (owner : ℕ). 1 < (get_or desks' owner (new_desk [])).next) owners d a sold-last
        (λ k e short. omega (arith, f.sold k e short, (goes-on (get_or owners k e)).1));
    sellers = sellers';
  }

  -- its number is above those of the desk's rows
  rises : (e : Entry) → IsOfDesk desks e → NumbersRise e entry
  rises e is same_desk =
      let found : Some is.desk ≡ Some d =
      sym is.found ∙ ap (λ (name : List ℕ). position_from (named name) 0 desks) same_desk ∙ f.each d within in
      let one : is.desk ≡ d = cc in
      let below : e.sequence < desk.next = subst (λ (k : ℕ). e.sequence < (get_or desks k (new_desk [])).next) one is.below in
      omega (arith, below, above)

  rise-more : AllPairs NumbersRise rows → AllPairs NumbersRise (rows ++ entry ∷ [])
  rise-more rise = all_pairs_push NumbersRise rows entry rise
      (λ k e short. rises (get_or rows k e) (All-get_or (IsOfDesk desks) rows k e short f.owned))

module _ (start : ControlValue) (begun : (s : SeatState) × Represents start s) where
  pub fits-carried : (r r' : RegisterValue) (d n : ℕ) (c : Command) (a : Answered) (rows : List Entry) (turns : List Turn)
      → FitsIn start r rows turns → d < length r.desks → is_change c ≡ true → (desk_at r d).next ≤ n → Carries r r' d n c a
      → FitsIn start r' (rows ++ record { desk = name_at r d; sequence = n; command = c; reply = reply_in r'.control a } ∷ [])
      (turns ++ (c, reply_in r'.control a) ∷ [])
  fits-carried r r' d n c a rows turns f within changes above carries =
      let (s, stands) = begun in
      let (s', stood, run) = f.run.run s stands in
      let (s'', step, stood') = carries.steps.step s' stood in
      let line : is_of_row a ≡ true = is-of-row r.control.net s' s'' c r'.control a changes step carries.some in
      let last : Entry = record { desk = name_at r d; sequence = n; command = c; reply = reply_in r'.control a } in
      let fit : DesksFit r'.control (set r.desks d (with_row (desk_at r d) (record { sequence = n; command = c; reply = a })))
      (owners_after r.owners d a) (rows ++ last ∷ []) =
      desks-carried r.control r'.control r.desks r.owners rows d n c a f.fit carries.steps.network within line above in
      record {
        run = run-more start r.control r'.control turns c (reply_in r'.control a) f.run carries.steps;
        counted = carries.rows ∙ ap (λ (k : ℕ). k + 1) f.counted ∙ sym (length_push rows last);
        rise = rise-more r.control r'.control r.desks r.owners rows d n c a f.fit carries.steps.network within line above f.rise;
        fit = subst (λ (owners : List ℕ). DesksFit r'.control r'.desks owners (rows ++ last ∷ [])) (sym carries.owners)
            (subst (λ (desks : List DeskValue). DesksFit r'.control desks (owners_after r.owners d a) (rows ++ last ∷ []))
            (sym carries.desks) fit);
      }

  -- rows are given again
  pub fits-again : (r : RegisterValue) (more : List Entry) (r' : RegisterValue) → GivesAgain r more r' → (rows : List Entry)
      (turns : List Turn) → FitsIn start r rows turns → FitsIn start r' (rows ++ more) (turns ++ map turn_again more)
  fits-again _ _ _ (nothing_again r) rows turns f =
      subst (λ (l : List Entry). FitsIn start r l (turns ++ [])) (sym (append-nil rows))
      (subst (λ (l : List Turn). FitsIn start r rows l) (sym (append-nil turns)) f)
  fits-again _ _ _ (row_again r mid r' r'' d n name c a more joins changes above carries rest) rows turns f =
      let j = joined r mid name d (unused-none r) joins in
      let last : Entry = record { desk = name; sequence = n; command = c; reply = reply_in r'.control a } in
      let turn : Turn = (c, reply_in r'.control a) in
      let one : FitsIn start r' (rows ++ last ∷ []) (turns ++ turn ∷ []) =
      subst (λ (desk : List ℕ). FitsIn start r' (rows ++ record { desk = desk; sequence = n; command = c; reply = reply_in r'.control a } ∷ [])
      (turns ++ turn ∷ [])) j.name_is
      (fits-carried mid r' d n c a rows turns (fits-joined start r mid name d rows turns (unused-none r) f joins) j.within changes above carries) in
      let all : FitsIn start r'' ((rows ++ last ∷ []) ++ more) ((turns ++ turn ∷ []) ++ map turn_again more) =
      fits-again (record r' { text = [] }) more r'' rest (rows ++ last ∷ []) (turns ++ turn ∷ []) one in
      subst (λ (l : List Entry). FitsIn start r'' l (turns ++ turn ∷ map turn_again more)) (append_assoc rows (last ∷ []) more)
      (subst (λ (l : List Turn). FitsIn start r'' ((rows ++ last ∷ []) ++ more) l) (append_assoc turns (turn ∷ []) (map turn_again more)) all)

-- the text of a register to which rows are given again stays empty
pub text-again : (r : RegisterValue) (more : List Entry) (r' : RegisterValue) → GivesAgain r more r' → r.text ≡ [] → r'.text ≡ []
text-again _ _ _ (nothing_again r) none = none
text-again _ _ _ (row_again r mid r' r'' d n name c a more joins changes above carries rest) none =
    text-again (record r' { text = [] }) more r'' rest refl

-- ---- a line leaves no row
desks-passed : (old new : ControlValue) (desks : List DeskValue) (owners : List ℕ) (rows : List Entry) → new.net ≡ old.net
    → DesksFit old desks owners rows → DesksFit new desks owners rows
desks-passed old new desks owners rows same f = record {
  each = f.each;
  some = f.some;
  owned = f.owned;
  held = λ d. All-weaker (IsOfRows old (name_of desks d) rows) (IsOfRows new (name_of desks d) rows)
      (λ x is. record {
        line = is.line;
        entry = is.entry;
        among = is.among;
        desk = is.desk;
        sequence = is.sequence;
        command = is.command;
        reply = is.reply ∙ sym (reply-same old new x.reply same is.line);
      }) (get_or desks d (new_desk [])).held (f.held d);
  knows = λ d short. knows-on old new (get_or desks d (new_desk [])) rows same (lines-of old rows (get_or desks d (new_desk [])) (f.held d)) (f.knows d short);
  known = f.known;
  sold = f.sold;
  sellers = f.sellers;
}

pub fits-passed : (start : ControlValue) (r r' : RegisterValue) (c : Command) (reply : Reply) (rows : List Entry) (turns : List Turn)
    → FitsIn start r rows turns → Passes r r' c reply → FitsIn start r' rows (turns ++ (c, reply) ∷ [])
fits-passed start r r' c reply rows turns f passes = record {
  run = run-more start r.control r'.control turns c reply f.run passes.steps;
  counted = ap (λ (x : RegisterValue). x.rows) passes.rest ∙ f.counted;
  rise = f.rise;
  fit = subst (λ (owners : List ℕ). DesksFit r'.control r'.desks owners rows)
      (sym (ap (λ (x : RegisterValue). x.owners) passes.rest))
      (subst (λ (desks : List DeskValue). DesksFit r'.control desks r.owners rows) (sym (ap (λ (x : RegisterValue). x.desks) passes.rest))
      (desks-passed r.control r'.control r.desks r.owners rows passes.steps.network f.fit));
}
