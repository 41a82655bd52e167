-- What one call of the splitter adds to the lines that were answered: the steps of the two loops that serve a stream.
use Rattle.std.proofs.Common.{ℕ, ◌≡◌, ◌∙◌, ◌+◌, ◌-◌, ◌<◌, ◌≤◌, true, false, ◌==◌, List, [], ◌∷◌, ◌++◌, length, take, drop, map, Option}
use Rattle.std.proofs.Common.{Some, None, refl, sym, ap, subst, arith, inl, inr, append-nil, append_assoc, length-append, length-take}
use Rattle.std.specs.Option.{option_to_list}
use Rattle.std.specs.Io.KnownBytes.{Keeps}
use Rattle.nrm_edge.specs.Causes.{Rose}
use Rattle.std.proofs.Math.Seq.{take-length}
use Rattle.std.proofs.lemmas.Bool.{cases_lt}
use Rattle.std.proofs.lemmas.List.{map-append, take-append-drop, take_rest}
use Rattle.nrm_control.specs.Standing.{ControlValue}
use Rattle.nrm_stream.specs.Commands.{command_of, whole_commands}
use Rattle.nrm_stream.specs.Cuts.{CallFeeds}
use Rattle.nrm_stream.specs.Lines.{unfinished_line, whole_lines}
use Rattle.nrm_stream.specs.Splitting.{kept_of}
use Rattle.nrm_stream.specs.declared.command.Command.{Command}
use Rattle.nrm_stream.proofs.Calls.{call-none, call-some, end_at, feeds-ended, feeds-unended}
use Rattle.nrm_stream.proofs.JoinedLines.{joined}
use Rattle.nrm_session.specs.Clerks.{AreMeanings, Answers, AnswersCut}
use Rattle.nrm_session.specs.Inner.Answers.{AnswersPiece, Brings, CutsPiece, Leaves}
use Rattle.nrm_session.proofs.Clerks.{answers-more, answers-nothing, answers-sent, answers-unsent, cut-behind, cut-more, cut-stopped}

-- a call uses no more than the piece, and something where there is something
pub used-within : (line piece : List ℕ) (before after : Option (List ℕ)) (used : ℕ) (command : Option Command) → before ≡ kept_of line
    → CallFeeds before piece (used, command) after
    → (used ≤ length piece) × (0 < length piece → 0 < used)
used-within line piece before after used command stands call =
    elim (cases_lt (end_at piece) (length piece)) [
      | inl some ↦
          let (result, kept) = feeds-ended line piece (used, command) after some (call line stands) in
          let place : used ≡ end_at piece + 1 = ap (λ (r : ℕ × Option Command). r.0) result in
          (omega arith, λ long. omega arith)
      | inr none ↦
          let (result, kept) = feeds-unended line piece (used, command) after none (call line stands) in
          let place : used ≡ length piece = ap (λ (r : ℕ × Option Command). r.0) result in
          (omega arith, λ long. omega arith)
    ]

one-at-most : (o : Option Command) → length (option_to_list o) ≤ 1
one-at-most None = omega arith
one-at-most (Some c) = omega arith

none-left : (rest : List ℕ) → true ≡ (length rest == 0) → rest ≡ []
none-left [] none = refl
none-left (c ∷ rest) none =
    let some : (length (c ∷ rest) == 0) ≡ false = grind arith in
    let clash : true ≡ false = none ∙ some in
    cc

pub some-left : (rest : List ℕ) → false ≡ (length rest == 0) → 0 < length rest
some-left [] some = absurd (cc)
some-left (c ∷ rest) some = omega arith

pub no-command : (o : Option Command) → ((c : Command) → o ≡ Some c → ⊥) → o ≡ None
no-command None other = refl
no-command (Some c) other = absurd (other c refl)

-- what a call brings and leaves, with the bytes that it used
call-brings : (taken piece : List ℕ) (before after : Option (List ℕ)) (used : ℕ) (command : Option Command) → before
    ≡ kept_of (unfinished_line taken) → CallFeeds before piece (used, command) after
    → (whole_commands (taken ++ take used piece) ≡ whole_commands taken ++ option_to_list command)
    × (after ≡ kept_of (unfinished_line (taken ++ take used piece)))
call-brings taken piece before after used (Some command) stands call = let (some, within, brings, leaves) =
    call-some taken piece before after used command stands call in (brings, leaves)
call-brings taken piece before after used None stands call =
    let (all, brings, leaves) = call-none taken piece before after used stands call in
    let same : take used piece ≡ piece = ap (λ n. take n piece) all ∙ take-length piece in (
      ap (λ (p : List ℕ). whole_commands (taken ++ p)) same ∙ brings ∙ sym (append-nil (whole_commands taken)),
      leaves ∙ ap (λ (p : List ℕ). kept_of (unfinished_line (taken ++ p))) (sym same),
    )

-- the lines that the front of a piece ends were answered
pub record FrontAnswered {B : Type 0} (whole_is : (ControlValue × B) → (ControlValue × B) → List Command → List ℕ → Type 0)
    (ready : (ControlValue × B) → Type 0) (old now : ControlValue × B) (kept kept' : Option (List ℕ)) (piece rest : List ℕ)
    (held held' : Option (List ℕ)) (faults faults' : ℕ) : Type 0 where
  pub front : List ℕ
  pub whole : piece ≡ front ++ rest
  pub so_far : AnswersPiece whole_is ready old now kept kept' front held held' faults faults'

module _ {B : Type 0} (whole_is cut_is : (ControlValue × B) → (ControlValue × B) → List Command → List ℕ → Type 0)
    (ready : (ControlValue × B) → Type 0) (are : AreMeanings whole_is cut_is) where
  pub nothing-answered : (control : ControlValue × B) (kept : Option (List ℕ)) (piece : List ℕ) (held : Option (List ℕ)) (faults : ℕ)
      → ready control
      → FrontAnswered whole_is ready control control kept kept piece piece held held faults faults
  nothing-answered control kept piece held faults kept_control = record {
    front = [];
    whole = refl;
    so_far = record {
      commands = [];
      brings = λ taken stands. ap (λ (b : List ℕ). whole_commands b) (append-nil taken) ∙ sym (append-nil (whole_commands taken));
      leaves = λ taken stands. stands ∙ ap (λ (b : List ℕ). kept_of (unfinished_line b)) (sym (append-nil taken));
      few = omega arith;
      answers = answers-nothing whole_is cut_is ready are control held faults kept_control;
    };
  }

  module _ (old mid new : ControlValue × B) (kept kept' kept'' : Option (List ℕ)) (piece rest : List ℕ)
      (held held' held'' : Option (List ℕ)) (faults faults' faults'' : ℕ)
      (so_far : FrontAnswered whole_is ready old mid kept kept' piece rest held held' faults faults') (used : ℕ) (command : Option Command)
      (call : CallFeeds kept' rest (used, command) kept'') where
    abbrev front : List ℕ
    front = so_far.front ++ take used rest

    abbrev more : List Command
    more = so_far.so_far.commands ++ option_to_list command

    brings : Brings kept front more
    brings taken stands =
        let before : kept' ≡ kept_of (unfinished_line (taken ++ so_far.front)) = so_far.so_far.leaves taken stands in
        let (brought, left) = call-brings (taken ++ so_far.front) rest kept' kept'' used command before call in
        ap (λ (b : List ℕ). whole_commands b) (sym (append_assoc taken so_far.front (take used rest))) ∙ brought
        ∙ ap (λ (c : List Command). c ++ option_to_list command) (so_far.so_far.brings taken stands)
        ∙ append_assoc (whole_commands taken) so_far.so_far.commands (option_to_list command)

    leaves : Leaves kept front kept''
    leaves taken stands =
        let before : kept' ≡ kept_of (unfinished_line (taken ++ so_far.front)) = so_far.so_far.leaves taken stands in
        let (brought, left) = call-brings (taken ++ so_far.front) rest kept' kept'' used command before call in
        left ∙ ap (λ (b : List ℕ). kept_of (unfinished_line b)) (append_assoc taken so_far.front (take used rest))

    whole : piece ≡ front ++ drop used rest
    whole = so_far.whole ∙ ap (λ (b : List ℕ). so_far.front ++ b) (sym (take-append-drop used rest))
        ∙ sym (append_assoc so_far.front (take used rest) (drop used rest))

    -- the lines so far, and that of the call where it gave one
    call-answered : (line : List ℕ) → kept' ≡ kept_of line → 0 < length rest
        → Answers whole_is ready mid new (option_to_list command) held' held'' faults' faults''
        → FrontAnswered whole_is ready old new kept kept'' piece (take (length rest - used) (drop used rest)) held held'' faults faults''
    call-answered line stands long answers =
        let (within, used_some) = used-within line rest kept' kept'' used command stands call in
        let some_used = used_some long in
        record {
          front = front;
          whole = whole ∙ ap (λ (b : List ℕ). front ++ b) (sym (take_rest rest used));
          so_far = record {
            commands = more;
            brings = brings;
            leaves = leaves;
            few = omega (
              arith,
              so_far.so_far.few,
              one-at-most command,
              some_used,
              within,
              length-append so_far.so_far.commands
                  (option_to_list command),
              length-append so_far.front (take used rest),
              length-take used rest,
            );
            answers = answers-more whole_is cut_is ready are old mid new so_far.so_far.commands (option_to_list command) held held' held''
                faults faults' faults'' so_far.so_far.answers answers;
          };
        }

    -- a call gave a line, and it was answered
    pub line-answered : (c : Command) → command ≡ Some c → (line : List ℕ) → kept' ≡ kept_of line → 0 < length rest
        → Answers whole_is ready mid new (c ∷ []) held' held'' faults' faults''
        → FrontAnswered whole_is ready old new kept kept'' piece (take (length rest - used) (drop used rest)) held held'' faults faults''
    line-answered c is line stands long answers =
        call-answered line stands long
        (subst (λ (o : Option Command). Answers whole_is ready mid new (option_to_list o) held' held'' faults' faults'') (sym is) answers)

    -- or it was cut
    pub line-cut : (c : Command) → command ≡ Some c → AnswersCut cut_is ready mid new (c ∷ []) held' held'' faults' faults''
        → CutsPiece whole_is cut_is ready old new kept piece held held'' faults faults''
    line-cut c is one taken stands =
        let cut : AnswersCut cut_is ready mid new (option_to_list command) held' held'' faults' faults'' =
        subst (λ (o : Option Command). AnswersCut cut_is ready mid new (option_to_list o) held' held'' faults' faults'') (sym is) one in
        let behind : List Command = map command_of (whole_lines (unfinished_line (taken ++ front) ++ drop used rest)) in
        let (lines, last, all) = joined (taken ++ front) (drop used rest) in
        let bytes : taken ++ piece ≡ (taken ++ front) ++ drop used rest =
        ap (λ (b : List ℕ). taken ++ b) whole ∙ sym (append_assoc taken front (drop used rest)) in (
          more ++ behind,
          ap (λ (b : List ℕ). whole_commands b) bytes ∙ ap (λ (w : List (List ℕ)). map command_of w) lines
              ∙ map-append command_of (whole_lines (taken ++ front)) (whole_lines (unfinished_line (taken ++ front) ++ drop used rest))
              ∙ ap (λ (c : List Command). c ++ behind) (brings taken stands) ∙ append_assoc (whole_commands taken) more behind,
          cut-stopped whole_is cut_is ready are old new (more ++ behind) held held'' faults faults''
              (cut-behind whole_is cut_is ready are old new more behind held held'' faults faults''
              (cut-more whole_is cut_is ready are old mid new so_far.so_far.commands (option_to_list command) held held' held'' faults
              faults' faults'' so_far.so_far.answers cut)),
        )

  -- a call gave no line
  pub nothing-more : (old now : ControlValue × B) (kept kept' kept'' : Option (List ℕ)) (piece rest : List ℕ)
      (held held' : Option (List ℕ)) (faults faults' : ℕ)
      → FrontAnswered whole_is ready old now kept kept' piece rest held held' faults faults' → (used : ℕ) (command : Option Command)
      → CallFeeds kept' rest (used, command) kept'' → command ≡ None
      → (line : List ℕ) → kept' ≡ kept_of line → 0 < length rest → ready now
      → FrontAnswered whole_is ready old now kept kept'' piece (take (length rest - used) (drop used rest)) held held' faults faults'
  nothing-more old now kept kept' kept'' piece rest held held' faults faults' so_far used command call is line stands long kept_control =
      call-answered old now now kept kept' kept'' piece rest held held' held' faults faults' faults' so_far used command call line stands
      long
      (subst (λ (o : Option Command). Answers whole_is ready now now (option_to_list o) held' held' faults' faults') (sym is)
      (answers-nothing whole_is cut_is ready are now held' faults' kept_control))

  -- sending on what the lines of the whole piece were answered failed
  pub piece-unsent : (old now : ControlValue × B) (kept kept' : Option (List ℕ)) (piece rest : List ℕ)
      (held held' held'' : Option (List ℕ)) (faults faults' faults'' : ℕ)
      → FrontAnswered whole_is ready old now kept kept' piece rest held held' faults faults' → true ≡ (length rest == 0)
      → Keeps held' held'' → Rose faults' faults'' → faults' ≤ faults''
      → CutsPiece whole_is cut_is ready old now kept piece held held'' faults faults''
  piece-unsent old now kept kept' piece rest held held' held'' faults faults' faults'' so_far none stays rose later taken stands =
      let all : piece ≡ so_far.front = so_far.whole ∙ ap (λ (b : List ℕ). so_far.front ++ b) (none-left rest none)
      ∙ append-nil so_far.front in (
        so_far.so_far.commands,
        ap (λ (b : List ℕ). whole_commands (taken ++ b)) all ∙ so_far.so_far.brings taken stands,
        answers-unsent whole_is cut_is ready are old now so_far.so_far.commands held held' held'' faults faults' faults''
            so_far.so_far.answers stays rose later,
      )
