-- The bytes of a stream that were taken so far, and how its session ends.
use Rattle.std.proofs.Common.{ℕ, ◌≡◌, ◌∙◌, ◌+◌, ◌≤◌, List, [], ◌++◌, length, take, Option, refl, sym, ap, subst, arith, inl, inr}
use Rattle.std.proofs.Common.{append-nil, length-append}
use Rattle.std.specs.Option.{option_to_list}
use Rattle.std.specs.Io.KnownBytes.{Appends, Consumes, IsAtEnd}
use Rattle.std.proofs.KnownBytes.{Consumes-nil, Consumes-trans}
use Rattle.std.proofs.Math.Seq.{take-append_seam}
use Rattle.nrm_control.specs.Standing.{ControlValue}
use Rattle.nrm_stream.specs.Commands.{commands_of, whole_commands}
use Rattle.nrm_stream.specs.Cuts.{CallFinishes}
use Rattle.nrm_stream.specs.Lines.{unfinished_line}
use Rattle.nrm_stream.specs.Splitting.{kept_of}
use Rattle.nrm_stream.specs.declared.command.Command.{Command}
use Rattle.nrm_stream.proofs.Calls.{call-finish}
use Rattle.nrm_session.specs.Clerks.{AreMeanings, Answers, stopped}
use Rattle.nrm_session.specs.Serving.{CountsFaults, SentOn, ServesBy, Streams}
use Rattle.nrm_session.specs.declared.serving.End.{End}
use Rattle.nrm_session.specs.declared.serving.End.TheVariants as end
use Rattle.nrm_session.specs.Inner.Answers.{AnswersPiece, CutsPiece, EndsInput}
use Rattle.nrm_session.proofs.Clerks.{answers-more, answers-nothing, stopped-more}

-- so many bytes were taken, the whole lines of them were answered, and this is kept of the unfinished one
pub record Taken {B : Type 0} (whole_is : (ControlValue × B) → (ControlValue × B) → List Command → List ℕ → Type 0)
    (ready : (ControlValue × B) → Type 0) (old now : ControlValue × B) (before after : Streams) (kept : Option (List ℕ))
    (count : ℕ) : Type 0 where
  pub taken : List ℕ
  pub consumed : Consumes before.coming after.coming taken
  pub counted : length taken ≡ count
  pub stands : kept ≡ kept_of (unfinished_line taken)
  pub answers : Answers whole_is ready old now (whole_commands taken) before.held after.held before.sink_faults after.sink_faults
  pub source : after.source_faults ≡ before.source_faults
  pub few : length (whole_commands taken) ≤ count

module _ {B : Type 0} (whole_is cut_is : (ControlValue × B) → (ControlValue × B) → List Command → List ℕ → Type 0)
    (ready : (ControlValue × B) → Type 0) (are : AreMeanings whole_is cut_is) where
  pub nothing-taken : (control : ControlValue × B) (before : Streams) (kept : Option (List ℕ)) → kept ≡ kept_of [] → ready control
      → Taken whole_is ready control control before before kept 0
  nothing-taken control before kept empty kept_control = record {
    taken = [];
    consumed = Consumes-nil before.coming;
    counted = refl;
    stands = empty;
    answers = answers-nothing whole_is cut_is ready are control before.held before.sink_faults kept_control;
    source = refl;
    few = omega arith;
  }

  module _ (old now new : ControlValue × B) (before after later : Streams) (kept kept' : Option (List ℕ)) (count : ℕ)
      (so_far : Taken whole_is ready old now before after kept count) (piece : List ℕ)
      (took : Consumes after.coming later.coming piece) (same : later.source_faults ≡ after.source_faults) where
    abbrev taken : List ℕ
    taken = so_far.taken ++ piece

    consumed : Consumes before.coming later.coming taken
    consumed = Consumes-trans before.coming after.coming later.coming so_far.taken piece so_far.consumed took

    -- a piece was taken, and its lines were answered
    pub piece-taken : AnswersPiece whole_is ready now new kept kept' piece after.held later.held after.sink_faults later.sink_faults
        → Taken whole_is ready old new before later kept' (count + length piece)
    piece-taken answered =
        let brought = answered.brings so_far.taken so_far.stands in
        record {
          taken = taken;
          consumed = consumed;
          counted = length-append so_far.taken piece ∙ ap (λ n. n + length piece) so_far.counted;
          stands = answered.leaves so_far.taken so_far.stands;
          answers = subst (λ (c : List Command). Answers whole_is ready old new c before.held later.held before.sink_faults
              later.sink_faults) (sym brought)
              (answers-more whole_is cut_is ready are old now new (whole_commands so_far.taken) answered.commands before.held after.held
              later.held before.sink_faults after.sink_faults later.sink_faults so_far.answers answered.answers);
          source = same ∙ so_far.source;
          few = omega (
            arith,
            so_far.few,
            answered.few,
            ap (λ (c : List Command). length c) brought,
            length-append
                (whole_commands so_far.taken) answered.commands,
          );
        }

    -- or one of them was cut
    pub piece-cut : (limit : ℕ) → count + length piece ≤ limit → CutsPiece whole_is cut_is ready now new kept piece after.held later.held
        after.sink_faults later.sink_faults
        → ServesBy (whole_is old new) (cut_is old new) before later limit end.WriteFault × CountsFaults before later end.WriteFault
    piece-cut limit short cuts =
        let (commands, brought, one) = cuts so_far.taken so_far.stands in
        let cut = stopped-more whole_is cut_is ready are old now new (whole_commands so_far.taken) commands before.held after.held
        later.held before.sink_faults after.sink_faults later.sink_faults so_far.answers one in (
          (
            taken,
            cut.output,
            record {
              consumed = consumed;
              short = omega (arith, short, so_far.counted, length-append so_far.taken piece);
              written = cut.written;
            },
            inl (subst (λ (c : List Command). stopped whole_is cut_is old new c cut.output) (sym brought) cut.means),
          ),
          (cut.rose, cut.later, same ∙ so_far.source),
        )

  module _ (old now new : ControlValue × B) (before after later : Streams) (kept : Option (List ℕ)) (count limit : ℕ)
      (so_far : Taken whole_is ready old now before after kept count) (short : count ≤ limit)
      (took : Consumes after.coming later.coming []) (ended : IsAtEnd later.coming) (last : Option Command)
      (finishes : CallFinishes kept last) where
    all-commands : commands_of so_far.taken ≡ whole_commands so_far.taken ++ option_to_list last
    all-commands = call-finish so_far.taken kept last so_far.stands finishes

    consumed-all : Consumes before.coming later.coming so_far.taken
    consumed-all = subst (λ (b : List ℕ). Consumes before.coming later.coming b) (append-nil so_far.taken)
        (Consumes-trans before.coming after.coming later.coming so_far.taken [] so_far.consumed took)

    -- the input was taken to its end, and its last line, if it isn't empty, was answered or cut
    pub input-ended : (result : End) → EndsInput whole_is cut_is ready now new (option_to_list last) after.held later.held
        after.sink_faults later.sink_faults result → ServesBy (whole_is old new) (cut_is old new) before later limit result
    input-ended end.Done answers =
        let more = answers-more whole_is cut_is ready are old now new (whole_commands so_far.taken) (option_to_list last) before.held
        after.held later.held before.sink_faults after.sink_faults later.sink_faults so_far.answers answers in (
          so_far.taken,
          more.output,
          record { consumed = consumed-all; short = omega (arith, short, so_far.counted); written = more.written },
          ended,
          subst (λ (c : List Command). whole_is old new c more.output) (sym all-commands) more.means,
        )
    input-ended end.WriteFault one =
        let cut = stopped-more whole_is cut_is ready are old now new (whole_commands so_far.taken) (option_to_list last) before.held
        after.held later.held before.sink_faults after.sink_faults later.sink_faults so_far.answers one in (
          so_far.taken,
          cut.output,
          record { consumed = consumed-all; short = omega (arith, short, so_far.counted); written = cut.written },
          inr (ended, subst (λ (c : List Command). stopped whole_is cut_is old new c cut.output) (sym all-commands) cut.means),
        )
    input-ended end.ReadFault none = absurd none
    input-ended end.TooLong none = absurd none

  -- one byte more than the limit was taken
  pub one-too-many : (old now : ControlValue × B) (before after : Streams) (coming : Option (List ℕ)) (kept : Option (List ℕ))
      (count limit : ℕ) → Taken whole_is ready old now before after kept count → count ≡ limit
      → (piece : List ℕ) → Consumes after.coming coming piece → length piece ≡ 1
      → (taken : List ℕ) × (output : List ℕ) × Consumes before.coming coming taken × (length taken ≡ limit + 1)
      × Appends before.held after.held output × whole_is old now (whole_commands (take limit taken)) output
  one-too-many old now before after coming kept count limit so_far is piece took one =
      let first : take limit (so_far.taken ++ piece) ≡ so_far.taken =
      ap (λ n. take n (so_far.taken ++ piece)) (sym (so_far.counted ∙ is)) ∙ take-append_seam so_far.taken piece in (
        so_far.taken ++ piece,
        so_far.answers.output,
        Consumes-trans before.coming after.coming coming so_far.taken piece so_far.consumed took,
        omega (arith, length-append so_far.taken piece, one, so_far.counted, is),
        so_far.answers.written,
        subst (λ (b : List ℕ). whole_is old now (whole_commands b) so_far.answers.output) (sym first) so_far.answers.means,
      )

-- what is kept back at the end, from a beginning on where nothing was
pub sent-before : (unsent unsent' unsent'' : List ℕ) → (unsent ≡ [] → unsent' ≡ []) → (result : End) → SentOn unsent' unsent'' result
    → SentOn unsent unsent'' result
sent-before unsent unsent' unsent'' before end.Done after = λ none. after (before none)
sent-before unsent unsent' unsent'' before end.ReadFault after = λ none. after (before none)
sent-before unsent unsent' unsent'' before end.TooLong after = λ none. after (before none)
sent-before unsent unsent' unsent'' before end.WriteFault after = tt
