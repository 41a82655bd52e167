-- Commands that were answered one after another, and one of them that was cut, whoever answers them.
use Rattle.std.proofs.Common.{ℕ, ◌≡◌, ◌∙◌, ◌≤◌, List, [], ◌++◌, Option, Result, Ok, Err, inl, inr, refl, subst, arith, length-append}
use Rattle.std.proofs.KnownBytes.{Appends-nil, Appends-trans, Appends-kept}
use Rattle.std.specs.Prelude.{OnErr}
use Rattle.std.specs.Io.KnownBytes.{Keeps}
use Rattle.nrm_edge.specs.Causes.{HasCause, Rose}
use Rattle.nrm_control.specs.Standing.{ControlValue}
use Rattle.nrm_stream.specs.declared.command.Command.{Command}
use Rattle.nrm_session.specs.Clerks.{AreMeanings, Answers, AnswersCut, stopped}

module _ {B : Type 0} (whole cut : (ControlValue × B) → (ControlValue × B) → List Command → List ℕ → Type 0)
    (ready : (ControlValue × B) → Type 0) (are : AreMeanings whole cut) where
  -- no command yet
  pub answers-nothing : (at : ControlValue × B) (held : Option (List ℕ)) (faults : ℕ)
      → ready at → Answers whole ready at at [] held held faults faults
  answers-nothing at held faults sound = record {
    output = [];
    written = Appends-nil held;
    means = are.nothing at;
    counts = refl;
    next = omega arith;
    sound = sound;
  }

  module _ (old mid new : ControlValue × B) (commands more : List Command) (held held' held'' : Option (List ℕ))
      (faults faults' faults'' : ℕ)
      (first : Answers whole ready old mid commands held held' faults faults') where
    -- further commands
    pub answers-more : Answers whole ready mid new more held' held'' faults' faults''
        → Answers whole ready old new (commands ++ more) held held'' faults faults''
    answers-more rest = record {
      output = first.output ++ rest.output;
      written = Appends-trans held held' held'' first.output rest.output first.written rest.written;
      means = are.more old mid new commands more first.output rest.output first.means rest.means;
      counts = rest.counts ∙ first.counts;
      next = omega (arith, first.next, rest.next, length-append commands more);
      sound = rest.sound;
    }

    -- and of those one that was cut
    pub cut-more : AnswersCut cut ready mid new more held' held'' faults' faults''
        → AnswersCut cut ready old new (commands ++ more) held held'' faults faults''
    cut-more rest = record {
      output = first.output ++ rest.output;
      written = Appends-trans held held' held'' first.output rest.output first.written rest.written;
      means = are.then_cut old mid new commands more first.output rest.output first.means rest.means;
      rose = subst (λ count. Rose count faults'') first.counts rest.rose;
      later = subst (λ count. count ≤ faults'') first.counts rest.later;
      sound = rest.sound;
    }

    -- or none of them was, and only sending them on failed
    pub stopped-more : AnswersCut (stopped whole cut) ready mid new more held' held'' faults' faults''
        → AnswersCut (stopped whole cut) ready old new (commands ++ more) held held'' faults faults''
    stopped-more rest = record {
      output = first.output ++ rest.output;
      written = Appends-trans held held' held'' first.output rest.output first.written rest.written;
      means = elim rest.means [
        | inl one ↦ inl (are.then_cut old mid new commands more first.output rest.output first.means one)
        | inr all ↦ inr (are.more old mid new commands more first.output rest.output first.means all)
      ];
      rose = subst (λ count. Rose count faults'') first.counts rest.rose;
      later = subst (λ count. count ≤ faults'') first.counts rest.later;
      sound = rest.sound;
    }

  -- where one was cut, the sink failed
  pub cut-stopped : (old new : ControlValue × B) (commands : List Command) (held held' : Option (List ℕ)) (faults faults' : ℕ)
      → AnswersCut cut ready old new commands held held' faults faults'
      → AnswersCut (stopped whole cut) ready old new commands held held' faults faults'
  cut-stopped old new commands held held' faults faults' one = record {
    output = one.output;
    written = one.written;
    means = inl one.means;
    rose = one.rose;
    later = one.later;
    sound = one.sound;
  }

  -- commands that come behind the one that was cut
  pub cut-behind : (old new : ControlValue × B) (commands more : List Command) (held held' : Option (List ℕ)) (faults faults' : ℕ)
      → AnswersCut cut ready old new commands held held' faults faults'
      → AnswersCut cut ready old new (commands ++ more) held held' faults faults'
  cut-behind old new commands more held held' faults faults' one = record {
    output = one.output;
    written = one.written;
    means = are.behind old new commands more one.output one.means;
    rose = one.rose;
    later = one.later;
    sound = one.sound;
  }

  module _ (old new : ControlValue × B) (commands : List Command) (held held' held'' : Option (List ℕ)) (faults faults' faults'' : ℕ)
      (answers : Answers whole ready old new commands held held' faults faults') (stays : Keeps held' held'') where
    -- what was put was sent on
    pub answers-sent : faults'' ≡ faults' → Answers whole ready old new commands held held'' faults faults''
    answers-sent same = record {
      output = answers.output;
      written = Appends-kept held held' held'' answers.output answers.written stays;
      means = answers.means;
      counts = same ∙ answers.counts;
      next = answers.next;
      sound = answers.sound;
    }

    -- or sending it on failed
    pub answers-unsent : Rose faults' faults'' → faults' ≤ faults'' → AnswersCut (stopped whole cut) ready old new commands held held''
        faults faults''
    answers-unsent rose later = record {
      output = answers.output;
      written = Appends-kept held held' held'' answers.output answers.written stays;
      means = inr answers.means;
      rose = subst (λ count. Rose count faults'') answers.counts rose;
      later = subst (λ count. count ≤ faults'') answers.counts later;
      sound = answers.sound;
    }

  -- as sending on went
  pub sent-cut : {T E : Type 0} (old new : ControlValue × B) (commands : List Command) (held held' held'' : Option (List ℕ))
      (faults faults' faults'' : ℕ) (result : Result T E)
      → Answers whole ready old new commands held held' faults faults' → Keeps held' held'' → HasCause faults' faults'' result
      → OnErr result (AnswersCut (stopped whole cut) ready old new commands held held'' faults faults'')
  sent-cut old new commands held held' held'' faults faults' faults'' (Ok value) answers stays cause = tt
  sent-cut old new commands held held' held'' faults faults' faults'' (Err error) answers stays cause =
      answers-unsent old new commands held held' held'' faults faults' faults'' answers stays cause.failed cause.later
