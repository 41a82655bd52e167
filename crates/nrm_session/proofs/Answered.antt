-- Commands that a controller answered one after another, and one of them that was cut.
use Rattle.std.proofs.Common.{ℕ, ◌≡◌, ◌∙◌, ◌<◌, ◌≤◌, List, [], ◌∷◌, ◌++◌, flat_map, length, take, Option, Result, Ok, Err, refl, sym, ap, subst}
use Rattle.std.proofs.Common.{append-nil, append_assoc}
use Rattle.std.proofs.lemmas.Grind.{flat_map-append}
use Rattle.std.specs.Prelude.{OnOk, OnErr}
use Rattle.std.specs.Io.KnownBytes.{Appends}
use Rattle.nrm_edge.specs.Causes.{HasCause, Rose}
use Rattle.nrm_edge.specs.Pieces.{AppendsFront}
use Rattle.nrm_model.specs.Network.{NetworkValue}
use Rattle.nrm_control.specs.State.{SeatState}
use Rattle.nrm_control.specs.Standing.{ControlValue, IsControl}
use Rattle.nrm_stream.specs.declared.command.Command.{Command}
use Rattle.nrm_session.specs.Answering.{AnswersLine, CutsLine, Steps}
use Rattle.nrm_session.specs.Replies.{Reply, text_of}
use Rattle.nrm_session.specs.Step.{Step}
use Rattle.nrm_session.specs.Run.{RunBy, Writes, WritesBy}
use Rattle.nrm_session.specs.Clerks.{AreMeanings, Answers, AnswersCut, is_control, refines, refines_cut}
use Rattle.nrm_session.specs.Serving.{CutBy, Refines, RefinesCut, WritesCut}

-- ---- runs by steps of any kind
module _ {R : Type 0} (step_by : SeatState → Command → R → SeatState → Type 0) (text : R → List ℕ) where
  -- a run goes on by another
  pub run-joined : (s : SeatState) (commands : List Command) (replies : List R) (mid : SeatState)
      (more : List Command) (others : List R) (s' : SeatState)
      → RunBy step_by s commands replies mid → RunBy step_by mid more others s' → RunBy step_by s (commands ++ more) (replies ++ others) s'
  run-joined s [] [] mid more others s' run rest = subst (λ (m : SeatState). RunBy step_by m more others s') run rest
  run-joined s [] (r ∷ replies) mid more others s' run rest = absurd run
  run-joined s (d ∷ commands) [] mid more others s' run rest = absurd run
  run-joined s (d ∷ commands) (r ∷ replies) mid more others s' (next, first, run) rest =
      (next, first, run-joined next commands replies mid more others s' run rest)

  abbrev pub writes-joined : (s mid s' : SeatState) (commands more : List Command) (output others : List ℕ)
      → WritesBy step_by text s commands output mid → WritesBy step_by text mid more others s'
      → WritesBy step_by text s (commands ++ more) (output ++ others) s'
  writes-joined s mid s' commands more output others first rest = record {
    replies = first.replies ++ rest.replies;
    run = run-joined s commands first.replies mid more rest.replies s' first.run rest.run;
    output = ap (λ o. o ++ others) first.output ∙ ap (λ o. flat_map text first.replies ++ o) rest.output
        ∙ sym (flat_map-append text first.replies rest.replies);
  }

  -- and by one in which a reply was cut
  abbrev pub cut-joined : (s mid s' : SeatState) (commands more : List Command) (output others : List ℕ)
      → WritesBy step_by text s commands output mid → CutBy step_by text mid more others s'
      → CutBy step_by text s (commands ++ more) (output ++ others) s'
  cut-joined s mid s' commands more output others first rest =
      let front : List ℕ = take rest.count (text rest.reply) in
      record {
        before = commands ++ rest.before;
        cut = rest.cut;
        after = rest.after;
        commands_are = ap (λ c. commands ++ c) rest.commands_are ∙ sym (append_assoc commands rest.before (rest.cut ∷ rest.after));
        replies = first.replies ++ rest.replies;
        mid = rest.mid;
        run = run-joined s commands first.replies mid rest.before rest.replies rest.mid first.run rest.run;
        reply = rest.reply;
        step = rest.step;
        count = rest.count;
        short = rest.short;
        output = ap (λ o. o ++ others) first.output ∙ ap (λ o. flat_map text first.replies ++ o) rest.output
            ∙ sym (append_assoc (flat_map text first.replies) (flat_map text rest.replies) front)
            ∙ ap (λ o. o ++ front) (sym (flat_map-append text first.replies rest.replies));
      }

  -- more commands may come behind the one that was cut
  abbrev pub cut-longer : (s s' : SeatState) (commands more : List Command) (output : List ℕ) → CutBy step_by text s commands output s'
      → CutBy step_by text s (commands ++ more) output s'
  cut-longer s s' commands more output cut = record {
    before = cut.before;
    cut = cut.cut;
    after = cut.after ++ more;
    commands_are = ap (λ c. c ++ more) cut.commands_are ∙ append_assoc cut.before (cut.cut ∷ cut.after) more;
    replies = cut.replies;
    mid = cut.mid;
    run = cut.run;
    reply = cut.reply;
    step = cut.step;
    count = cut.count;
    short = cut.short;
    output = cut.output;
  }

-- no command
refines-nothing : (control : ControlValue) → Refines control control [] []
refines-nothing control = record { network = refl; run = λ s stands. (s, stands, record { replies = []; run = refl; output = refl }) }

module _ (old mid new : ControlValue) (commands more : List Command) (output text : List ℕ) (first : Refines old mid commands output) where
  -- further commands
  refines-more : Refines mid new more text → Refines old new (commands ++ more) (output ++ text)
  refines-more rest = record {
    network = rest.network ∙ first.network;
    run = λ s stands.
        let (m, stands_m, writes) = first.run s stands in
        let (s', stands', others) = rest.run m stands_m in (
          s',
          stands',
          writes-joined (Step old.net) text_of s m s' commands more output text writes
              (subst (λ (net : NetworkValue). Writes net m more text s') first.network others),
        );
  }

  -- and of those one that was cut
  refines-then_cut : RefinesCut mid new more text → RefinesCut old new (commands ++ more) (output ++ text)
  refines-then_cut rest = record {
    network = rest.network ∙ first.network;
    run = λ s stands.
        let (m, stands_m, writes) = first.run s stands in
        let (s', stands', others) = rest.run m stands_m in (
          s',
          stands',
          cut-joined (Step old.net) text_of s m s' commands more output text writes
              (subst (λ (net : NetworkValue). WritesCut net m more text s') first.network others),
        );
  }

-- commands that come behind the one that was cut
refines-behind : (old new : ControlValue) (commands more : List Command) (output : List ℕ) → RefinesCut old new commands output
    → RefinesCut old new (commands ++ more) output
refines-behind old new commands more output cut = record {
  network = cut.network;
  run = λ s stands. let (s', stands', writes) = cut.run s stands in (s', stands', cut-longer (Step old.net) text_of s s' commands more output writes);
}

pub refines-are : {B : Type 0} → AreMeanings {V = ControlValue × B} refines refines_cut
refines-are = record {
  nothing = λ v. refines-nothing v.0;
  more = λ old mid new commands others output text first rest. refines-more old.0 mid.0 new.0 commands others output text first rest;
  then_cut = λ old mid new commands others output text first rest. refines-then_cut old.0 mid.0 new.0 commands others output text first
      rest;
  behind = λ old new commands others output cut. refines-behind old.0 new.0 commands others output cut;
}

-- one command
refines-one : (old new : ControlValue) (c : Command) (reply : Reply) → Steps old new c reply → Refines old new (c ∷ []) (text_of reply)
refines-one old new c reply steps = record {
  network = steps.network;
  run = λ s stands. let (s', step, stands') =
      steps.step s stands in (
        s',
        stands',
        record {
          replies = reply ∷ [];
          run = (s', step, refl);
          output = sym (append-nil (text_of reply));
        },
      );
}

refines-one_cut : (old new : ControlValue) (c : Command) (reply : Reply) (count : ℕ) → Steps old new c reply
    → count < length (text_of reply) → RefinesCut old new (c ∷ []) (take count (text_of reply))
refines-one_cut old new c reply count steps within = record {
  network = steps.network;
  run = λ s stands.
      let (s', step, stands') = steps.step s stands in (
        s',
        stands',
        record {
          before = [];
          cut = c;
          after = [];
          commands_are = refl;
          replies = [];
          mid = s;
          run = refl;
          reply = reply;
          step = step;
          count = count;
          short = within;
          output = refl;
        },
      );
}

answers-one : {B : Type 0} (old new : ControlValue × B) (c : Command) (held held' : Option (List ℕ)) (faults faults' : ℕ)
    → AnswersLine old.0 new.0 c held held' → IsControl new.0 → faults' ≡ faults
    → Answers refines is_control old new (c ∷ []) held held' faults faults'
answers-one old new c held held' faults faults' line sound same = record {
  output = text_of line.reply;
  written = line.written;
  means = refines-one old.0 new.0 c line.reply line.steps;
  counts = same;
  next = line.steps.next;
  sound = sound;
}

cut-one : {B : Type 0} (old new : ControlValue × B) (c : Command) (held held' : Option (List ℕ)) (faults faults' : ℕ)
    → CutsLine old.0 new.0 c held held' → IsControl new.0 → Rose faults faults' → faults ≤ faults'
    → AnswersCut refines_cut is_control old new (c ∷ []) held held' faults faults'
cut-one old new c held held' faults faults' line sound rose later = record {
  output = take line.front.count (text_of line.reply);
  written = line.front.grown;
  means = refines-one_cut old.0 new.0 c line.reply line.front.count line.steps line.front.short;
  rose = rose;
  later = later;
  sound = sound;
}

-- so it is as the line was answered
pub answered : {B T E : Type 0} (old new : ControlValue × B) (c : Command) (held held' : Option (List ℕ)) (faults faults' : ℕ)
    (result : Result T E)
    → IsControl new.0 → OnOk result (AnswersLine old.0 new.0 c held held') → HasCause faults faults' result
    → OnOk result (Answers refines is_control old new (c ∷ []) held held' faults faults')
answered old new c held held' faults faults' (Ok value) sound line cause =
    answers-one old new c held held' faults faults' line sound cause.done
answered old new c held held' faults faults' (Err error) sound line cause = tt

pub answered-cut : {B T E : Type 0} (old new : ControlValue × B) (c : Command) (held held' : Option (List ℕ)) (faults faults' : ℕ)
    (result : Result T E)
    → IsControl new.0 → OnErr result (CutsLine old.0 new.0 c held held') → HasCause faults faults' result
    → OnErr result (AnswersCut refines_cut is_control old new (c ∷ []) held held' faults faults')
answered-cut old new c held held' faults faults' (Ok value) sound line cause = tt
answered-cut old new c held held' faults faults' (Err error) sound line cause =
    cut-one old new c held held' faults faults' line sound cause.failed cause.later

-- a reply that was put to a line
pub line-answered : {T E : Type 0} (old new : ControlValue) (c : Command) (reply : Reply) (held held' : Option (List ℕ))
    (result : Result T E)
    → Steps old new c reply → OnOk result (Appends held held' (text_of reply)) → OnOk result (AnswersLine old new c held held')
line-answered old new c reply held held' (Ok value) steps written = record { reply = reply; steps = steps; written = written }
line-answered old new c reply held held' (Err error) steps written = tt

pub line-cut : {T E : Type 0} (old new : ControlValue) (c : Command) (reply : Reply) (held held' : Option (List ℕ)) (result : Result T E)
    → Steps old new c reply → OnErr result (AppendsFront held held' (text_of reply)) → OnErr result (CutsLine old new c held held')
line-cut old new c reply held held' (Ok value) steps front = tt
line-cut old new c reply held held' (Err error) steps front = record { reply = reply; steps = steps; front = front }
