-- How frames are served, one after another.
use Rattle.std.proofs.Common.{ℕ, ◌≡◌, ◌≢◌, ◌∙◌, ◌+◌, ◌<◌, ◌≤◌, List, [], length, drop, Option, Some, None, refl, sym, ap, subst, inl, inr}
use Rattle.std.proofs.Common.{append-nil, arith, length-drop}
use Rattle.std.specs.Prelude.{⊤, Ok, Err}
use Rattle.std.specs.Io.KnownBytes.{Consumes, Keeps}
use Rattle.nrm_control.specs.Standing.{ControlValue}
use Rattle.nrm_edge.specs.Causes.{Rose}
use Rattle.nrm_frames.specs.Cutting.{cut_of, no_frame, part, whole}
use Rattle.nrm_frames.specs.declared.header.Header.{Header}
use Rattle.nrm_session.specs.Serving.{Streams}
use Rattle.nrm_hub.specs.Again.{FailsAgain}
use Rattle.nrm_hub.specs.Goes.{Puts}
use Rattle.nrm_hub.specs.Hub.{HubValue, takes_frames}
use Rattle.nrm_desks_cli.specs.Inner.Serving.{DoesFrame, EndsWith, GoesOnFirst, HandlesFirst, PutsOrCut, ServesTo, Stands, StandsOr, TakesOr, at_sink}
use Rattle.nrm_desks_cli.specs.Inner.Serving.{end_of, fails, had_failed, sent}
use Rattle.nrm_desks_cli.specs.Served.{IsDone, IsOpen, IsTooLong, MayNotCome, NothingIsLeft, Served, ServedCut}
use Rattle.nrm_desks_cli.specs.declared.handling.Handled.{Handled}
use Rattle.nrm_desks_cli.specs.declared.handling.Handled.TheVariants as handled
use Rattle.nrm_desks_cli.specs.declared.serving.TheConstants.{MOST_BYTES}
use Rattle.nrm_desks_cli.specs.declared.serving.ServeEnd.{ServeEnd}
use Rattle.nrm_desks_cli.specs.declared.serving.ServeEnd.TheVariants as end
use Rattle.nrm_desks_cli.proofs.Worlds.{frame-cut, frame-goes_on, frame-last, kept-same, puts-cut, puts-on, served-cut, served-kept, takes-more}

-- ---- the first frame that waits
module _ (old new : HubValue) (waiting : List ℕ) (held held' : Option (List ℕ)) (faults faults' : ℕ) where
  -- it was carried out, and what waits is behind it
  pub record Next (behind : List ℕ) : Type 0 where
    pub stands : (start : ControlValue) (before at : Streams) (taken : ℕ) → Stands start before (at_sink at held faults) old waiting taken
        → Stands start before (at_sink at held' faults') new behind taken
    pub faults_same : faults' ≡ faults
    pub shorter : length behind < length waiting
    pub open_still : IsOpen new

  next-frame : (used : ℕ) (behind : List ℕ) → DoesFrame old new waiting held held' faults faults' handled.GoesOn used
      → IsOpen new → behind ≡ drop used waiting → Next behind
  next-frame used behind does open_still is = record {
    stands = λ start before at taken stands. frame-goes_on start before at held held' faults faults' old new waiting taken stands does.header
        does.payload behind
        (subst (λ (rest : List ℕ). cut_of waiting ≡ whole does.header does.payload rest) (does.rest_is ∙ sym is) does.cut) does.handles.0 open_still;
    faults_same = does.handles.1;
    shorter = rw is (let left = length-drop used waiting in let w = does.within in let s = does.some in omega arith);
    open_still = open_still;
  }

  pub first-next : (r : Option (Handled × ℕ)) (what : Handled) (used : ℕ) (behind : List ℕ) → r ≡ Some (what, used) → end_of what ≡ None
      → HandlesFirst old new waiting held held' faults faults' r → (GoesOnFirst r → IsOpen new) → behind ≡ drop used waiting → Next behind
  first-next r what used behind is goes first open_still behind_is =
      by what goes (subst (HandlesFirst old new waiting held held' faults faults') is first)
      (subst (λ (r : Option (Handled × ℕ)). GoesOnFirst r → IsOpen new) is open_still)
    where
      by : (what : Handled) → end_of what ≡ None → HandlesFirst old new waiting held held' faults faults' (Some (what, used))
          → (GoesOnFirst (Some (what, used)) → IsOpen new) → Next behind
      by handled.GoesOn goes (inl (never, none, stays)) open_still = let other : handled.GoesOn ≡ handled.NoFrame = never in cc
      by handled.GoesOn goes (inr does) open_still = next-frame used behind does (open_still refl) behind_is
      by handled.Ended goes done open_still = let no : Some end.Done ≡ None = goes in cc
      by handled.NoFrame goes done open_still = let no : Some end.NoFrame ≡ None = goes in cc
      by (handled.NotAgain fault) goes done open_still = let no : Some (end.NotAgain fault) ≡ None = goes in cc
      by handled.Cut goes done open_still = let no : Some end.WriteFault ≡ None = goes in cc

  -- none waits
  pub none-waits : HandlesFirst old new waiting held held' faults faults' None → (start : ControlValue) (before at : Streams) (taken : ℕ)
      → Stands start before (at_sink at held faults) old waiting taken → StandsOr start before (at_sink at held' faults') faults new waiting taken None
  none-waits (cut, stays) start before at taken stands = (
    record {
      served = served-kept start before (at_sink at held faults) held' faults' stands.served (kept-same held held' stays.stays);
      hub_is = stands.hub_is ∙ sym stays.hub;
      waits = stands.waits;
      count = stands.count;
      open_still = subst IsOpen (sym stays.hub) stands.open_still;
    },
    cut,
    stays.faults,
  )

  -- it ended there
  module _ (start : ControlValue) (before at : Streams) (taken : ℕ) (stands : Stands start before (at_sink at held faults) old waiting taken) where
    abbrev EndsIf : HubValue → List ℕ → ℕ → Option ServeEnd → Type 0
    EndsIf hub waiting count None = ⊤
    EndsIf hub waiting count (Some e) = StandsOr start before (at_sink at held' faults') faults hub waiting count (Some e)

    still-open : IsOpen stands.served.world.hub
    still-open = subst IsOpen (sym stands.hub_is) stands.open_still

    no-frame : (hub : HubValue) (left : List ℕ) (count : ℕ) → cut_of waiting ≡ no_frame → held' ≡ held → faults' ≡ faults
        → StandsOr start before (at_sink at held' faults') faults hub left count (Some end.NoFrame)
    no-frame hub left count cut same sank = (
      (
        served-kept start before (at_sink at held faults) held' faults' stands.served (kept-same held held' same),
        (still-open, inl (ap cut_of stands.waits ∙ cut)),
      ),
      sank,
    )

    frame-ends : (what : Handled) (used : ℕ) (hub : HubValue) (left : List ℕ) (count : ℕ) → DoesFrame old new waiting held held' faults faults' what used
        → EndsIf hub left count (end_of what)
    frame-ends handled.GoesOn used hub left count does = tt
    frame-ends handled.Ended used hub left count does =
        let (is, nothing, goes, sank) = does.handles in
        (frame-last start before at held held' faults faults' old new waiting taken stands does.header does.payload does.rest does.cut is nothing goes, sank)
    frame-ends handled.NoFrame used hub left count does =
        let (unwanted, same, kept, sank) = does.handles in (
          (
            served-kept start before (at_sink at held faults) held' faults' stands.served (kept-same held held' kept),
            (
              still-open,
              inr (inr (
                does.header,
                does.payload,
                does.rest,
                ap cut_of stands.waits ∙ does.cut,
                subst (λ (h : HubValue). MayNotCome h does.header) (sym stands.hub_is) unwanted,
              )),
            ),
          ),
          sank,
        )
    frame-ends (handled.NotAgain fault) used hub left count does =
        let (again, replaying, failing, kept, sank) = does.handles in (
          (
            served-kept start before (at_sink at held faults) held' faults' stands.served (kept-same held held' kept),
            (
              ap (λ (h : HubValue). h.phase) stands.hub_is ∙ replaying,
              again.0,
              does.payload,
              does.rest,
              ap cut_of stands.waits ∙ does.cut ∙ ap (λ (h : Header). whole h does.payload does.rest) again.1,
              subst (λ (h : HubValue). FailsAgain h.register does.payload fault) (sym stands.hub_is) failing,
            ),
          ),
          sank,
        )
    frame-ends handled.Cut used hub left count does =
        let (goes, rose) = does.handles in
        (frame-cut start before at held held' faults faults' old new waiting taken stands does.header does.payload does.rest does.cut goes, rose)

    first-by : (what : Handled) (used : ℕ) (hub : HubValue) (left : List ℕ) (count : ℕ)
        → HandlesFirst old new waiting held held' faults faults' (Some (what, used)) → EndsIf hub left count (end_of what)
    first-by what used hub left count (inl (is, cut, stays)) =
        subst (λ (w : Handled). EndsIf hub left count (end_of w)) (sym is) (no-frame hub left count cut stays.stays stays.faults)
    first-by what used hub left count (inr does) = frame-ends what used hub left count does

    pub first-ends : (r : Option (Handled × ℕ)) (what : Handled) (used : ℕ) (e : ServeEnd) (hub : HubValue) (left : List ℕ) (count : ℕ) → r ≡ Some (what, used)
        → end_of what ≡ Some e → HandlesFirst old new waiting held held' faults faults' r
        → StandsOr start before (at_sink at held' faults') faults hub left count (Some e)
    first-ends r what used e hub left count is ends first =
        subst (EndsIf hub left count) ends (first-by what used hub left count (subst (HandlesFirst old new waiting held held' faults faults') is first))

-- counts of faults by another term
pub faults-as : (start : ControlValue) (before at : Streams) (f f' : ℕ) (hub : HubValue) (left : List ℕ) (taken : ℕ) (r : Option ServeEnd) → f ≡ f'
    → StandsOr start before at f hub left taken r → StandsOr start before at f' hub left taken r
faults-as start before at f f' hub left taken r is = subst (λ (n : ℕ). StandsOr start before at n hub left taken r) is

-- ---- what was put is sent on before an end
module _ (start : ControlValue) (before at : Streams) (held held' : Option (List ℕ)) (faults f f' : ℕ) (hub : HubValue) (left : List ℕ) (taken : ℕ) where
  cut-kept : ServedCut start before (at_sink at held f) → held' ≡ held → ServedCut start before (at_sink at held' f')
  cut-kept cut is = subst (λ (h : Option (List ℕ)). ServedCut start before (at_sink at h f')) (sym is)
      (record { world = cut.world; comes = cut.comes; taken = cut.taken; rest = cut.rest; frames = cut.frames; consumed = cut.consumed; written = cut.written })

  ends-sent : (e : ServeEnd) → e ≢ end.WriteFault → Keeps held held' → f' ≡ f
      → StandsOr start before (at_sink at held f) faults hub left taken (Some e) → StandsOr start before (at_sink at held' f') faults hub left taken (Some e)
  ends-sent end.Done unfailed kept same ((served, so), sank) = ((served-kept start before (at_sink at held f) held' f' served kept, so), same ∙ sank)
  ends-sent end.NoFrame unfailed kept same ((served, so), sank) = ((served-kept start before (at_sink at held f) held' f' served kept, so), same ∙ sank)
  ends-sent (end.NotAgain fault) unfailed kept same ((served, so), sank) =
      ((served-kept start before (at_sink at held f) held' f' served kept, so), same ∙ sank)
  ends-sent end.WriteFault unfailed kept same stands = absurd (unfailed refl)
  ends-sent end.ReadFault unfailed kept same stands = absurd stands
  ends-sent end.TooLong unfailed kept same stands = absurd stands

  ends-unsent : (e : ServeEnd) → e ≢ end.WriteFault → Keeps held held' → Rose f f'
      → StandsOr start before (at_sink at held f) faults hub left taken (Some e) → StandsOr start before (at_sink at held' f') faults hub left taken (Some end.WriteFault)
  ends-unsent end.Done unfailed kept rose ((served, so), sank) =
      (served-cut start before (at_sink at held f) held' f' served kept, subst (λ (k : ℕ). Rose k f') sank rose)
  ends-unsent end.NoFrame unfailed kept rose ((served, so), sank) =
      (served-cut start before (at_sink at held f) held' f' served kept, subst (λ (k : ℕ). Rose k f') sank rose)
  ends-unsent (end.NotAgain fault) unfailed kept rose ((served, so), sank) =
      (served-cut start before (at_sink at held f) held' f' served kept, subst (λ (k : ℕ). Rose k f') sank rose)
  ends-unsent end.WriteFault unfailed kept rose stands = absurd (unfailed refl)
  ends-unsent end.ReadFault unfailed kept rose stands = absurd stands
  ends-unsent end.TooLong unfailed kept rose stands = absurd stands

  pub ends-with : (e e' : ServeEnd) → EndsWith e held held' f f' e' → StandsOr start before (at_sink at held f) faults hub left taken (Some e)
      → StandsOr start before (at_sink at held' f') faults hub left taken (Some e')
  ends-with e _ (sent unfailed kept same) stands = ends-sent e unfailed kept same stands
  ends-with e _ (had_failed is held_same same) stands =
      let (cut, rose) = subst (λ (e : ServeEnd). StandsOr start before (at_sink at held f) faults hub left taken (Some e)) is stands in
      (cut-kept cut held_same, subst (λ (k : ℕ). Rose faults k) (sym same) rose)
  ends-with e _ (fails unfailed kept rose) stands = ends-unsent e unfailed kept rose stands

-- where nothing is due more frames may come
pub done-open : (hub : HubValue) → IsDone hub → IsOpen hub
done-open hub (inl replaying) = inl replaying
done-open hub (inr (inl asked)) = inr (ap takes_frames asked)
done-open hub (inr (inr (settled, rests))) = inr (ap takes_frames settled)

-- ---- all frames that wait were done with, and what is due is sent
module _ (start : ControlValue) (before at : Streams) (held held' : Option (List ℕ)) (faults f f' : ℕ) (old new : HubValue) (left : List ℕ) (taken : ℕ) where
  pub due-sent : StandsOr start before (at_sink at held f) faults old left taken None → Puts old new [] held held' → IsDone new
      → f' ≡ f → StandsOr start before (at_sink at held' f') faults new left taken None
  due-sent (stands, cut, sank) puts done same =
      (puts-on start before at held held' f f' old new left taken stands puts (done-open new done), cut, same ∙ sank)

  pub due-unsent : StandsOr start before (at_sink at held f) faults old left taken None → PutsOrCut old new held held' → Rose f f'
      → (hub : HubValue) (rest : List ℕ) (count : ℕ) → StandsOr start before (at_sink at held' f') faults hub rest count (Some end.WriteFault)
  due-unsent (stands, cut, sank) puts rose hub rest count =
      (puts-cut start before at held held' f f' old new left taken stands puts, subst (λ (k : ℕ). Rose k f') sank rose)

-- ---- an end of serving, by what a piece or a take came to
pub piece-ends : (start : ControlValue) (before after : Streams) (faults : ℕ) (hub : HubValue) (left : List ℕ) (taken : ℕ) (e : ServeEnd)
    → StandsOr start before after faults hub left taken (Some e) → faults ≡ before.sink_faults → ServesTo start before after e
piece-ends start before after faults hub left taken end.Done (served, sank) is = served
piece-ends start before after faults hub left taken end.NoFrame (served, sank) is = served
piece-ends start before after faults hub left taken (end.NotAgain fault) (served, sank) is = served
piece-ends start before after faults hub left taken end.WriteFault (cut, rose) is = (cut, subst (λ (k : ℕ). Rose k after.sink_faults) is rose)
piece-ends start before after faults hub left taken end.ReadFault stands is = absurd stands
piece-ends start before after faults hub left taken end.TooLong stands is = absurd stands

pub piece-sank : (start : ControlValue) (before after : Streams) (faults : ℕ) (hub : HubValue) (left : List ℕ) (taken : ℕ) (e : ServeEnd)
    → StandsOr start before after faults hub left taken (Some e) → e ≢ end.WriteFault → after.sink_faults ≡ faults
piece-sank start before after faults hub left taken end.Done (served, sank) unfailed = sank
piece-sank start before after faults hub left taken end.NoFrame (served, sank) unfailed = sank
piece-sank start before after faults hub left taken (end.NotAgain fault) (served, sank) unfailed = sank
piece-sank start before after faults hub left taken end.WriteFault stands unfailed = absurd (unfailed refl)
piece-sank start before after faults hub left taken end.ReadFault stands unfailed = absurd stands
piece-sank start before after faults hub left taken end.TooLong stands unfailed = absurd stands

-- what is due of the hub is due of the world that it stands in
pub left-nothing : (start : ControlValue) (before at : Streams) (hub : HubValue) (waiting : List ℕ) (taken : ℕ) (s : Stands start before at hub waiting taken)
    → cut_of waiting ≡ part → IsDone hub → NothingIsLeft s.served
left-nothing start before at hub waiting taken s cut done = (ap cut_of s.waits ∙ cut, subst IsDone (sym s.hub_is) done)

-- more bytes came than are counted
pub counted-all : (start : ControlValue) (before at : Streams) (hub : HubValue) (waiting : List ℕ) (taken : ℕ) → Stands start before at hub waiting taken
    → cut_of waiting ≡ part → IsDone hub → MOST_BYTES ≤ taken → (served : Served start before at) × IsTooLong served
counted-all start before at hub waiting taken s cut done many =
    (s.served, (subst (λ (n : ℕ). MOST_BYTES ≤ n) (sym s.count) many, left-nothing start before at hub waiting taken s cut done))

module _ (start : ControlValue) (before at : Streams) (hub : HubValue) (old new : List ℕ) (taken : ℕ) (coming : Option (List ℕ)) (faults : ℕ)
    (stands : Stands start before at hub old taken) where
  pub take-on : (count : ℕ) → TakesOr old new at.coming coming at.source_faults faults (Ok count)
      → Stands start before (record { coming = coming; held = at.held; source_faults = faults; sink_faults = at.sink_faults }) hub new (taken + count)
  take-on count ((piece, longer, size, consumes), some, few, same) =
      subst (λ (n : ℕ). Stands start before
      (record { coming = coming; held = at.held; source_faults = faults; sink_faults = at.sink_faults }) hub new (taken + n)) size
      (takes-more start before at coming faults hub old new taken stands piece longer consumes)

  none-more : new ≡ old → Consumes at.coming coming []
      → Stands start before (record { coming = coming; held = at.held; source_faults = faults; sink_faults = at.sink_faults }) hub new (taken + 0)
  none-more same consumes = takes-more start before at coming faults hub old new taken stands [] (same ∙ sym (append-nil old)) consumes

  pub take-ends : (e : ServeEnd) → TakesOr old new at.coming coming at.source_faults faults (Err e) → at.source_faults ≡ before.source_faults
      → cut_of old ≡ part → IsDone hub
      → ServesTo start before (record { coming = coming; held = at.held; source_faults = faults; sink_faults = at.sink_faults }) e
  take-ends end.Done (same, consumes, empty, ends, rose) is cut done =
      let more = none-more same consumes in
      (more.served, inr (more.waits ∙ same ∙ empty, ends, left-nothing start before _ hub new (taken + 0) more (ap cut_of same ∙ cut) done))
  take-ends end.NoFrame (same, consumes, some, ends, rose) is cut done =
      let more = none-more same consumes in (
        more.served,
        (
          subst IsOpen (sym more.hub_is) (done-open hub done),
          inr (inl (
            λ none. some (sym same ∙ sym more.waits ∙ none),
            ends,
            left-nothing start before _ hub new (taken + 0) more (ap cut_of same ∙ cut) done,
          )),
        ),
      )
  take-ends end.ReadFault (same, consumes, rose) is cut done =
      let more = none-more same consumes in
      ((more.served, left-nothing start before _ hub new (taken + 0) more (ap cut_of same ∙ cut) done), subst (λ (k : ℕ). Rose k faults) is rose)
  take-ends end.WriteFault takes is cut done = absurd takes
  take-ends end.TooLong takes is cut done = absurd takes
  take-ends (end.NotAgain fault) takes is cut done = absurd takes
