-- The rows give the state: what leaves no row leaves the state as it is.
use Rattle.std.proofs.Common.{ℕ, ◌≡◌, ◌⊎◌, false, List, [], ◌∷◌, ◌++◌, All, flat_map, map, Option, inl, inr}
use Rattle.std.proofs.Common.{refl, subst}
use Rattle.std.specs.Prelude.{⊤}
use Rattle.std.proofs.lemmas.List.Elements.{All-head, All-nil, All-push, All-tail}
use Rattle.nrm_model.specs.Network.{NetworkValue}
use Rattle.nrm_control.specs.State.{SeatState}
use Rattle.nrm_frames.specs.declared.rights.Rights.{Rights}
use Rattle.nrm_session.specs.Replies.{memory}
use Rattle.nrm_session.specs.Run.{Run}
use Rattle.nrm_session.proofs.Determined.{states-determined}
use Rattle.nrm_hub.specs.Asked.{is_change}
use Rattle.nrm_hub.specs.Clients.{ClientValue}
use Rattle.nrm_hub.specs.Desks.{RowsGiveTheState, Turn, entry_in, entry_of, rows_in, turn_again, turn_in, turn_of}
use Rattle.nrm_hub.specs.Lines.{Answers, How, asks, carried, greets_late, is_carried, is_denied, lacks, looks, may_not_ask, otherwise, passed, repeated}
use Rattle.nrm_hub.specs.Lines.{repeats, runs_out}
use Rattle.nrm_hub.specs.Register.{RegisterValue}
use Rattle.nrm_hub.specs.Rows.{Entry}
use Rattle.nrm_hub.specs.Taking.{TakesLine, answers, greets, lacks_memory, may_not_greet, refuses, too_many}
use Rattle.nrm_hub.specs.World.{Comes, Exchange, Happens, World, beginning, exchange_of, here, line_taken, then}
use Rattle.nrm_hub.proofs.Entered.{same-state}

-- a line that was carried out and has no row changed nothing, or memory ran out
abbrev IsIdle : How → Type 0
IsIdle (passed c reply) = (is_change c ≡ false) ⊎ (reply ≡ memory)
IsIdle (carried c reply) = ⊤
IsIdle (repeated row) = ⊤
IsIdle otherwise = ⊤

answers-idle : (r : RegisterValue) (rights : Rights) (d n : ℕ) (line : List ℕ) (r' : RegisterValue) (how : How) (text : List ℕ)
    → Answers r rights d n line r' how text → IsIdle how
answers-idle r rights d n line _ _ _ (greets_late name number is) = tt
answers-idle r rights d n line _ _ _ (asks name is may) = tt
answers-idle r rights d n line _ _ _ (may_not_ask name is may) = tt
answers-idle r rights d n line _ _ _ (is_denied c is may) = tt
answers-idle r rights d n line _ _ _ (is_carried c r' a is may changes above few carries) = tt
answers-idle r rights d n line _ _ _ (runs_out c r' is may changes above few passes) = inr refl
answers-idle r rights d n line _ _ _ (lacks c is may changes above few) = tt
answers-idle r rights d n line _ _ _ (looks c r' reply is may changes passes) = inl changes
answers-idle r rights d n line _ _ _ (repeats c row is may changes used under same) = tt

takes-idle : {spare : Option ℕ} (r : RegisterValue) (c : ClientValue) (line rest : List ℕ) (r' : RegisterValue) (c' : ClientValue) (how : How) (text : List ℕ)
    → TakesLine spare r c line rest r' c' how text → IsIdle how
takes-idle r c line rest _ _ _ _ (greets name number r' d n c' no_desk is may joins n_is hears) = tt
takes-idle r c line rest _ _ _ _ (may_not_greet name number c' no_desk is may hears) = tt
takes-idle r c line rest _ _ _ _ (lacks_memory c' no_desk new hears) = tt
takes-idle r c line rest _ _ _ _ (too_many no_desk new many none) = tt
takes-idle r c line rest _ _ _ _ (answers d r' c' how text is_desk told hears) = answers-idle r c.rights d c.number line r' how text told
takes-idle r c line rest _ _ _ _ (refuses d reason is_desk refused) = tt

abbrev AreIdle : List Exchange → Type 0
AreIdle answered = All (λ (e : Exchange). IsIdle e.how) answered

idle-on : (w w' : World) → AreIdle w.answered → Happens w w' → AreIdle w'.answered
idle-on w _ idle (line_taken place c c' line rest r how text lines at open_still coming unended short spare is_spare takes) =
    All-push (λ (e : Exchange). IsIdle e.how) w.answered (exchange_of r c c' line how text) idle
    (takes-idle w.hub.register c line rest r c' how text takes)
idle-on w w' idle happens = idle

idle-always : (first w : World) → AreIdle first.answered → Comes first w → AreIdle w.answered
idle-always first _ idle here = idle
idle-always first _ idle (then w w' comes happens) = idle-on w w' (idle-always first w idle comes) happens

-- ---- and it left the state as it is, so it can be left out of a run
abbrev RunOver : NetworkValue → SeatState → List Turn → SeatState → Type 0
RunOver net s turns s' = Run net s (map (λ (turn : Turn). turn.0) turns) (map (λ (turn : Turn). turn.1) turns) s'

without-one : (net : NetworkValue) (how : How) (desk : List ℕ) (n : ℕ) (turns : List Turn) (rows : List Entry) (s s' : SeatState) → IsIdle how
    → ((m : SeatState) → RunOver net m turns s' → RunOver net m (map turn_again rows) s')
    → RunOver net s (turn_in how ++ turns) s' → RunOver net s (map turn_again (entry_in desk n how ++ rows)) s'
without-one net (carried c reply) desk n turns rows s s' idle on (mid, step, run) = (mid, step, on mid run)
without-one net (passed c reply) desk n turns rows s s' idle on (mid, step, run) =
    on s (subst (λ (m : SeatState). RunOver net m turns s') (same-state net s mid c reply idle step) run)
without-one net (repeated row) desk n turns rows s s' idle on run = on s run
without-one net otherwise desk n turns rows s s' idle on run = on s run

rows-answered : (net : NetworkValue) (answered : List Exchange) (s s' : SeatState) → AreIdle answered
    → RunOver net s (flat_map turn_of answered) s' → RunOver net s (map turn_again (flat_map entry_of answered)) s'
rows-answered net [] s s' idle run = run
rows-answered net (e ∷ answered) s s' idle run =
    without-one net e.how e.desk e.sequence (flat_map turn_of answered) (flat_map entry_of answered) s s'
    (All-head (λ (x : Exchange). IsIdle x.how) e answered idle)
    (λ m on. rows-answered net answered m s' (All-tail (λ (x : Exchange). IsIdle x.how) e answered idle) on) run

rows-run : (net : NetworkValue) (again : List Entry) (answered : List Exchange) (s s' : SeatState) → AreIdle answered
    → RunOver net s (map turn_again again ++ flat_map turn_of answered) s'
    → RunOver net s (map turn_again (again ++ flat_map entry_of answered)) s'
rows-run net [] answered s s' idle run = rows-answered net answered s s' idle run
rows-run net (entry ∷ again) answered s s' idle (mid, step, run) = (mid, step, rows-run net again answered mid s' idle run)

pub rows-give : RowsGiveTheState
rows-give start start' w w' comes comes' same net s s' s'' run run' =
    let idle = idle-always (beginning start) w (All-nil (λ (e : Exchange). IsIdle e.how)) comes in
    let idle' = idle-always (beginning start') w' (All-nil (λ (e : Exchange). IsIdle e.how)) comes' in
    let one : RunOver net s (map turn_again (rows_in w)) s' = rows-run net w.again w.answered s s' idle run in
    let other : RunOver net s (map turn_again (rows_in w)) s'' =
    subst (λ (rows : List Entry). RunOver net s (map turn_again rows) s'') same (rows-run net w'.again w'.answered s s'' idle' run') in
    states-determined net s (map (λ (turn : Turn). turn.0) (map turn_again (rows_in w)))
    (map (λ (turn : Turn). turn.1) (map turn_again (rows_in w))) s' s'' one other
