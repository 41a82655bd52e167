-- What is done with frames.
use Rattle.std.specs.Prelude.{ℕ, ◌≡◌, List, [], ◌∷◌, ◌++◌, length, Option, Result, Ok, Err}
use Rattle.std.specs.Io.KnownBytes.{Consumes, IsAtEnd}
use Rattle.nrm_edge.specs.Causes.{Rose}
use Rattle.nrm_edge.specs.declared.source.Failed.{Failed}
use Rattle.nrm_frames.specs.declared.header.Header.{Header}
use Rattle.nrm_frames.specs.declared.header.Header.TheVariants as header
use Rattle.nrm_hub.specs.Again.{FailsAgain}
use Rattle.nrm_hub.specs.Goes.{Puts, PutsCut}
use Rattle.nrm_hub.specs.Hub.{HubValue}
use Rattle.nrm_hub.specs.World.{frame}
use Rattle.nrm_hub.specs.declared.phase.Phase.TheVariants as phase
use Rattle.nrm_desks_cli.specs.Served.{MayNotCome}
use Rattle.nrm_desks_cli.specs.declared.handling.Handled.{Handled}
use Rattle.nrm_desks_cli.specs.declared.handling.Handled.TheVariants as handled

-- bytes came behind those that wait, and none only at the end of the input; or the source failed, and nothing came
abbrev pub TakesMore : List ℕ → List ℕ → Option (List ℕ) → Option (List ℕ) → Result ℕ Failed → Type 0
TakesMore old new coming coming' (Ok count) =
    (piece : List ℕ) × (new ≡ old ++ piece) × (length piece ≡ count) × Consumes coming coming' piece × (count ≡ 0 → IsAtEnd coming')
TakesMore old new coming coming' (Err failed) = (new ≡ old) × Consumes coming coming' []

-- what was done, by a put that was its end
abbrev pub outcome_of : {T : Type 0} → Result T Failed → Handled
outcome_of (Ok t) = handled.GoesOn
outcome_of (Err failed) = handled.Cut

-- What was done with a frame: it went on, or it was the last; it may not come, or its rows can't be given again; or a put failed.
abbrev pub Handles : HubValue → HubValue → Header → List ℕ → Option (List ℕ) → Option (List ℕ) → ℕ → ℕ → Handled → Type 0
Handles old new h payload held held' before after handled.GoesOn =
    Puts old new (frame h payload ∷ []) held held' × (after ≡ before)
Handles old new h payload held held' before after handled.Ended =
    (h ≡ header.End) × (payload ≡ []) × Puts old new (frame h payload ∷ []) held held' × (after ≡ before)
Handles old new h payload held held' before after handled.NoFrame =
    MayNotCome old h × (new ≡ old) × (held' ≡ held) × (after ≡ before)
Handles old new h payload held held' before after (handled.NotAgain fault) =
    ((size : ℕ) × (h ≡ header.Again size)) × (old.phase ≡ phase.Replaying) × FailsAgain old.register payload fault × (held' ≡ held)
    × (after ≡ before)
Handles old new h payload held held' before after handled.Cut = PutsCut old new (frame h payload ∷ []) held held' × Rose before after
