-- Each first part of a run is a run.
use Rattle.std.proofs.Common.{List, [], ◌∷◌, ap, refl}
use Rattle.nrm_control.specs.State.{SeatState}
use Rattle.nrm_session.specs.Laws.{HasFirstParts, RunsHaveFirstParts}
use Rattle.nrm_session.specs.Step.{Step}
use Rattle.nrm_stream.specs.declared.command.Command.{Command}

pub parts-first : {R : Type 0} (step : SeatState → Command → R → SeatState → Type 0) → HasFirstParts step
parts-first step s s' [] rest replies run = ([], replies, s, refl, refl, run)
parts-first step s s' (c ∷ first) rest [] run = absurd run
parts-first {R = R} step s s' (c ∷ first) rest (reply ∷ replies) (next, made, run) =
    let (before, later, mid, joined, one, two) = parts-first step next s' first rest replies run in
    (reply ∷ before, later, mid, ap (λ (more : List R). reply ∷ more) joined, (next, made, one), two)

pub first-parts : RunsHaveFirstParts
first-parts net = parts-first (Step net)
