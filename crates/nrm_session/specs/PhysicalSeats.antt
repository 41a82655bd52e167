-- Physical seats reach no decision: they are reported, and nothing else.
use Rattle.std.specs.Prelude.{ℕ, ℤ, ◌≡◌, ◌⊎◌, List, [], ◌∷◌, map}
use Rattle.nrm_model.specs.declared.leg.Leg.{Leg}
use Rattle.nrm_model.specs.Network.{NetworkValue}
use Rattle.nrm_model.specs.declared.mode.Mode.{Mode}
use Rattle.nrm_dlp.specs.Programs.{opening_program}
use Rattle.nrm_plan.specs.Plans.{IsOpeningPlan, OpeningOverflows, PlanValue}
use Rattle.nrm_control.specs.State.{SeatState}
use Rattle.nrm_stream.specs.declared.command.Command.{Command}
use Rattle.nrm_session.specs.Replies.{Reply, leg_told}
use Rattle.nrm_session.specs.Run.{Run}

-- a network without its physical seats
abbrev pub without_seats : NetworkValue → NetworkValue
without_seats net = record net { legs = map (λ (leg : Leg). record leg { seats = 0 }) net.legs }

-- two networks that differ in their physical seats alone
abbrev pub DifferInSeats : NetworkValue → NetworkValue → Type 0
DifferInSeats net other = without_seats net ≡ without_seats other

-- the same replies, but for the text of a leg
abbrev pub SameButLegText : Reply → Reply → Type 0
SameButLegText reply other = (other ≡ reply) ⊎ ((text : List ℕ) × (told : List ℕ) × (reply ≡ leg_told text) × (other ≡ leg_told told))

abbrev pub SameButLegTexts : List Reply → List Reply → Type 0
SameButLegTexts [] [] = Unit {0}
SameButLegTexts (reply ∷ replies) (other ∷ others) = SameButLegText reply other × SameButLegTexts replies others
SameButLegTexts [] (other ∷ others) = ⊥
SameButLegTexts (reply ∷ replies) [] = ⊥

-- on two networks that differ in their physical seats alone, from one state, the same commands have the same replies but for the text of
-- a leg, and lead to the same state
abbrev pub SessionsAreSame : Type 0
SessionsAreSame = (net other : NetworkValue) (s s' : SeatState) (commands : List Command) (replies : List Reply)
    → DifferInSeats net other → Run net s commands replies s'
    → (others : List Reply) × Run other s commands others s' × SameButLegTexts replies others

-- they have the same opening plan, or their opening linear programs are too large in the same place; and these are the same, so that a
-- certificate has the same verdict on both
pub record OpeningsAreSame (net other : NetworkValue) (m : Mode) : Type 0 where
  pub plan : (plan : PlanValue) → IsOpeningPlan net m plan → IsOpeningPlan other m plan
  pub overflow : (n : ℕ) (number : ℤ) → OpeningOverflows net m n number → OpeningOverflows other m n number
  pub program : opening_program net ≡ opening_program other

-- so physical seats decide nothing
pub record PhysicalSeatsDecideNothing : Type 0 where
  pub openings : (net other : NetworkValue) (m : Mode) → DifferInSeats net other → OpeningsAreSame net other m
  pub sessions : SessionsAreSame
