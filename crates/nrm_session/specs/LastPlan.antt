-- What a `plan` line prints, to be read aloud: for which seats left and from which period it is, and that its bid prices are optimal duals.
use Rattle.std.specs.Prelude.{ℕ, ◌≡◌, ◌≢◌, List, ◌∷◌, ◌++◌, All, Option, Some}
use Rattle.nrm_fraction.specs.Fraction.{Fraction}
use Rattle.nrm_fraction.specs.Large.{size_limit}
use Rattle.nrm_model.specs.Inventory.{inventory_of}
use Rattle.nrm_model.specs.Limits.{IsNetwork}
use Rattle.nrm_model.specs.Network.{NetworkValue}
use Rattle.nrm_model.specs.declared.mode.Mode.{Mode}
use Rattle.nrm_model.specs.declared.mode.Mode.TheVariants as mode
use Rattle.nrm_lp.specs.declared.certificate.Certificate.{Certificate}
use Rattle.nrm_lp.specs.Certified.{Certifies}
use Rattle.nrm_lp.specs.Means.{mean_value}
use Rattle.nrm_dlp.specs.Programs.{program_at}
use Rattle.nrm_plan.specs.Plans.{IsOpeningPlan, PlanValue}
use Rattle.nrm_report.specs.Texts.{text_of_plan}
use Rattle.nrm_control.specs.State.{SeatState, opening, seats_left}
use Rattle.nrm_stream.specs.declared.command.Command.{Command}
use Rattle.nrm_stream.specs.declared.command.Command.TheVariants as command
use Rattle.nrm_session.specs.Replies.{Reply, optimised, optimised_at, plan_told}
use Rattle.nrm_session.specs.Run.{Run}
use Rattle.nrm_session.specs.Step.{Step}

-- a reply that tells of a new plan: `optimised n/d`, or `optimised none`
abbrev pub TellsOfPlan : Reply → Type 0
TellsOfPlan reply = (value : Option Fraction) × (reply ≡ optimised_at value)

abbrev pub NoneTellsOfPlan : List Reply → Type 0
NoneTellsOfPlan replies = All (λ reply. ¬ (TellsOfPlan reply)) replies

-- Among commands and their replies from s on, this is the last line that was answered `optimised`: the period that it names, the
-- value that it was answered, and the state in which it came.
pub record LastOptimised (net : NetworkValue) (s : SeatState) (commands : List Command) (replies : List Reply) (period : ℕ)
    (value : Fraction) (when : SeatState) : Type 0 where
  pub before : List Command
  pub after : List Command
  pub line : commands ≡ before ++ command.Reoptimise period ∷ after
  pub replies_before : List Reply
  pub replies_after : List Reply
  pub answered : replies ≡ replies_before ++ optimised value ∷ replies_after
  pub came : Run net s before replies_before when
  pub last : NoneTellsOfPlan replies_after

-- For which seats left and from which period the plan in force is: those that were left when the last line came that was answered
-- `optimised`, and the period that it names; every seat and period 1 where no line was. The value that the line was answered is
-- that of the plan's certificate.
pub data IsPlannedFor (net : NetworkValue) (s : SeatState) (commands : List Command) (replies : List Reply)
    (prices : Certificate) : List ℕ → ℕ → Type 0 where
  at_opening : NoneTellsOfPlan replies → IsPlannedFor net s commands replies prices (inventory_of net).authorised 1
  at_line : (period : ℕ) (when : SeatState) → LastOptimised net s commands replies period (mean_value net.histories prices) when
      → IsPlannedFor net s commands replies prices (seats_left net when.bookings) period

-- a reply is the text of a certificate whose allocation is optimal and whose bid prices are optimal duals, against every
-- allocation and all prices, of the linear program at these seats left and from this period
pub record PrintsOptimalPrices (net : NetworkValue) (m : Mode) (s : SeatState) (commands : List Command) (replies : List Reply)
    (reply : Reply) : Type 0 where
  pub left : List ℕ
  pub period : ℕ
  pub prices : Certificate
  pub planned_for : IsPlannedFor net s commands replies prices left period
  pub printed : reply ≡ plan_told (text_of_plan net m period (Some prices))
  pub optimal : Certifies size_limit (program_at net left period) prices

-- In a mode that solves linear programs, after any commands from an opening, so is what a `plan` line prints.
abbrev pub PrintedPricesAreOptimal : Type 0
PrintedPricesAreOptimal = (net : NetworkValue) (m : Mode) (plan : PlanValue) (commands : List Command) (replies : List Reply)
    (mid after : SeatState) (reply : Reply)
    → IsNetwork net → m ≢ mode.FirstCome → IsOpeningPlan net m plan → Run net (opening plan) commands replies mid
    → Step net mid command.Plan reply after
    → PrintsOptimalPrices net m (opening plan) commands replies reply

-- So it is from each state on in which an opening plan is in force, whatever bookings stand in it.
abbrev pub PrintedFromOpeningPlans : Type 0
PrintedFromOpeningPlans = (net : NetworkValue) (m : Mode) (s : SeatState) (commands : List Command) (replies : List Reply)
    (mid after : SeatState) (reply : Reply)
    → IsNetwork net → m ≢ mode.FirstCome → IsOpeningPlan net m s.plan → Run net s commands replies mid
    → Step net mid command.Plan reply after
    → PrintsOptimalPrices net m s commands replies reply
