-- What reading a session up to its end comes to, if one of its lines is to be accounted for.
use Rattle.std.specs.Prelude.{ℕ, ◌≡◌, ◌+◌, ◌-◌, ◌==◌, ◌⊎◌, Bool, true, false, List, [], ◌∷◌, ◌++◌, length, if◌then◌else◌}
use Rattle.nrm_model.specs.Network.{NetworkValue}
use Rattle.nrm_control.specs.State.{SeatState}
use Rattle.nrm_stream.specs.declared.command.Command.{Command}
use Rattle.nrm_session.specs.Replies.{Reply, optimised, optimised_none, bad, unknown, sold, no_leg, no_fare, cancelled, overflow, memory}
use Rattle.nrm_session.specs.Replies.{hindsight_told, leg_told, plan_told}
use Rattle.nrm_session.specs.Run.{Run}
use Rattle.nrm_session.specs.Step.{Step}
use Rattle.nrm_account.specs.Texts.{account_text}

-- the state that a session has come to, how many lines are left up to and with the one that is asked for, by which line the plan in force was
-- made (0 for the opening), and whether memory ran out as the account was made
pub record Reading : Type 0 where
  pub state : SeatState
  pub left : ℕ
  pub planned : ℕ
  pub ran_out : Bool

-- the line that made the plan in force, after the reply to a line
abbrev pub planned_by : Reply → ℕ → ℕ → ℕ
planned_by (optimised value) line planned = line
planned_by optimised_none line planned = line
planned_by bad line planned = planned
planned_by unknown line planned = planned
planned_by (sold number) line planned = planned
planned_by (no_leg name) line planned = planned
planned_by no_fare line planned = planned
planned_by (cancelled number amount) line planned = planned
planned_by overflow line planned = planned
planned_by memory line planned = planned
planned_by (hindsight_told value revenue withheld) line planned = planned
planned_by (leg_told text) line planned = planned
planned_by (plan_told text) line planned = planned

-- the same after the replies to some lines, of which the first has this number
abbrev pub planned_after : List Reply → ℕ → ℕ → ℕ
planned_after [] line planned = planned
planned_after (reply ∷ replies) line planned = planned_after replies (line + 1) (planned_by reply line planned)

-- A line is answered by a step of the session. If it is the one that is asked for, its account in the state before it is written, or memory runs
-- out and nothing is; else nothing is written.
pub record ReadsLine (net : NetworkValue) (asked : ℕ) (r : Reading) (c : Command) (text : List ℕ) (r' : Reading) : Type 0 where
  pub reply : Reply
  pub step : Step net r.state c reply r'.state
  pub left : r'.left ≡ r.left - 1
  pub planned : r'.planned ≡ planned_by reply (asked - r.left + 1) r.planned
  pub account : ((text ≡ (if r.left == 1 then account_text net asked r.planned r.state c reply else [])) × (r'.ran_out ≡ r.ran_out))
      ⊎ (((r.left ≡ 1) × (text ≡ [])) × (r'.ran_out ≡ true))

-- lines, one after another, and what is written of all of them
abbrev pub Reads : NetworkValue → ℕ → Reading → List Command → List ℕ → Reading → Type 0
Reads net asked r [] text r' = (text ≡ []) × (r' ≡ r)
Reads net asked r (c ∷ commands) text r' =
    (mid : Reading) × (first : List ℕ) × (rest : List ℕ) × ReadsLine net asked r c first mid × Reads net asked mid commands rest r'
    × (text ≡ first ++ rest)

-- before the first line
abbrev pub unread : ℕ → SeatState → Reading
unread asked s = record { state = s; left = asked; planned = 0; ran_out = false }

-- The text is the account of a line of a session: a run over the lines before it comes to a state, and in this state it is answered so.
pub record IsAccountOf (net : NetworkValue) (start : SeatState) (asked : ℕ) (commands : List Command) (text : List ℕ) : Type 0 where
  pub before : List Command
  pub command : Command
  pub after : List Command
  pub commands_are : commands ≡ before ++ command ∷ after
  pub number : asked ≡ length before + 1
  pub replies : List Reply
  pub state : SeatState
  pub run : Run net start before replies state
  pub reply : Reply
  pub next : SeatState
  pub step : Step net state command reply next
  pub account : text ≡ account_text net asked (planned_after replies 1 0) state command reply
