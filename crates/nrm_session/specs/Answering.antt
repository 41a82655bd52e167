-- What carrying out one command does, and what its reply is.
use Rattle.std.specs.Prelude.{ℕ, ◌≡◌, ◌+◌, ◌<◌, ◌≤◌, List, length, pos, Option, ⊤}
use Rattle.std.specs.Io.KnownBytes.{Appends}
use Rattle.nrm_edge.specs.Pieces.{AppendsFront}
use Rattle.nrm_model.specs.Network.{NetworkValue, leg_of}
use Rattle.nrm_control.specs.State.{SeatState}
use Rattle.nrm_control.specs.Standing.{ControlValue, Represents}
use Rattle.nrm_fraction.specs.Fraction.{◌over◌}
use Rattle.nrm_report.specs.Texts.{leg_text, plan_text}
use Rattle.nrm_stream.specs.declared.command.Command.{Command}
use Rattle.nrm_session.specs.Replies.{Reply, text_of, bad, unknown, sold, no_leg, no_fare, cancelled, optimised, optimised_none, overflow}
use Rattle.nrm_session.specs.Replies.{memory, hindsight_told, leg_told, plan_told}
use Rattle.nrm_session.specs.Step.{Step}
use Rattle.nrm_session.specs.declared.reply.Reply.{Reply as Answered}
use Rattle.nrm_session.specs.declared.reply.Reply.TheVariants as answered

-- the controller makes the step that gives this reply, from each state that it represented
pub record Steps (old new : ControlValue) (command : Command) (reply : Reply) : Type 0 where
  pub network : new.net ≡ old.net
  pub next : new.next ≤ old.next + 1
  pub step : (s : SeatState) → Represents old s → (s' : SeatState) × Step old.net s command reply s' × Represents new s'

-- the reply that a controller means, with its legs by their names and as they stand, and its plan as it is in force
abbrev pub reply_in : ControlValue → Answered → Reply
reply_in control answered.Bad = bad
reply_in control answered.Unknown = unknown
reply_in control (answered.Sold number) = sold number
reply_in control (answered.NoLeg leg) = no_leg (leg_of control.net leg).name
reply_in control answered.NoFare = no_fare
reply_in control (answered.Cancelled number refund) = cancelled number refund
reply_in control (answered.Optimised num den) = optimised (pos num over den)
reply_in control answered.OptimisedNone = optimised_none
reply_in control answered.Overflow = overflow
reply_in control answered.Memory = memory
reply_in control (answered.Hindsight num den revenue withheld) = hindsight_told (pos num over den) revenue withheld
reply_in control (answered.Leg leg) = leg_told (leg_text control.net control.bookings leg)
reply_in control answered.Plan = plan_told (plan_text control.net control.plan)

-- a leg that a reply names is one of the network, and a fraction has a denominator
abbrev pub IsTellable : NetworkValue → Answered → Type 0
IsTellable net (answered.NoLeg leg) = leg < length net.legs
IsTellable net (answered.Leg leg) = leg < length net.legs
IsTellable net answered.Bad = ⊤
IsTellable net answered.Unknown = ⊤
IsTellable net (answered.Sold number) = ⊤
IsTellable net (answered.Cancelled number refund) = ⊤
IsTellable net answered.NoFare = ⊤
IsTellable net (answered.Optimised num den) = 1 ≤ den
IsTellable net (answered.Hindsight num den revenue withheld) = 1 ≤ den
IsTellable net answered.OptimisedNone = ⊤
IsTellable net answered.Overflow = ⊤
IsTellable net answered.Memory = ⊤
IsTellable net answered.Plan = ⊤

-- A line was answered: the controller makes the step of some reply, whose text was written whole; or a front of it was, and the
-- state is the one after the line all the same.
pub record AnswersLine (old new : ControlValue) (command : Command) (held held' : Option (List ℕ)) : Type 0 where
  pub reply : Reply
  pub steps : Steps old new command reply
  pub written : Appends held held' (text_of reply)

pub record CutsLine (old new : ControlValue) (command : Command) (held held' : Option (List ℕ)) : Type 0 where
  pub reply : Reply
  pub steps : Steps old new command reply
  pub front : AppendsFront held held' (text_of reply)
