-- What private functions answer.
use Rattle.std.specs.Prelude.{ℕ, ◌≡◌, ◌<◌, ◌≤◌, true, List, ◌++◌, length, take, Option, None}
use Rattle.nrm_stream.specs.declared.command.Command.{Command}
use Rattle.nrm_session.specs.Replies.{memory}
use Rattle.nrm_session.specs.declared.reply.Reply.{Reply as Answered}
use Rattle.nrm_session.specs.declared.reply.Reply.TheVariants as answered
use Rattle.nrm_frames.specs.declared.rights.Rights.{Rights}
use Rattle.nrm_hub.specs.Lines.{Answers, How, Refuses}
use Rattle.nrm_hub.specs.Register.{Carries, Passes, RegisterValue, desk_named, is_of_row}
use Rattle.nrm_hub.specs.declared.limits.TheConstants.{MOST_DESKS}
use Rattle.nrm_hub.specs.declared.register.JoinFault.{JoinFault}
use Rattle.nrm_hub.specs.declared.register.JoinFault.TheVariants as join
use Rattle.nrm_hub.specs.declared.line.Taken.{Taken}
use Rattle.nrm_hub.specs.declared.line.Taken.TheVariants as taken

-- why a name has no desk
abbrev pub IsJoinFault : List ℕ → Option ℕ → RegisterValue → JoinFault → Type 0
IsJoinFault name spare r join.TooMany = (desk_named r name ≡ None) × (MOST_DESKS ≤ length r.desks) × (spare ≡ None)
IsJoinFault name spare r join.NoMemory = desk_named r name ≡ None

-- a line that may change something was carried out: memory ran out as it was, or it has its row
pub data CarriesOut (old new : RegisterValue) (desk sequence : ℕ) (c : Command) : Answered → Type 0 where
  ran_out : Passes old new c memory → CarriesOut old new desk sequence c answered.Memory
  carried : (a : Answered) → is_of_row a ≡ true → Carries old new desk sequence c a → CarriesOut old new desk sequence c a

-- a text joined what waits, whole or a front of it
abbrev pub Hears : List ℕ → List ℕ → List ℕ → Taken → Type 0
Hears old new text taken.Told = new ≡ old ++ text
Hears old new text taken.Cut = (count : ℕ) × (count < length text) × (new ≡ old ++ take count text)
Hears old new text (taken.Refused reason) = ⊥

-- a line was answered, or it is refused
pub record AnswersTo (r r' : RegisterValue) (rights : Rights) (d n : ℕ) (line told told' : List ℕ) (result : Taken) : Type 0 where
  pub how : How
  pub text : List ℕ
  pub answers : Answers r rights d n line r' how text
  pub hears : Hears told told' text result

abbrev pub IsAnswered : RegisterValue → RegisterValue → Rights → ℕ → ℕ → List ℕ → List ℕ → List ℕ → Taken → Type 0
IsAnswered r r' rights d n line told told' taken.Told = AnswersTo r r' rights d n line told told' taken.Told
IsAnswered r r' rights d n line told told' taken.Cut = AnswersTo r r' rights d n line told told' taken.Cut
IsAnswered r r' rights d n line told told' (taken.Refused reason) = Refuses r rights d n line reason × (r' ≡ r) × (told' ≡ told)
