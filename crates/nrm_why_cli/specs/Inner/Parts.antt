-- What the parts of the top call promise one another.
use Rattle.std.specs.Prelude.{ℕ, ◌≡◌, ◌≢◌, ◌<◌, true, false, List, [], Option}
use Rattle.nrm_session.specs.declared.serving.End.{End}
use Rattle.nrm_session.specs.declared.serving.End.TheVariants as end
use Rattle.nrm_account.specs.declared.teller.Teller.{Teller}
use Rattle.nrm_common_cli.specs.Puts.{PutsLine}
use Rattle.nrm_why_cli.specs.Jobs.{WhyJob, absent_line}
use Rattle.nrm_why_cli.specs.declared.top.Asked.{Asked}
use Rattle.nrm_why_cli.specs.declared.status.WhyStatus.{WhyStatus}
use Rattle.nrm_why_cli.specs.declared.status.WhyStatus.TheVariants as status
use Rattle.nrm_why_cli.specs.declared.status.TheConstants.{STATUSES}

-- after a whole stream: the account was written; or memory ran out; or the line that the stream has no such line is put
pub data EndsReading (teller : Teller) (held held' : Option (List ℕ)) (before now : ℕ) (result : WhyStatus) : Type 0 where
  accounted : teller.left ≡ 0 → teller.ran_out ≡ false → result ≡ status.Done → held' ≡ held → now ≡ before
      → EndsReading teller held held' before now result
  ran_out : teller.ran_out ≡ true → result ≡ status.NoMemory → held' ≡ held → now ≡ before
      → EndsReading teller held held' before now result
  lacking : 0 < teller.left → teller.ran_out ≡ false → PutsLine STATUSES (absent_line teller.asked) status.NoLine held held' before now result
      → EndsReading teller held held' before now result

-- what each end of a reading makes of it
abbrev pub EndsSession : End → Teller → Option (List ℕ) → Option (List ℕ) → ℕ → ℕ → WhyStatus → Type 0
EndsSession end.Done teller held held' before now result = EndsReading teller held held' before now result
EndsSession end.ReadFault teller held held' before now result = (result ≡ status.ReadFault) × (held' ≡ held) × (now ≡ before)
EndsSession end.WriteFault teller held held' before now result = (result ≡ status.WriteFault) × (held' ≡ held) × (now ≡ before)
EndsSession end.TooLong teller held held' before now result = (result ≡ status.TooLong) × (held' ≡ held) × (now ≡ before)

-- if the output didn't fail, it hadn't failed before, and what held nothing back holds nothing back
abbrev pub SentSince : End → WhyStatus → List ℕ → List ℕ → Type 0
SentSince e result unsent unsent' = result ≢ status.WriteFault → (e ≢ end.WriteFault) × (unsent ≡ [] → unsent' ≡ [])

-- a job as the code holds it
abbrev pub job_in : Asked → WhyJob
job_in asked = record { mode = asked.mode; file = asked.file.now; number = asked.number }
