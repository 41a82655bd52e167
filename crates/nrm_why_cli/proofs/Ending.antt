-- How a call ends, out of how its parts went.
use Rattle.std.proofs.Common.{ℕ, ◌≡◌, ◌∙◌, ◌<◌, true, false, List, Option, Some, Ok, Err, refl, sym, ap, subst, inl, inr}
use Rattle.std.specs.Prelude.{⊤}
use Rattle.nrm_edge.specs.Causes.{Rose}
use Rattle.nrm_model.specs.Network.{NetworkValue}
use Rattle.nrm_model.specs.declared.limits.TheConstants.{MOST_STREAM_BYTES}
use Rattle.nrm_simplex.specs.declared.fault.SolveFault.{SolveFault}
use Rattle.nrm_simplex.specs.declared.fault.SolveFault.TheVariants as fault
use Rattle.nrm_control.specs.State.{opening}
use Rattle.nrm_control.specs.Standing.{ControlValue, IsStartFault}
use Rattle.nrm_stream.specs.declared.command.Command.{Command}
use Rattle.nrm_common_cli.specs.NetworkFile.{CountsFetch, OpensFile, reason_line}
use Rattle.nrm_common_cli.specs.Outside.{LeftStream, OnFile, Outside, Wrote, WroteCut}
use Rattle.nrm_common_cli.specs.Refusals.{at_row, file_fault_line, network_under, no_file, refusal_line}
use Rattle.nrm_common_cli.specs.Words.{overflow_line, told_pivots}
use Rattle.nrm_common_cli.specs.declared.network_file.NoNetwork.{NoNetwork}
use Rattle.nrm_common_cli.specs.declared.network_file.NoNetwork.TheVariants as none
use Rattle.nrm_session.specs.Serving.{CountsFaults, ServesBy, Streams}
use Rattle.nrm_session.specs.declared.serving.End.{End}
use Rattle.nrm_session.specs.declared.serving.End.TheVariants as end
use Rattle.nrm_account.specs.Tellers.{Tells, TellsCut, reading_of}
use Rattle.nrm_account.specs.Readings.{Reading, Reads}
use Rattle.nrm_account.specs.declared.teller.Teller.{Teller}
use Rattle.nrm_common_cli.specs.Puts.{PutsIfSome, PutsLine, status_for, unplanned_line}
use Rattle.nrm_session.proofs.ServedBy.{HasBegun, opened, served-as, serves-weaker}
use Rattle.nrm_why_cli.specs.Ends.{Begins, Ends, Ran, ReadsCut, ReadsTo, file_fault, overflow, refused, streams_at, usage}
use Rattle.nrm_why_cli.specs.Ends.{Tells as TellsLine}
use Rattle.nrm_why_cli.specs.Jobs.{WhyJob, absent_line}
use Rattle.nrm_why_cli.specs.Inner.Parts.{EndsReading, EndsSession, accounted, lacking, ran_out}
use Rattle.nrm_why_cli.specs.declared.status.WhyStatus.{WhyStatus}
use Rattle.nrm_why_cli.specs.declared.status.WhyStatus.TheVariants as status
use Rattle.nrm_why_cli.specs.declared.status.TheConstants.{STATUSES}

-- ---- a line in place of a session
module _ (asked : Option WhyJob) (before after : Outside) (left : LeftStream before after) where
  whole : (s : WhyStatus) (text : List ℕ) → TellsLine asked before after s text → Wrote before after text → Ends asked before after s
  whole s text (usage none) wrote = record { text = text; tells = usage none; wrote = wrote; left = left }
  whole s text (refused job refusal asks on) wrote = record { text = text; tells = refused job refusal asks on; wrote = wrote; left = left }
  whole s text (file_fault job asks rose) wrote = record { text = text; tells = file_fault job asks rose; wrote = wrote; left = left }
  whole s text (overflow job net n number asks on large) wrote = record { text = text; tells = overflow job net n number asks on large; wrote = wrote; left = left }

  pub told-ends : (goes s : WhyStatus) (text : List ℕ) → TellsLine asked before after goes text → PutsLine STATUSES text goes before.held after.held before.sink_faults after.sink_faults s → Ends asked before after s
  told-ends goes s text tells (inl (is, wrote, same)) = rw is (whole goes text tells wrote)
  told-ends goes s text tells (inr (is, front, rose)) = rw is (rose, inr (inl (record { status = goes; text = text; tells = tells; wrote = front; left = left })))

module _ (job : WhyJob) (before after : Outside) (left : LeftStream before after) where
  -- no network
  pub without-network : (reason : NoNetwork) (s : WhyStatus) → OpensFile before.files job.file (Err reason) → CountsFetch before.file_faults after.file_faults (Err reason)
      → PutsIfSome STATUSES (reason_line reason) (status_for STATUSES reason) before.held after.held before.sink_faults after.sink_faults s → Ends (Some job) before after s
  without-network none.Absent s file counts puts = told-ends (Some job) before after left status.Refused s (refusal_line no_file) (refused job no_file refl file) puts
  without-network (none.Refused row cause) s file counts puts = told-ends (Some job) before after left status.Refused s (refusal_line (at_row row cause)) (refused job (at_row row cause) refl file) puts
  without-network none.Fault s file counts puts = told-ends (Some job) before after left status.FileFault s file_fault_line (file_fault job refl counts.1) puts
  without-network none.NoMemory s file counts (is, kept, same) = rw is (inl (record { job = job; asks = refl; wrote = kept; left = left }))

  -- no plan
  pub without-plan : (net : NetworkValue) → OnFile before.files job.file (λ contents. network_under contents ≡ Ok net) → (why : SolveFault) (s : WhyStatus) → IsStartFault net job.mode why
      → PutsIfSome STATUSES (unplanned_line why) status.Overflow before.held after.held before.sink_faults after.sink_faults s → Ends (Some job) before after s
  without-plan net on fault.NoMemory s is (told, kept, same) = rw told (inl (record { job = job; asks = refl; wrote = kept; left = left }))
  without-plan net on (fault.Overflow pivots number) s (n, large, is) puts =
      told-ends (Some job) before after left status.Overflow s (overflow_line (told_pivots n) number) (overflow job net n number refl on large)
      (subst (λ (k : ℕ). PutsLine STATUSES (overflow_line k number) status.Overflow before.held after.held before.sink_faults after.sink_faults s) is puts)

-- ---- a session
module _ (asked : Option WhyJob) (before : Outside) (begins : Begins asked before) (start new : ControlValue) (teller now : Teller)
    (begun : HasBegun begins.net start) (plan : start.plan ≡ begins.plan) (fresh : teller ≡ record { asked = begins.job.number; left = begins.job.number; planned = 0; ran_out = false }) where
  net-is : start.net ≡ begins.net
  net-is = ap (λ (c : ControlValue). c.net) begun

  pub reads-to : (P : Reading → Type 0) → ((r : Reading) → r.left ≡ now.left → r.ran_out ≡ now.ran_out → P r) → (commands : List Command) (output : List ℕ)
      → Tells (start, teller) (new, now) commands output → ReadsTo begins P commands output
  reads-to P has commands output tells =
      let (s', stands, reads) = tells.run (opening start.plan) (opened start begins.net begun) in (
        reading_of s' now,
        has (reading_of s' now) refl refl,
        subst (λ (r : Reading). Reads begins.net begins.job.number r commands output (reading_of s' now))
            (λ n. reading_of (opening (plan n)) (fresh n))
            (subst (λ (k : ℕ). Reads begins.net k (reading_of (opening start.plan) teller) commands output (reading_of s' now))
            (ap (λ (t : Teller). t.asked) fresh)
            (subst (λ (net : NetworkValue). Reads net teller.asked (reading_of (opening start.plan) teller) commands output (reading_of s' now)) net-is reads)),
      )

  pub reads-cut : (commands : List Command) (output : List ℕ) → TellsCut (start, teller) (new, now) commands output → ReadsCut begins commands output
  reads-cut commands output cut =
      (cut.done, cut.after, cut.whole, cut.count, cut.commands_are, cut.front, reads-to (λ last. ⊤) (λ r left out. tt) cut.done cut.whole cut.tells)

  abbrev pub ran : (after : Outside) (P : Reading → Type 0) → ((r : Reading) → r.left ≡ now.left → r.ran_out ≡ now.ran_out → P r) → (e : End)
      → ServesBy (Tells (start, teller) (new, now)) (TellsCut (start, teller) (new, now)) (streams_at before) (streams_at after) MOST_STREAM_BYTES e
      → Ran asked before after P e
  ran after P has e serves = record {
    begins = begins;
    serves = serves-weaker _ _ (ReadsTo begins P) (ReadsCut begins) (reads-to P has) reads-cut (streams_at before) (streams_at after) MOST_STREAM_BYTES e serves;
  }

  -- the stream was read to its end, and what became of the account is said
  pub done-ends : (read after : Outside) (result : WhyStatus)
      → ServesBy (Tells (start, teller) (new, now)) (TellsCut (start, teller) (new, now)) (streams_at before) (streams_at read) MOST_STREAM_BYTES end.Done
      → after.coming ≡ read.coming → after.source_faults ≡ read.source_faults → read.sink_faults ≡ before.sink_faults → now.asked ≡ begins.job.number
      → EndsReading now read.held after.held read.sink_faults after.sink_faults result → Ends asked before after result
  done-ends read after result serves coming source sank number (accounted left out is held faults) =
      rw is (ran after (λ last. (last.left ≡ 0) × (last.ran_out ≡ false)) (λ r l o. (l ∙ left, o ∙ out)) end.Done
      (subst (λ (at : Streams). ServesBy (Tells (start, teller) (new, now)) (TellsCut (start, teller) (new, now)) (streams_at before) at MOST_STREAM_BYTES end.Done)
      (λ n. record { coming = sym coming n; held = sym held n; source_faults = sym source n; sink_faults = sym faults n }) serves))
  done-ends read after result serves coming source sank number (ran_out out is held faults) =
      rw is (inr (ran after (λ last. last.ran_out ≡ true) (λ r l o. o ∙ out) end.Done
      (subst (λ (at : Streams). ServesBy (Tells (start, teller) (new, now)) (TellsCut (start, teller) (new, now)) (streams_at before) at MOST_STREAM_BYTES end.Done)
      (λ n. record { coming = sym coming n; held = sym held n; source_faults = sym source n; sink_faults = sym faults n }) serves)))
  done-ends read after result serves coming source sank number (lacking left out (inl (is, wrote, same))) =
      rw is (record {
        read = read;
        ran = ran read (λ last. (0 < last.left) × (last.ran_out ≡ false)) (λ r l o. (subst (λ (k : ℕ). 0 < k) (sym l) left, o ∙ out)) end.Done serves;
        wrote = subst (λ (k : ℕ). Wrote read after (absent_line k)) number wrote;
      })
  done-ends read after result serves coming source sank number (lacking left out (inr (is, front, rose))) =
      rw is (
        subst (λ (k : ℕ). Rose k after.sink_faults) sank rose,
        inr (inr (record {
          read = read;
          ran = ran read (λ last. (0 < last.left) × (last.ran_out ≡ false)) (λ r l o. (subst (λ (k : ℕ). 0 < k) (sym l) left, o ∙ out)) end.Done serves;
          wrote = subst (λ (k : ℕ). WroteCut read after (absent_line k)) number front;
        })),
      )

  -- and so at each end
  pub session-ends : (read after : Outside) (e : End) (result : WhyStatus)
      → ServesBy (Tells (start, teller) (new, now)) (TellsCut (start, teller) (new, now)) (streams_at before) (streams_at read) MOST_STREAM_BYTES e
      → CountsFaults (streams_at before) (streams_at read) e
      → after.coming ≡ read.coming → after.source_faults ≡ read.source_faults → now.asked ≡ begins.job.number
      → EndsSession e now read.held after.held read.sink_faults after.sink_faults result → Ends asked before after result
  session-ends read after end.Done result serves (took, sank) coming source number ends = done-ends read after result serves coming source sank number ends
  session-ends read after end.ReadFault result serves counts coming source number (is, held, faults) =
      rw is (
        subst (λ (k : ℕ). Rose before.source_faults k) (sym source) counts.0,
        ran after (λ last. ⊤) (λ r l o. tt) end.ReadFault
            (subst (λ (at : Streams). ServesBy (Tells (start, teller) (new, now)) (TellsCut (start, teller) (new, now)) (streams_at before) at MOST_STREAM_BYTES end.ReadFault)
            (λ n. record { coming = sym coming n; held = sym held n; source_faults = sym source n; sink_faults = sym faults n }) serves),
      )
  session-ends read after end.WriteFault result serves counts coming source number (is, held, faults) =
      rw is (
        subst (λ (k : ℕ). Rose before.sink_faults k) (sym faults) counts.0,
        inl (ran after (λ last. ⊤) (λ r l o. tt) end.WriteFault
            (subst (λ (at : Streams). ServesBy (Tells (start, teller) (new, now)) (TellsCut (start, teller) (new, now)) (streams_at before) at MOST_STREAM_BYTES end.WriteFault)
            (λ n. record { coming = sym coming n; held = sym held n; source_faults = sym source n; sink_faults = sym faults n }) serves)),
      )
  session-ends read after end.TooLong result serves counts coming source number (is, held, faults) =
      rw is (ran after (λ last. ⊤) (λ r l o. tt) end.TooLong
      (subst (λ (at : Streams). ServesBy (Tells (start, teller) (new, now)) (TellsCut (start, teller) (new, now)) (streams_at before) at MOST_STREAM_BYTES end.TooLong)
      (λ n. record { coming = sym coming n; held = sym held n; source_faults = sym source n; sink_faults = sym faults n }) serves))

  -- all that was read is of the line that was asked for
  pub asked-still : (e : End) (a b : Streams) (limit : ℕ) → ServesBy (Tells (start, teller) (new, now)) (TellsCut (start, teller) (new, now)) a b limit e → now.asked ≡ begins.job.number
  asked-still e a b limit serves =
      served-as (now.asked ≡ begins.job.number) (Tells (start, teller) (new, now)) (TellsCut (start, teller) (new, now))
      (λ c o tells. tells.asked ∙ ap (λ (t : Teller). t.asked) fresh) (λ c o cut. cut.tells.asked ∙ ap (λ (t : Teller). t.asked) fresh) a b limit e serves

-- what holds of a job holds of the words that ask for it
pub same-job-ends : (asked known : Option WhyJob) (before after : Outside) (s : WhyStatus) → asked ≡ known → Ends asked before after s → Ends known before after s
same-job-ends asked known before after s is ends = subst (λ (a : Option WhyJob). Ends a before after s) is ends
