-- Which counts of faults stay, and that none falls.
use Rattle.std.proofs.Common.{ℕ, ◌≡◌, ◌∙◌, ◌≤◌, List, Err, arith, inl, inr}
use Rattle.nrm_simplex.specs.declared.fault.SolveFault.{SolveFault}
use Rattle.nrm_simplex.specs.declared.fault.SolveFault.TheVariants as fault
use Rattle.nrm_common_cli.specs.NetworkFile.{CountsFetch}
use Rattle.nrm_common_cli.specs.Outside.{Goes, NothingFailed, Outside}
use Rattle.nrm_common_cli.specs.Puts.{PutsLine, PutsReason, PutsUnplanned}
use Rattle.nrm_common_cli.specs.declared.network_file.NoNetwork.{NoNetwork}
use Rattle.nrm_common_cli.specs.declared.network_file.NoNetwork.TheVariants as none
use Rattle.nrm_session.specs.Serving.{CountsFaults}
use Rattle.nrm_session.specs.declared.serving.End.{End}
use Rattle.nrm_session.specs.declared.serving.End.TheVariants as end
use Rattle.nrm_account.specs.declared.teller.Teller.{Teller}
use Rattle.nrm_why_cli.specs.Call.{Failures}
use Rattle.nrm_why_cli.specs.Ends.{streams_at}
use Rattle.nrm_why_cli.specs.Inner.Parts.{EndsReading, EndsSession, accounted, lacking, ran_out}
use Rattle.nrm_why_cli.specs.declared.status.WhyStatus.{WhyStatus}
use Rattle.nrm_why_cli.specs.declared.status.WhyStatus.TheVariants as status
use Rattle.nrm_why_cli.specs.declared.status.TheConstants.{STATUSES}

-- a line with a status after which nothing failed, or a line that was cut
pub told-counts : (before after : Outside) (goes s : WhyStatus) (text : List ℕ) → after.file_faults ≡ before.file_faults → after.source_faults ≡ before.source_faults
    → PutsLine STATUSES text goes before.held after.held before.sink_faults after.sink_faults s → (NothingFailed before after → Failures goes before after) → Failures s before after
told-counts before after goes s text files source (inl (is, wrote, same)) quiet = rw is (quiet (record { files = files; source = source; sink = same }))
told-counts before after goes s text files source (inr (is, front, rose)) quiet = rw is (source, inl files)

-- no network
pub without-failures : (before after : Outside) (reason : NoNetwork) (s : WhyStatus) → CountsFetch before.file_faults after.file_faults (Err reason)
    → PutsReason STATUSES reason before.held after.held before.sink_faults after.sink_faults s → after.source_faults ≡ before.source_faults → Failures s before after
without-failures before after none.Absent s counts puts source = told-counts before after status.Refused s _ counts source puts (λ quiet. quiet)
without-failures before after (none.Refused row cause) s counts puts source = told-counts before after status.Refused s _ counts source puts (λ quiet. quiet)
without-failures before after none.Fault s counts (inl (is, wrote, same)) source = rw is (source, same)
without-failures before after none.Fault s counts (inr (is, front, rose)) source = rw is (source, inr (counts.1, front))
without-failures before after none.NoMemory s counts (is, kept, same) source = rw is (record { files = counts; source = source; sink = same })

-- no plan
pub unplanned-failures : (before after : Outside) (why : SolveFault) (s : WhyStatus) → after.file_faults ≡ before.file_faults → after.source_faults ≡ before.source_faults
    → PutsUnplanned STATUSES why before.held after.held before.sink_faults after.sink_faults s → Failures s before after
unplanned-failures before after (fault.Overflow pivots number) s files source puts = told-counts before after status.Overflow s _ files source puts (λ quiet. quiet)
unplanned-failures before after fault.NoMemory s files source (is, kept, same) = rw is (record { files = files; source = source; sink = same })

-- the stream was read, and what became of the account is said
module _ (before read after : Outside) (files : after.file_faults ≡ before.file_faults) (source : after.source_faults ≡ read.source_faults) (teller : Teller) where
  done-failures : (s : WhyStatus) → read.source_faults ≡ before.source_faults → read.sink_faults ≡ before.sink_faults
      → EndsReading teller read.held after.held read.sink_faults after.sink_faults s → Failures s before after
  done-failures s took sank (accounted left out is held same) = rw is (record { files = files; source = source ∙ took; sink = same ∙ sank })
  done-failures s took sank (ran_out out is held same) = rw is (record { files = files; source = source ∙ took; sink = same ∙ sank })
  done-failures s took sank (lacking left out (inl (is, wrote, same))) = rw is (record { files = files; source = source ∙ took; sink = same ∙ sank })
  done-failures s took sank (lacking left out (inr (is, front, rose))) = rw is (source ∙ took, inl files)

  pub session-failures : (e : End) (s : WhyStatus) → CountsFaults (streams_at before) (streams_at read) e
      → EndsSession e teller read.held after.held read.sink_faults after.sink_faults s → Failures s before after
  session-failures end.Done s (took, sank) ends = done-failures s took sank ends
  session-failures end.ReadFault s (rose, later, sank) (is, held, same) = rw is (files, same ∙ sank)
  session-failures end.WriteFault s (rose, later, took) (is, held, same) = rw is (source ∙ took, inl files)
  session-failures end.TooLong s (took, sank) (is, held, same) = rw is (record { files = files; source = source ∙ took; sink = same ∙ sank })

-- no count falls while a stream is read, nor behind it
pub session-goes : (before read after : Outside) → after.files ≡ before.files → after.file_faults ≡ before.file_faults → after.source_faults ≡ read.source_faults
    → read.sink_faults ≤ after.sink_faults → (e : End) → CountsFaults (streams_at before) (streams_at read) e → Goes before after
session-goes before read after stay files source later end.Done (took, sank) =
    record { files = stay; file_faults = omega (arith, files); source_faults = omega (arith, source, took); sink_faults = omega (arith, later, sank) }
session-goes before read after stay files source later end.ReadFault (rose, higher, sank) =
    record { files = stay; file_faults = omega (arith, files); source_faults = omega (arith, source, higher); sink_faults = omega (arith, later, sank) }
session-goes before read after stay files source later end.WriteFault (rose, higher, took) =
    record { files = stay; file_faults = omega (arith, files); source_faults = omega (arith, source, took); sink_faults = omega (arith, later, higher) }
session-goes before read after stay files source later end.TooLong (took, sank) =
    record { files = stay; file_faults = omega (arith, files); source_faults = omega (arith, source, took); sink_faults = omega (arith, later, sank) }
