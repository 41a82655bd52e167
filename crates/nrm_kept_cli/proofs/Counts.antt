-- Which counts of files, stream and output stay, and that none falls.
use Rattle.std.proofs.Common.{ℕ, ◌≡◌, List, Err, arith, inl, inr}
use Rattle.nrm_simplex.specs.declared.fault.SolveFault.{SolveFault}
use Rattle.nrm_simplex.specs.declared.fault.SolveFault.TheVariants as fault
use Rattle.nrm_common_cli.specs.NetworkFile.{CountsFetch, reason_line}
use Rattle.nrm_common_cli.specs.Outside.{Goes, NothingFailed, Outside}
use Rattle.nrm_common_cli.specs.declared.network_file.NoNetwork.{NoNetwork}
use Rattle.nrm_common_cli.specs.declared.network_file.NoNetwork.TheVariants as none
use Rattle.nrm_session.specs.Serving.{CountsFaults}
use Rattle.nrm_session.specs.declared.serving.End.{End}
use Rattle.nrm_session.specs.declared.serving.End.TheVariants as end
use Rattle.nrm_keeper.specs.declared.row.KeepFault.{KeepFault}
use Rattle.nrm_keeper.specs.declared.row.KeepFault.TheVariants as keep
use Rattle.nrm_common_cli.specs.Puts.{PutsIfSome, PutsLine, status_for, unplanned_line}
use Rattle.nrm_kept_cli.specs.Ends.{Failures, streams_at}
use Rattle.nrm_kept_cli.specs.Inner.Parts.{status_at, unlisted_line}
use Rattle.nrm_kept_cli.specs.declared.status.KeptStatus.{KeptStatus}
use Rattle.nrm_kept_cli.specs.declared.status.KeptStatus.TheVariants as status
use Rattle.nrm_kept_cli.specs.declared.status.TheConstants.{STATUSES}

-- a line with a status after which nothing failed, or a line that was cut
pub told-counts : (before after : Outside) (goes s : KeptStatus) (text : List ℕ) → after.file_faults ≡ before.file_faults → after.source_faults ≡ before.source_faults
    → PutsLine STATUSES text goes before.held after.held before.sink_faults after.sink_faults s → (NothingFailed before after → Failures goes before after) → Failures s before after
told-counts before after goes s text files source (inl (is, wrote, same)) quiet = rw is (quiet (record { files = files; source = source; sink = same }))
told-counts before after goes s text files source (inr (is, front, rose)) quiet = rw is (source, inl files)

-- no network
pub without-failures : (before after : Outside) (reason : NoNetwork) (s : KeptStatus)
    → CountsFetch before.file_faults after.file_faults (Err reason)
    → PutsIfSome STATUSES (reason_line reason) (status_for STATUSES reason) before.held after.held before.sink_faults after.sink_faults s → after.source_faults ≡ before.source_faults → Failures s before after
without-failures before after none.Absent s counts (inl (is, wrote, same)) source = rw is (record { files = counts; source = source; sink = same })
without-failures before after none.Absent s counts (inr (is, front, rose)) source = rw is (source, inl counts)
without-failures before after (none.Refused row cause) s counts (inl (is, wrote, same)) source = rw is (record { files = counts; source = source; sink = same })
without-failures before after (none.Refused row cause) s counts (inr (is, front, rose)) source = rw is (source, inl counts)
without-failures before after none.Fault s counts (inl (is, wrote, same)) source = rw is (source, same)
without-failures before after none.Fault s counts (inr (is, front, rose)) source = rw is (source, inr (counts.1, front))
without-failures before after none.NoMemory s counts (is, kept, same) source = rw is (record { files = counts; source = source; sink = same })

-- no plan, and no rows
pub unplanned-failures : (before after : Outside) (why : SolveFault) (s : KeptStatus) → after.file_faults ≡ before.file_faults → after.source_faults ≡ before.source_faults
    → PutsIfSome STATUSES (unplanned_line why) status.Overflow before.held after.held before.sink_faults after.sink_faults s → Failures s before after
unplanned-failures before after (fault.Overflow pivots number) s files source puts = told-counts before after status.Overflow s _ files source puts (λ quiet. quiet)
unplanned-failures before after fault.NoMemory s files source (is, kept, same) = rw is (record { files = files; source = source; sink = same })

pub unlisted-failures : (before after : Outside) (why : KeepFault) (s : KeptStatus) → after.file_faults ≡ before.file_faults → after.source_faults ≡ before.source_faults
    → PutsIfSome STATUSES (unlisted_line why) status.StoreFault before.held after.held before.sink_faults after.sink_faults s → Failures s before after
unlisted-failures before after keep.Failed s files source puts = told-counts before after status.StoreFault s _ files source puts (λ quiet. quiet)
unlisted-failures before after keep.NoMemory s files source (is, kept, same) = rw is (record { files = files; source = source; sink = same })

-- a session
pub served-failures : (before after : Outside) → after.file_faults ≡ before.file_faults → (e : End)
    → CountsFaults (streams_at before) (streams_at after) e → Failures (status_at e) before after
served-failures before after files end.Done (took, sank) = record { files = files; source = took; sink = sank }
served-failures before after files end.ReadFault (rose, later, sank) = (files, sank)
served-failures before after files end.WriteFault (rose, later, took) = (took, inl files)
served-failures before after files end.TooLong (took, sank) = record { files = files; source = took; sink = sank }

pub served-goes : (before after : Outside) → after.files ≡ before.files → after.file_faults ≡ before.file_faults → (e : End)
    → CountsFaults (streams_at before) (streams_at after) e → Goes before after
served-goes before after same files end.Done (took, sank) = record { files = same; file_faults = omega (arith, files); source_faults = omega (arith, took); sink_faults = omega (arith, sank) }
served-goes before after same files end.ReadFault (rose, later, sank) = record { files = same; file_faults = omega (arith, files); source_faults = later; sink_faults = omega (arith, sank) }
served-goes before after same files end.WriteFault (rose, later, took) = record { files = same; file_faults = omega (arith, files); source_faults = omega (arith, took); sink_faults = later }
served-goes before after same files end.TooLong (took, sank) = record { files = same; file_faults = omega (arith, files); source_faults = omega (arith, took); sink_faults = omega (arith, sank) }
