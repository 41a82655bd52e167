-- How a call ends, out of how its parts went.
use Rattle.std.proofs.Common.{ℕ, ◌≡◌, ◌≢◌, List, Option, Some, Ok, Err, refl, sym, subst, inl, inr}
use Rattle.nrm_edge.specs.Causes.{Rose}
use Rattle.nrm_model.specs.Network.{NetworkValue}
use Rattle.nrm_simplex.specs.declared.fault.SolveFault.{SolveFault}
use Rattle.nrm_simplex.specs.declared.fault.SolveFault.TheVariants as fault
use Rattle.nrm_control.specs.Standing.{ControlValue, IsStartFault}
use Rattle.nrm_common_cli.specs.NetworkFile.{CountsFetch, OpensFile, reason_line}
use Rattle.nrm_common_cli.specs.Outside.{LeftStream, OnFile, Outside, Wrote}
use Rattle.nrm_common_cli.specs.Refusals.{at_row, file_fault_line, network_under, no_file, refusal_line}
use Rattle.nrm_common_cli.specs.Words.{overflow_line, told_pivots}
use Rattle.nrm_common_cli.specs.declared.network_file.NoNetwork.{NoNetwork}
use Rattle.nrm_common_cli.specs.declared.network_file.NoNetwork.TheVariants as none
use Rattle.nrm_session.specs.Serving.{Streams}
use Rattle.nrm_hub.specs.declared.again.AgainFault.{AgainFault}
use Rattle.nrm_hub.specs.declared.again.AgainFault.TheVariants as again
use Rattle.nrm_hub.specs.declared.phase.Phase.TheVariants as phase
use Rattle.nrm_common_cli.specs.Puts.{PutsIfSome, PutsLine, status_for, unplanned_line}
use Rattle.nrm_desks_cli.specs.Ends.{Begins, Ends, Ran, Tells, file_fault, overflow, refused, streams_at, usage}
use Rattle.nrm_desks_cli.specs.Inner.Ending.{EndsServing}
use Rattle.nrm_desks_cli.specs.Inner.Serving.{ServesTo}
use Rattle.nrm_desks_cli.specs.Jobs.{DesksJob}
use Rattle.nrm_desks_cli.specs.Served.{HasEnded, HasNoRow, IsNoFrame, IsTooLong, NothingIsLeft, Served, ServedCut}
use Rattle.nrm_desks_cli.specs.declared.serving.ServeEnd.{ServeEnd}
use Rattle.nrm_desks_cli.specs.declared.serving.ServeEnd.TheVariants as end
use Rattle.nrm_desks_cli.specs.declared.status.DesksStatus.{DesksStatus}
use Rattle.nrm_desks_cli.specs.declared.status.DesksStatus.TheVariants as status
use Rattle.nrm_desks_cli.specs.declared.status.TheConstants.{STATUSES}

-- ---- a line in place of frames
module _ (asked : Option DesksJob) (before after : Outside) (left : LeftStream before after) where
  whole : (s : DesksStatus) (text : List ℕ) → Tells asked before after s text → Wrote before after text → Ends asked before after s
  whole s text (usage none) wrote = record { text = text; tells = usage none; wrote = wrote; left = left }
  whole s text (refused job refusal asks on) wrote = record { text = text; tells = refused job refusal asks on; wrote = wrote; left = left }
  whole s text (file_fault job asks rose) wrote = record { text = text; tells = file_fault job asks rose; wrote = wrote; left = left }
  whole s text (overflow job net n number asks on large) wrote = record { text = text; tells = overflow job net n number asks on large; wrote = wrote; left = left }

  pub told-ends : (goes s : DesksStatus) (text : List ℕ) → Tells asked before after goes text → PutsLine STATUSES text goes before.held after.held before.sink_faults after.sink_faults s → Ends asked before after s
  told-ends goes s text tells (inl (is, wrote, same)) = rw is (whole goes text tells wrote)
  told-ends goes s text tells (inr (is, front, rose)) = rw is (rose, inr (inl (goes, record { text = text; tells = tells; wrote = front; left = left })))

module _ (job : DesksJob) (before after : Outside) (left : LeftStream before after) where
  -- no network
  pub without-network : (reason : NoNetwork) (s : DesksStatus) → OpensFile before.files job.file (Err reason) → CountsFetch before.file_faults after.file_faults (Err reason)
      → PutsIfSome STATUSES (reason_line reason) (status_for STATUSES reason) before.held after.held before.sink_faults after.sink_faults s → Ends (Some job) before after s
  without-network none.Absent s file counts puts = told-ends (Some job) before after left status.Refused s (refusal_line no_file) (refused job no_file refl file) puts
  without-network (none.Refused row cause) s file counts puts = told-ends (Some job) before after left status.Refused s (refusal_line (at_row row cause)) (refused job (at_row row cause) refl file) puts
  without-network none.Fault s file counts puts = told-ends (Some job) before after left status.FileFault s file_fault_line (file_fault job refl counts.1) puts
  without-network none.NoMemory s file counts (is, kept, same) = rw is (inl (record { job = job; asks = refl; wrote = kept; left = left }))

  -- no plan
  pub without-plan : (net : NetworkValue) → OnFile before.files job.file (λ contents. network_under contents ≡ Ok net) → (why : SolveFault) (s : DesksStatus) → IsStartFault net job.mode why
      → PutsIfSome STATUSES (unplanned_line why) status.Overflow before.held after.held before.sink_faults after.sink_faults s → Ends (Some job) before after s
  without-plan net on fault.NoMemory s is (told, kept, same) = rw told (inl (record { job = job; asks = refl; wrote = kept; left = left }))
  without-plan net on (fault.Overflow pivots number) s (n, large, is) puts =
      told-ends (Some job) before after left status.Overflow s (overflow_line (told_pivots n) number) (overflow job net n number refl on large)
      (subst (λ (k : ℕ). PutsLine STATUSES (overflow_line k number) status.Overflow before.held after.held before.sink_faults after.sink_faults s) is puts)

-- ---- frames
module _ (asked : Option DesksJob) (before : Outside) (begins : Begins asked before) (found after : Outside) (coming : after.coming ≡ found.coming)
    (source : after.source_faults ≡ found.source_faults) where
  same-streams : after.held ≡ found.held → after.sink_faults ≡ found.sink_faults → streams_at found ≡ streams_at after
  same-streams held faults = λ n. record { coming = sym coming n; held = sym held n; source_faults = sym source n; sink_faults = sym faults n }

  -- what was served before nothing more was written
  ran : (P : (at : Streams) (start : ControlValue) → Served start (streams_at before) at → Type 0) → after.held ≡ found.held → after.sink_faults ≡ found.sink_faults
      → (served : Served begins.control (streams_at before) (streams_at found)) → P (streams_at found) begins.control served → Ran asked before after (P (streams_at after))
  ran P held faults served so =
      let moved : (s : Served begins.control (streams_at before) (streams_at after)) × P (streams_at after) begins.control s =
      subst (λ (at : Streams). (s : Served begins.control (streams_at before) at) × P at begins.control s) (same-streams held faults) (served, so) in
      record { begins = begins; served = moved.0; so = moved.1 }

  -- rows that can't be given again
  fault-ends : (why : AgainFault) (result : DesksStatus) (served : Served begins.control (streams_at before) (streams_at found))
      → HasNoRow served why → found.sink_faults ≡ before.sink_faults
      → EndsServing (end.NotAgain why) found.held after.held found.sink_faults after.sink_faults result → Ends asked before after result
  fault-ends (again.NoRow row) result served so sank (inl (is, wrote, same)) =
      rw is (record { found = found; row = row; ran = record { begins = begins; served = served; so = so }; wrote = wrote; left = coming })
  fault-ends (again.NoRow row) result served so sank (inr (is, front, rose)) =
      rw is (
        subst (λ (k : ℕ). Rose k after.sink_faults) sank rose,
        inr (inr (inl (record { found = found; row = row; ran = record { begins = begins; served = served; so = so }; wrote = front; left = coming }))),
      )
  fault-ends (again.Differs row) result served so sank (inl (is, wrote, same)) =
      rw is (record { found = found; row = row; ran = record { begins = begins; served = served; so = so }; wrote = wrote; left = coming })
  fault-ends (again.Differs row) result served so sank (inr (is, front, rose)) =
      rw is (
        subst (λ (k : ℕ). Rose k after.sink_faults) sank rose,
        inr (inr (inr (record { found = found; row = row; ran = record { begins = begins; served = served; so = so }; wrote = front; left = coming }))),
      )
  fault-ends again.NoMemory result served so sank (is, held, faults) =
      rw is (inr (ran (λ at start (s : Served start (streams_at before) at). s.world.hub.phase ≡ phase.Replaying) held faults served so.0))

  pub serving-ends : (e : ServeEnd) (result : DesksStatus) → ServesTo begins.control (streams_at before) (streams_at found) e
      → (e ≢ end.WriteFault → found.sink_faults ≡ before.sink_faults)
      → EndsServing e found.held after.held found.sink_faults after.sink_faults result → Ends asked before after result
  serving-ends end.Done result (served, so) sank (is, held, faults) =
      rw is (ran (λ at start (s : Served start (streams_at before) at). HasEnded s) held faults served so)
  serving-ends end.ReadFault result ((served, nothing), rose) sank (is, held, faults) =
      rw is (
        subst (λ (k : ℕ). Rose before.source_faults k) (sym source) rose,
        ran (λ at start (s : Served start (streams_at before) at). NothingIsLeft s) held faults served nothing,
      )
  serving-ends end.WriteFault result (served, rose) sank (is, held, faults) =
      rw is (
        subst (λ (k : ℕ). Rose before.sink_faults k) (sym faults) rose,
        inl (record { begins = begins; served = subst (λ (at : Streams). ServedCut begins.control (streams_at before) at) (same-streams held faults) served; so = tt }),
      )
  serving-ends end.TooLong result (served, so) sank (is, held, faults) =
      rw is (ran (λ at start (s : Served start (streams_at before) at). IsTooLong s) held faults served so)
  serving-ends end.NoFrame result (served, so) sank (is, held, faults) =
      rw is (ran (λ at start (s : Served start (streams_at before) at). IsNoFrame s) held faults served so)
  serving-ends (end.NotAgain why) result (served, so) sank ends =
      fault-ends why result served so (sank (λ (no : end.NotAgain why ≡ end.WriteFault). cc)) ends

-- an end that is no failed output was none before
pub unfailed-end : (e : ServeEnd) (held held' : Option (List ℕ)) (before now : ℕ) (result : DesksStatus) → EndsServing e held held' before now result
    → result ≢ status.WriteFault → e ≢ end.WriteFault
unfailed-end e held held' before now result ends unfailed is =
    unfailed (subst (λ (other : ServeEnd). EndsServing other held held' before now result) is ends).0

-- what holds of a job holds of the words that ask for it
pub same-job-ends : (asked known : Option DesksJob) (before after : Outside) (s : DesksStatus) → asked ≡ known → Ends asked before after s → Ends known before after s
same-job-ends asked known before after s is ends = subst (λ (a : Option DesksJob). Ends a before after s) is ends
