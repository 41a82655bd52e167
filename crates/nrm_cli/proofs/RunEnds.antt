-- How a run ends whose file gave a network, out of how the session over its stream ended.
use Rattle.std.proofs.Common.{ℕ, ◌≡◌, List, take, Some, arith, inl, inr}
use Rattle.nrm_model.specs.declared.mode.Mode.{Mode}
use Rattle.nrm_model.specs.Network.{NetworkValue}
use Rattle.nrm_model.specs.declared.limits.TheConstants.{MOST_STREAM_BYTES}
use Rattle.nrm_control.specs.Standing.{ControlValue}
use Rattle.nrm_common_cli.specs.Outside.{Goes, Outside}
use Rattle.nrm_plan.specs.Plans.{IsOpeningPlan}
use Rattle.nrm_stream.specs.Commands.{commands_of, whole_commands}
use Rattle.nrm_session.specs.Serving.{CountsFaults, Serves, Streams}
use Rattle.nrm_session.specs.declared.serving.End.{End}
use Rattle.nrm_session.specs.declared.serving.End.TheVariants as end
use Rattle.nrm_cli.specs.Ends.{Ends, Failures, Starts}
use Rattle.nrm_cli.specs.Jobs.{run_file}
use Rattle.nrm_cli.specs.Inner.Does.{Does}
use Rattle.nrm_cli.specs.Inner.Parts.{HasBegun, ServesNetwork, status_at}
use Rattle.nrm_cli.specs.Tells.{Opens}
use Rattle.nrm_cli.specs.declared.status.Status.{Status}
use Rattle.nrm_cli.proofs.PlanEnds.{unplanned-ends, unplanned-failures}
use Rattle.nrm_cli.proofs.SessionRuns.{run-stops, run-writes}

-- the source and the sink of what stands outside
abbrev pub streams_of : Outside → Streams
streams_of at = record { coming = at.coming; held = at.held; source_faults = at.source_faults; sink_faults = at.sink_faults }

module _ (mode : Mode) (file : List ℕ) (net : NetworkValue) (start new : ControlValue) (before after : Outside) where
  pub served-ends : HasBegun net start → Opens (Some (run_file mode file)) (run_file mode file) before net → IsOpeningPlan net mode start.plan
      → (e : End) → Serves start new (streams_of before) (streams_of after) MOST_STREAM_BYTES e → CountsFaults (streams_of before) (streams_of after) e → Ends (Some (run_file mode file)) before after (status_at e)
  served-ends begun opens planned e serves counts = by e serves counts
    where
      starts : Starts (Some (run_file mode file)) before
      starts = record { mode = mode; file = file; net = net; plan = start.plan; opens = opens; planned = planned }

      by : (e : End) → Serves start new (streams_of before) (streams_of after) MOST_STREAM_BYTES e → CountsFaults (streams_of before) (streams_of after) e → Ends (Some (run_file mode file)) before after (status_at e)
      by end.Done (taken, output, did, ended, refines) counts = inl (record {
        starts = starts;
        taken = taken;
        output = output;
        took = did.consumed;
        writes_it = (did.short, ended, run-writes start new net (commands_of taken) output begun refines);
        wrote = did.written;
      })
      by end.ReadFault (taken, output, did, refines) counts = (
        counts.0,
        record { starts = starts; taken = taken; output = output; took = did.consumed; writes_it = (did.short, run-writes start new net (whole_commands taken) output begun refines); wrote = did.written },
      )
      by end.WriteFault (taken, output, did, inl refines) counts = (
        counts.0,
        inl (record { starts = starts; taken = taken; output = output; took = did.consumed; writes_it = (did.short, inl (run-stops start new net (whole_commands taken) output begun refines)); wrote = did.written }),
      )
      by end.WriteFault (taken, output, did, inr (ended, refines)) counts = (
        counts.0,
        inl (record { starts = starts; taken = taken; output = output; took = did.consumed; writes_it = (did.short, inr (ended, run-stops start new net (commands_of taken) output begun refines)); wrote = did.written }),
      )
      by end.TooLong (taken, output, took, long, wrote, refines) counts =
          record { starts = starts; taken = taken; output = output; took = took; writes_it = (long, run-writes start new net (whole_commands (take MOST_STREAM_BYTES taken)) output begun refines); wrote = wrote }

-- and which counts stay
pub served-failures : (before after : Outside) → after.file_faults ≡ before.file_faults → (e : End)
    → CountsFaults (streams_of before) (streams_of after) e → Failures (status_at e) before after
served-failures before after files end.Done (took, sank) = record { files = files; source = took; sink = sank }
served-failures before after files end.ReadFault (rose, later, sank) = (files, sank)
served-failures before after files end.WriteFault (rose, later, took) = (took, inl files)
served-failures before after files end.TooLong (took, sank) = record { files = files; source = took; sink = sank }

-- and no count falls
pub served-goes : (before after : Outside) → after.files ≡ before.files → after.file_faults ≡ before.file_faults → (e : End)
    → CountsFaults (streams_of before) (streams_of after) e → Goes before after
served-goes before after same files end.Done (took, sank) = record { files = same; file_faults = omega (arith, files); source_faults = omega (arith, took); sink_faults = omega (arith, sank) }
served-goes before after same files end.ReadFault (rose, later, sank) = record { files = same; file_faults = omega (arith, files); source_faults = later; sink_faults = omega (arith, sank) }
served-goes before after same files end.WriteFault (rose, later, took) = record { files = same; file_faults = omega (arith, files); source_faults = omega (arith, took); sink_faults = later }
served-goes before after same files end.TooLong (took, sank) = record { files = same; file_faults = omega (arith, files); source_faults = omega (arith, took); sink_faults = omega (arith, sank) }

-- so it does what the words ask for, or tells why it can't
pub served-does : (mode : Mode) (file : List ℕ) (net : NetworkValue) (before after : Outside) → Opens (Some (run_file mode file)) (run_file mode file) before net
    → after.files ≡ before.files → after.file_faults ≡ before.file_faults → (s : Status) → ServesNetwork net mode (streams_of before) (streams_of after) s
    → Does (Some (run_file mode file)) before after s
served-does mode file net before after opens same files s (inl did) = record {
  ends = rw did.status (served-ends mode file net did.start did.last before after did.begun opens did.planned did.ended did.serves did.counts);
  failures = rw did.status (served-failures before after files did.ended did.counts);
  goes = served-goes before after same files did.ended did.counts;
}
served-does mode file net before after opens same files s (inr none) = record {
  ends = unplanned-ends (run_file mode file) mode net before after (λ goes text lacks. lacks) opens none.left none.why s none.is none.puts;
  failures = unplanned-failures before after files none.source none.why s none.puts;
  goes = record { files = same; file_faults = omega (arith, files); source_faults = omega (arith, none.source); sink_faults = none.later };
}
