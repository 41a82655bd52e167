-- The summary is put, or why there is no opening plan.
use Rattle.std.proofs.Common.{◌∙◌, ap, arith, refl}
use Rattle.nrm_gen.proofs.OneByOne.{left-at-first}
use Rattle.nrm_cli.specs.Inner.Parts.{rest_of}
use Rattle.nrm_cli.proofs.MadeRuns.{made-ends, made-failures}
use Rattle.nrm_cli.proofs.made.run_made.Goals as goal

pub returns-in-Ok-clause-does : goal.returns-in-Ok-clause-does
returns-in-Ok-clause-does g c files file_faults coming faults =
    let net = c.in-Ok.net in
    let puts = c.put_run.ensures.puts c.args.number (ap rest_of c.in-Ok.ensures.maker ∙ left-at-first c.args.number) in
    record {
      ends = made-ends c.args.mode c.args.number net _ _ c.in-Ok.ensures.network refl c.put_run.result puts;
      failures = made-failures c.args.mode c.args.number net _ _ refl refl c.put_run.result puts;
      goes = record { files = refl; file_faults = omega arith; source_faults = omega arith; sink_faults = c.put_run.ensures.later };
    }
