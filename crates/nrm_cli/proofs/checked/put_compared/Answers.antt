use Rattle.std.proofs.Common.{◌∙◌, List, ℕ, Result, ap, length, subst, sym}
use Rattle.nrm_fraction.specs.Large.{size_limit}
use Rattle.nrm_lp.specs.Certified.{Certifies}
use Rattle.nrm_lp.specs.Program.{ProgramValue}
use Rattle.nrm_lp.specs.Shape.{HasShape}
use Rattle.nrm_dual.specs.Conditions.{verdict_on}
use Rattle.nrm_common_cli.specs.Puts.{PutsLine}
use Rattle.nrm_cli.specs.Ends.{status_of}
use Rattle.nrm_cli.specs.Inner.Parts.{PutsCompared}
use Rattle.nrm_cli.specs.declared.status.Status.{Status}
use Rattle.nrm_findings.proofs.ProgramOfNetwork.{shape-of-program}
use Rattle.nrm_cli.proofs.checked.put_compared.Goals as goal
use Rattle.nrm_cli.specs.declared.status.TheConstants.{STATUSES}

pub returns-in-Ok-clause-puts : goal.returns-in-Ok-clause-puts
returns-in-Ok-clause-puts g c =
    let given = c.args.certificate.now in
    let found = c.check-verdict.result in
    let held = g.K.Sink.held in
    let faults = g.K.Sink.faults in
    let is = rw c.in-Ok.is at c.requires.program in
    subst (λ (program : Result ProgramValue _). PutsCompared c.args.net.now given program (held c.args.sink.now) (held c.put_line.new.sink) (faults c.args.sink.now) (faults c.put_line.new.sink) c.put_line.result)
    (sym c.in-Ok.is) (record {
      found = found;
      verdict_is = ap (λ (a : ProgramValue). verdict_on a given) (sym is) ∙ sym c.check-verdict.ensures.verdict;
      shaped = c.check-verdict.ensures.shape (subst (λ (a : ProgramValue). HasShape size_limit (length a.bounds) (length a.caps) given) (sym is) (shape-of-program c.args.net.now given c.requires.shape));
      optimal = λ e. subst (λ (a : ProgramValue). Certifies size_limit a given) is (c.check-verdict.ensures.optimal e);
      puts =
          subst (λ (line : List ℕ). PutsLine STATUSES line (status_of found) (held c.args.sink.now) (held c.put_line.new.sink) (faults c.args.sink.now) (faults c.put_line.new.sink) c.put_line.result)
          (c.bytes.ensures ∙ c.line_of_verdict-line.ensures)
          (subst (λ (s : Status). PutsLine STATUSES c.bytes.result.now s (held c.args.sink.now) (held c.put_line.new.sink) (faults c.args.sink.now) (faults c.put_line.new.sink) c.put_line.result)
          c.status_with.ensures c.put_line.ensures.puts);
    })
