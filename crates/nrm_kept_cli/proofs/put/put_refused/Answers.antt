use Rattle.std.proofs.Common.{List, ℕ, ◌≡◌, ◌∙◌, subst}
use Rattle.nrm_common_cli.specs.Puts.{PutsLine}
use Rattle.nrm_kept_cli.specs.Jobs.{store_refused_line}
use Rattle.nrm_kept_cli.specs.declared.status.KeptStatus.TheVariants as status
use Rattle.nrm_kept_cli.proofs.put.put_refused.Goals as goal
use Rattle.nrm_kept_cli.specs.declared.status.TheConstants.{STATUSES}

pub returns-clause-puts : goal.returns-clause-puts
returns-clause-puts g c =
    let line : c.bytes.result.now ≡ store_refused_line c.args.number = c.bytes.ensures ∙ c.line_of_refused.ensures in
    subst (λ (text : List ℕ). PutsLine STATUSES text status.StoreRefused (g.K.Sink.held c.args.sink.now) (g.K.Sink.held c.put_line.new.sink) (g.K.Sink.faults c.args.sink.now) (g.K.Sink.faults c.put_line.new.sink) c.put_line.result) line c.put_line.ensures.puts
