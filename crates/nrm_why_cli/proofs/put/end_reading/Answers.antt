use Rattle.std.proofs.Common.{List, ℕ, ◌≡◌, ◌∙◌, ◌<◌, false, subst, arith}
use Rattle.nrm_common_cli.specs.Puts.{PutsLine}
use Rattle.nrm_why_cli.specs.Inner.Parts.{lacking}
use Rattle.nrm_why_cli.specs.Jobs.{absent_line}
use Rattle.nrm_why_cli.specs.declared.status.WhyStatus.TheVariants as status
use Rattle.nrm_why_cli.proofs.put.end_reading.Goals as goal
use Rattle.nrm_why_cli.specs.declared.status.TheConstants.{STATUSES}

some-left : (left : ℕ) → (left ≡ 0 → ⊥) → 0 < left
some-left left other = omega (arith, other)

pub returns-clause-ends : goal.returns-clause-ends
returns-clause-ends g c =
    let held = g.K.Sink.held in
    let faults = g.K.Sink.faults in
    let line : c.bytes.result.now ≡ absent_line c.args.teller.now.asked = c.bytes.ensures ∙ c.line_of_absent.ensures in
    lacking (some-left c.args.teller.now.left c.if-teller-eq0.false) c.if-teller.false
    (subst (λ (text : List ℕ). PutsLine STATUSES text status.NoLine (held c.args.sink.now) (held c.put_line.new.sink) (faults c.args.sink.now) (faults c.put_line.new.sink) c.put_line.result) line c.put_line.ensures.puts)
