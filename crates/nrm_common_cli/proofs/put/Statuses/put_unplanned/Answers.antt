use Rattle.std.proofs.Common.{List, ℕ, ◌≡◌, ◌∙◌, ap, subst, sym, to_z-of_z, SFits, rules}
use mir.Syntax.{w128}
use Rattle.nrm_simplex.specs.declared.fault.SolveFault.{SolveFault}
use Rattle.nrm_common_cli.specs.Puts.{PutsLine, PutsUnplanned}
use Rattle.nrm_common_cli.specs.Words.{overflow_line}
use Rattle.nrm_common_cli.proofs.put.Statuses.put_unplanned.Goals as goal

pub returns-in-Overflow-clause-puts : goal.returns-in-Overflow-clause-puts
returns-in-Overflow-clause-puts g c =
    let fits : SFits w128 c.in-Overflow.number = search rules in
    let held = g.K.Sink.held in
    let faults = g.K.Sink.faults in
    let self = c.args.self in
    let line : c.bytes.result.now ≡ overflow_line c.in-Overflow.pivots c.in-Overflow.number = c.bytes.ensures ∙ c.line_of_overflow.ensures ∙ ap (overflow_line c.in-Overflow.pivots) (to_z-of_z fits) in
    subst (λ (why : SolveFault). PutsUnplanned self why (held c.args.sink.now) (held c.put_line.new.sink) (faults c.args.sink.now) (faults c.put_line.new.sink) c.put_line.result) (sym c.in-Overflow.is)
    (subst (λ (text : List ℕ). PutsLine self text self.overflow (held c.args.sink.now) (held c.put_line.new.sink) (faults c.args.sink.now) (faults c.put_line.new.sink) c.put_line.result) line c.put_line.ensures.puts)
