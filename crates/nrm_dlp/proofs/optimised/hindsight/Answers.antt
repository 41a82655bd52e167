use Rattle.std.proofs.Common.{rules, ◌≡◌, ◌∙◌, pos, nat_abs, subst}
use Rattle.nrm_fraction.specs.Fraction.{◌over◌}
use Rattle.nrm_lp.specs.Limits.{IsLimited}
use Rattle.nrm_lp.specs.Program.{ProgramValue}
use Rattle.nrm_simplex.specs.Solving.{IsClosing}
use Rattle.nrm_dlp.specs.Programs.{hindsight_program}
use Rattle.nrm_dlp.proofs.Attained.{closing-attained}
use Rattle.nrm_dlp.proofs.Bounds.{closing-bounds}
use Rattle.nrm_dlp.proofs.optimised.hindsight.Goals as goal

pub returns-clause-bounds : goal.returns-clause-bounds
returns-clause-bounds c =
    let a = hindsight_program c.args.net.now c.args.tallies.now in
    let limits = subst IsLimited (c.program.view_is ∙ c.in_ok-program.ensures) c.program.invariant in
    let closes = subst (λ (a : ProgramValue). IsClosing a c.in_ok-made.made) c.in_ok-program.ensures c.in_ok-made.ensures.path in
    let made = c.in_ok-made.made in
    let value : pos c.reduced.result.0 over c.reduced.result.1 ≡ made.value over nat_abs made.den = search rules in
    closing-bounds a made (pos c.reduced.result.0 over c.reduced.result.1) limits closes value

pub returns-clause-attained : goal.returns-clause-attained
returns-clause-attained c =
    let a = hindsight_program c.args.net.now c.args.tallies.now in
    let limits = subst IsLimited (c.program.view_is ∙ c.in_ok-program.ensures) c.program.invariant in
    let closes = subst (λ (a : ProgramValue). IsClosing a c.in_ok-made.made) c.in_ok-program.ensures c.in_ok-made.ensures.path in
    let made = c.in_ok-made.made in
    let value : pos c.reduced.result.0 over c.reduced.result.1 ≡ made.value over nat_abs made.den = search rules in
    closing-attained a made (pos c.reduced.result.0 over c.reduced.result.1) limits closes value
