use Rattle.std.proofs.Common.{ℕ, ◌≤◌, All, sym, subst}
use Rattle.nrm_dlp.proofs.Hindsights.{authorised-limited, tallies-limited}
use Rattle.nrm_dlp.proofs.programs.hindsight_program.Goals as goal

pub program_of-requires-clause-caps : goal.program_of-requires-clause-caps
program_of-requires-clause-caps c =
    subst (All (λ (cap : ℕ). cap ≤ 31968)) (sym c.in_ok-caps.ensures.caps) (authorised-limited c.args.net.now c.in_ok-caps.ensures.limits)

pub program_of-requires-clause-bounds : goal.program_of-requires-clause-bounds
program_of-requires-clause-bounds c =
    subst (All (λ (bound : ℕ). bound ≤ 31968)) (sym c.in_ok-bounds.ensures) (tallies-limited c.args.net.now c.args.tallies.now c.in_ok-caps.ensures.limits c.requires)
