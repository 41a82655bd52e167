-- What the words of the command line ask for.
use Rattle.std.specs.Prelude.{ℕ, List, [], ◌∷◌, codes, Option, None, option_map}
use Rattle.nrm_model.specs.declared.mode.Mode.{Mode}
use Rattle.nrm_common_cli.specs.Words.{mode_of}

-- a mode, and a network file
pub record DesksJob : Type 0 where
  pub mode : Mode
  pub file : List ℕ

-- `MODE FILE`; all other words ask for nothing
abbrev pub desks_job_of : List (List ℕ) → Option DesksJob
desks_job_of (first ∷ file ∷ []) = option_map (λ m. record { mode = m; file = file }) (mode_of first)
desks_job_of other = None

-- how to call the program
abbrev pub usage_line : List ℕ
usage_line = codes "usage: nrm_desks MODE FILE\n"
