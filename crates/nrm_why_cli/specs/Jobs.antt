-- What the words of the command line ask for, and the lines that only this program writes.
use Rattle.std.specs.Prelude.{ℕ, List, [], ◌∷◌, ◌++◌, codes, decimal, Option, Some, None}
use Rattle.nrm_text.specs.Numbers.{whole_between}
use Rattle.nrm_model.specs.declared.mode.Mode.{Mode}
use Rattle.nrm_common_cli.specs.Words.{mode_of}
use Rattle.nrm_why_cli.specs.declared.top.TheConstants.{LAST_LINE}

-- a mode, a network file, and the number of a line, counted from 1
pub record WhyJob : Type 0 where
  pub mode : Mode
  pub file : List ℕ
  pub number : ℕ

abbrev pub job_by : Option Mode → List ℕ → Option ℕ → Option WhyJob
job_by (Some m) file (Some number) = Some (record { mode = m; file = file; number = number })
job_by (Some m) file None = None
job_by None file number = None

-- `MODE FILE NUMBER`; all other words ask for nothing
abbrev pub why_job_of : List (List ℕ) → Option WhyJob
why_job_of [] = None
why_job_of (first ∷ []) = None
why_job_of (first ∷ file ∷ []) = None
why_job_of (first ∷ file ∷ number ∷ []) = job_by (mode_of first) file (whole_between 1 LAST_LINE number)
why_job_of (first ∷ file ∷ number ∷ further ∷ more) = None

-- how to call the program, and that the stream has no such line
abbrev pub usage_line : List ℕ
usage_line = codes "usage: nrm_why MODE FILE NUMBER\n"

abbrev pub absent_line : ℕ → List ℕ
absent_line number = codes "absent line " ++ decimal number ++ 10 ∷ []
