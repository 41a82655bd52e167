-- What the words of the command line ask for, and the lines that only this program writes.
use Rattle.std.specs.Prelude.{ℕ, List, [], ◌∷◌, codes, decimal, Option, None, option_map}
use Rattle.nrm_text.specs.Words.{text_line}
use Rattle.nrm_model.specs.declared.mode.Mode.{Mode}
use Rattle.nrm_common_cli.specs.Words.{mode_of}

-- a mode, and a network file; the third word names the store, which stands outside already
pub record KeptJob : Type 0 where
  pub mode : Mode
  pub file : List ℕ

-- `MODE FILE STORE`; all other words ask for nothing
abbrev pub kept_job_of : List (List ℕ) → Option KeptJob
kept_job_of [] = None
kept_job_of (first ∷ []) = None
kept_job_of (first ∷ file ∷ []) = None
kept_job_of (first ∷ file ∷ store ∷ []) = option_map (λ m. record { mode = m; file = file }) (mode_of first)
kept_job_of (first ∷ file ∷ store ∷ further ∷ more) = None

-- how to call the program, that the store failed, and that the row of a number doesn't load
abbrev pub usage_line : List ℕ
usage_line = codes "usage: nrm_kept MODE FILE STORE\n"

abbrev pub store_fault_line : List ℕ
store_fault_line = codes "store fault\n"

abbrev pub store_refused_line : ℕ → List ℕ
store_refused_line number = text_line (codes "refused" ∷ codes "store" ∷ codes "number" ∷ decimal number ∷ [])
