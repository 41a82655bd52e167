use Rattle.std.proofs.Common.{drop}
use Rattle.nrm_kept_cli.proofs.Loads.{IsLoading}
use Rattle.nrm_kept_cli.proofs.loading.load_rows.Given as goal

-- the rows so far are loaded
abbrev pub invariant-loop-row : goal.invariant-loop-row
invariant-loop-row l = IsLoading l.initial.controller l.controller (drop l.row-index l.rows) l.rows
