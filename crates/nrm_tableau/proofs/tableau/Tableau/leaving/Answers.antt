-- A table of the path has rows of one width, and a row leaves for each column.
use Rattle.std.proofs.Common.{◌≡◌, ◌<◌, ◌∙◌, ap, sym, subst, suc, ℕ, List, length, All}
use Rattle.std.specs.Option.{option_map}
use Rattle.nrm_fraction.specs.Fraction.{Fraction}
use Rattle.nrm_lp.specs.Tableau.{key_columns, leaving_from, right_side}
use Rattle.nrm_tableau.proofs.Paths.{kept, widths, leaves}
use Rattle.nrm_tableau.proofs.tableau.Tableau.leaving.Goals as goal

pub leaving_row-requires-clause-count : goal.leaving_row-requires-clause-count
leaving_row-requires-clause-count c = ap length c.deref.ensures.value ∙ (kept _ c.self.invariant.path).shape

pub leaving_row-requires-clause-widths : goal.leaving_row-requires-clause-widths
leaving_row-requires-clause-widths c = subst (λ (rows : List (List Fraction)). All (λ (row : List Fraction). length row ≡ suc (right_side c.self.inside.program.now)) rows) (sym c.deref.ensures.value) (widths _ c.self.invariant.path)

pub unwrap-requires : goal.unwrap-requires
unwrap-requires c = leaves _ c.self.invariant.path c.args.col (subst (λ s. c.args.col < right_side s.program) (sym c.self.view_is) c.requires.before) c.leaving_row.result (c.leaving_row.ensures ∙ ap (λ (rows : List (List Fraction)). option_map (λ (found : ℕ × List Fraction). found.0) (leaving_from (key_columns c.self.inside.program.now) c.args.col 0 rows)) c.deref.ensures.value)
