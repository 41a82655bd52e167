-- The bit of the row is set, and the others stay.
use Rattle.std.proofs.Common.{◌≡◌, sym, subst}
use Rattle.nrm_tableau.specs.RowSets.{row_bit}
use Rattle.nrm_tableau.proofs.RowBits.{put_there, put_kept}
use Rattle.nrm_tableau.proofs.row_set.RowSet.insert.Goals as goal

pub returns-clause-put : goal.returns-clause-put
returns-clause-put c = put_there c.self.inside.words c.args.row c.from.result c.from.ensures c.requires c.self.invariant

pub returns-clause-stays : goal.returns-clause-stays
returns-clause-stays c = λ r there. put_kept c.self.inside.words c.args.row c.from.result c.from.ensures c.requires c.self.invariant r (subst (λ ws. row_bit ws r ≡ 1) (sym c.self.view_is) there)
