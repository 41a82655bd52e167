-- What a row keeps is below the limit, and so it is in lowest terms.
use Rattle.std.proofs.Common.{◌≡◌, subst, None}
use Rattle.nrm_fraction.specs.Large.{large_number, size_limit}
use Rattle.nrm_row.proofs.LowestTerms.{small_not_large}
use Rattle.nrm_row.proofs.row.Row.never_large.Goals as goal

pub returns : goal.returns
returns c = subst (λ xs. large_number size_limit xs ≡ None) c.self.view_is (small_not_large c.self.inside.den c.self.inside.nums.items c.self.invariant.row)
