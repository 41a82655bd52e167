-- The numbers in lowest terms are a unit row, with its list and its bound.
use Rattle.std.proofs.Common.{◌≤◌, ℕ, ℤ, ap, sym, subst, ◌∙◌, unsigned_abs, All}
use Rattle.nrm_fraction.specs.Large.{fractions, IsSmall}
use Rattle.nrm_fraction.specs.Rows.{number_at}
use Rattle.nrm_fraction.proofs.Sizes.{small_same}
use Rattle.nrm_row.specs.Numbers.{IsRow, Lists}
use Rattle.nrm_row.proofs.InPlace.{listed_bounded, listed_smalls}
use Rattle.nrm_row.proofs.row.unit_of.Goals as goal
use Rattle.nrm_row.proofs.row.unit_of.Goals.{In_ok-entries}

lists : (c : In_ok-entries) → Lists c.in_ok-den.nums.items c.in_ok-entries.entries.items
lists c = subst (λ ns. Lists ns c.in_ok-entries.entries.items) c.deref.ensures.value c.in_ok-entries.ensures

pub greatest_listed-requires : goal.greatest_listed-requires
greatest_listed-requires c =
    subst (All (λ (e : ℕ × ℤ). IsSmall e.1)) (sym c.deref-2.ensures.value)
    (listed_smalls c.in_ok-den.nums.items c.in_ok-entries.entries.items c.in_ok-den.ensures.row.smalls (lists (goal.at.greatest_listed-requires c).In_ok-entries))

pub invariant_of-result : goal.invariant_of-result
invariant_of-result c =
    let list = lists (goal.at.invariant_of-result c).In_ok-entries in
    let bound = subst (λ es. (col : ℕ) → unsigned_abs (number_at es col) ≤ c.greatest_listed.result) c.deref-2.ensures.value c.greatest_listed.ensures.bound in
    record {
      sound = record {
        row = subst (λ d. IsRow d c.in_ok-den.nums.items) (sym (small_same c.in_ok-den.den c.in_ok-den.ensures.row.small)) c.in_ok-den.ensures.row;
        bounded = listed_bounded c.in_ok-den.nums.items c.in_ok-entries.entries.items c.greatest_listed.result list bound;
        room = c.greatest_listed.ensures.small;
      };
      lists = list;
    }

pub returns : goal.returns
returns c =
    ap (λ d. fractions (unsigned_abs d) c.in_ok-den.nums.items) (small_same c.in_ok-den.den c.in_ok-den.ensures.row.small)
    ∙ c.in_ok-den.ensures.same ∙ ap (λ d. fractions (unsigned_abs d) c.args.nums.now) (small_same c.args.den c.requires.small)
