-- In its place below the bound, or made anew, the row becomes the one minus the multiple of the unit row.
use Rattle.std.proofs.Common.{rules, arith, ◌≡◌, ◌+◌, ◌*◌, ap, ap₂, sym, subst, ◌∙◌, pos, ◌*ℤ◌, ◌-ℤ◌, unsigned_abs, ◌++◌, take, drop, length, get_or, to_z, of_z, w64, None}
use Rattle.std.proofs.lemmas.Result.{err_from_is_err_and}
use mir.Val.{SFits}
use Rattle.nrm_fraction.specs.Large.{fractions, large_number, size_limit, IsSmall}
use Rattle.nrm_fraction.specs.Rows.{number_at, combine as combined}
use Rattle.nrm_fraction.specs.Fault.{IsFault}
use Rattle.nrm_fraction.proofs.Sizes.{small_same}
use Rattle.nrm_row.specs.Numbers.{IsBoundedRow}
use Rattle.nrm_row.specs.Inner.Crossed.{crossed}
use Rattle.nrm_row.proofs.Bits.{zero_from_bits}
use Rattle.nrm_row.proofs.LowestTerms.{small_not_large}
use Rattle.nrm_row.proofs.Combining.{combined_is, crossed_read, same_lengths, uncombined_is, written_over}
use Rattle.nrm_row.proofs.InPlace.{listed_within, listed_sizes, made_crossed, crossed_bounded}
use Rattle.nrm_row.proofs.row.Row.combine.Goals as goal
use Rattle.nrm_row.proofs.row.Row.combine.Goals.{After-reduced-a, After-cross_in_place, After-crossed_row}

pub returns-then-entry-eq0-clause-row : goal.returns-then-entry-eq0-clause-row
returns-then-entry-eq0-clause-row c =
    let fits : SFits w64 c.number-entry.result = search rules in
    let nought = ap (λ ns. get_or ns c.args.col (pos 0)) (sym c.deref.ensures.value) ∙ sym c.number-entry.ensures.value ∙ zero_from_bits c.number-entry.result fits c.if-entry-eq0.true in
    let same : c.args.self.now ≡ combined c.args.col c.args.unit.now c.args.self.now = uncombined_is c.self.inside.den c.unit.inside.den c.unit.inside.nums.items c.self.inside.nums.items c.args.unit.now c.args.self.now c.args.col c.self.invariant.row c.unit.invariant.sound.row c.self.view_is c.unit.view_is c.requires.widths c.requires.within nought in (
      same,
      ap (large_number size_limit) (sym same ∙ sym c.self.view_is) ∙ small_not_large c.self.inside.den c.self.inside.nums.items c.self.invariant.row,
    )

lengths : (c : After-reduced-a) → length c.unit.inside.nums.items ≡ length c.self.inside.nums.items
lengths c = same_lengths c.self.inside.den c.unit.inside.den c.unit.inside.nums.items c.self.inside.nums.items c.args.unit.now c.args.self.now c.self.view_is c.unit.view_is c.requires.widths

exact : (c : After-reduced-a) → combined c.args.col c.args.unit.now c.args.self.now ≡ fractions (unsigned_abs (c.self.inside.den *ℤ c.reduced-a.result.1)) (crossed c.reduced-a.result.0 c.reduced-a.result.1 c.unit.inside.nums.items c.self.inside.nums.items)
exact c =
    let entry : to_z w64 (of_z w64 c.number-entry.result) ≡ get_or c.self.inside.nums.items c.args.col (pos 0) = small_same c.number-entry.result c.number-entry.ensures.small ∙ c.number-entry.ensures.value ∙ ap (λ ns. get_or ns c.args.col (pos 0)) c.deref.ensures.value in
    let same = ap (λ z. c.reduced-a.result.0 *ℤ z) (sym (small_same c.unit.inside.den c.unit.invariant.sound.row.small)) ∙ c.reduced-a.ensures.same ∙ ap (λ z. z *ℤ c.reduced-a.result.1) entry in
    combined_is c.self.inside.den c.unit.inside.den c.reduced-a.result.0 c.reduced-a.result.1 c.unit.inside.nums.items c.self.inside.nums.items c.args.unit.now c.args.self.now c.args.col c.self.invariant.row c.unit.invariant.sound.row c.self.view_is c.unit.view_is c.requires.widths c.requires.within c.reduced-a.ensures.positive same

pub cross_in_place-requires-clause-rising : goal.cross_in_place-requires-clause-rising
cross_in_place-requires-clause-rising c = rw c.deref-in-Some.ensures.value c.unit.invariant.lists.rising

pub cross_in_place-requires-clause-bounded : goal.cross_in_place-requires-clause-bounded
cross_in_place-requires-clause-bounded c = rw c.deref_mut.ensures.value c.self.invariant.bounded

pub cross_in_place-requires-clause-sizes : goal.cross_in_place-requires-clause-sizes
cross_in_place-requires-clause-sizes c = rw c.deref-in-Some.ensures.value (listed_sizes c.unit.inside.nums.items c.unit.inside.entries.items c.unit.inside.most c.unit.invariant.sound.bounded c.unit.invariant.lists)

pub cross_in_place-requires-clause-within : goal.cross_in_place-requires-clause-within
cross_in_place-requires-clause-within c =
    let l = lengths (goal.at.cross_in_place-requires-clause-within c).After-reduced-a in
    rw (c.deref-in-Some.ensures.value, c.deref_mut.ensures.value) (listed_within c.unit.inside.nums.items c.unit.inside.entries.items (length c.self.inside.nums.items) l c.unit.invariant.lists)

made : (c : After-cross_in_place) → length c.unit.inside.nums.items ≡ length c.self.inside.nums.items → c.cross_in_place.new.xs ≡ crossed c.reduced-a.result.0 c.reduced-a.result.1 c.unit.inside.nums.items c.self.inside.nums.items
made c l =
    made_crossed c.reduced-a.result.0 c.reduced-a.result.1 c.unit.inside.nums.items c.self.inside.nums.items c.cross_in_place.new.xs c.unit.inside.entries.items l c.unit.invariant.lists
    (c.cross_in_place.ensures.length ∙ ap length c.deref_mut.ensures.value)
    (λ k h. c.cross_in_place.ensures.numbers k (omega (arith, ap length c.deref_mut.ensures.value, h))
    ∙ (λ i. get_or (c.deref_mut.ensures.value i) k (pos 0) *ℤ small_same c.reduced-a.result.1 c.reduced-a.ensures.small i -ℤ small_same c.reduced-a.result.0 c.reduced-a.ensures.number_small i *ℤ number_at (c.deref-in-Some.ensures.value i) k))

den : (c : After-cross_in_place) → to_z w64 (of_z w64 c.in-Some.den) ≡ c.self.inside.den *ℤ c.reduced-a.result.1
den c = small_same c.in-Some.den c.in-Some.ensures.den.1 ∙ c.in-Some.ensures.den.0 ∙ ap₂ (λ x y. x *ℤ y) (small_same c.self.inside.den c.self.invariant.row.small) (small_same c.reduced-a.result.1 c.reduced-a.ensures.small)

kept : (c : After-cross_in_place) → length c.unit.inside.nums.items ≡ length c.self.inside.nums.items → IsBoundedRow (to_z w64 (of_z w64 c.in-Some.den)) c.in-Some.most c.cross_in_place.new.xs
kept c l =
    let most : c.in-Some.most ≡ c.self.inside.most * unsigned_abs c.reduced-a.result.1 + unsigned_abs c.reduced-a.result.0 * c.unit.inside.most = c.in-Some.ensures.most.0 ∙ ap₂ (λ x y. c.self.inside.most * unsigned_abs x + unsigned_abs y * c.unit.inside.most) (small_same c.reduced-a.result.1 c.reduced-a.ensures.small) (small_same c.reduced-a.result.0 c.reduced-a.ensures.number_small) in
    crossed_bounded c.self.inside.den c.reduced-a.result.0 c.reduced-a.result.1 (to_z w64 (of_z w64 c.in-Some.den)) c.unit.inside.nums.items c.self.inside.nums.items c.cross_in_place.new.xs c.self.inside.most c.unit.inside.most c.in-Some.most c.self.invariant c.unit.invariant.sound.bounded c.reduced-a.ensures.positive l (made c l) (den c)
    (subst IsSmall (sym (small_same c.in-Some.den c.in-Some.ensures.den.1)) c.in-Some.ensures.den.1) most c.in-Some.ensures.most.1

written : (c : After-cross_in_place) → take c.self.inside.nums.len (c.cross_in_place.new.xs ++ drop (length c.cross_in_place.new.xs) c.self.inside.nums.items) ≡ c.cross_in_place.new.xs
written c = written_over c.cross_in_place.new.xs c.self.inside.nums.items c.self.inside.nums.len (c.cross_in_place.ensures.length ∙ ap length c.deref_mut.ensures.value) (sym c.deref_mut.ensures.len ∙ ap length c.deref_mut.ensures.value)

pub invariant_of-self : goal.invariant_of-self
invariant_of-self c =
    let l = lengths (goal.at.invariant_of-self c).After-reduced-a in
    let p = (goal.at.invariant_of-self c).After-cross_in_place in
    subst (IsBoundedRow (to_z w64 (of_z w64 c.in-Some.den)) c.in-Some.most) (sym (written p)) (kept p l)

pub returns-in-Some-clause-row : goal.returns-in-Some-clause-row
returns-in-Some-clause-row c =
    let q = (goal.at.returns-in-Some-clause-row c).After-reduced-a in
    let p = (goal.at.returns-in-Some-clause-row c).After-cross_in_place in (
      ap₂ (λ e xs. fractions (unsigned_abs e) xs) (den p) (written p ∙ made p (lengths q)) ∙ sym (exact q),
      ap (large_number size_limit) (exact q ∙ sym (ap₂ (λ e xs. fractions (unsigned_abs e) xs) (den p) (made p (lengths q)))) ∙ small_not_large (to_z w64 (of_z w64 c.in-Some.den)) c.cross_in_place.new.xs (kept p (lengths q)).row,
    )

told : (c : After-crossed_row) → fractions (unsigned_abs (to_z w64 (of_z w64 c.self.inside.den) *ℤ to_z w64 (of_z w64 c.reduced-a.result.1))) (crossed (to_z w64 (of_z w64 c.reduced-a.result.0)) (to_z w64 (of_z w64 c.reduced-a.result.1)) c.deref-in-None-2.result.now c.deref-in-None.result.now) ≡ fractions (unsigned_abs (c.self.inside.den *ℤ c.reduced-a.result.1)) (crossed c.reduced-a.result.0 c.reduced-a.result.1 c.unit.inside.nums.items c.self.inside.nums.items)
told c = crossed_read c.self.inside.den c.reduced-a.result.0 c.reduced-a.result.1 c.unit.inside.nums.items c.self.inside.nums.items c.deref-in-None-2.result.now c.deref-in-None.result.now c.self.invariant.row.small c.reduced-a.ensures.number_small c.reduced-a.ensures.small c.deref-in-None-2.ensures.value c.deref-in-None.ensures.value

pub returns-in_ok-den-in-None-clause-row : goal.returns-in_ok-den-in-None-clause-row
returns-in_ok-den-in-None-clause-row c =
    let p = goal.at.returns-in_ok-den-in-None-clause-row c in
    let same = told p.After-crossed_row ∙ sym (exact p.After-reduced-a) in
    let found = subst (λ target. (fractions (unsigned_abs c.in_ok-den-in-None.den) c.in_ok-den-in-None.nums.items ≡ target) × (large_number size_limit target ≡ None)) same c.in_ok-den-in-None.ensures.exact in
    (c.drop.view_is ∙ c.row_over.ensures ∙ ap (λ d. fractions (unsigned_abs d) c.in_ok-den-in-None.nums.items) (small_same c.in_ok-den-in-None.den c.in_ok-den-in-None.ensures.row.small) ∙ found.0, found.1)

pub returns-in_err-den-in-None-clause-row : goal.returns-in_err-den-in-None-clause-row
returns-in_err-den-in-None-clause-row c =
    let p = goal.at.returns-in_err-den-in-None-clause-row c in
    let q = err_from_is_err_and c.from_residual.result c.from_residual.ensures.1 in
    rw (q.1, q.2)
    (subst (λ target. IsFault c.in_err-den-in-None.field-0.0 (large_number size_limit target)) (told p.After-crossed_row ∙ sym (exact p.After-reduced-a)) c.in_err-den-in-None.ensures.exact)
