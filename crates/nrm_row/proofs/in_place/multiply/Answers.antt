-- Each number is multiplied, and where e is 1 all stay.
use Rattle.std.proofs.Common.{rules, arith, ◌≡◌, ◌≤◌, ◌<◌, ◌*◌, ◌*ℤ◌, ap, sym, subst, ◌∙◌, get_or, set, map, pos, ℤ, unsigned_abs, to_z, of_z, to_z-of_z, w64}
use Rattle.std.proofs.lemmas.Int.{fits_signed_mul}
use Rattle.std.proofs.lemmas.List.{get_or_default}
use Rattle.std.proofs.lemmas.List.Edits.{map_over_more}
use mir.Val.{SFits}
use Rattle.nrm_fraction.specs.Large.{size_limit}
use Rattle.nrm_fraction.proofs.Sizes.{small_same}
use Rattle.nrm_row.proofs.InPlace.{product_at_most, still_old, times_one_each}
use Rattle.nrm_row.proofs.in_place.multiply.Goals as goal

pub overflow_mul-x : goal.overflow_mul-x
overflow_mul-x c =
    let x : ℤ = get_or c.loop-x.xs c.loop-x.x-index (pos 0) in
    let E : ℤ = to_z w64 (of_z w64 c.args.e) in
    let fx : SFits w64 x = search rules in
    let old : x ≡ get_or c.args.xs.now c.loop-x.x-index (pos 0) = still_old (λ y. y *ℤ E) c.args.xs.now c.loop-x.xs c.loop-x.x-index (omega (arith, c.loop-x-test.true)) c.loop-x.invariant in
    let small : unsigned_abs (to_z w64 (of_z w64 x)) ≤ c.args.most = subst (λ y. unsigned_abs y ≤ c.args.most) (sym (to_z-of_z fx ∙ old)) (c.requires.bounded c.loop-x.x-index (pos 0) (omega (arith, c.loop-x-test.true))) in
    fits_signed_mul w64 (to_z w64 (of_z w64 x)) E c.args.most (unsigned_abs E) small (omega arith)
    (omega (arith, subst (λ e. c.args.most * unsigned_abs e < size_limit) (sym (to_z-of_z c.ranges.e)) c.requires.room))

pub loop-x-preserved : goal.loop-x-preserved
loop-x-preserved c =
    let i = c.loop-x.x-index in
    let x : ℤ = get_or c.loop-x.xs i (pos 0) in
    let E : ℤ = to_z w64 (of_z w64 c.args.e) in
    let fx : SFits w64 x = search rules in
    let old : x ≡ get_or c.args.xs.now i (pos 0) = still_old (λ y. y *ℤ E) c.args.xs.now c.loop-x.xs i (omega (arith, c.loop-x-test.true)) c.loop-x.invariant in
    let small : unsigned_abs (to_z w64 (of_z w64 x)) ≤ c.args.most = subst (λ y. unsigned_abs y ≤ c.args.most) (sym (to_z-of_z fx ∙ old)) (c.requires.bounded i (pos 0) (omega (arith, c.loop-x-test.true))) in
    let room : c.args.most * unsigned_abs E < size_limit = subst (λ e. c.args.most * unsigned_abs e < size_limit) (sym (to_z-of_z c.ranges.e)) c.requires.room in
    let most : unsigned_abs (to_z w64 (of_z w64 x) *ℤ E) ≤ c.args.most * unsigned_abs E = product_at_most (to_z w64 (of_z w64 x)) E c.args.most (unsigned_abs E) small (omega arith) in
    let value : to_z w64 (of_z w64 (to_z w64 (of_z w64 x) *ℤ E)) ≡ x *ℤ E = small_same (to_z w64 (of_z w64 x) *ℤ E) (omega (arith, most, room)) ∙ ap (λ y. y *ℤ E) (to_z-of_z fx) in
    ap (λ z. set c.loop-x.xs i z) value
    ∙ map_over_more (λ y. y *ℤ E) c.args.xs.now c.loop-x.xs i x (omega (arith, c.loop-x-test.true)) c.loop-x.invariant (get_or_default c.loop-x.xs i (pos 0) x (omega arith))

pub returns-else-e-ne1 : goal.returns-else-e-ne1
returns-else-e-ne1 c = times_one_each c.args.xs.now ∙ ap (λ e. map (λ x. x *ℤ e) c.args.xs.now) (sym (sym (to_z-of_z c.ranges.e) ∙ ap (to_z w64) c.if-e-ne1.false))
