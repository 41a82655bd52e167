-- At one more column its multiple is taken away, and nothing overflows.
use Rattle.std.proofs.Common.{rules, arith, ◌≡◌, ◌≤◌, ◌<◌, ◌*◌, ◌*ℤ◌, ◌-ℤ◌, ap, ap₂, sym, subst, ◌∙◌, get_or, length, pos, ℤ, unsigned_abs, to_z, of_z, to_z-of_z, w64}
use Rattle.std.proofs.lemmas.Int.{fits_signed_mul}
use mir.Val.{SFits}
use Rattle.nrm_row.proofs.InPlace.{product_at_most, next_old, taken_more, difference_fits, difference_is}
use Rattle.nrm_row.proofs.in_place.subtract.Goals as goal

pub overflow_mul-taken : goal.overflow_mul-taken
overflow_mul-taken c =
    let u : ℤ = (get_or c.args.us.now c.loop-col.col-index (0, pos 0)).1 in
    let fu : SFits w64 u = search rules in
    fits_signed_mul w64 (to_z w64 (of_z w64 c.args.a)) (to_z w64 (of_z w64 u)) (unsigned_abs c.args.a) c.args.size
    (omega (arith, ap unsigned_abs (to_z-of_z c.ranges.a)))
    (subst (λ y. unsigned_abs y ≤ c.args.size) (sym (to_z-of_z fu)) (c.requires.sizes c.loop-col.col-index (0, pos 0) (omega (arith, c.loop-col-test.true))))
    (omega (arith, c.requires.room))

pub overflow_sub-xs : goal.overflow_sub-xs
overflow_sub-xs c =
    let i = c.loop-col.col-index in
    let A : ℤ = to_z w64 (of_z w64 c.args.a) in
    let u : ℤ = (get_or c.args.us.now i (0, pos 0)).1 in
    let fu : SFits w64 u = search rules in
    let lt : i < length c.args.us.now = omega (arith, c.loop-col-test.true) in
    let taken : unsigned_abs (A *ℤ to_z w64 (of_z w64 u)) ≤ unsigned_abs c.args.a * c.args.size = product_at_most A (to_z w64 (of_z w64 u)) (unsigned_abs c.args.a) c.args.size (omega (arith, ap unsigned_abs (to_z-of_z c.ranges.a))) (subst (λ y. unsigned_abs y ≤ c.args.size) (sym (to_z-of_z fu)) (c.requires.sizes i (0, pos 0) lt)) in
    let here : get_or c.loop-col.xs c.from-place.result (pos 0) ≡ get_or c.args.xs.now (get_or c.args.us.now i (0, pos 0)).0 (pos 0) = ap (λ k. get_or c.loop-col.xs k (pos 0)) c.from-place.ensures ∙ next_old c.args.xs.now c.loop-col.xs A c.args.us.now i c.requires.rising c.requires.within lt c.loop-col.invariant in
    difference_fits (get_or c.loop-col.xs c.from-place.result (pos 0)) (A *ℤ to_z w64 (of_z w64 u)) c.args.most (unsigned_abs c.args.a * c.args.size)
    (subst (λ y. unsigned_abs y ≤ c.args.most) (sym here) (c.requires.bounded (get_or c.args.us.now i (0, pos 0)).0 (pos 0) (c.requires.within i (0, pos 0) lt))) taken c.requires.room

pub loop-col-preserved : goal.loop-col-preserved
loop-col-preserved c =
    let i = c.loop-col.col-index in
    let A : ℤ = to_z w64 (of_z w64 c.args.a) in
    let u : ℤ = (get_or c.args.us.now i (0, pos 0)).1 in
    let fu : SFits w64 u = search rules in
    let lt : i < length c.args.us.now = omega (arith, c.loop-col-test.true) in
    let col : c.from-place.result ≡ (get_or c.args.us.now i (0, pos 0)).0 = c.from-place.ensures in
    let taken : unsigned_abs (A *ℤ to_z w64 (of_z w64 u)) ≤ unsigned_abs c.args.a * c.args.size = product_at_most A (to_z w64 (of_z w64 u)) (unsigned_abs c.args.a) c.args.size (omega (arith, ap unsigned_abs (to_z-of_z c.ranges.a))) (subst (λ y. unsigned_abs y ≤ c.args.size) (sym (to_z-of_z fu)) (c.requires.sizes i (0, pos 0) lt)) in
    let here : get_or c.loop-col.xs c.from-place.result (pos 0) ≡ get_or c.args.xs.now (get_or c.args.us.now i (0, pos 0)).0 (pos 0) = ap (λ k. get_or c.loop-col.xs k (pos 0)) c.from-place.ensures ∙ next_old c.args.xs.now c.loop-col.xs A c.args.us.now i c.requires.rising c.requires.within lt c.loop-col.invariant in
    let old : unsigned_abs (get_or c.loop-col.xs c.from-place.result (pos 0)) ≤ c.args.most = subst (λ y. unsigned_abs y ≤ c.args.most) (sym here) (c.requires.bounded (get_or c.args.us.now i (0, pos 0)).0 (pos 0) (c.requires.within i (0, pos 0) lt)) in
    taken_more c.args.xs.now c.loop-col.xs A _ c.args.us.now i c.from-place.result c.requires.rising c.requires.within lt col
    (difference_is (get_or c.loop-col.xs c.from-place.result (pos 0)) (A *ℤ to_z w64 (of_z w64 u)) c.args.most (unsigned_abs c.args.a * c.args.size) old taken c.requires.room
    ∙ ap₂ (λ y t. y -ℤ A *ℤ t) (here ∙ ap (λ k. get_or c.args.xs.now k (pos 0)) (sym col)) (to_z-of_z fu))
    c.loop-col.invariant
