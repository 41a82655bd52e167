use Rattle.std.proofs.Common.{ℕ, ◌≡◌, ◌∙◌, ◌==◌, ◌<◌, eqb, List, length, take, drop, map, sym, ap, arith, w8, length-drop}
use Rattle.std.proofs.lemmas.List.{length-take}
use Rattle.std.proofs.lemmas.Simd.{bitmask_splat, leading_from_mask_l, trailing_mask_l}
use lib.Lanes.{mask_l}
use lib.Count.{count_trailing_zeros}
use Rattle.nrm_stream.proofs.cut.lanes_before.Goals as goal

pub returns-then-marks-eq0 : goal.returns-then-marks-eq0
returns-then-marks-eq0 c =
    let lanes : List ℕ = take 16 (drop c.args.at c.args.bytes.now) in
    let long : length lanes ≡ 16 = omega (arith, length-take 16 (drop c.args.at c.args.bytes.now), length-drop c.args.at c.args.bytes.now)
    in
    let same = bitmask_splat w8 eqb lanes 16 c.args.wanted long (omega arith) in
    sym (leading_from_mask_l (λ x. x == c.args.wanted) lanes (sym same ∙ c.if-marks-eq0.true) ∙ long)

pub returns-else-marks-eq0 : goal.returns-else-marks-eq0
returns-else-marks-eq0 c =
    let lanes : List ℕ = take 16 (drop c.args.at c.args.bytes.now) in
    let long : length lanes ≡ 16 = omega (arith, length-take 16 (drop c.args.at c.args.bytes.now), length-drop c.args.at c.args.bytes.now)
    in
    let same = bitmask_splat w8 eqb lanes 16 c.args.wanted long (omega arith) in
    let some : 0 < mask_l (map (λ x. x == c.args.wanted) lanes) = omega (arith, same, c.if-marks-eq0.false) in
    ap (count_trailing_zeros 64) same ∙ trailing_mask_l (λ x. x == c.args.wanted) 64 lanes (omega arith) some
