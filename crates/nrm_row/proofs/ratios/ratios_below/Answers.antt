-- A column decides, or the next one is asked.
use Rattle.std.proofs.Common.{rules, ◌-◌, ◌+◌, ◌∷◌, ap, sym, ◌∙◌, length, get_or, pos, to_z-of_z, w64}
use Rattle.std.specs.List.{range_with_len}
use mir.Val.{SFits}
use Rattle.nrm_row.specs.Inner.Crossed.{crossed_below}
use Rattle.nrm_row.proofs.RatioLaws.{range_more}
use Rattle.nrm_row.proofs.ratios.ratios_below.Goals as goal

pub returns-in-Some : goal.returns-in-Some
returns-in-Some c =
    let fp : SFits w64 (get_or c.args.xs.now c.args.col (pos 0)) = search rules in
    let fq : SFits w64 (get_or c.args.ys.now c.args.col (pos 0)) = search rules in
    let cs = range_with_len c.args.from (length c.args.xs.now - 1 - c.args.from) in
    sym (c.in-Some.ensures cs) ∙ (λ i. crossed_below (to_z-of_z fp i) (to_z-of_z fq i) c.args.xs.now c.args.ys.now ((length c.args.xs.now - 1) ∷ cs))

pub loop-i-init : goal.loop-i-init
loop-i-init c =
    let fp : SFits w64 (get_or c.args.xs.now c.args.col (pos 0)) = search rules in
    let fq : SFits w64 (get_or c.args.ys.now c.args.col (pos 0)) = search rules in
    let cs = range_with_len c.args.from (length c.args.xs.now - 1 - c.args.from) in
    sym (λ i. crossed_below (to_z-of_z fp i) (to_z-of_z fq i) c.args.xs.now c.args.ys.now cs)
    ∙ sym (c.in_default.ensures cs) ∙ (λ i. crossed_below (to_z-of_z fp i) (to_z-of_z fq i) c.args.xs.now c.args.ys.now ((length c.args.xs.now - 1) ∷ cs))

pub returns-in-Some-ratio_below : goal.returns-in-Some-ratio_below
returns-in-Some-ratio_below c =
    let fp : SFits w64 (get_or c.args.xs.now c.args.col (pos 0)) = search rules in
    let fq : SFits w64 (get_or c.args.ys.now c.args.col (pos 0)) = search rules in
    let cs = range_with_len (c.loop-i.i + 1) (length c.args.xs.now - 1 - (c.loop-i.i + 1)) in
    sym (c.in-Some-ratio_below.ensures cs) ∙ (λ i. crossed_below (to_z-of_z fp i) (to_z-of_z fq i) c.args.xs.now c.args.ys.now (c.loop-i.i ∷ cs))
    ∙ ap (λ ds. crossed_below (get_or c.args.xs.now c.args.col (pos 0)) (get_or c.args.ys.now c.args.col (pos 0)) c.args.xs.now c.args.ys.now ds) (sym (range_more c.loop-i.i (length c.args.xs.now - 1) c.loop-i-test.true))
    ∙ c.loop-i.invariant

pub loop-i-preserved : goal.loop-i-preserved
loop-i-preserved c =
    let fp : SFits w64 (get_or c.args.xs.now c.args.col (pos 0)) = search rules in
    let fq : SFits w64 (get_or c.args.ys.now c.args.col (pos 0)) = search rules in
    let cs = range_with_len (c.loop-i.i + 1) (length c.args.xs.now - 1 - (c.loop-i.i + 1)) in
    sym (λ i. crossed_below (to_z-of_z fp i) (to_z-of_z fq i) c.args.xs.now c.args.ys.now cs)
    ∙ sym (c.in_default-ratio_below.ensures cs) ∙ (λ i. crossed_below (to_z-of_z fp i) (to_z-of_z fq i) c.args.xs.now c.args.ys.now (c.loop-i.i ∷ cs))
    ∙ ap (λ ds. crossed_below (get_or c.args.xs.now c.args.col (pos 0)) (get_or c.args.ys.now c.args.col (pos 0)) c.args.xs.now c.args.ys.now ds) (sym (range_more c.loop-i.i (length c.args.xs.now - 1) c.loop-i-test.true))
    ∙ c.loop-i.invariant
