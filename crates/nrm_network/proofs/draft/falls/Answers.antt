-- The test of the numbers from a place on.
use Rattle.std.proofs.Common.{ℕ, ◌≡◌, ◌∙◌, ◌-◌, ◌≤◌, List, [], ◌∷◌, length, drop, true, sym, refl, arith}
use Rattle.std.proofs.lemmas.List.{length-drop}
use Rattle.nrm_model.specs.Limits.{falls}
use Rattle.nrm_network.proofs.draft.falls.Goals as goal

falls-short : (cuts : List ℕ) → length cuts ≤ 1 → falls cuts ≡ true
falls-short [] short = refl
falls-short (cut ∷ []) short = refl
falls-short (cut ∷ other ∷ more) short = absurd (omega arith)

pub returns : goal.returns
returns c =
    let left : length (drop (c.loop-i.i - 1) c.args.cuts.now) ≤ 1 = omega (arith, length-drop (c.loop-i.i - 1) c.args.cuts.now) in
    sym (c.loop-i.invariant.1 ∙ falls-short (drop (c.loop-i.i - 1) c.args.cuts.now) left)
