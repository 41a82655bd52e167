-- Over no bucket there is no demand.
use Rattle.std.proofs.Common.{ℕ, ◌∙◌, replicate, ap}
use Rattle.nrm_emsr.proofs.Come.{none-come}
use Rattle.nrm_emsr.proofs.sums.first_sums.Goals as goal

pub add_bucket-above-requires-clause-demands : goal.add_bucket-above-requires-clause-demands
add_bucket-above-requires-clause-demands c =
    let nought : ℕ = 0 in
    none-come c.args.net.now c.args.period c.args.nest.now c.in_ok-demands.demands.items c.args.net.now.histories
    (c.in_ok-demands.ensures.items_if_clones_equal (λ y same. same) ∙ ap (λ (n : ℕ). replicate n nought) c.n.ensures.histories)
