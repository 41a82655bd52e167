use Rattle.std.proofs.Common.{ℕ, ◌∙◌, ◌*◌, ◌≤◌, All, length, map, sym, ap, subst}
use Rattle.std.proofs.lemmas.List.FromFn.{length-map-range_with_len}
use Rattle.nrm_model.specs.Demand.{total_to_come}
use Rattle.nrm_dlp.proofs.Limited.{bounds-within, caps-within}
use Rattle.nrm_dlp.proofs.programs.program_at.Goals as goal

pub program_of-requires-clause-caps : goal.program_of-requires-clause-caps
program_of-requires-clause-caps c =
    let made = c.in_ok-caps.ensures ∙ ap (λ (histories : ℕ). map (λ (seats : ℕ). histories * seats) c.args.left.now) c.n.ensures.histories in
    subst (All (λ (cap : ℕ). cap ≤ 31968)) (sym made) (caps-within c.args.net.now c.n.ensures.limits c.args.left.now c.requires.legs c.requires.seats)

pub program_of-requires-clause-products : goal.program_of-requires-clause-products
program_of-requires-clause-products c =
    ap length c.in_ok-bounds.ensures ∙ length-map-range_with_len (λ j. total_to_come c.args.net.now j c.args.period) 0 (length c.args.net.now.products)

pub program_of-requires-clause-bounds : goal.program_of-requires-clause-bounds
program_of-requires-clause-bounds c =
    subst (All (λ (bound : ℕ). bound ≤ 31968)) (sym c.in_ok-bounds.ensures) (bounds-within c.args.net.now c.n.ensures.limits c.args.period)
