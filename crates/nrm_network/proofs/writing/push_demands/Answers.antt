-- The rows of one more product.
use Rattle.std.proofs.Common.{ℕ, ◌∙◌, ◌++◌, List, flat_map, ap}
use Rattle.std.specs.List.{range_with_len}
use Rattle.nrm_network.specs.Inner.RowText.{history_text}
use Rattle.nrm_network.proofs.RowTexts.{range_more}
use Rattle.nrm_network.proofs.writing.push_demands.Goals as goal

pub loop-j-preserved : goal.loop-j-preserved
loop-j-preserved c =
    let net = c.args.net.now in
    c.in_ok-push_histories.ensures ∙ ap
    (λ (xs : List ℕ). xs ++ flat_map (history_text net c.loop-j.j) (range_with_len 0 net.histories)) c.loop-j.invariant
    ∙ range_more (λ (j : ℕ). flat_map (history_text net j) (range_with_len 0 net.histories)) c.args.text.now.items c.loop-j.j
