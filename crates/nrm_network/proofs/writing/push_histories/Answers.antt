-- The row of one more history.
use Rattle.std.proofs.Common.{ℕ, ◌∙◌, ◌++◌, List, ap}
use Rattle.nrm_network.specs.Inner.RowText.{history_text}
use Rattle.nrm_network.proofs.RowTexts.{range_more}
use Rattle.nrm_network.proofs.writing.push_histories.Goals as goal

pub loop-h-preserved : goal.loop-h-preserved
loop-h-preserved c =
    c.in_ok-push_history.ensures ∙ ap (λ (xs : List ℕ). xs ++ history_text c.args.net.now c.args.j c.loop-h.h) c.loop-h.invariant
    ∙ range_more (history_text c.args.net.now c.args.j) c.args.text.now.items c.loop-h.h
