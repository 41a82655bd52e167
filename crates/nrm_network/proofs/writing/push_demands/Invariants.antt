use Rattle.std.proofs.Common.{◌≡◌, ◌++◌, flat_map}
use Rattle.std.specs.List.{range_with_len}
use Rattle.nrm_network.specs.Inner.RowText.{history_text}
use Rattle.nrm_network.proofs.writing.push_demands.Given as goal

abbrev pub invariant-loop-j : goal.invariant-loop-j
invariant-loop-j l = l.text.items
    ≡ l.fn.text.items ++ flat_map (λ j. flat_map (history_text l.net j) (range_with_len 0 l.net.histories)) (range_with_len 0 l.j)
