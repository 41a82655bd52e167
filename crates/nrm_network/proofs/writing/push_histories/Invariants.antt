use Rattle.std.proofs.Common.{◌≡◌, ◌++◌, flat_map}
use Rattle.std.specs.List.{range_with_len}
use Rattle.nrm_network.specs.Inner.RowText.{history_text}
use Rattle.nrm_network.proofs.writing.push_histories.Given as goal

abbrev pub invariant-loop-h : goal.invariant-loop-h
invariant-loop-h l = l.text.items ≡ l.fn.text.items ++ flat_map (history_text l.net l.j) (range_with_len 0 l.h)
