use Rattle.std.proofs.Common.{◌≡◌, ◌++◌, map, take, decimal}
use Rattle.nrm_network.specs.Inner.RowText.{after_commas}
use Rattle.nrm_network.proofs.writing.push_numbers.Given as goal

abbrev pub invariant-loop-number : goal.invariant-loop-number
invariant-loop-number l = l.text.items ≡ l.fn.text.items ++ after_commas (map decimal (take l.number-index l.numbers))
