use Rattle.std.proofs.Common.{◌≡◌, ◌++◌, map, take}
use Rattle.nrm_model.specs.Network.{leg_of}
use Rattle.nrm_network.specs.Inner.RowText.{after_commas}
use Rattle.nrm_network.proofs.writing.push_leg_names.Given as goal

abbrev pub invariant-loop-i : goal.invariant-loop-i
invariant-loop-i l = l.text.items ≡ l.fn.text.items ++ after_commas (map (λ i. (leg_of l.net i).name) (take l.i-index l.legs))
