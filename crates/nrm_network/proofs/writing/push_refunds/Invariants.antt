use Rattle.std.proofs.Common.{◌≡◌, ◌++◌, take, flat_map}
use Rattle.nrm_network.specs.Canonical.{refund_fields}
use Rattle.nrm_network.specs.Inner.RowText.{row_text}
use Rattle.nrm_network.proofs.writing.push_refunds.Given as goal

abbrev pub invariant-loop-j : goal.invariant-loop-j
invariant-loop-j l = l.text.items ≡ l.fn.text.items ++ flat_map (λ product. flat_map row_text (refund_fields product)) (take l.j l.net.products)
