use Rattle.std.proofs.Common.{◌≡◌, ◌++◌, flat_map, take}
use Rattle.nrm_account.specs.Inner.Priced.{priced_line}
use Rattle.nrm_account.proofs.request.push_prices.Given as goal

-- the prices so far stand in the text
abbrev pub invariant-loop-leg : goal.invariant-loop-leg
invariant-loop-leg l = l.text.items ≡ l.initial.text.items ++ flat_map (priced_line l.net l.cert) (take l.leg-index l.legs)
