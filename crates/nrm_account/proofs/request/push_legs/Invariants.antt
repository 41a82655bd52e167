use Rattle.std.proofs.Common.{◌≡◌, ◌++◌, flat_map, take}
use Rattle.nrm_account.specs.Texts.{leg_text}
use Rattle.nrm_account.proofs.request.push_legs.Given as goal

-- the legs so far stand in the text
abbrev pub invariant-loop-leg : goal.invariant-loop-leg
invariant-loop-leg l = l.text.items ≡ l.initial.text.items ++ flat_map (leg_text l.net l.plan l.book.bookings l.product l.party) (take l.leg-index l.legs)
