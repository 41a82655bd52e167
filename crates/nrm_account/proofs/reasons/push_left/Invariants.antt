use Rattle.std.proofs.Common.{◌≡◌, ◌++◌, flat_map}
use Rattle.std.specs.List.{range_with_len}
use Rattle.nrm_account.specs.Texts.{left_line}
use Rattle.nrm_account.proofs.reasons.push_left.Given as goal

-- the legs so far stand in the text
abbrev pub invariant-loop-leg : goal.invariant-loop-leg
invariant-loop-leg l = l.text.items ≡ l.initial.text.items ++ flat_map (left_line l.net l.book.bookings) (range_with_len 0 l.leg)
