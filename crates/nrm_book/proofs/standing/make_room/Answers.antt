use Rattle.std.proofs.Common.{◌≡◌, ap, length, arith, sym, subst}
use Rattle.nrm_book.specs.Standing.{IsRow, standing}
use Rattle.nrm_book.proofs.Rows.{IsRow-taken, taken-alone}
use Rattle.nrm_book.proofs.standing.make_room.Goals as goal

pub returns-clause-stand : goal.returns-clause-stand
returns-clause-stand c = rw c.pack.ensures.items (taken-alone c.args.slots.now.items).0

pub returns-clause-row : goal.returns-clause-row
returns-clause-row c = λ next is. rw c.pack.ensures.items (IsRow-taken c.args.slots.now.items next is)

pub returns-clause-space : goal.returns-clause-space
returns-clause-space c = omega (arith, ap length c.pack.ensures.items, (taken-alone c.args.slots.now.items).1, c.pack.ensures.room, c.requires)
