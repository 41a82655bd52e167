use Rattle.std.proofs.Common.{List, ℕ, ◌∙◌, subst, sym}
use Rattle.nrm_plan.specs.Plans.{AreSeatsLeft}
use Rattle.nrm_control.proofs.Inventories.{are-seats-left}
use Rattle.nrm_control.proofs.controller.plan_again.Goals as goal

pub make-requires-clause-left : goal.make-requires-clause-left
make-requires-clause-left c =
    subst (λ (left : List ℕ). AreSeatsLeft c.args.net.now left) (sym (c.as_slice.ensures ∙ c.seats_left-left.ensures)) (are-seats-left c.args.net.now c.args.book.now.bookings)
