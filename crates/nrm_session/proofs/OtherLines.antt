-- Memory runs out at lines alone for which a linear program may be solved.
use Rattle.std.proofs.Common.{ℕ, ◌≡◌, ◌≢◌, Bool, true, false, Option, Some, None, MatchOption, refl, sym}
use Rattle.std.specs.Bool.{MatchBool}
use Rattle.nrm_model.specs.declared.mode.Mode.TheVariants as mode
use Rattle.nrm_model.specs.Network.{NetworkValue, leg_named, product_named}
use Rattle.nrm_book.specs.Bookings.{booking_numbered}
use Rattle.nrm_plan.specs.Plans.{value_of}
use Rattle.nrm_control.specs.State.{SeatState, answer_in}
use Rattle.nrm_control.specs.declared.answer.Answer.{Answer}
use Rattle.nrm_control.specs.declared.answer.Answer.TheVariants as answer
use Rattle.nrm_stream.specs.declared.command.Command.TheVariants as command
use Rattle.nrm_session.specs.Laws.{OtherLinesNeedNoMemory}
use Rattle.nrm_session.specs.Replies.{Reply, memory, plan_told, bad, reply_to, unknown}
use Rattle.nrm_session.specs.Step.{Gives, Reoptimises, lacks_period, optimises, overflows, runs_out_of_memory}
use Rattle.std.specs.Int.{IsInRange}
use Rattle.nrm_session.proofs.Periods.{had}
use Rattle.nrm_session.proofs.Determined.{some-plan}

-- no answer to a request is that memory ran out
answered : (net : NetworkValue) (a : Answer) → memory ≡ reply_to net a → ⊥
answered net (answer.Sold number) e = cc
answered net (answer.Leg i) e = cc
answered net answer.Fare e = cc

-- nor is any of two replies that aren't
neither : {X : Type 0} (o : Option X) (none : Reply) (some : X → Reply) (s' kept : SeatState) (changed : X → SeatState)
    → (memory ≡ none → ⊥) → ((x : X) → memory ≡ some x → ⊥)
    → MatchOption o ((memory ≡ none) × (s' ≡ kept)) (λ x. (memory ≡ some x) × (s' ≡ changed x)) → ⊥
neither None none some s' kept changed apart others given = apart given.0
neither (Some x) none some s' kept changed apart others given = others x given.0

-- an optimisation for which memory ran out solves a linear program, and leaves all as it was
again : (net : NetworkValue) (s : SeatState) (k : ℕ) (reply : Reply) (s' : SeatState) → reply ≡ memory → Reoptimises net s k reply s'
    → (s.plan.mode ≢ mode.FirstCome) × (s' ≡ s)
again net s k reply s' is (optimises plan for) = absurd (some-plan (value_of net plan) (sym is))
again net s k reply s' is (overflows n number large) = cc
again net s k reply s' is (runs_out_of_memory solves) = (solves, refl)

period : (net : NetworkValue) (s s' : SeatState) (k : ℕ) (beyond : Bool) → lacks_period net k ≡ beyond
    → MatchBool beyond (Gives unknown memory s s') (Reoptimises net s k memory s')
    → ((s.plan.mode ≢ mode.FirstCome) × IsInRange 1 net.periods k) × (s' ≡ s)
period net s s' k true is given = let no : memory ≡ unknown = given.0 in cc
period net s s' k false is given = let (solves, same) = again net s k memory s' refl given in ((solves, had net k is), same)

pub other-lines : OtherLinesNeedNoMemory
other-lines net s s' (command.Book name party) step =
    absurd (neither (product_named net name) unknown _ s' s _ (λ e. cc) (λ j. answered net (answer_in net s j party)) step)
other-lines net s s' (command.Cancel number) step =
    absurd (neither (booking_numbered s.bookings number) unknown _ s' s _ (λ e. cc) (λ b e. cc) step)
other-lines net s s' (command.Reoptimise k) step = period net s s' k (lacks_period net k) refl step
other-lines net s s' (command.Leg name) step = absurd (neither (leg_named net name) unknown _ s' s _ (λ e. cc) (λ i e. cc) step)
other-lines net s s' command.Hindsight step = (tt, step.1)
other-lines net s s' command.Plan step = let no : memory ≡ plan_told _ = step.0 in cc
other-lines net s s' command.Bad step = let no : memory ≡ bad = step.0 in cc
