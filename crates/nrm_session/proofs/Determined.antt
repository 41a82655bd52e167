-- The commands of a session determine its replies and its states, where memory suffices; with the replies they always do.
use Rattle.std.proofs.Common.{ℕ, ◌≡◌, ◌≢◌, ◌⊎◌, ◌∙◌, Bool, true, false, [], ◌∷◌, Option, Some, None, MatchOption, inl, inr, refl, sym, ap}
use Rattle.std.proofs.Common.{subst}
use Rattle.std.specs.Bool.{MatchBool}
use Rattle.std.proofs.lemmas.List.Elements.{All-head, All-tail}
use Rattle.nrm_fraction.specs.Fraction.{Fraction}
use Rattle.nrm_model.specs.Inventory.{inventory_of}
use Rattle.nrm_model.specs.Network.{NetworkValue, leg_named, product_named}
use Rattle.nrm_dlp.specs.Laws.{HasOneHindsight}
use Rattle.nrm_dlp.proofs.Hindsights.{one-hindsight}
use Rattle.nrm_book.specs.Bookings.{booking_numbered, revenue_of}
use Rattle.nrm_hindsight.specs.Requests.{tallies_of}
use Rattle.nrm_plan.specs.Laws.{HasOnePlan}
use Rattle.nrm_plan.specs.Plans.{PlanValue, value_of}
use Rattle.nrm_plan.proofs.Plans.{one-plan}
use Rattle.nrm_control.specs.State.{SeatState, seats_left, with_plan}
use Rattle.nrm_stream.specs.declared.command.Command.{Command}
use Rattle.nrm_stream.specs.declared.command.Command.TheVariants as command
use Rattle.nrm_session.specs.Replies.{Reply, hindsight_told, memory, optimised_at, overflow, unknown}
use Rattle.nrm_session.specs.Step.{Gives, LooksBack, Reoptimises, Step, is_large, lacks_memory, optimises, overflows, tells, runs_out_of_memory}
use Rattle.nrm_session.specs.Step.{lacks_period}
use Rattle.nrm_session.specs.Run.{Run}
use Rattle.nrm_session.specs.Laws.{RepliesAreDetermined, StatesAreDetermined}

-- two replies and two states that are each these
same-pair : (reply other expected : Reply) (s' s'' wanted : SeatState) → (reply ≡ expected) × (s' ≡ wanted) → (other ≡ expected)
    × (s'' ≡ wanted) → (other ≡ reply) × (s'' ≡ s')
same-pair reply other expected s' s'' wanted first second = (second.0 ∙ sym first.0, second.1 ∙ sym first.1)

-- the same by the cases of an option
same-option : {X : Type 0} (o : Option X) (reply other none : Reply) (some : X → Reply) (s' s'' kept : SeatState) (changed : X → SeatState)
    → MatchOption o ((reply ≡ none) × (s' ≡ kept)) (λ x. (reply ≡ some x) × (s' ≡ changed x))
    → MatchOption o ((other ≡ none) × (s'' ≡ kept)) (λ x. (other ≡ some x) × (s'' ≡ changed x))
    → (other ≡ reply) × (s'' ≡ s')
same-option None reply other none some s' s'' kept changed first second = same-pair reply other none s' s'' kept first second
same-option (Some x) reply other none some s' s'' kept changed first second = same-pair reply other (some x) s' s'' (changed x) first second

-- ---- what an optimisation may reply
pub some-plan : (o : Option Fraction) → memory ≡ optimised_at o → ⊥
some-plan None e = cc
some-plan (Some value) e = cc

-- two replies are one reply, or neither runs out of memory
abbrev Agree : Reply → Reply → Type 0
Agree reply other = (other ≡ reply) ⊎ ((reply ≢ memory) × (other ≢ memory))

memory-alone : (other : Reply) → (memory ≡ other → ⊥) → Agree other memory → ⊥
memory-alone other apart (inl e) = apart e
memory-alone other apart (inr suffices) = suffices.1 refl

alone-memory : (other : Reply) → (memory ≡ other → ⊥) → Agree memory other → ⊥
alone-memory other apart (inl e) = apart (sym e)
alone-memory other apart (inr suffices) = suffices.0 refl

module _ (net : NetworkValue) (s : SeatState) (k : ℕ) where
  abbrev once : HasOnePlan net s.plan.mode (seats_left net s.bookings) k
  once = one-plan net s.plan.mode (seats_left net s.bookings) k

  again-same : (reply other : Reply) (s' s'' : SeatState) → Reoptimises net s k reply s' → Reoptimises net s k other s''
      → Agree reply other → (other ≡ reply) × (s'' ≡ s')
  again-same reply other s' s'' (optimises plan for) (optimises plan' for') agree =
      let same = once.plan plan plan' for for' in (ap (λ (p : PlanValue). optimised_at (value_of net p)) same, ap (with_plan s) same)
  again-same reply other s' s'' (optimises plan for) (overflows n number large) agree = absurd (once.apart plan n number for large)
  again-same reply other s' s'' (optimises plan for) (runs_out_of_memory solves) agree =
      absurd (memory-alone (optimised_at (value_of net plan)) (some-plan (value_of net plan)) agree)
  again-same reply other s' s'' (overflows n number large) (optimises plan for) agree = absurd (once.apart plan n number for large)
  again-same reply other s' s'' (overflows n number large) (overflows n' number' large') agree = (refl, refl)
  again-same reply other s' s'' (overflows n number large) (runs_out_of_memory solves) agree = absurd (memory-alone overflow (λ e. cc) agree)
  again-same reply other s' s'' (runs_out_of_memory solves) (optimises plan for) agree =
      absurd (alone-memory (optimised_at (value_of net plan)) (some-plan (value_of net plan)) agree)
  again-same reply other s' s'' (runs_out_of_memory solves) (overflows n number large) agree = absurd (alone-memory overflow (λ e. cc) agree)
  again-same reply other s' s'' (runs_out_of_memory solves) (runs_out_of_memory solves') agree = (refl, refl)

  period-same : (beyond : Bool) (reply other : Reply) (s' s'' : SeatState)
      → MatchBool beyond (Gives unknown reply s s') (Reoptimises net s k reply s')
      → MatchBool beyond (Gives unknown other s s'') (Reoptimises net s k other s'')
      → Agree reply other → (other ≡ reply) × (s'' ≡ s')
  period-same true reply other s' s'' first second agree = same-pair reply other unknown s' s'' s first second
  period-same false reply other s' s'' first second agree = again-same reply other s' s'' first second agree

-- ---- what a line of hindsight may reply
looks-same : (net : NetworkValue) (s : SeatState) (reply other : Reply) → LooksBack net s reply → LooksBack net s other → Agree reply other
    → other ≡ reply
looks-same net s reply other first second agree = by reply other first second agree
  where
    once : HasOneHindsight net (tallies_of net s.requests)
    once = one-hindsight net (tallies_of net s.requests)

    by : (reply other : Reply) → LooksBack net s reply → LooksBack net s other → Agree reply other → other ≡ reply
    by reply other (tells value is) (tells value' is') agree =
        ap (λ (v : Fraction). hindsight_told v (revenue_of (inventory_of net) s.bookings) s.withheld) (once.value value value' is is')
    by reply other (tells value is) (is_large n number large) agree = absurd (once.apart value n number is large)
    by reply other (tells value is) lacks_memory agree =
        absurd (memory-alone (hindsight_told value (revenue_of (inventory_of net) s.bookings) s.withheld) (λ e. cc) agree)
    by reply other (is_large n number large) (tells value is) agree = absurd (once.apart value n number is large)
    by reply other (is_large n number large) (is_large n' number' large') agree = refl
    by reply other (is_large n number large) lacks_memory agree = absurd (memory-alone overflow (λ e. cc) agree)
    by reply other lacks_memory (tells value is) agree =
        absurd (alone-memory (hindsight_told value (revenue_of (inventory_of net) s.bookings) s.withheld) (λ e. cc) agree)
    by reply other lacks_memory (is_large n number large) agree = absurd (alone-memory overflow (λ e. cc) agree)
    by reply other lacks_memory lacks_memory agree = refl

step-same : (net : NetworkValue) (s : SeatState) (c : Command) (reply other : Reply) (s' s'' : SeatState) → Step net s c reply s'
    → Step net s c other s'' → Agree reply other → (other ≡ reply) × (s'' ≡ s')
step-same net s (command.Book name party) reply other s' s'' first second agree =
    same-option (product_named net name) reply other _ _ s' s'' s _ first second
step-same net s (command.Cancel number) reply other s' s'' first second agree =
    same-option (booking_numbered s.bookings number) reply other _ _ s' s'' s _ first second
step-same net s (command.Reoptimise k) reply other s' s'' first second agree =
    period-same net s k (lacks_period net k) reply other s' s'' first second agree
step-same net s (command.Leg name) reply other s' s'' first second agree =
    same-option (leg_named net name) reply other _ _ s' s'' s _ first second
step-same net s command.Hindsight reply other s' s'' first second agree =
    (looks-same net s reply other first.0 second.0 agree, second.1 ∙ sym first.1)
step-same net s command.Plan reply other s' s'' first second agree = same-pair reply other _ s' s'' s first second
step-same net s command.Bad reply other s' s'' first second agree = same-pair reply other _ s' s'' s first second

pub determined : RepliesAreDetermined
determined net s [] [] [] s' s'' first second suffices suffices' = (refl, second ∙ sym first)
determined net s [] [] (other ∷ others) s' s'' first second suffices suffices' = absurd second
determined net s [] (reply ∷ replies) others s' s'' first second suffices suffices' = absurd first
determined net s (c ∷ commands) [] others s' s'' first second suffices suffices' = absurd first
determined net s (c ∷ commands) (reply ∷ replies) [] s' s'' first second suffices suffices' = absurd second
determined net s (c ∷ commands) (reply ∷ replies) (other ∷ others) s' s'' (mid, step, run) (mid', step', run') suffices suffices' =
    let one = All-head (λ (r : Reply). r ≢ memory) reply replies suffices in
    let one' = All-head (λ (r : Reply). r ≢ memory) other others suffices' in
    let (same_reply, same_mid) = step-same net s c reply other mid mid' step step' (inr (one, one')) in
    let run'' = subst (λ (m : SeatState). Run net m commands others s'') same_mid run' in
    let (same_replies, same_state) =
    determined net mid commands replies others s' s'' run run'' (All-tail (λ (r : Reply). r ≢ memory) reply replies suffices)
    (All-tail (λ (r : Reply). r ≢ memory) other others suffices') in
    ((λ k. same_reply k ∷ same_replies k), same_state)

pub states-determined : StatesAreDetermined
states-determined net s [] [] s' s'' first second = second ∙ sym first
states-determined net s [] (reply ∷ replies) s' s'' first second = absurd first
states-determined net s (c ∷ commands) [] s' s'' first second = absurd first
states-determined net s (c ∷ commands) (reply ∷ replies) s' s'' (mid, step, run) (mid', step', run') =
    let same_mid = (step-same net s c reply reply mid mid' step step' (inl refl)).1 in
    states-determined net mid commands replies s' s'' run (subst (λ (m : SeatState). Run net m commands replies s'') same_mid run')
