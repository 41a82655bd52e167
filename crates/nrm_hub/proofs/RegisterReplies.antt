-- Replies that rows have: of one line, and the same however things stand later.
use Rattle.std.proofs.Common.{ℕ, ◌≡◌, ◌≢◌, ◌∙◌, Bool, true, false, List, [], ◌∷◌, ◌++◌, map, Option, Some, None, MatchOption, refl, sym, ap, append-nil}
use Rattle.std.specs.Bool.{MatchBool}
use Rattle.std.proofs.lemmas.Bool.{false≢true}
use Rattle.std.proofs.lemmas.List.{map_push}
use Rattle.nrm_fraction.specs.Fraction.{Fraction}
use Rattle.nrm_model.specs.Network.{NetworkValue, leg_of, product_named}
use Rattle.nrm_book.specs.Bookings.{booking_numbered}
use Rattle.nrm_plan.specs.Plans.{value_of}
use Rattle.nrm_control.specs.State.{SeatState, answer_in}
use Rattle.nrm_control.specs.Standing.{ControlValue}
use Rattle.nrm_control.specs.declared.answer.Answer.{Answer}
use Rattle.nrm_control.specs.declared.answer.Answer.TheVariants as answer
use Rattle.nrm_stream.specs.declared.command.Command.{Command}
use Rattle.nrm_stream.specs.declared.command.Command.TheVariants as command
use Rattle.nrm_session.specs.Answering.{reply_in}
use Rattle.nrm_session.specs.Replies.{Reply, bad, cancelled, hindsight_told, leg_told, memory, no_fare, no_leg, optimised, optimised_at, optimised_none}
use Rattle.nrm_session.specs.Replies.{overflow, plan_told, reply_to, sold, unknown}
use Rattle.nrm_session.specs.Step.{Gives, Reoptimises, Step, lacks_period, optimises, overflows, runs_out_of_memory}
use Rattle.nrm_session.specs.declared.reply.Reply.{Reply as Answered}
use Rattle.nrm_session.specs.declared.reply.Reply.TheVariants as answered
use Rattle.nrm_hub.specs.Asked.{is_change}
use Rattle.nrm_hub.specs.Desks.{seller_by}
use Rattle.nrm_hub.specs.Register.{is_of_row, owners_after}

-- the same of a reply as it is told
abbrev is_line : Reply → Bool
is_line unknown = true
is_line (sold number) = true
is_line (no_leg name) = true
is_line no_fare = true
is_line (cancelled number amount) = true
is_line (optimised value) = true
is_line optimised_none = true
is_line overflow = true
is_line bad = false
is_line memory = false
is_line (hindsight_told value revenue withheld) = false
is_line (leg_told text) = false
is_line (plan_told text) = false

line-in : (control : ControlValue) (a : Answered) → is_of_row a ≡ is_line (reply_in control a)
line-in control answered.Bad = refl
line-in control answered.Unknown = refl
line-in control (answered.Sold number) = refl
line-in control (answered.NoLeg i) = refl
line-in control answered.NoFare = refl
line-in control (answered.Cancelled number refund) = refl
line-in control (answered.Optimised num den) = refl
line-in control answered.OptimisedNone = refl
line-in control answered.Overflow = refl
line-in control answered.Memory = refl
line-in control (answered.Hindsight num den revenue withheld) = refl
line-in control (answered.Leg i) = refl
line-in control answered.Plan = refl

-- ---- what a line that may change something is answered, if memory doesn't run out
to-request : (net : NetworkValue) (a : Answer) → is_line (reply_to net a) ≡ true
to-request net (answer.Sold number) = refl
to-request net (answer.Leg i) = refl
to-request net answer.Fare = refl

at-value : (value : Option Fraction) → is_line (optimised_at value) ≡ true
at-value None = refl
at-value (Some value) = refl

by-option : {X : Type 0} (o : Option X) (reply none : Reply) (some : X → Reply) (s' kept : SeatState) (changed : X → SeatState)
    → is_line none ≡ true → ((x : X) → is_line (some x) ≡ true)
    → MatchOption o ((reply ≡ none) × (s' ≡ kept)) (λ x. (reply ≡ some x) × (s' ≡ changed x)) → is_line reply ≡ true
by-option None reply none some s' kept changed one others given = ap (λ (r : Reply). is_line r) given.0 ∙ one
by-option (Some x) reply none some s' kept changed one others given = ap (λ (r : Reply). is_line r) given.0 ∙ others x

at-again : (net : NetworkValue) (s : SeatState) (k : ℕ) (reply : Reply) (s' : SeatState) → Reoptimises net s k reply s' → reply ≢ memory
    → is_line reply ≡ true
at-again net s k _ _ (optimises plan for) some = at-value (value_of net plan)
at-again net s k _ _ (overflows n number large) some = refl
at-again net s k _ _ (runs_out_of_memory solves) some = absurd (some refl)

by-period : (net : NetworkValue) (s s' : SeatState) (k : ℕ) (beyond : Bool) (reply : Reply)
    → MatchBool beyond (Gives unknown reply s s') (Reoptimises net s k reply s') → reply ≢ memory → is_line reply ≡ true
by-period net s s' k true reply given some = ap (λ (r : Reply). is_line r) given.0
by-period net s s' k false reply given some = at-again net s k reply s' given some

is-line : (net : NetworkValue) (s s' : SeatState) (c : Command) (reply : Reply) → is_change c ≡ true → Step net s c reply s'
    → reply ≢ memory → is_line reply ≡ true
is-line net s s' (command.Book name party) reply changes step some =
    by-option (product_named net name) reply unknown _ s' s _ refl (λ j. to-request net (answer_in net s j party)) step
is-line net s s' (command.Cancel number) reply changes step some =
    by-option (booking_numbered s.bookings number) reply unknown _ s' s _ refl (λ b. refl) step
is-line net s s' (command.Reoptimise k) reply changes step some = by-period net s s' k (lacks_period net k) reply step some
is-line net s s' (command.Leg name) reply changes step some = absurd (false≢true changes)
is-line net s s' command.Hindsight reply changes step some = absurd (false≢true changes)
is-line net s s' command.Plan reply changes step some = absurd (false≢true changes)
is-line net s s' command.Bad reply changes step some = absurd (false≢true changes)

pub is-of-row : (net : NetworkValue) (s s' : SeatState) (c : Command) (control : ControlValue) (a : Answered) → is_change c ≡ true
    → Step net s c (reply_in control a) s' → reply_in control a ≢ memory → is_of_row a ≡ true
is-of-row net s s' c control a changes step some = line-in control a ∙ is-line net s s' c (reply_in control a) changes step some

-- ---- such a reply goes by the network alone
pub reply-same : (old new : ControlValue) (a : Answered) → new.net ≡ old.net → is_of_row a ≡ true → reply_in new a ≡ reply_in old a
reply-same old new answered.Bad same line = refl
reply-same old new answered.Unknown same line = refl
reply-same old new (answered.Sold number) same line = refl
reply-same old new (answered.NoLeg i) same line = ap (λ (net : NetworkValue). no_leg (leg_of net i).name) same
reply-same old new answered.NoFare same line = refl
reply-same old new (answered.Cancelled number refund) same line = refl
reply-same old new (answered.Optimised num den) same line = refl
reply-same old new answered.OptimisedNone same line = refl
reply-same old new answered.Overflow same line = refl
reply-same old new answered.Memory same line = refl
reply-same old new (answered.Hindsight num den revenue withheld) same line = refl
reply-same old new (answered.Leg i) same line = absurd (false≢true line)
reply-same old new answered.Plan same line = absurd (false≢true line)

-- ---- a booking that was sold is the desk's
pub owners-named : (names : ℕ → List ℕ) (owners : List ℕ) (d : ℕ) (name : List ℕ) (control : ControlValue) (a : Answered) → names d ≡ name
    → map names (owners_after owners d a) ≡ map names owners ++ (seller_by name (reply_in control a) ++ [])
owners-named names owners d name control (answered.Sold number) is =
    map_push names owners d ∙ ap (λ (n : List ℕ). map names owners ++ (n ∷ [])) is
owners-named names owners d name control answered.Bad is = sym (append-nil (map names owners))
owners-named names owners d name control answered.Unknown is = sym (append-nil (map names owners))
owners-named names owners d name control (answered.NoLeg i) is = sym (append-nil (map names owners))
owners-named names owners d name control answered.NoFare is = sym (append-nil (map names owners))
owners-named names owners d name control (answered.Cancelled number refund) is = sym (append-nil (map names owners))
owners-named names owners d name control (answered.Optimised num den) is = sym (append-nil (map names owners))
owners-named names owners d name control answered.OptimisedNone is = sym (append-nil (map names owners))
owners-named names owners d name control answered.Overflow is = sym (append-nil (map names owners))
owners-named names owners d name control answered.Memory is = sym (append-nil (map names owners))
owners-named names owners d name control (answered.Hindsight num den revenue withheld) is = sym (append-nil (map names owners))
owners-named names owners d name control (answered.Leg i) is = sym (append-nil (map names owners))
owners-named names owners d name control answered.Plan is = sym (append-nil (map names owners))
