-- The replies and their texts.
use Rattle.std.specs.Prelude.{ℕ, List, [], ◌∷◌, decimal, codes, Option, Some, None}
use Rattle.nrm_fraction.specs.Fraction.{Fraction}
use Rattle.nrm_text.specs.Fractions.{fraction_text}
use Rattle.nrm_text.specs.Words.{text_line}
use Rattle.nrm_model.specs.Network.{NetworkValue, leg_of}
use Rattle.nrm_control.specs.declared.answer.Answer.{Answer}
use Rattle.nrm_control.specs.declared.answer.Answer.TheVariants as answer

-- what a line is answered; what is told of a leg or of a plan is a text
pub data Reply : Type 0 where
  bad : Reply
  unknown : Reply
  sold : ℕ → Reply
  no_leg : List ℕ → Reply
  no_fare : Reply
  cancelled : ℕ → ℕ → Reply
  optimised : Fraction → Reply
  optimised_none : Reply
  overflow : Reply
  memory : Reply
  hindsight_told : Fraction → ℕ → ℕ → Reply
  leg_told : List ℕ → Reply
  plan_told : List ℕ → Reply

-- the text of a reply
abbrev pub text_of : Reply → List ℕ
text_of bad = text_line (codes "bad" ∷ [])
text_of unknown = text_line (codes "unknown" ∷ [])
text_of (sold number) = text_line (codes "ok" ∷ decimal number ∷ [])
text_of (no_leg name) = text_line (codes "no" ∷ name ∷ [])
text_of no_fare = text_line (codes "no" ∷ codes "fare" ∷ [])
text_of (cancelled number amount) = text_line (codes "cancelled" ∷ decimal number ∷ decimal amount ∷ [])
text_of (optimised value) = text_line (codes "optimised" ∷ fraction_text value ∷ [])
text_of optimised_none = text_line (codes "optimised" ∷ codes "none" ∷ [])
text_of overflow = text_line (codes "overflow" ∷ [])
text_of memory = text_line (codes "memory" ∷ [])
text_of (hindsight_told value revenue withheld) =
    text_line (codes "hindsight" ∷ fraction_text value ∷ codes "revenue" ∷ decimal revenue ∷ codes "withheld" ∷ decimal withheld ∷ [])
text_of (leg_told text) = text
text_of (plan_told text) = text

-- the reply to a request, by the answer that it got
abbrev pub reply_to : NetworkValue → Answer → Reply
reply_to net (answer.Sold number) = sold number
reply_to net (answer.Leg leg) = no_leg (leg_of net leg).name
reply_to net answer.Fare = no_fare

-- the reply to an optimisation, by the mean value of its plan, if it solved a linear program
abbrev pub optimised_at : Option Fraction → Reply
optimised_at None = optimised_none
optimised_at (Some value) = optimised value
