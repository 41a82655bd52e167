-- The summary of a run over the commands that are made of a number.
use Rattle.std.specs.Prelude.{ℕ, ◌+◌, ◌≡◌, List, [], ◌∷◌, Option, Some, None}
use Rattle.nrm_fraction.specs.Fraction.{Fraction}
use Rattle.nrm_text.specs.Words.{text_line}
use Rattle.nrm_model.specs.Inventory.{inventory_of}
use Rattle.nrm_model.specs.Network.{NetworkValue}
use Rattle.nrm_book.specs.Bookings.{revenue_of}
use Rattle.nrm_plan.specs.Plans.{PlanValue}
use Rattle.nrm_control.specs.State.{SeatState, opening}
use Rattle.nrm_session.specs.Laws.{MemorySuffices}
use Rattle.nrm_session.specs.Replies.{Reply, bad, unknown, sold, no_leg, no_fare, cancelled, optimised, optimised_none, overflow, memory}
use Rattle.nrm_session.specs.Replies.{hindsight_told, leg_told, plan_told}
use Rattle.nrm_session.specs.Run.{Run}
use Rattle.nrm_findings.specs.Summary.{hindsight_word, nothing_counted, summary_words}
use Rattle.nrm_findings.specs.declared.summary.Counts.{Counts}
use Rattle.nrm_gen.specs.MadeCommands.{made_commands}

-- one more reply: those of each kind are counted, and a plan that was solved for nothing counts as one that was optimised
abbrev pub counted : Counts → Reply → Counts
counted c (sold number) = record c { sold = c.sold + 1 }
counted c (no_leg name) = record c { no_leg = c.no_leg + 1 }
counted c no_fare = record c { no_fare = c.no_fare + 1 }
counted c (cancelled number amount) = record c { cancelled = c.cancelled + 1 }
counted c unknown = record c { unknown = c.unknown + 1 }
counted c (leg_told text) = record c { legs = c.legs + 1 }
counted c (optimised value) = record c { optimised = c.optimised + 1 }
counted c optimised_none = record c { optimised = c.optimised + 1 }
counted c overflow = record c { overflow = c.overflow + 1 }
counted c bad = c
counted c memory = c
counted c (hindsight_told value revenue withheld) = c
counted c (plan_told text) = c

-- the counts of all replies but the last, after these
abbrev pub counts_from : Counts → List Reply → Counts
counts_from c [] = c
counts_from c (reply ∷ []) = c
counts_from c (reply ∷ next ∷ more) = counts_from (counted c reply) (next ∷ more)

-- the last reply
abbrev pub last_of : List Reply → Reply
last_of [] = bad
last_of (reply ∷ []) = reply
last_of (reply ∷ next ∷ more) = last_of (next ∷ more)

-- the value that a reply to hindsight tells; if its linear program is Large there is none
abbrev pub hindsight_in : Reply → Option Fraction
hindsight_in (hindsight_told value revenue withheld) = Some value
hindsight_in _ = None

-- the summary of replies of which the last is to hindsight, and of the bookings that stand
abbrev pub summary_line : NetworkValue → List Reply → SeatState → List ℕ
summary_line net replies s =
    text_line (summary_words (counts_from nothing_counted replies) (revenue_of (inventory_of net) s.bookings)
    (hindsight_word (hindsight_in (last_of replies))))

-- a text is the summary of a run from the opening with a plan, over the commands that are made of a number, in which no
-- line runs out of memory
pub record MadeRun (net : NetworkValue) (plan : PlanValue) (number : ℕ) (text : List ℕ) : Type 0 where
  pub replies : List Reply
  pub last : SeatState
  pub run : Run net (opening plan) (made_commands number) replies last
  pub suffices : MemorySuffices replies
  pub summary : text ≡ summary_line net replies last
