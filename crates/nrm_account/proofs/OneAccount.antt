-- The numbers of an account give its reply, and a line has one account.
use Rattle.std.proofs.Common.{ℕ, ◌≡◌, ◌≢◌, ◌∙◌, ◌+◌, ◌*◌, ◌/◌, List, [], ◌∷◌, ◌++◌, length, take, drop, Option, None, Some, refl, sym, ap, subst, arith}
use Rattle.std.specs.Prelude.{MatchOption}
use Rattle.std.proofs.Math.Seq.{drop-append_seam, take-append_seam}
use Rattle.std.proofs.lemmas.List.Elements.{All-cons, All-head, All-tail}
use Rattle.nrm_model.specs.Network.{NetworkValue, product_named, product_of}
use Rattle.nrm_model.proofs.Inventories.{fare-is}
use Rattle.nrm_book.specs.Bookings.{booking_numbered}
use Rattle.nrm_book.specs.declared.booking.Booking.{Booking}
use Rattle.nrm_control.specs.Refunds.{refund_of}
use Rattle.nrm_control.specs.State.{SeatState, after_cancellation, after_request, answer_in}
use Rattle.nrm_stream.specs.declared.command.Command.{Command}
use Rattle.nrm_stream.specs.declared.command.Command.TheVariants as command
use Rattle.nrm_session.specs.Laws.{MemorySuffices}
use Rattle.nrm_session.specs.Replies.{Reply, cancelled, memory, reply_to, unknown}
use Rattle.nrm_session.specs.Run.{Run}
use Rattle.nrm_session.specs.Step.{Gives, Step}
use Rattle.nrm_session.proofs.Determined.{determined}
use Rattle.nrm_account.specs.Account.{request_account, ruled}
use Rattle.nrm_account.specs.Laws.{AccountsAnswer, AccountsAreDetermined, HadMemory, IsAnswered}
use Rattle.nrm_account.specs.Readings.{IsAccountOf, planned_after}
use Rattle.nrm_account.specs.Texts.{account_text}
use Rattle.nrm_account.proofs.Accounts.{account-replies}

-- ---- the reply

answered : (net : NetworkValue) (s : SeatState) (c : Command) (reply : Reply) (s' : SeatState) → Step net s c reply s' → IsAnswered net s c reply
answered net s (command.Book name party) reply s' step = by (product_named net name) step
  where
    by : (found : Option ℕ) → MatchOption found (Gives unknown reply s s') (λ product. (reply ≡ reply_to net (answer_in net s product party)) × (s' ≡ after_request net s product party))
        → MatchOption found (reply ≡ unknown) (λ product. reply ≡ ruled (request_account net s.plan s.bookings s.next product party))
    by None given = given.0
    by (Some product) given = given.0 ∙ sym (account-replies net s.plan s.bookings s.next product party)
answered net s (command.Cancel number) reply s' step = by (booking_numbered s.bookings number) step
  where
    by : (found : Option Booking) → MatchOption found (Gives unknown reply s s') (λ booking. (reply ≡ cancelled number (refund_of net booking)) × (s' ≡ after_cancellation net s number))
        → MatchOption found (reply ≡ unknown) (λ booking. reply ≡ cancelled number (booking.party * (product_of net booking.product).fare * (product_of net booking.product).refund / 100))
    by None given = given.0
    by (Some booking) given =
        given.0 ∙ (λ n. cancelled number (booking.party * fare-is net booking.product n * (product_of net booking.product).refund / 100))
answered net s (command.Reoptimise period) reply s' step = tt
answered net s (command.Leg name) reply s' step = tt
answered net s command.Hindsight reply s' step = tt
answered net s command.Plan reply s' step = tt
answered net s command.Bad reply s' step = tt

pub accounts-answer : AccountsAnswer
accounts-answer net start asked commands text account = answered net account.state account.command account.reply account.next account.step

-- ---- one account

-- a list parts in one way before an element at a place
front-is : (all before : List Command) (c : Command) (after : List Command) → all ≡ before ++ c ∷ after → before ≡ take (length before) all
front-is all before c after is = sym (take-append_seam before (c ∷ after)) ∙ ap (take (length before)) (sym is)

back-is : (all before : List Command) (c : Command) (after : List Command) → all ≡ before ++ c ∷ after → (c ∷ after) ≡ drop (length before) all
back-is all before c after is = sym (drop-append_seam before (c ∷ after)) ∙ ap (drop (length before)) (sym is)

same-head : {X : Type 0} (x y : X) (xs ys : List X) → (x ∷ xs) ≡ (y ∷ ys) → x ≡ y
same-head x y xs ys e = cc

one-long : (replies : List Reply) (reply : Reply) → MemorySuffices (reply ∷ replies) → MemorySuffices (reply ∷ [])
one-long replies reply suffices = All-cons (λ (r : Reply). r ≢ memory) reply [] (All-head (λ (r : Reply). r ≢ memory) reply replies suffices) (λ k d short. absurd (omega (arith, short)))

pub accounts-determined : AccountsAreDetermined
accounts-determined net start asked commands text other account another had had' =
    let places : length another.before ≡ length account.before = omega (arith, account.number, another.number) in
    let fronts : another.before ≡ account.before =
    front-is commands another.before another.command another.after another.commands_are ∙ (λ n. take (places n) commands)
    ∙ sym (front-is commands account.before account.command account.after account.commands_are) in
    let backs : (another.command ∷ another.after) ≡ (account.command ∷ account.after) =
    back-is commands another.before another.command another.after another.commands_are ∙ (λ n. drop (places n) commands)
    ∙ sym (back-is commands account.before account.command account.after account.commands_are) in
    let line : another.command ≡ account.command = same-head another.command account.command another.after account.after backs in
    let run : Run net start account.before another.replies another.state = subst (λ (cs : List Command). Run net start cs another.replies another.state) fronts another.run in
    let (replies, state) =
    determined net start account.before account.replies another.replies account.state another.state account.run run
    (All-tail (λ (r : Reply). r ≢ memory) account.reply account.replies had) (All-tail (λ (r : Reply). r ≢ memory) another.reply another.replies had') in
    let step : Step net account.state account.command another.reply another.next =
    subst (λ (s : SeatState). Step net s account.command another.reply another.next) state
    (subst (λ (c : Command). Step net another.state c another.reply another.next) line another.step) in
    let (last, next) =
    determined net account.state (account.command ∷ []) (account.reply ∷ []) (another.reply ∷ []) account.next another.next (account.next, account.step, refl)
    (another.next, step, refl) (one-long account.replies account.reply had) (one-long another.replies another.reply had') in
    let reply : another.reply ≡ account.reply = same-head another.reply account.reply [] [] last in
    another.account ∙ (λ n. account_text net asked (planned_after (replies n) 1 0) (state n) (line n) (reply n)) ∙ sym account.account
