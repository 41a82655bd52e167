-- The rule over the numbers of an account gives the reply.
use Rattle.std.proofs.Common.{ℕ, ◌≡◌, ◌∙◌, ◌+◌, ◌*◌, Bool, true, false, List, [], ◌∷◌, find, map, nat_lt, nat_abs, slice_index, Option, Some, None, refl, ap, if◌then◌else◌}
use Rattle.std.specs.Option.{option_map_or}
use Rattle.nrm_model.specs.Network.{NetworkValue, leg_of, product_of}
use Rattle.nrm_model.specs.declared.mode.Mode.{Mode}
use Rattle.nrm_model.specs.declared.mode.Mode.TheVariants as mode
use Rattle.nrm_book.specs.declared.booking.Booking.{Booking}
use Rattle.nrm_lp.specs.declared.certificate.Certificate.{Certificate}
use Rattle.nrm_lp.specs.Certified.{sizes}
use Rattle.nrm_lp.specs.Program.{price_sum}
use Rattle.nrm_plan.specs.Plans.{PlanValue, fare_refuses_by}
use Rattle.nrm_control.specs.Verdict.{leg_refuses, verdict_of}
use Rattle.nrm_control.specs.declared.answer.Answer.{Answer}
use Rattle.nrm_control.specs.declared.answer.Answer.TheVariants as answer
use Rattle.nrm_session.specs.Replies.{Reply, no_fare, no_leg, reply_to, sold}
use Rattle.nrm_account.specs.Account.{LegAccount, deciding_den, deciding_price, is_below, is_short, leg_account, prices_in_all, request_account, ruled}

-- ---- the first leg that is short is the first that refuses
first-short : (f : ℕ → LegAccount) (refuses : ℕ → Bool) (name : ℕ → List ℕ) (d : Reply)
    → ((i : ℕ) → is_short (f i) ≡ refuses i) → ((i : ℕ) → (f i).name ≡ name i)
    → (legs : List ℕ) → option_map_or (λ leg. no_leg leg.name) (find is_short (map f legs)) d ≡ option_map_or (λ i. no_leg (name i)) (find refuses legs) d
first-short f refuses name d same names [] = refl
first-short f refuses name d same names (i ∷ legs) = by (refuses i) refl (first-short f refuses name d same names legs)
  where
    by : (b : Bool) → refuses i ≡ b
        → option_map_or (λ leg. no_leg leg.name) (find is_short (map f legs)) d ≡ option_map_or (λ i. no_leg (name i)) (find refuses legs) d
        → option_map_or (λ leg. no_leg leg.name) (find is_short (map f (i ∷ legs))) d ≡ option_map_or (λ i. no_leg (name i)) (find refuses (i ∷ legs)) d
    by true e more = rw (same i ∙ e) (rw e (ap no_leg (names i)))
    by false e more = rw (same i ∙ e) (rw e more)

-- ---- the prices of the legs
pub prices-summed : (f : ℕ → LegAccount) (prices : List ℕ) → ((i : ℕ) → (f i).price ≡ slice_index prices i) → (legs : List ℕ)
    → prices_in_all (map f legs) ≡ price_sum prices legs
prices-summed f prices same [] = refl
prices-summed f prices same (i ∷ legs) = (λ n. same i n + prices-summed f prices same legs n)

below-is : (net : NetworkValue) (m : Mode) (cert : Option Certificate) (j : ℕ) (f : ℕ → LegAccount) → ((i : ℕ) → (f i).price ≡ deciding_price m cert i)
    → is_below (product_of net j).fare (map f (product_of net j).legs) (deciding_den m cert) ≡ fare_refuses_by net m cert j
below-is net mode.FirstCome cert j f same = refl
below-is net mode.Bid None j f same = refl
below-is net mode.Bid (Some cert) j f same =
    ap (λ n. nat_lt (nat_abs cert.den * (product_of net j).fare) n)
    (prices-summed f (sizes cert.p) same (product_of net j).legs)
below-is net mode.Davn cert j f same = refl

-- ---- the reply to an answer
reply-listed : (net : NetworkValue) (refusing : Option ℕ) (d : Answer)
    → option_map_or (λ i. no_leg (leg_of net i).name) refusing (reply_to net d) ≡ reply_to net (option_map_or answer.Leg refusing d)
reply-listed net (Some i) d = refl
reply-listed net None d = refl

reply-by : (net : NetworkValue) (refuses : Bool) (number : ℕ)
    → (if refuses then no_fare else sold number) ≡ reply_to net (if refuses then answer.Fare else answer.Sold number)
reply-by net true number = refl
reply-by net false number = refl

pub account-replies : (net : NetworkValue) (plan : PlanValue) (bookings : List Booking) (number j party : ℕ)
    → ruled (request_account net plan bookings number j party) ≡ reply_to net (verdict_of net plan bookings number j party)
account-replies net plan bookings number j party =
    let f : ℕ → LegAccount = leg_account net plan bookings j party in
    let legs : List ℕ = (product_of net j).legs in
    let refusing : Option ℕ = find (leg_refuses net plan bookings j party) legs in
    let refuses : Bool = fare_refuses_by net plan.mode plan.certificate j in
    ap (λ b. option_map_or (λ leg. no_leg leg.name) (find is_short (map f legs)) (if b then no_fare else sold number))
    (below-is net plan.mode plan.certificate j f (λ i. refl))
    ∙ first-short f (leg_refuses net plan bookings j party) (λ i. (leg_of net i).name) (if refuses then no_fare else sold number) (λ i. refl) (λ i. refl) legs
    ∙ ap (option_map_or (λ i. no_leg (leg_of net i).name) refusing) (reply-by net refuses number)
    ∙ reply-listed net refusing (if refuses then answer.Fare else answer.Sold number)
