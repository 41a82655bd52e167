-- The reply of the step is the one that the headline says, and no other.
use Rattle.std.proofs.Common.{◌≡◌, ◌∙◌, ◌↔◌, ℕ, ◌+◌, ◌*◌, Bool, true, false, List, [], ◌∷◌, ◌++◌, find, Option, Some, None}
use Rattle.std.proofs.Common.{MatchOption, All, if◌then◌else◌, inl, inr, refl, sym, ap, subst, arith, nat_abs}
use Rattle.std.specs.Option.{option_map_or}
use Rattle.std.proofs.lemmas.Bool.{ltb-false, ltb-true}
use Rattle.std.proofs.lemmas.Option.{same_Some}
use Rattle.std.proofs.lemmas.List.Elements.{All-nil, All-cons, All-head, All-tail}
use Rattle.nrm_model.specs.Inventory.{inventory_of}
use Rattle.nrm_model.specs.Network.{NetworkValue, leg_of, product_named, product_of}
use Rattle.nrm_model.specs.declared.mode.Mode.{Mode}
use Rattle.nrm_model.specs.declared.mode.Mode.TheVariants as mode
use Rattle.nrm_lp.specs.declared.certificate.Certificate.{Certificate}
use Rattle.nrm_plan.specs.Plans.{fare_refuses, fare_refuses_by, protected_from}
use Rattle.nrm_book.specs.Bookings.{left_on}
use Rattle.nrm_control.specs.State.{SeatState, after_answer, after_request, answer_in}
use Rattle.nrm_control.specs.Verdict.{leg_refuses}
use Rattle.nrm_control.specs.declared.answer.Answer.TheVariants as answer
use Rattle.nrm_session.specs.Replies.{Reply, sold, no_leg, no_fare, reply_to, unknown}
use Rattle.nrm_session.specs.Headline.{bid_price_sum, BookingStands, FareReaches, FirstLegShort, Headline, IsOneOfThree, RequestIsAnswered}
use Rattle.nrm_session.specs.Headline.{RequestsAreAnswered, SeatsCover}

-- the leg of this name is the first that doesn't cover
record IsFirstFailing (net : NetworkValue) (Covers : ℕ → Type 0) (legs : List ℕ) (name : List ℕ) : Type 0 where
  pub before : List ℕ
  pub leg : ℕ
  pub after : List ℕ
  pub order : legs ≡ before ++ leg ∷ after
  pub covered : All Covers before
  pub fails : ¬ (Covers leg)
  pub its_name : name ≡ (leg_of net leg).name

-- a test that refuses exactly the legs that don't cover finds the first of them
module _ (Covers : ℕ → Type 0) (refuses : ℕ → Bool) (refused : (i : ℕ) → refuses i ≡ true → ¬ (Covers i))
    (passed : (i : ℕ) → refuses i ≡ false → Covers i) where
  none-all : (legs : List ℕ) → find refuses legs ≡ None → All Covers legs
  none-all [] none = All-nil Covers
  none-all (i ∷ legs) none = by (refuses i) refl (none-all legs)
    where
      by : (b : Bool) → refuses i ≡ b → (find refuses legs ≡ None → All Covers legs) → All Covers (i ∷ legs)
      by true e more = let some : Some i ≡ None = rw e at none in cc
      by false e more = let rest : find refuses legs ≡ None = rw e at none in All-cons Covers i legs (passed i e) (more rest)

  all-none : (legs : List ℕ) → All Covers legs → find refuses legs ≡ None
  all-none [] all = refl
  all-none (i ∷ legs) all = by (refuses i) refl (all-none legs (All-tail Covers i legs all))
    where
      by : (b : Bool) → refuses i ≡ b → find refuses legs ≡ None → find refuses (i ∷ legs) ≡ None
      by true e more = absurd (refused i e (All-head Covers i legs all))
      by false e more = rw e more

  first-some : (before : List ℕ) (i : ℕ) (after : List ℕ) → All Covers before → ¬ (Covers i) → find refuses (before ++ i ∷ after) ≡ Some i
  first-some [] i after all fails = by (refuses i) refl
    where
      by : (b : Bool) → refuses i ≡ b → find refuses (i ∷ after) ≡ Some i
      by true e = rw e refl
      by false e = absurd (fails (passed i e))
  first-some (j ∷ before) i after all fails = by (refuses j) refl (first-some before i after (All-tail Covers j before all) fails)
    where
      by : (b : Bool) → refuses j ≡ b → find refuses (before ++ i ∷ after) ≡ Some i → find refuses (j ∷ before ++ i ∷ after) ≡ Some i
      by true e more = absurd (refused j e (All-head Covers j before all))
      by false e more = rw e more

  some-first : (net : NetworkValue) (legs : List ℕ) (i : ℕ) → find refuses legs ≡ Some i
      → IsFirstFailing net Covers legs (leg_of net i).name
  some-first net [] i found = cc
  some-first net (j ∷ legs) i found = by (refuses j) refl (some-first net legs i)
    where
      by : (b : Bool) → refuses j ≡ b → (find refuses legs ≡ Some i → IsFirstFailing net Covers legs (leg_of net i).name)
          → IsFirstFailing net Covers (j ∷ legs) (leg_of net i).name
      by true e more =
          let same : Some j ≡ Some i = rw e at found in
          let is : j ≡ i = cc in
          record {
            before = [];
            leg = j;
            after = legs;
            order = refl;
            covered = All-nil Covers;
            fails = refused j e;
            its_name = ap (λ k. (leg_of net k).name) (sym is);
          }
      by false e more =
          let rest : find refuses legs ≡ Some i = rw e at found in
          let first = more rest in
          record {
            before = j ∷ first.before;
            leg = first.leg;
            after = first.after;
            order = ap (λ ls. j ∷ ls) first.order;
            covered = All-cons Covers j first.before (passed j e) first.covered;
            fails = first.fails;
            its_name = first.its_name;
          }

  first-found : (net : NetworkValue) (legs : List ℕ) (name : List ℕ) (first : IsFirstFailing net Covers legs name) → find refuses legs
      ≡ Some first.leg
  first-found net legs name first = ap (find refuses) first.order ∙ first-some first.before first.leg first.after first.covered first.fails

-- what the three cases say, whatever it is that covers and reaches
record Told (net : NetworkValue) (Covers : ℕ → Type 0) (Reaches : Type 0) (legs : List ℕ) (next : ℕ) (reply : Reply) : Type 0 where
  pub is_sold : (reply ≡ sold next) ↔ (All Covers legs × Reaches)
  pub names_leg : (name : List ℕ) → (reply ≡ no_leg name) ↔ IsFirstFailing net Covers legs name
  pub names_fare : (reply ≡ no_fare) ↔ (All Covers legs × ¬ Reaches)

abbrev reply_by : NetworkValue → ℕ → Option ℕ → Bool → Reply
reply_by net next refusing below = reply_to net (option_map_or answer.Leg refusing (if below then answer.Fare else answer.Sold next))

names-same : (a b : List ℕ) → no_leg a ≡ no_leg b → a ≡ b
names-same a b e = cc

module _ (net : NetworkValue) (Covers : ℕ → Type 0) (refuses : ℕ → Bool) (refused : (i : ℕ) → refuses i ≡ true → ¬ (Covers i))
    (passed : (i : ℕ) → refuses i ≡ false → Covers i)
    (Reaches : Type 0) (below : Bool) (under : below ≡ true → ¬ Reaches) (over : below ≡ false → Reaches) (legs : List ℕ) (next : ℕ) where
  no-first : (name : List ℕ) → find refuses legs ≡ None → ¬ (IsFirstFailing net Covers legs name)
  no-first name none first = let found : find refuses legs ≡ Some first.leg =
      first-found Covers refuses refused passed net legs name first in let same : None ≡ Some first.leg = sym none ∙ found in cc

  no-all : (i : ℕ) → find refuses legs ≡ Some i → ¬ (All Covers legs)
  no-all i some all = let none : find refuses legs ≡ None = all-none Covers refuses refused passed legs all in let same : None ≡ Some i =
      sym none ∙ some in cc

  told-by : (refusing : Option ℕ) (b : Bool) → find refuses legs ≡ refusing → below ≡ b
      → Told net Covers Reaches legs next (reply_by net next refusing b)
  told-by None true none e =
      let all : All Covers legs = none-all Covers refuses refused passed legs none in
      record {
        is_sold = (λ (is : no_fare ≡ sold next). cc, λ (h : All Covers legs × Reaches). absurd (under e h.1));
        names_leg = λ name. (λ (is : no_fare ≡ no_leg name). cc, λ first. absurd (no-first name none first));
        names_fare = (λ is. (all, under e), λ h. refl);
      }
  told-by None false none e =
      let all : All Covers legs = none-all Covers refuses refused passed legs none in
      record {
        is_sold = (λ is. (all, over e), λ h. refl);
        names_leg = λ name. (λ (is : sold next ≡ no_leg name). cc, λ first. absurd (no-first name none first));
        names_fare = (λ (is : sold next ≡ no_fare). cc, λ (h : All Covers legs × ¬ Reaches). absurd (h.1 (over e)));
      }
  told-by (Some i) b some e = record {
    is_sold = (λ (is : no_leg (leg_of net i).name ≡ sold next). cc, λ (h : All Covers legs × Reaches). absurd (no-all i some h.0));
    names_leg = λ name. (
      λ (is : no_leg (leg_of net i).name ≡ no_leg name). subst (λ n. IsFirstFailing net Covers legs n)
          (names-same (leg_of net i).name name is) (some-first Covers refuses refused passed net legs i some),
      λ (first : IsFirstFailing net Covers legs name).
          let same : i ≡ first.leg = same_Some i first.leg (sym some ∙ first-found Covers refuses refused passed net legs name first) in
          ap no_leg (ap (λ k. (leg_of net k).name) same ∙ sym first.its_name),
    );
    names_fare = (λ (is : no_leg (leg_of net i).name ≡ no_fare). cc, λ (h : All Covers legs × ¬ Reaches). absurd (no-all i some h.0));
  }

  told : Told net Covers Reaches legs next (reply_by net next (find refuses legs) below)
  told = told-by (find refuses legs) below refl refl

  only-by : (refusing : Option ℕ) (b : Bool) → find refuses legs ≡ refusing → below ≡ b → (reply : Reply)
      → Told net Covers Reaches legs next reply → reply ≡ reply_by net next refusing b
  only-by None true none e reply says = says.names_fare.1 (none-all Covers refuses refused passed legs none, under e)
  only-by None false none e reply says = says.is_sold.1 (none-all Covers refuses refused passed legs none, over e)
  only-by (Some i) b some e reply says = (says.names_leg (leg_of net i).name).1 (some-first Covers refuses refused passed net legs i some)

  only : (reply : Reply) → Told net Covers Reaches legs next reply → reply ≡ reply_by net next (find refuses legs) below
  only = only-by (find refuses legs) below refl refl

-- the tests of the step are those of the headline
covers-passed : (net : NetworkValue) (s : SeatState) (j party i : ℕ) → leg_refuses net s.plan s.bookings j party i ≡ false
    → SeatsCover net s j party i
covers-passed net s j party i e = ltb-false (left_on (inventory_of net) s.bookings i) (party + protected_from net s.plan i j) e

covers-refused : (net : NetworkValue) (s : SeatState) (j party i : ℕ) → leg_refuses net s.plan s.bookings j party i ≡ true
    → ¬ (SeatsCover net s j party i)
covers-refused net s j party i e covers =
    let short = ltb-true (left_on (inventory_of net) s.bookings i) (party + protected_from net s.plan i j) e in
    absurd (omega (arith, short, covers))

fare-passed : (net : NetworkValue) (s : SeatState) (j : ℕ) → fare_refuses net s.plan j ≡ false → FareReaches net s j
fare-passed net s j e prices force =
    let at : fare_refuses net s.plan j ≡ fare_refuses_by net mode.Bid (Some prices) j =
    λ n. fare_refuses_by net (force.in_mode n) (force.at_prices n) j in
    ltb-false (nat_abs prices.den * (product_of net j).fare) (bid_price_sum net prices j) (sym at ∙ e)

fare-refused : (net : NetworkValue) (s : SeatState) (j : ℕ) → fare_refuses net s.plan j ≡ true → ¬ (FareReaches net s j)
fare-refused net s j e reaches = by s.plan.mode s.plan.certificate refl refl e
  where
    by : (m : Mode) (o : Option Certificate) → s.plan.mode ≡ m → s.plan.certificate ≡ o → fare_refuses_by net m o j ≡ true → ⊥
    by mode.FirstCome o is has below = cc
    by mode.Davn o is has below = cc
    by mode.Bid None is has below = cc
    by mode.Bid (Some prices) is has below =
        let enough = reaches prices (record { in_mode = is; at_prices = has }) in
        let short = ltb-true (nat_abs prices.den * (product_of net j).fare) (bid_price_sum net prices j) below in
        absurd (omega (arith, enough, short))

pub holds : (net : NetworkValue) (s : SeatState) (j party : ℕ) → Headline net s j party (reply_to net (answer_in net s j party))
holds net s j party =
    let t = told net (SeatsCover net s j party) (leg_refuses net s.plan s.bookings j party) (covers-refused net s j party)
    (covers-passed net s j party) (FareReaches net s j) (fare_refuses net s.plan j)
    (fare-refused net s j) (fare-passed net s j) (product_of net j).legs s.next in
    record {
      is_sold = t.is_sold;
      names_leg = λ name. (
        λ is. let first = (t.names_leg name).0 is in record {
          before = first.before;
          leg = first.leg;
          after = first.after;
          order = first.order;
          covered = first.covered;
          short = first.fails;
          its_name = sym first.its_name;
        },
        λ (first : FirstLegShort net s j party name).
            (t.names_leg name).1 (record {
              before = first.before;
              leg = first.leg;
              after = first.after;
              order = first.order;
              covered = first.covered;
              fails = first.short;
              its_name = sym first.its_name;
            }),
      );
      names_fare = t.names_fare;
    }

only-one : (net : NetworkValue) (s : SeatState) (j party : ℕ) (reply : Reply) → Headline net s j party reply → reply
    ≡ reply_to net (answer_in net s j party)
only-one net s j party reply says =
    only net (SeatsCover net s j party) (leg_refuses net s.plan s.bookings j party) (covers-refused net s j party)
    (covers-passed net s j party) (FareReaches net s j) (fare_refuses net s.plan j)
    (fare-refused net s j) (fare-passed net s j) (product_of net j).legs s.next reply
    (record {
      is_sold = says.is_sold;
      names_leg = λ name. (
        λ is. let first = (says.names_leg name).0 is in record {
          before = first.before;
          leg = first.leg;
          after = first.after;
          order = first.order;
          covered = first.covered;
          fails = first.short;
          its_name = sym first.its_name;
        },
        λ (first : IsFirstFailing net (SeatsCover net s j party) (product_of net j).legs name).
            (says.names_leg name).1 (record {
              before = first.before;
              leg = first.leg;
              after = first.after;
              order = first.order;
              covered = first.covered;
              short = first.fails;
              its_name = sym first.its_name;
            }),
      );
      names_fare = says.names_fare;
    })

-- what is told, and what stands after it, by what refuses
three : (net : NetworkValue) (s : SeatState) (refusing : Option ℕ) (below : Bool) → IsOneOfThree s (reply_by net s.next refusing below)
three net s None true = inr (inr refl)
three net s None false = inl refl
three net s (Some i) below = inr (inl ((leg_of net i).name, refl))

stands : (net : NetworkValue) (s : SeatState) (j party : ℕ) (refusing : Option ℕ) (below : Bool)
    → BookingStands s j party (reply_by net s.next refusing below) (after_answer s j party
    (option_map_or answer.Leg refusing (if below then answer.Fare else answer.Sold s.next)))
stands net s j party None true = record { booked = λ (is : no_fare ≡ sold s.next). cc; refused = λ other. refl }
stands net s j party None false = record { booked = λ is. refl; refused = λ other. absurd (other refl) }
stands net s j party (Some i) below = record { booked = λ (is : no_leg (leg_of net i).name ≡ sold s.next). cc; refused = λ other. refl }

answers : (net : NetworkValue) (s : SeatState) (j party : ℕ) (reply : Reply) (s' : SeatState) → reply
    ≡ reply_to net (answer_in net s j party) → s' ≡ after_request net s j party
    → RequestIsAnswered net s j party reply s'
answers net s j party reply s' is after =
    let refusing = find (leg_refuses net s.plan s.bookings j party) (product_of net j).legs in
    let below = fare_refuses net s.plan j in
    record {
      headline = subst (Headline net s j party) (sym is) (holds net s j party);
      no_other = subst (IsOneOfThree s) (sym is) (three net s refusing below);
      stands = subst (λ (r : Reply). BookingStands s j party r s') (sym is)
          (subst (BookingStands s j party (reply_to net (answer_in net s j party))) (sym after) (stands net s j party refusing below));
    }

pub requests-answered : RequestsAreAnswered
requests-answered net s name product party known = (
  λ reply s' told. let (is, after) = of-product reply s' told in answers net s product party reply s' is after,
  λ reply says. to-product reply (only-one net s product party reply says, refl),
)
  where
    of-product : (reply : Reply) (s' : SeatState) → MatchOption (product_named net name) ((reply ≡ unknown) × (s' ≡ s))
        (λ j. (reply ≡ reply_to net (answer_in net s j party)) × (s' ≡ after_request net s j party))
        → (reply ≡ reply_to net (answer_in net s product party)) × (s' ≡ after_request net s product party)
    of-product reply s' told = rw known at told

    to-product : (reply : Reply) → (reply ≡ reply_to net (answer_in net s product party))
        × (after_request net s product party ≡ after_request net s product party)
        → MatchOption (product_named net name) ((reply ≡ unknown) × (after_request net s product party ≡ s))
        (λ j. (reply ≡ reply_to net (answer_in net s j party)) × (after_request net s product party ≡ after_request net s j party))
    to-product reply told = rw known told
