-- The largest party that is sold.
use Rattle.std.proofs.Common.{ℕ, ◌≡◌, ◌+◌, ◌-◌, ◌<◌, ◌≤◌, Bool, true, false, List, [], ◌∷◌, find, map, min, nat_lt, Option, Some, None, refl, ap, if◌then◌else◌, arith}
use Rattle.std.specs.Option.{option_map_or}
use Rattle.std.proofs.Math.Nat.{min-le_left, min-le_right}
use Rattle.std.proofs.lemmas.Bool.{ltb-false, le-ltb}
use Rattle.nrm_model.specs.Inventory.{inventory_of}
use Rattle.nrm_model.specs.Network.{NetworkValue, least_of, product_of}
use Rattle.nrm_model.specs.declared.limits.TheConstants.{MOST_PARTY}
use Rattle.nrm_book.specs.declared.booking.Booking.{Booking}
use Rattle.nrm_book.specs.Bookings.{left_on}
use Rattle.nrm_plan.specs.Plans.{PlanValue, fare_refuses, protected_from}
use Rattle.nrm_control.specs.declared.answer.Answer.{Answer}
use Rattle.nrm_control.specs.declared.answer.Answer.TheVariants as answer
use Rattle.nrm_account.specs.Laws.{LargestIsSold}

-- the least of some numbers is no more than the first, and than the least of the rest
least-first : (x : ℕ) (xs : List ℕ) → least_of (x ∷ xs) ≤ x
least-first x [] = omega arith
least-first x (y ∷ xs) = min-le_left x (least_of (y ∷ xs))

least-rest : (x y : ℕ) (xs : List ℕ) → least_of (x ∷ y ∷ xs) ≤ least_of (y ∷ xs)
least-rest x y xs = min-le_right x (least_of (y ∷ xs))

lesser : (m n p : ℕ) → p ≤ m → min m n < p → n < p
lesser m n p most least = omega (arith, most, least)

module _ (left protected : ℕ → ℕ) (party : ℕ) where
  abbrev refuses : ℕ → Bool
  refuses i = nat_lt (left i) (party + protected i)

  abbrev free : ℕ → ℕ
  free i = left i - protected i

  -- no leg refuses a party that is at most the least number of open seats
  none-short : 1 ≤ party → (most : ℕ) (legs : List ℕ) → party ≤ least_of (most ∷ map free legs) → find refuses legs ≡ None
  none-short some most [] within = refl
  none-short some most (i ∷ legs) within =
      let more : party ≤ least_of (free i ∷ map free legs) = omega (arith, within, least-rest most (free i) (map free legs)) in
      let here : party ≤ left i - protected i = omega (arith, more, least-first (free i) (map free legs)) in
      let covers : nat_lt (left i) (party + protected i) ≡ false = le-ltb (left i) (party + protected i) (omega (arith, here, some)) in
      rw covers (none-short some (free i) legs more)

  -- some leg refuses a larger one, which is at most the most
  some-short : (most : ℕ) (legs : List ℕ) → party ≤ most → least_of (most ∷ map free legs) < party → find refuses legs ≡ None → ⊥
  some-short most [] within below none = omega (arith, within, below)
  some-short most (i ∷ legs) within below none = by (nat_lt (left i) (party + protected i)) refl (some-short (free i) legs)
    where
      by : (b : Bool) → nat_lt (left i) (party + protected i) ≡ b
          → (party ≤ free i → least_of (free i ∷ map free legs) < party → find refuses legs ≡ None → ⊥) → ⊥
      by true e more = let some : Some i ≡ None = rw e at none in cc
      by false e more =
          let covers = ltb-false (left i) (party + protected i) e in
          let rest : find refuses legs ≡ None = rw e at none in
          let here : party ≤ left i - protected i = omega (arith, covers) in
          more here (lesser most (least_of (free i ∷ map free legs)) party within below) rest

module _ (net : NetworkValue) (plan : PlanValue) (bookings : List Booking) (number j : ℕ) where
  abbrev legs : List ℕ
  legs = (product_of net j).legs

  abbrev left : ℕ → ℕ
  left i = left_on (inventory_of net) bookings i

  abbrev protected : ℕ → ℕ
  protected i = protected_from net plan i j

  abbrev largest_if : Bool → ℕ
  largest_if b = if b then 0 else least_of (MOST_PARTY ∷ map (free left protected 0) legs)

  abbrev verdict_if : Bool → ℕ → Answer
  verdict_if b party = option_map_or answer.Leg (find (refuses left protected party) legs) (if b then answer.Fare else answer.Sold number)

  sold-if : (b : Bool) (party : ℕ) → 1 ≤ party → party ≤ largest_if b → verdict_if b party ≡ answer.Sold number
  sold-if true party some within = absurd (omega (arith, some, within))
  sold-if false party some within = ap (λ (o : Option ℕ). option_map_or answer.Leg o (answer.Sold number)) (none-short left protected party some MOST_PARTY legs within)

  unsold-if : (b : Bool) (party : ℕ) → party ≤ MOST_PARTY → largest_if b < party → verdict_if b party ≡ answer.Sold number → ⊥
  unsold-if b party within below is = by b (find (refuses left protected party) legs) refl below is
    where
      by : (b : Bool) (refusing : Option ℕ) → find (refuses left protected party) legs ≡ refusing → largest_if b < party
          → option_map_or answer.Leg refusing (if b then answer.Fare else answer.Sold number) ≡ answer.Sold number → ⊥
      by b (Some i) e less is = cc
      by true None e less is = cc
      by false None e less is = some-short left protected party MOST_PARTY legs within less e

  pub largest-is_sold : LargestIsSold net plan bookings number j
  largest-is_sold = record {
    sold = sold-if (fare_refuses net plan j);
    refused = unsold-if (fare_refuses net plan j);
  }
