-- What a sale and a cancellation keep.
use Rattle.std.proofs.Common.{ℕ, ◌≡◌, ◌∙◌, ◌+◌, ◌<◌, ◌≤◌, All, Bool, true, false, not, cond, eqb, List, [], ◌∷◌, ◌++◌, length, get_or, filter, sum, Option, Some, None, inl, inr, refl, sym, ap, subst, suc, zero, ◌-◌, ◌==◌, nat_lt, arith, length-append}
use Rattle.std.specs.Int.{IsInRange}
use Rattle.std.specs.List.{position, position_or_len, remove, slice_get}
use Rattle.std.proofs.lemmas.List.{get_or_default}
use Rattle.std.proofs.lemmas.Bool.{cases_Bool, eqb-true}
use Rattle.std.proofs.lemmas.Bool.Decides.{nat_tests}
use Rattle.std.proofs.lemmas.List.Elements.{All-filter, All-head, All-push, All-tail}
use Rattle.std.proofs.lemmas.List.Filters.{sum_by-filter_both}
use Rattle.std.proofs.lemmas.List.Folds.{Any-from_list_any, find_at}
use Rattle.std.proofs.lemmas.List.Kept.{AllPairs-filter}
use Rattle.std.proofs.lemmas.List.Quantifiers.{all_pairs_push, position-Some}
use Rattle.std.proofs.lemmas.List.Sums.{fails_before_first}
use Rattle.std.proofs.lemmas.Option.{cond_some, none-some, slice_get_past, slice_get_read}
use Rattle.nrm_model.specs.Inventory.{Inventory, authorised_of, legs_of, uses_leg}
use Rattle.nrm_book.specs.declared.booking.Booking.{Booking}
use Rattle.nrm_book.specs.Bookings.{NumbersRise, booking_numbered, left_on, sold_on, without}
use Rattle.nrm_book.specs.Book.{BookValue, IsBook, IsLoadable, with_loaded}
use Rattle.nrm_book.proofs.Sold.{no_booking, AreProducts, taken_on, sold_on-by_booking, sold_on-push, count-le-seats}

-- a leg that the product uses is one of its legs, so the seats left there are as many
covers : (inventory : Inventory) (product i : ℕ) (P : ℕ → Type 0) → All P (legs_of inventory product) → uses_leg inventory i product ≡ true → P i
covers inventory product i P all uses =
    let (k, leg, short, at, test) = Any-from_list_any (λ leg. eqb leg i) (legs_of inventory product) uses in
    let same : leg ≡ i = eqb-true leg i test in
    subst P (at ∙ same) (all k leg short)

pub seats-added : (inventory : Inventory) (bookings : List Booking) (b : Booking) (i : ℕ) → AreProducts inventory bookings → b.product < length inventory.legs
    → All (λ i. b.party ≤ left_on inventory bookings i) (legs_of inventory b.product) → sold_on inventory bookings i ≤ authorised_of inventory i → sold_on inventory (bookings ++ b ∷ []) i ≤ authorised_of inventory i
seats-added inventory bookings b i are short fits within =
    let more = sold_on-push inventory i bookings b are short in
    elim (cases_Bool (uses_leg inventory i b.product)) [
      | inl uses ↦
          let left : b.party ≤ authorised_of inventory i - sold_on inventory bookings i = covers inventory b.product i (λ i. b.party ≤ left_on inventory bookings i) fits uses in
          let taken : taken_on inventory i b ≡ b.party = rw uses refl in
          omega arith
      | inr apart ↦
          let taken : taken_on inventory i b ≡ 0 = rw apart refl in
          omega arith
    ]

-- with a booking that can be loaded
pub IsBook-loaded : (book : BookValue) (b : Booking) → IsBook book → IsLoadable book b → IsBook (with_loaded book b)
IsBook-loaded book b is can = record {
  inventory = is.inventory;
  next = omega (arith, is.next, can.number, can.low);
  rising = all_pairs_push (λ (earlier later : Booking). earlier.number < later.number) book.bookings b is.rising
      (λ k d at. omega (arith, (is.numbers k d at).1, can.number));
  numbers = All-push (λ (booking : Booking). (1 ≤ booking.number) × (booking.number < b.number + 1)) book.bookings b
      (λ k d at. let old = is.numbers k d at in (old.0, omega (arith, old.1, can.number))) (omega (arith, is.next, can.number), omega arith);
  parties = All-push (λ (booking : Booking). IsInRange 1 999 booking.party) book.bookings b is.parties can.party;
  products = All-push (λ (booking : Booking). booking.product < length book.inventory.legs) book.bookings b is.products can.product;
  seats = λ i at. seats-added book.inventory book.bookings b i is.products can.product can.seats (is.seats i at);
}

-- without a booking no more is sold
pub sold_on-without : (inventory : Inventory) (bookings : List Booking) (number i : ℕ) → AreProducts inventory bookings → sold_on inventory (without bookings number) i ≤ sold_on inventory bookings i
sold_on-without inventory bookings number i are =
    let before = sold_on-by_booking inventory i bookings are in
    let after = sold_on-by_booking inventory i (without bookings number) (All-filter (λ (booking : Booking). not (booking.number == number)) (λ (booking : Booking). booking.product < length inventory.legs) bookings are) in
    let fewer = sum_by-filter_both (λ (booking : Booking). not (booking.number == number)) (λ (booking : Booking). not (not (booking.number == number))) (λ _. refl) (taken_on inventory i) bookings in
    omega arith

pub IsBook-without : (book : BookValue) (number : ℕ) → IsBook book → IsBook (record book { bookings = without book.bookings number })
IsBook-without book number is = record {
  inventory = is.inventory;
  next = is.next;
  rising = AllPairs-filter (λ (earlier later : Booking). earlier.number < later.number) (λ (booking : Booking). not (booking.number == number)) book.bookings is.rising;
  numbers = All-filter (λ (booking : Booking). not (booking.number == number)) (λ (booking : Booking). (1 ≤ booking.number) × (booking.number < book.next)) book.bookings is.numbers;
  parties = All-filter (λ (booking : Booking). not (booking.number == number)) (λ (booking : Booking). IsInRange 1 999 booking.party) book.bookings is.parties;
  products = All-filter (λ (booking : Booking). not (booking.number == number)) (λ (booking : Booking). booking.product < length book.inventory.legs) book.bookings is.products;
  seats = λ i at. omega (arith, sold_on-without book.inventory book.bookings number i is.products, is.seats i at);
}

-- a filter that each element passes keeps them all
filter-all : {X : Type 0} (p : X → Bool) (xs : List X) → All (λ x. p x ≡ true) xs → filter p xs ≡ xs
filter-all p [] all = refl
filter-all p (x ∷ xs) all =
    let first : p x ≡ true = All-head (λ x. p x ≡ true) x xs all in
    rw first (ap (λ ys. x ∷ ys) (filter-all p xs (All-tail (λ x. p x ≡ true) x xs all)))

removed-at : (bookings : List Booking) (k number : ℕ) → NumbersRise bookings → k < length bookings → (get_or bookings k no_booking).number ≡ number → remove bookings k ≡ without bookings number
removed-at [] k number rise short has = absurd (omega arith)
removed-at (b ∷ bs) zero number rise short has =
    let same : (b.number == number) ≡ true = grind (arith, nat_tests) in
    let others : All (λ (booking : Booking). not (booking.number == number) ≡ true) bs =
    λ k d at.
    let more : b.number < (get_or bs k d).number = rise 0 (suc k) d (omega arith) (omega arith) in
    let other : ((get_or bs k d).number == number) ≡ false = grind (arith, nat_tests) in
    rw other refl in
    rw same (sym (filter-all (λ (booking : Booking). not (booking.number == number)) bs others))
removed-at (b ∷ bs) (suc k) number rise short has =
    let rest = removed-at bs k number (λ i j d low high. rise (suc i) (suc j) d (omega arith) (omega arith)) (omega arith) has in
    let less : b.number < (get_or bs k no_booking).number = rise 0 (suc k) no_booking (omega arith) short in
    let other : (b.number == number) ≡ false = grind (arith, nat_tests) in
    rw other (ap (λ (ys : List Booking). b ∷ ys) rest)

-- where the numbers rise, only one booking has the number
pub removed-is : (bookings : List Booking) (k number : ℕ) → NumbersRise bookings → position (λ (booking : Booking). booking.number == number) bookings ≡ Some k → remove bookings k ≡ without bookings number
removed-is bookings k number rise at =
    let (short, has, before) = position-Some (λ (booking : Booking). booking.number == number) bookings k no_booking at in
    removed-at bookings k number rise short (eqb-true _ number has)

pub none-past : (test : Bool) (place : ℕ) → cond test (Some place) None ≡ None → test ≡ false
none-past true place none = absurd (none-some place (sym none))
none-past false place none = refl

-- that of the place
pub found-is : (bookings : List Booking) (k number : ℕ) (b : Booking) → position (λ (booking : Booking). booking.number == number) bookings ≡ Some k → b ≡ get_or bookings k b → Some b ≡ booking_numbered bookings number
found-is bookings k number b at read =
    let (short, has, before) = position-Some (λ (booking : Booking). booking.number == number) bookings k b at in
    let (test, place) = cond_some (nat_lt (position_or_len (λ (booking : Booking). booking.number == number) bookings) (length bookings)) (position_or_len (λ (booking : Booking). booking.number == number) bookings) k at in
    sym (find_at (λ (booking : Booking). booking.number == number) bookings ∙ ap (slice_get bookings) place ∙ slice_get_read bookings (length bookings) k b refl short read)

-- none has it
pub absent-is : (bookings : List Booking) (number : ℕ) → position (λ (booking : Booking). booking.number == number) bookings ≡ None → (None ≡ booking_numbered bookings number) × (bookings ≡ without bookings number)
absent-is bookings number at =
    let past = none-past (nat_lt (position_or_len (λ (booking : Booking). booking.number == number) bookings) (length bookings)) (position_or_len (λ (booking : Booking). booking.number == number) bookings) at in
    let end : length bookings ≤ position_or_len (λ (booking : Booking). booking.number == number) bookings = grind (arith, nat_tests) in
    let others : All (λ (booking : Booking). not (booking.number == number) ≡ true) bookings =
    λ k d short.
    let other = fails_before_first (λ (booking : Booking). booking.number == number) bookings k d (omega arith) in
    rw other refl in (
      sym (find_at (λ (booking : Booking). booking.number == number) bookings ∙ slice_get_past bookings (position_or_len (λ (booking : Booking). booking.number == number) bookings) end),
      sym (filter-all (λ (booking : Booking). not (booking.number == number)) bookings others),
    )

-- the booking with a number has a place, and the others stay
module _ (bookings : List Booking) (number : ℕ) (b : Booking) (rise : NumbersRise bookings) (live : Some b ≡ booking_numbered bookings number) where
  pub live-place : (k : ℕ) × (k < length bookings) × (b ≡ get_or bookings k b) × (remove bookings k ≡ without bookings number)
  live-place = by (position (λ (booking : Booking). booking.number == number) bookings) refl
    where
      by : (o : Option ℕ) → position (λ (booking : Booking). booking.number == number) bookings ≡ o
          → (k : ℕ) × (k < length bookings) × (b ≡ get_or bookings k b) × (remove bookings k ≡ without bookings number)
      by None e = absurd (none-some b ((absent-is bookings number e).0 ∙ sym live))
      by (Some k) e =
          let (short, has, before) = position-Some (λ (booking : Booking). booking.number == number) bookings k b e in
          let found : Some (get_or bookings k b) ≡ Some b = found-is bookings k number (get_or bookings k b) e (get_or_default bookings k b (get_or bookings k b) short) ∙ sym live in
          let same : b ≡ get_or bookings k b = cc in
          (k, short, same, removed-is bookings k number rise e)

-- and its product is one of the book's
pub sold-short : (book : BookValue) (number : ℕ) (b : Booking) → IsBook book → Some b ≡ booking_numbered book.bookings number → b.product < length book.inventory.legs
sold-short book number b is live =
    let (k, short, read, gone) = live-place book.bookings number b is.rising live in
    subst (λ (b : Booking). b.product < length book.inventory.legs) (sym read) (is.products k b short)

-- the book with it, of the parts that the list's own call tells
pub IsBook-grown : (book now : BookValue) (b : Booking) (bookings : List Booking) (next : ℕ) → book ≡ now → IsBook book → IsLoadable now b → bookings ≡ book.bookings ++ b ∷ [] → next ≡ b.number + 1
    → IsBook (record { inventory = book.inventory; bookings = bookings; next = next })
IsBook-grown book now b bookings next same is can are above =
    let here : IsLoadable book b = subst (λ (book : BookValue). IsLoadable book b) (sym same) can in
    let whole : ◌≡◌ {A = BookValue} (with_loaded book b) (record { inventory = book.inventory; bookings = bookings; next = next }) =
    λ k. record { inventory = book.inventory; bookings = sym are k; next = sym above k } in
    subst IsBook whole (IsBook-loaded book b is here)

-- and so there was room for it
pub room-left : (book now : BookValue) (b : Booking) → book ≡ now → IsBook book → IsLoadable now b → length book.bookings < sum book.inventory.authorised
room-left book now b same is can =
    let after = IsBook-grown book now b (book.bookings ++ b ∷ []) (b.number + 1) same is can refl refl in
    let count = count-le-seats (record { inventory = book.inventory; bookings = book.bookings ++ b ∷ []; next = b.number + 1 }) after in
    omega (arith, length-append book.bookings (b ∷ []))

-- the book after a cancellation, likewise
pub IsBook-removed : (book : BookValue) (number : ℕ) (bookings : List Booking) (next : ℕ) → IsBook book → bookings ≡ without book.bookings number → next ≡ book.next → IsBook (record { inventory = book.inventory; bookings = bookings; next = next })
IsBook-removed book number bookings next is are stays =
    let whole : ◌≡◌ {A = BookValue} (record book { bookings = without book.bookings number }) (record { inventory = book.inventory; bookings = bookings; next = next }) =
    λ k. record { inventory = book.inventory; bookings = sym are k; next = sym stays k } in
    subst IsBook whole (IsBook-without book number is)
