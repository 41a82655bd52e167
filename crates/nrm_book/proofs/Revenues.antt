-- The sums over the list: their bounds, and what one booking more and one less makes of the revenue.
use Rattle.std.proofs.Common.{ℕ, ◌≡◌, ◌∙◌, ◌+◌, ◌-◌, ◌*◌, ◌<◌, ◌≤◌, All, true, cond, eqb, List, [], ◌∷◌, ◌++◌, length, get_or, sum_by, inl, inr, sym, ap, subst, arith}
use Rattle.std.specs.List.{remove, slice_index}
use Rattle.std.proofs.Math.Nat.{mul-le-mul_left}
use Rattle.std.proofs.lemmas.Bool.{cases_Bool, eqb-true}
use Rattle.std.proofs.lemmas.List.{get_or_read}
use Rattle.std.proofs.lemmas.List.Sums.{sum_by-le, sum_by-le-sum_by, sum_by_push, sum_by-remove}
use Rattle.nrm_model.specs.Inventory.{Inventory, authorised_of, fare_of, uses_leg}
use Rattle.nrm_book.specs.declared.booking.Booking.{Booking}
use Rattle.nrm_book.specs.Bookings.{sold_of, worth_of, revenue_of}
use Rattle.nrm_book.specs.Book.{BookValue, IsBook}
use Rattle.nrm_book.proofs.Sold.{taken_on, sold_on-by_booking, count-le-seats}

-- the number that was read at a place, where the list has another name
pub number-read : (xs ys : List ℕ) (i x : ℕ) → xs ≡ ys → i < length ys → x ≡ get_or xs i x → x ≡ get_or ys i 0
number-read xs ys i x same short read =
    let here : x ≡ get_or ys i x = subst (λ (zs : List ℕ). x ≡ get_or zs i x) same read in
    get_or_read ys i x short here 0

-- the seats sold on a leg are no more than it has authorised
pub taken-within : (book : BookValue) (leg : ℕ) → IsBook book → leg < length book.inventory.authorised → sum_by (taken_on book.inventory leg) book.bookings ≤ authorised_of book.inventory leg
taken-within book leg is short = rw (sym (sold_on-by_booking book.inventory leg book.bookings is.products)) (is.seats leg short)

-- the seats sold of a product that uses a leg are among those sold on the leg
own-among : (inventory : Inventory) (leg product : ℕ) → uses_leg inventory leg product ≡ true → (b : Booking) → cond (eqb b.product product) b.party 0 ≤ taken_on inventory leg b
own-among inventory leg product uses b = elim (cases_Bool (eqb b.product product)) [
  | inl e ↦
      let same : b.product ≡ product = eqb-true b.product product e in
      let used : uses_leg inventory leg b.product ≡ true = subst (λ j. uses_leg inventory leg j ≡ true) (sym same) uses in
      rw (e, used) (omega arith)
  | inr e ↦ rw e (omega arith)
]

pub sold-within : (book : BookValue) (leg product : ℕ) → IsBook book → leg < length book.inventory.authorised → uses_leg book.inventory leg product ≡ true → sold_of book.bookings product ≤ 999
sold-within book leg product is short uses =
    let among = sum_by-le-sum_by (λ (booking : Booking). cond (eqb booking.product product) booking.party 0) (taken_on book.inventory leg) book.bookings (own-among book.inventory leg product uses) in
    let within = taken-within book leg is short in
    let seats : authorised_of book.inventory leg ≤ 999 = is.inventory.authorised leg 0 short in
    omega arith

-- what a booking is worth, and what they all are, at most
worth-le : (party fare : ℕ) → party ≤ 999 → fare ≤ 99999999 → party * fare ≤ 99899999001
worth-le party fare sized cheap = omega (arith, mul-le-mul_left party cheap)

pub revenue-within : (book : BookValue) → IsBook book → revenue_of book.inventory book.bookings ≤ 6387206336127936
revenue-within book is =
    let worth : All (λ (booking : Booking). worth_of book.inventory booking ≤ 99899999001) book.bookings =
    λ k d short.
    let priced : (get_or book.bookings k d).product < length book.inventory.fares = omega (arith, is.products k d short, is.inventory.fare_count) in
    worth-le (get_or book.bookings k d).party (fare_of book.inventory (get_or book.bookings k d).product) (is.parties k d short).1 (is.inventory.fares (get_or book.bookings k d).product 0 priced) in
    let each = sum_by-le (worth_of book.inventory) 99899999001 book.bookings worth in
    let count = count-le-seats book is in
    let seats = sum_by-le (λ (seats : ℕ). seats) 999 book.inventory.authorised is.inventory.authorised in
    omega (arith, is.inventory.leg_count)

-- what they are worth with one booking more, and with one less
pub revenue-more : (book : BookValue) (items : List Booking) (b : Booking) (fares : List ℕ) (revenue worth : ℕ) → IsBook book → revenue ≡ revenue_of book.inventory book.bookings → items ≡ book.bookings ++ b ∷ []
    → fares ≡ book.inventory.fares → worth ≡ b.party * slice_index fares b.product → revenue + worth ≡ revenue_of book.inventory items
revenue-more book items b fares revenue worth _ kept more priced is =
    let own : worth ≡ worth_of book.inventory b = is ∙ ap (λ (fares : List ℕ). b.party * slice_index fares b.product) priced in
    let all = ap (revenue_of book.inventory) more in
    let pushed = sum_by_push (worth_of book.inventory) book.bookings b in
    omega arith

pub revenue-less : (book : BookValue) (items : List Booking) (k : ℕ) (b : Booking) (fares : List ℕ) (revenue worth : ℕ) → IsBook book → revenue ≡ revenue_of book.inventory book.bookings → items ≡ remove book.bookings k
    → k < length book.bookings → b ≡ get_or book.bookings k b → fares ≡ book.inventory.fares → worth ≡ b.party * slice_index fares b.product → (worth ≤ revenue) × (revenue - worth ≡ revenue_of book.inventory items)
revenue-less book items k b fares revenue worth _ kept less short read priced is =
    let own : worth ≡ worth_of book.inventory b = is ∙ ap (λ (fares : List ℕ). b.party * slice_index fares b.product) priced in
    let there : worth_of book.inventory b ≡ worth_of book.inventory (get_or book.bookings k b) = ap (worth_of book.inventory) read in
    let all = ap (revenue_of book.inventory) less in
    let removed = sum_by-remove (worth_of book.inventory) book.bookings k b short in
    (omega arith, omega arith)
