-- The seats sold on a leg, booking by booking.
use Rattle.std.proofs.Common.{ℕ, ◌≡◌, ◌∙◌, ◌+◌, ◌<◌, ◌≤◌, All, true, cond, eqb, List, [], ◌∷◌, ◌++◌, length, get_or, sum, sum_by, refl, sym, zero-add, arith}
use Rattle.std.specs.Int.{IsInRange}
use Rattle.std.specs.List.{range_with_len}
use Rattle.std.proofs.lemmas.Bool.Decides.{nat_tests}
use Rattle.std.proofs.lemmas.List.Elements.{All-head, All-tail, All-push}
use Rattle.std.proofs.lemmas.List.Folds.{list_any_at}
use Rattle.std.proofs.lemmas.List.FromFn.{length-range_with_len, get_or-range_with_len}
use Rattle.std.proofs.lemmas.List.Sums.{sum_by-cons, sum_by_push, get_or-le-sum_by}
use Rattle.std.proofs.lemmas.Option.{unwrap_or-slice_get}
use Rattle.nrm_model.specs.Inventory.{Inventory, authorised_of, legs_of, uses_leg, products_on}
use Rattle.nrm_book.specs.declared.booking.Booking.{Booking}
use Rattle.nrm_book.specs.Bookings.{sold_of, sold_on}
use Rattle.nrm_book.specs.Book.{BookValue, IsBook, IsInventory}
use Rattle.nrm_book.proofs.Sums.{sum-plus, sum-same, sum-zero, one-hit, sum-le, sum-places}

-- what stands past the end of a list of bookings
abbrev pub no_booking : Booking
no_booking = record { number = 0; product = 0; party = 0 }

-- the seats that a booking takes of a leg
abbrev pub taken_on : Inventory → ℕ → Booking → ℕ
taken_on inventory i booking = cond (uses_leg inventory i booking.product) booking.party 0

-- the bookings' products are products of the inventory
abbrev pub AreProducts : Inventory → List Booking → Type 0
AreProducts inventory bookings = All (λ (booking : Booking). booking.product < length inventory.legs) bookings

-- the seats sold on a leg are those that the bookings take of it
pub sold_on-by_booking : (inventory : Inventory) (i : ℕ) (bookings : List Booking) → AreProducts inventory bookings → sold_on inventory bookings i ≡ sum_by (taken_on inventory i) bookings
sold_on-by_booking inventory i [] are = sum-zero (products_on inventory i)
sold_on-by_booking inventory i (b ∷ bs) are =
    let is : b.product < length inventory.legs = All-head (λ (booking : Booking). booking.product < length inventory.legs) b bs are in
    let rest = sold_on-by_booking inventory i bs (All-tail (λ (booking : Booking). booking.product < length inventory.legs) b bs are) in
    let split = sum-same (sold_of (b ∷ bs)) (λ j. cond (eqb b.product j) b.party 0 + sold_of bs j) (products_on inventory i)
    (λ j. sum_by-cons (λ (booking : Booking). cond (eqb booking.product j) booking.party 0) b bs) in
    let apart = sum-plus (λ j. cond (eqb b.product j) b.party 0) (sold_of bs) (products_on inventory i) in
    let own = one-hit (uses_leg inventory i) b.product b.party 0 (length inventory.legs) (omega arith) (omega arith) in
    let whole = sum_by-cons (taken_on inventory i) b bs in
    omega arith

-- one more booking
pub sold_on-push : (inventory : Inventory) (i : ℕ) (bookings : List Booking) (b : Booking) → AreProducts inventory bookings → b.product < length inventory.legs → sold_on inventory (bookings ++ b ∷ []) i ≡ sold_on inventory bookings i + taken_on inventory i b
sold_on-push inventory i bookings b are is =
    let before = sold_on-by_booking inventory i bookings are in
    let after = sold_on-by_booking inventory i (bookings ++ b ∷ []) (All-push (λ (booking : Booking). booking.product < length inventory.legs) bookings b are is) in
    let more = sum_by_push (taken_on inventory i) bookings b in
    omega arith

-- a product uses each of its legs
pub uses-each : (inventory : Inventory) (product : ℕ) → All (λ i. uses_leg inventory i product ≡ true) (legs_of inventory product)
uses-each inventory product k d short =
    let same : eqb (get_or (legs_of inventory product) k d) (get_or (legs_of inventory product) k d) ≡ true = grind (arith, nat_tests) in
    list_any_at (λ leg. eqb leg (get_or (legs_of inventory product) k d)) (legs_of inventory product) k d short same

-- a booking takes a seat of a leg that its product uses
takes-one : (inventory : Inventory) (b : Booking) (i : ℕ) → i < length inventory.authorised → uses_leg inventory i b.product ≡ true → 1 ≤ b.party → 1 ≤ sum_by (λ i. taken_on inventory i b) (range_with_len 0 (length inventory.authorised))
takes-one inventory b i low uses some =
    let term = get_or-le-sum_by (λ i. taken_on inventory i b) (range_with_len 0 (length inventory.authorised)) i 0 (rw length-range_with_len low) in
    let place : get_or (range_with_len 0 (length inventory.authorised)) i 0 ≡ i = get_or-range_with_len 0 (length inventory.authorised) i 0 low ∙ zero-add i in
    let taken : taken_on inventory i b ≡ b.party = rw uses refl in
    let here : taken_on inventory (get_or (range_with_len 0 (length inventory.authorised)) i 0) b ≡ b.party = rw place taken in
    omega arith

-- a booking takes a seat of some leg
takes-some : (inventory : Inventory) (b : Booking) → IsInventory inventory → b.product < length inventory.legs → 1 ≤ b.party → 1 ≤ sum_by (λ i. taken_on inventory i b) (range_with_len 0 (length inventory.authorised))
takes-some inventory b is short some =
    let legs = legs_of inventory b.product in
    let at : legs_of inventory b.product ≡ get_or inventory.legs b.product [] = unwrap_or-slice_get inventory.legs b.product [] in
    let has : 1 ≤ length (legs_of inventory b.product) = rw at (is.some_leg b.product [] short) in
    let first = get_or (legs_of inventory b.product) 0 0 in
    let low : get_or (legs_of inventory b.product) 0 0 < length inventory.authorised = rw at (is.legs b.product [] short 0 0 (rw at at has)) in
    takes-one inventory b (get_or (legs_of inventory b.product) 0 0) low (uses-each inventory b.product 0 0 (omega arith)) some

-- so there are no more bookings than seats sold
count-within : (inventory : Inventory) (bookings : List Booking) → IsInventory inventory → AreProducts inventory bookings → All (λ (booking : Booking). IsInRange 1 999 booking.party) bookings → length bookings ≤ sum_by (λ i. sum_by (taken_on inventory i) bookings) (range_with_len 0 (length inventory.authorised))
count-within inventory [] is are parties = omega arith
count-within inventory (b ∷ bs) is are parties =
    let legs = range_with_len 0 (length inventory.authorised) in
    let short : b.product < length inventory.legs = All-head (λ (booking : Booking). booking.product < length inventory.legs) b bs are in
    let sized : IsInRange 1 999 b.party = All-head (λ (booking : Booking). IsInRange 1 999 booking.party) b bs parties in
    let rest = count-within inventory bs is (All-tail (λ (booking : Booking). booking.product < length inventory.legs) b bs are) (All-tail (λ (booking : Booking). IsInRange 1 999 booking.party) b bs parties) in
    let own = takes-some inventory b is short (omega arith) in
    let split = sum-same (λ i. sum_by (taken_on inventory i) (b ∷ bs)) (λ i. taken_on inventory i b + sum_by (taken_on inventory i) bs) (range_with_len 0 (length inventory.authorised))
    (λ i. sum_by-cons (taken_on inventory i) b bs) in
    let apart = sum-plus (λ i. taken_on inventory i b) (λ i. sum_by (taken_on inventory i) bs) (range_with_len 0 (length inventory.authorised)) in
    omega arith

-- and no more than authorised seats
pub count-le-seats : (book : BookValue) → IsBook book → length book.bookings ≤ sum book.inventory.authorised
count-le-seats book is =
    let count = count-within book.inventory book.bookings is.inventory is.products is.parties in
    let each = sum-le (λ i. sum_by (taken_on book.inventory i) book.bookings) (authorised_of book.inventory) (length book.inventory.authorised)
    (λ i short. rw (sym (sold_on-by_booking book.inventory i book.bookings is.products)) (is.seats i short)) in
    let all = sum-places book.inventory.authorised in
    omega arith
