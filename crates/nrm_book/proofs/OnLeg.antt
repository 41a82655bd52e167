-- The products that use a leg, from one to the next, and the seats sold of each.
use Rattle.std.proofs.Common.{ℕ, zero, suc, ◌≡◌, ◌∙◌, ◌+◌, ◌-◌, ◌<◌, ◌==◌, Bool, true, false, cond, List, [], ◌∷◌, length, get_or, map, filter, slice_index, unwrap_or, slice_get, Vec, refl, sym, ap, arith}
use Rattle.std.specs.List.{list_any, range_with_len}
use Rattle.std.specs.declared.alloc.Global.{Global}
use Rattle.std.proofs.lemmas.List.{get_or-map, length-map}
use Rattle.std.proofs.lemmas.List.FromFn.{length-map-range_with_len}
use Rattle.std.proofs.lemmas.Option.{unwrap_or-slice_get}
use Rattle.nrm_model.specs.Inventory.{Inventory, uses_leg}
use Rattle.nrm_book.specs.declared.booking.Booking.{Booking}
use Rattle.nrm_book.specs.Bookings.{sold_of, sold_on_each}
use Rattle.nrm_book.specs.OnLeg.{sold_from, products_from, uses}
use Rattle.nrm_book.specs.Seats.{SeatsValue, seats_sold}
use Rattle.nrm_book.proofs.BookedCounts.{counted-of}

-- the products from one on, where it uses the leg or is passed over, as its legs were read
pub products-step : (legs : List (Vec ℕ Global)) (leg first product : ℕ) (read : Vec ℕ Global) (found : Bool) → product < length legs → read ≡ get_or legs product read → found ≡ list_any (λ other. other == leg) read.items
    → products_from (map (λ (v : Vec ℕ Global). v.items) legs) leg first ≡ products_from (map (λ (v : Vec ℕ Global). v.items) legs) leg product
    → products_from (map (λ (v : Vec ℕ Global). v.items) legs) leg first
    ≡ cond found (product ∷ products_from (map (λ (v : Vec ℕ Global). v.items) legs) leg (product + 1)) (products_from (map (λ (v : Vec ℕ Global). v.items) legs) leg (product + 1))
products-step legs leg first product read found short is tested so_far =
    let lists = map (λ (v : Vec ℕ Global). v.items) legs in
    let own : read.items ≡ unwrap_or (slice_get (map (λ (v : Vec ℕ Global). v.items) legs) product) [] =
    ap (λ (v : Vec ℕ Global). v.items) is ∙ sym (unwrap_or-slice_get lists product [] ∙ get_or-map (λ (v : Vec ℕ Global). v.items) legs product read [] short) in
    let uses_it : uses (map (λ (v : Vec ℕ Global). v.items) legs) leg product ≡ found = sym (tested ∙ ap (list_any (λ other. other == leg)) own) in
    let more : length lists - product ≡ suc (length lists - (product + 1)) = omega (arith, length-map legs (λ (v : Vec ℕ Global). v.items)) in
    so_far ∙ ap (λ n. filter (uses lists leg) (range_with_len product n)) more
    ∙ ap (λ (b : Bool). cond b (product ∷ products_from lists leg (product + 1)) (products_from lists leg (product + 1))) uses_it

-- ---- counts that are the seats sold
abbrev with_each : (ℕ → ℕ) → List ℕ → List (ℕ × ℕ)
with_each f xs = map (λ x. (x, f x)) xs

one-more : (f g : ℕ → ℕ) (taken : Bool) (k : ℕ) (more : List ℕ) → f k ≡ g k → with_each f more ≡ with_each g more → with_each f (cond taken (k ∷ more) more) ≡ with_each g (cond taken (k ∷ more) more)
one-more f g true k more own rest = rw own (ap (λ (pairs : List (ℕ × ℕ)). (k, g k) ∷ pairs) rest)
one-more f g false k more own rest = rest

with-same : (f g : ℕ → ℕ) (test : ℕ → Bool) (first count : ℕ) → ((k : ℕ) → k < first + count → f k ≡ g k) → with_each f (filter test (range_with_len first count)) ≡ with_each g (filter test (range_with_len first count))
with-same f g test first zero same = refl
with-same f g test first (suc count) same =
    one-more f g (test first) first (filter test (range_with_len (first + 1) count)) (same first (omega arith)) (with-same f g test (first + 1) count (λ k low. same k (omega arith)))

pub sold_from-is : (inventory : Inventory) (bookings : List Booking) (sold : SeatsValue) (leg : ℕ) → sold ≡ seats_sold inventory bookings → sold_from inventory.legs sold.by_product leg 0 ≡ sold_on_each inventory bookings leg
sold_from-is inventory bookings sold leg are =
    let all : length inventory.legs - 0 ≡ length inventory.legs = omega arith in
    ap (λ n. with_each (slice_index sold.by_product) (filter (uses_leg inventory leg) (range_with_len 0 n))) all
    ∙ with-same (slice_index sold.by_product) (sold_of bookings) (uses_leg inventory leg) 0 (length inventory.legs) (λ k short. (counted-of inventory bookings sold k are (omega arith)).1)

-- there are as many counts as products
pub counts-all : (inventory : Inventory) (bookings : List Booking) (sold : SeatsValue) → sold ≡ seats_sold inventory bookings → length sold.by_product ≡ length inventory.legs
counts-all inventory bookings sold are = ap (λ (s : SeatsValue). length s.by_product) are ∙ length-map-range_with_len (sold_of bookings) 0 (length inventory.legs)
