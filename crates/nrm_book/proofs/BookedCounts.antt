-- A booking that comes or goes, and the counts of the seats sold.
use Rattle.std.proofs.Common.{ℕ, ◌≡◌, ◌≢◌, ◌∙◌, ◌+◌, ◌-◌, ◌<◌, ◌≤◌, All, AllPairs, true, false, cond, eqb, slice_get, unwrap_or, List, [], ◌∷◌, ◌++◌, length, get_or, map, sum_by, Vec, refl, sym, ap, subst, zero-add, arith}
use Rattle.std.specs.List.{remove, slice_index}
use Rattle.std.specs.declared.alloc.Global.{Global}
use Rattle.std.proofs.lemmas.List.FromFn.{get_or-map-range_with_len, length-map-range_with_len}
use Rattle.std.proofs.lemmas.List.Sums.{sum_by-remove, sum_by_push}
use Rattle.std.proofs.lemmas.Option.{unwrap_or-slice_get}
use Rattle.nrm_model.specs.Inventory.{Inventory, authorised_of, legs_of, uses_leg}
use Rattle.nrm_book.specs.declared.booking.Booking.{Booking}
use Rattle.nrm_book.specs.Bookings.{sold_of, sold_on}
use Rattle.nrm_book.specs.Book.{BookValue, IsBook, IsInventory}
use Rattle.nrm_book.specs.Seats.{SeatsValue, CanFall, CanRise, changed, seats_sold}
use Rattle.nrm_book.proofs.CountChanges.{all-legs, one-product}
use Rattle.nrm_book.proofs.Revenues.{sold-within}
use Rattle.std.proofs.lemmas.Bool.{ne_eqb}
use Rattle.std.proofs.lemmas.Bool.Decides.{nat_tests}
use Rattle.nrm_book.proofs.Sold.{AreProducts, taken_on, sold_on-by_booking, sold_on-push, uses-each}

-- the legs of a product, as they were read
pub legs-read : (legs : List (Vec ℕ Global)) (read : List ℕ) (product : ℕ) {own : List (Vec ℕ Global)} → legs ≡ own → read ≡ unwrap_or (slice_get (map (λ (v : Vec ℕ Global). v.items) legs) product) []
    → read ≡ unwrap_or (slice_get (map (λ (v : Vec ℕ Global). v.items) own) product) []
legs-read legs read product are is = is ∙ ap (λ (legs : List (Vec ℕ Global)). unwrap_or (slice_get (map (λ (v : Vec ℕ Global). v.items) legs) product) []) are

-- a fact of each product's legs
pub of-legs : (inventory : Inventory) (P : List ℕ → Type 0) (product : ℕ) → All P inventory.legs → product < length inventory.legs → P (legs_of inventory product)
of-legs inventory P product all short = subst P (sym (unwrap_or-slice_get inventory.legs product [])) (all product [] short)

-- what is counted on a leg
pub counted-on : (inventory : Inventory) (bookings : List Booking) (sold : SeatsValue) (leg : ℕ) → sold ≡ seats_sold inventory bookings → leg < length inventory.authorised → (leg < length sold.by_leg) × (slice_index sold.by_leg leg ≡ sold_on inventory bookings leg)
counted-on inventory bookings sold leg is short =
    let Counts : SeatsValue → Type 0 = λ sold. (leg < length sold.by_leg) × (slice_index sold.by_leg leg ≡ sold_on inventory bookings leg) in
    subst Counts (sym is) (omega (arith, length-map-range_with_len (sold_on inventory bookings) 0 (length inventory.authorised)), get_or-map-range_with_len (sold_on inventory bookings) 0 (length inventory.authorised) leg leg 0 short (zero-add leg))

-- and of a product
pub counted-of : (inventory : Inventory) (bookings : List Booking) (sold : SeatsValue) (product : ℕ) → sold ≡ seats_sold inventory bookings → product < length inventory.legs → (product < length sold.by_product) × (slice_index sold.by_product product ≡ sold_of bookings product)
counted-of inventory bookings sold product is short =
    let Counts : SeatsValue → Type 0 = λ sold. (product < length sold.by_product) × (slice_index sold.by_product product ≡ sold_of bookings product) in
    subst Counts (sym is) (omega (arith, length-map-range_with_len (sold_of bookings) 0 (length inventory.legs)), get_or-map-range_with_len (sold_of bookings) 0 (length inventory.legs) product product 0 short (zero-add product))

-- the party of a booking, if it is of this product
abbrev pub party_of : ℕ → Booking → ℕ
party_of j booking = cond (eqb booking.product j) booking.party 0

module _ (inventory : Inventory) (few many : List Booking) (b : Booking) (is : IsInventory inventory) (short : b.product < length inventory.legs) (more : (i : ℕ) → sold_on inventory many i ≡ sold_on inventory few i + taken_on inventory i b)
    (of_product : (j : ℕ) → sold_of many j ≡ sold_of few j + party_of j b) where
  own-party : sold_of many b.product ≡ sold_of few b.product + b.party
  own-party =
      let same : eqb b.product b.product ≡ true = grind (arith, nat_tests) in
      let own : party_of b.product b ≡ b.party = rw same refl in
      of_product b.product ∙ ap (λ n. sold_of few b.product + n) own

  other-party : (j : ℕ) → j ≢ b.product → sold_of few j ≡ sold_of many j
  other-party j other =
      let no : eqb b.product j ≡ false = ne_eqb b.product j (λ e. other (sym e)) in
      let none : party_of j b ≡ 0 = rw no refl in
      omega (arith, of_product j)

  low : All (λ i. i < length inventory.authorised) (legs_of inventory b.product)
  low = of-legs inventory (λ (legs : List ℕ). All (λ i. i < length inventory.authorised) legs) b.product is.legs short

  one-party : (i : ℕ) → uses_leg inventory i b.product ≡ true → sold_on inventory many i ≡ sold_on inventory few i + b.party
  one-party i uses =
      let taken : taken_on inventory i b ≡ b.party = rw uses refl in
      more i ∙ ap (λ n. sold_on inventory few i + n) taken

  no-party : (i : ℕ) → uses_leg inventory i b.product ≡ false → sold_on inventory many i ≡ sold_on inventory few i
  no-party i apart =
      let taken : taken_on inventory i b ≡ 0 = rw apart refl in
      omega (arith, more i)

  -- one booking more
  pub sold-is : AllPairs (λ a b. a ≢ b) (legs_of inventory b.product) → changed (λ sold. sold + b.party) (seats_sold inventory few) (legs_of inventory b.product) b.product ≡ seats_sold inventory many
  sold-is distinct =
      let product = one-product few many (λ sold. sold + b.party) b.product (length inventory.legs) short other-party (sym own-party) in
      let legs = all-legs inventory few many (λ sold. sold + b.party) b.product distinct
      (λ k d at. (low k d at, sym (one-party (get_or (legs_of inventory b.product) k d) (uses-each inventory b.product k d at)))) (λ i apart. sym (no-party i apart)) in
      λ k. record { by_product = product k; by_leg = legs k }

  -- one booking less
  pub given-back-is : AllPairs (λ a b. a ≢ b) (legs_of inventory b.product) → changed (λ sold. sold - b.party) (seats_sold inventory many) (legs_of inventory b.product) b.product ≡ seats_sold inventory few
  given-back-is distinct =
      let product = one-product many few (λ sold. sold - b.party) b.product (length inventory.legs) short (λ j other. sym (other-party j other)) (omega (arith, own-party)) in
      let legs = all-legs inventory many few (λ sold. sold - b.party) b.product distinct
      (λ k d at. (low k d at, omega (arith, one-party (get_or (legs_of inventory b.product) k d) (uses-each inventory b.product k d at)))) (λ i apart. no-party i apart) in
      λ k. record { by_product = product k; by_leg = legs k }

  -- and there is enough to give back
  pub can-fall : (sold : SeatsValue) → sold ≡ seats_sold inventory many → CanFall sold.by_product b.product b.party × All (λ i. CanFall sold.by_leg i b.party) (legs_of inventory b.product)
  can-fall sold are =
      let own = counted-of inventory many sold b.product are short in (
        record { there = own.0; sold = omega (arith, own.1, own-party) },
        λ k d at.
            let here = counted-on inventory many sold (get_or (legs_of inventory b.product) k d) are (low k d at) in
            let party = one-party (get_or (legs_of inventory b.product) k d) (uses-each inventory b.product k d at) in
            record { there = here.0; sold = omega (arith, here.1, party) },
      )

-- a party fits each count
pub can-rise : (book : BookValue) (sold : SeatsValue) (product party : ℕ) → IsBook book → sold ≡ seats_sold book.inventory book.bookings → product < length book.inventory.legs → party ≤ 999
    → CanRise sold.by_product product party × All (λ i. CanRise sold.by_leg i party) (legs_of book.inventory product)
can-rise book sold product party is are short sized =
    let low = of-legs book.inventory (λ (legs : List ℕ). All (λ i. i < length book.inventory.authorised) legs) product is.inventory.legs short in
    let some = of-legs book.inventory (λ (legs : List ℕ). 1 ≤ length legs) product is.inventory.some_leg short in
    let own = counted-of book.inventory book.bookings sold product are short in
    let few = sold-within book (get_or (legs_of book.inventory product) 0 0) product is (low 0 0 some) (uses-each book.inventory product 0 0 some) in (
      record { there = own.0; fits = omega (arith, own.1, few) },
      λ k d at.
          let here = counted-on book.inventory book.bookings sold (get_or (legs_of book.inventory product) k d) are (low k d at) in
          let within = is.seats (get_or (legs_of book.inventory product) k d) (low k d at) in
          let seats : authorised_of book.inventory (get_or (legs_of book.inventory product) k d) ≤ 999 = is.inventory.authorised (get_or (legs_of book.inventory product) k d) 0 (low k d at) in
          record { there = here.0; fits = omega (arith, here.1, within, seats) },
    )

-- the seats of a booking that went
pub sold_on-removed : (inventory : Inventory) (bookings items : List Booking) (k : ℕ) (b : Booking) → AreProducts inventory bookings → AreProducts inventory items → items ≡ remove bookings k → k < length bookings → b ≡ get_or bookings k b
    → (i : ℕ) → sold_on inventory bookings i ≡ sold_on inventory items i + taken_on inventory i b
sold_on-removed inventory bookings items k b are left less short read i =
    let before = sold_on-by_booking inventory i bookings are in
    let after = sold_on-by_booking inventory i items left in
    let own : taken_on inventory i b ≡ taken_on inventory i (get_or bookings k b) = ap (taken_on inventory i) read in
    let gone = sum_by-remove (taken_on inventory i) bookings k b short in
    let all = ap (sum_by (taken_on inventory i)) less in
    omega arith

-- ---- of a book
module _ (book : BookValue) (sold : SeatsValue) (product party : ℕ) (legs : List ℕ) (is : IsBook book) (are : sold ≡ seats_sold book.inventory book.bookings) (apart : All (λ (legs : List ℕ). AllPairs (λ a b. a ≢ b) legs) book.inventory.legs)
    (short : product < length book.inventory.legs) (own : legs ≡ legs_of book.inventory product) where
  -- a party can be sold
  pub can-sell : party ≤ 999 → AllPairs (λ a b. a ≢ b) legs × CanRise sold.by_product product party × All (λ i. CanRise sold.by_leg i party) legs
  can-sell sized =
      let P : List ℕ → Type 0 = λ legs. AllPairs (λ a b. a ≢ b) legs × CanRise sold.by_product product party × All (λ i. CanRise sold.by_leg i party) legs in
      let can = can-rise book sold product party is are short sized in
      subst P (sym own) (of-legs book.inventory (λ (legs : List ℕ). AllPairs (λ a b. a ≢ b) legs) product apart short, can.0, can.1)

-- what is counted after a sale
pub sold-next : (book : BookValue) (sold next : SeatsValue) (b : Booking) (legs : List ℕ) (items : List Booking) → IsBook book → sold ≡ seats_sold book.inventory book.bookings → All (λ (legs : List ℕ). AllPairs (λ a b. a ≢ b) legs) book.inventory.legs
    → b.product < length book.inventory.legs → legs ≡ legs_of book.inventory b.product → next ≡ changed (λ sold. sold + b.party) sold legs b.product → items ≡ book.bookings ++ b ∷ [] → next ≡ seats_sold book.inventory items
sold-next book sold next b legs items is are apart short own changes pushed =
    let more : (i : ℕ) → sold_on book.inventory (book.bookings ++ b ∷ []) i ≡ sold_on book.inventory book.bookings i + taken_on book.inventory i b = λ i. sold_on-push book.inventory i book.bookings b is.products short in
    let of_product : (j : ℕ) → sold_of (book.bookings ++ b ∷ []) j ≡ sold_of book.bookings j + party_of j b = λ j. sum_by_push (party_of j) book.bookings b in
    let distinct = of-legs book.inventory (λ (legs : List ℕ). AllPairs (λ a b. a ≢ b) legs) b.product apart short in
    let is_so = sold-is book.inventory book.bookings (book.bookings ++ b ∷ []) b is.inventory short more of_product distinct in
    changes ∙ (λ k. changed (λ sold. sold + b.party) (are k) (own k) b.product) ∙ is_so ∙ ap (seats_sold book.inventory) (sym pushed)

-- a booking that was read can be given back, and what is counted then
module _ (book : BookValue) (sold : SeatsValue) (k : ℕ) (b : Booking) (legs : List ℕ) (items : List Booking) (is : IsBook book) (are : sold ≡ seats_sold book.inventory book.bookings) (apart : All (λ (legs : List ℕ). AllPairs (λ a b. a ≢ b) legs) book.inventory.legs)
    (at : k < length book.bookings) (read : b ≡ get_or book.bookings k b) (own : legs ≡ legs_of book.inventory b.product) (less : items ≡ remove book.bookings k) (left : AreProducts book.inventory items) where
  short : b.product < length book.inventory.legs
  short = subst (λ (b : Booking). b.product < length book.inventory.legs) (sym read) (is.products k b at)

  more : (i : ℕ) → sold_on book.inventory book.bookings i ≡ sold_on book.inventory items i + taken_on book.inventory i b
  more = sold_on-removed book.inventory book.bookings items k b is.products left less at read

  of_product : (j : ℕ) → sold_of book.bookings j ≡ sold_of items j + party_of j b
  of_product j =
      let own : party_of j b ≡ party_of j (get_or book.bookings k b) = ap (party_of j) read in
      let gone = sum_by-remove (party_of j) book.bookings k b at in
      let all = ap (sum_by (party_of j)) less in
      omega arith

  distinct : AllPairs (λ a b. a ≢ b) (legs_of book.inventory b.product)
  distinct = of-legs book.inventory (λ (legs : List ℕ). AllPairs (λ a b. a ≢ b) legs) b.product apart short

  pub can-give_back : AllPairs (λ a b. a ≢ b) legs × CanFall sold.by_product b.product b.party × All (λ i. CanFall sold.by_leg i b.party) legs
  can-give_back =
      let P : List ℕ → Type 0 = λ legs. AllPairs (λ a b. a ≢ b) legs × CanFall sold.by_product b.product b.party × All (λ i. CanFall sold.by_leg i b.party) legs in
      let can = can-fall book.inventory items book.bookings b is.inventory short more of_product sold are in
      subst P (sym own) (distinct, can.0, can.1)

  pub given_back-next : (next : SeatsValue) → next ≡ changed (λ sold. sold - b.party) sold legs b.product → next ≡ seats_sold book.inventory items
  given_back-next next changes =
      changes ∙ (λ k. changed (λ sold. sold - b.party) (are k) (own k) b.product) ∙ given-back-is book.inventory items book.bookings b is.inventory short more of_product distinct
