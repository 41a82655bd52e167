-- The inventory of a network, and the empty book of it.
use Rattle.std.proofs.Common.{ℕ, ◌≡◌, ◌≢◌, ◌∙◌, ◌<◌, ◌≤◌, All, AllPairs, List, [], length, get_or, sum, sym, ap, subst, arith}
use Rattle.std.proofs.lemmas.List.{length-map}
use Rattle.std.proofs.lemmas.List.Elements.{All-map}
use Rattle.std.proofs.lemmas.List.Sums.{sum_by-le}
use Rattle.nrm_model.specs.declared.leg.Leg.{Leg}
use Rattle.nrm_model.specs.declared.product.Product.{Product}
use Rattle.nrm_model.specs.Network.{NetworkValue}
use Rattle.nrm_model.specs.Limits.{IsNetwork}
use Rattle.nrm_model.specs.Inventory.{Inventory, inventory_of}
use Rattle.nrm_book.specs.declared.booking.Booking.{Booking}
use Rattle.nrm_book.specs.Book.{BookValue, IsBook, IsInventory}
use Rattle.nrm_book.specs.Seats.{SeatsValue, seats_sold}
use Rattle.nrm_book.proofs.Sold.{sold_on-by_booking}

-- the inventory of a network is within its limits
pub IsInventory-of : (net : NetworkValue) → IsNetwork net → IsInventory (inventory_of net)
IsInventory-of net is =
    let seats = length-map net.legs (λ (leg : Leg). leg.authorised) in
    let fares = length-map net.products (λ (product : Product). product.fare) in
    let legs = length-map net.products (λ (product : Product). product.legs) in
    record {
      leg_count = omega (arith, is.leg_count);
      authorised = All-map (λ seats. seats ≤ 999) (λ (leg : Leg). leg.authorised) net.legs (λ k d short. (is.legs k d short).authorised);
      product_count = omega (arith, is.product_count);
      fare_count = fares ∙ sym legs;
      fares = All-map (λ fare. fare ≤ 99999999) (λ (product : Product). product.fare) net.products (λ k d short. (is.products k d short).fare.1);
      some_leg = All-map (λ (legs : List ℕ). 1 ≤ length legs) (λ (product : Product). product.legs) net.products (λ k d short. (is.products k d short).leg_count.0);
      legs = All-map (λ (numbers : List ℕ). All (λ i. i < length (inventory_of net).authorised) numbers) (λ (product : Product). product.legs) net.products
          (λ k d short. subst (λ n. All (λ i. i < n) (get_or net.products k d).legs) (sym seats) (is.products k d short).legs);
    }

-- so there are at most 999 authorised seats on each of 64 legs
pub seats-within : (net : NetworkValue) → IsNetwork net → (seats : List ℕ) → seats ≡ (inventory_of net).authorised → sum seats ≤ 63936
seats-within net is seats are =
    let own = IsInventory-of net is in
    let all = sum_by-le (λ (seats : ℕ). seats) 999 (inventory_of net).authorised own.authorised in
    omega (arith, own.leg_count, all, ap sum are)

-- an empty book
pub IsBook-empty : (inventory : Inventory) → IsInventory inventory → IsBook (record { inventory = inventory; bookings = []; next = 1 })
IsBook-empty inventory is = record {
  inventory = is;
  next = omega arith;
  rising = λ i j d low short. absurd (omega arith);
  numbers = λ k d short. absurd (omega arith);
  parties = λ k d short. absurd (omega arith);
  products = λ k d short. absurd (omega arith);
  seats = λ i short.
      let none = sold_on-by_booking inventory i [] (λ k d short. absurd (omega arith)) in
      omega arith;
}

-- that of the parts that were copied out of a network
pub IsBook-of : (net : NetworkValue) (seats fares : List ℕ) (legs : List (List ℕ)) (bookings : List Booking) (next : ℕ) → IsNetwork net → seats ≡ (inventory_of net).authorised → fares ≡ (inventory_of net).fares → legs ≡ (inventory_of net).legs → bookings ≡ [] → next ≡ 1
    → IsBook (record { inventory = record { authorised = seats; fares = fares; legs = legs }; bookings = bookings; next = next })
IsBook-of net seats fares legs bookings next is seats_are fares_are legs_are none first =
    let same : ◌≡◌ {A = BookValue} (record { inventory = inventory_of net; bookings = []; next = 1 }) (record { inventory = record { authorised = seats; fares = fares; legs = legs }; bookings = bookings; next = next }) =
    λ k. record { inventory = record { authorised = sym seats_are k; fares = sym fares_are k; legs = sym legs_are k }; bookings = sym none k; next = sym first k } in
    subst IsBook same (IsBook-empty (inventory_of net) (IsInventory-of net is))

-- no product of a network has a leg twice
pub distinct-of : (net : NetworkValue) (legs : List (List ℕ)) → IsNetwork net → legs ≡ (inventory_of net).legs → All (λ (legs : List ℕ). AllPairs (λ a b. a ≢ b) legs) legs
distinct-of net legs is are =
    let P : List (List ℕ) → Type 0 = λ legs. All (λ (legs : List ℕ). AllPairs (λ a b. a ≢ b) legs) legs in
    subst P (sym are) (All-map (λ (legs : List ℕ). AllPairs (λ a b. a ≢ b) legs) (λ (product : Product). product.legs) net.products (λ k d short. (is.products k d short).distinct))

-- the counts of an empty book
pub counts-of : (net : NetworkValue) (seats fares : List ℕ) (legs : List (List ℕ)) (bookings : List Booking) (sold : SeatsValue) → seats ≡ (inventory_of net).authorised → fares ≡ (inventory_of net).fares → legs ≡ (inventory_of net).legs → bookings ≡ []
    → sold ≡ seats_sold (inventory_of net) [] → sold ≡ seats_sold (record { authorised = seats; fares = fares; legs = legs }) bookings
counts-of net seats fares legs bookings sold seats_are fares_are legs_are none is =
    is ∙ (λ k. seats_sold (record { authorised = sym seats_are k; fares = sym fares_are k; legs = sym legs_are k }) (sym none k))
