-- A network's inventory, and what is known of its legs.
use Rattle.std.proofs.Common.{◌+◌, get_or, if◌then◌else◌, ℕ, ◌≡◌, ◌∙◌, ◌<◌, ◌≤◌, List, [], ◌∷◌, length, find, slice_get, Option, Some, None, Bool, true, false, nat_lt, refl, sym, ap, subst, arith, All}
use Rattle.std.specs.Option.{option_map_or}
use Rattle.std.proofs.lemmas.Bool.{ltb-false}
use Rattle.std.proofs.lemmas.List.Elements.{All-cons, All-head, All-tail}
use Rattle.std.proofs.lemmas.List.FromFn.{get_or-map-range_with_len, length-map-range_with_len}
use Rattle.nrm_model.specs.declared.product.Product.{Product}
use Rattle.nrm_model.specs.Inventory.{Inventory, inventory_of, legs_of, uses_leg}
use Rattle.nrm_model.specs.Network.{NetworkValue, product_of}
use Rattle.nrm_model.proofs.Inventories.{legs-count, legs_of-product, product_of-found, authorised-are}
use Rattle.nrm_book.specs.declared.booking.Booking.{Booking}
use Rattle.nrm_book.specs.Bookings.{left_on}
use Rattle.nrm_book.proofs.Sold.{uses-each}
use Rattle.nrm_plan.specs.Plans.{AreSeatsLeft, PlanValue, fare_refuses, protected_from}
use Rattle.nrm_control.specs.State.{seats_left}
use Rattle.nrm_control.specs.Verdict.{leg_refuses, verdict_of}
use Rattle.nrm_control.specs.declared.answer.Answer.TheVariants as answer

-- where no leg of a list refuses a party, whatever is protected, each has the seats for it
pub none-refuses : (left protected : ℕ → ℕ) (party : ℕ) (legs : List ℕ) → find (λ i. nat_lt (left i) (party + protected i)) legs ≡ None → All (λ i. party ≤ left i) legs
none-refuses left protected party [] none = λ k d short. absurd (omega (arith, short))
none-refuses left protected party (i ∷ legs) none = by (nat_lt (left i) (party + protected i)) refl (none-refuses left protected party legs)
  where
    by : (b : Bool) → nat_lt (left i) (party + protected i) ≡ b → (find (λ i. nat_lt (left i) (party + protected i)) legs ≡ None → All (λ i. party ≤ left i) legs) → All (λ i. party ≤ left i) (i ∷ legs)
    by true e more = let some : Some i ≡ None = rw e at none in cc
    by false e more =
        let rest : find (λ i. nat_lt (left i) (party + protected i)) legs ≡ None = rw e at none in
        All-cons (λ i. party ≤ left i) i legs (omega (arith, ltb-false (left i) (party + protected i) e)) (more rest)

-- the legs of a product are legs of the network, and used by it
pub own-legs : (net : NetworkValue) (j : ℕ) (product : Product) (legs : List ℕ) → Some product ≡ slice_get net.products j → legs ≡ product.legs → All (λ i. i < length net.legs) product.legs
    → All (λ i. (i < length net.legs) × (uses_leg (inventory_of net) i j ≡ true)) legs
own-legs net j product legs found same within = λ k d short.
    let of_product : k < length product.legs = omega (arith, short, ap length same) in
    let own = legs_of-product net j product found in
    let listed = own ∙ sym same in
    let uses = uses-each (inventory_of net) j k d (omega (arith, short, ap length listed)) in
    (rw same (within k d of_product), subst (λ (legs : List ℕ). uses_leg (inventory_of net) (get_or legs k d) j ≡ true) listed uses)

-- so that the product's legs, if none refuses, have the seats
pub seats-cover : (net : NetworkValue) (inventory : Inventory) (plan : PlanValue) (bookings : List Booking) (party j : ℕ) (product : Product) (legs : List ℕ)
    → inventory ≡ inventory_of net → Some product ≡ slice_get net.products j → legs ≡ product.legs → None ≡ find (leg_refuses net plan bookings j party) legs
    → All (λ i. party ≤ left_on inventory bookings i) (legs_of inventory j)
seats-cover net inventory plan bookings party j product legs is found same none =
    let own : legs_of inventory j ≡ legs = ap (λ (v : Inventory). legs_of v j) is ∙ legs_of-product net j product found ∙ sym same in
    rw own (subst (λ (v : Inventory). All (λ i. party ≤ left_on v bookings i) legs) (sym is) (none-refuses (left_on (inventory_of net) bookings) (λ i. protected_from net plan i j) party legs (sym none)))

-- what the first leg that refuses, if there is one, and then the fare, say of the verdict
pub verdict-is : (net : NetworkValue) (plan : PlanValue) (bookings : List Booking) (next party j : ℕ) (product : Product) (legs : List ℕ) (refusing : Option ℕ)
    → Some product ≡ slice_get net.products j → legs ≡ product.legs → refusing ≡ find (leg_refuses net plan bookings j party) legs
    → option_map_or answer.Leg refusing (if fare_refuses net plan j then answer.Fare else answer.Sold next) ≡ verdict_of net plan bookings next j party
verdict-is net plan bookings next party j product legs refusing found same refuses =
    let own : legs ≡ (product_of net j).legs = same ∙ ap (λ (p : Product). p.legs) (sym (product_of-found net j product found)) in
    ap (λ o. option_map_or answer.Leg o (if fare_refuses net plan j then answer.Fare else answer.Sold next)) (refuses ∙ ap (find (leg_refuses net plan bookings j party)) own)

-- whether the fare refuses
pub fare-refused : (refuses : Bool) (next : ℕ) → refuses ≡ true → answer.Fare ≡ (if refuses then answer.Fare else answer.Sold next)
fare-refused refuses next is = rw is refl

pub fare-sold : (refuses : Bool) (next : ℕ) → refuses ≡ false → answer.Sold next ≡ (if refuses then answer.Fare else answer.Sold next)
fare-sold refuses next is = rw is refl

-- a product of the inventory is one of the network, with its fare
pub product-within : (net : NetworkValue) (inventory : Inventory) (j : ℕ) → inventory ≡ inventory_of net → j < length inventory.legs → j < length net.products
product-within net inventory j is below =
    let count = ap (λ (v : Inventory). length v.legs) is ∙ legs-count net in
    omega (arith, count)

-- a leg that was found is one of the list
pub found-within : (p : ℕ → Bool) (n : ℕ) (legs : List ℕ) (i : ℕ) → Some i ≡ find p legs → All (λ k. k < n) legs → i < n
found-within p n [] i found within = cc
found-within p n (leg ∷ legs) i found within = by (p leg) refl (found-within p n legs i)
  where
    by : (b : Bool) → p leg ≡ b → (Some i ≡ find p legs → All (λ k. k < n) legs → i < n) → i < n
    by true e more = let same : Some i ≡ Some leg = rw e at found in let is : leg ≡ i = cc in subst (λ k. k < n) is (All-head (λ k. k < n) leg legs within)
    by false e more = let rest : Some i ≡ find p legs = rw e at found in more rest (All-tail (λ k. k < n) leg legs within)

-- the seats left on the legs are seats left of the network
pub are-seats-left : (net : NetworkValue) (bookings : List Booking) → AreSeatsLeft net (seats_left net bookings)
are-seats-left net bookings = record {
  legs = length-map-range_with_len (left_on (inventory_of net) bookings) 0 (length net.legs);
  seats = λ i short.
      let left : get_or (seats_left net bookings) i 0 ≡ left_on (inventory_of net) bookings i = get_or-map-range_with_len (left_on (inventory_of net) bookings) 0 (length net.legs) i i 0 short (omega arith) in
      omega (arith, left, authorised-are net i);
}

-- a product that the book can load is one of the network
pub product-of-inventory : (net : NetworkValue) (j : ℕ) → j < length (inventory_of net).legs → j < length net.products
product-of-inventory net j below = omega (arith, below, legs-count net)

-- no other answer sells
pub leg-unsold : {P : Type 0} (i number : ℕ) → answer.Leg i ≡ answer.Sold number → P
leg-unsold i number same = absurd (cc)

pub fare-unsold : {P : Type 0} (number : ℕ) → answer.Fare ≡ answer.Sold number → P
fare-unsold number same = absurd (cc)

-- a request that is sold gets the next number
pub sold-next : (net : NetworkValue) (plan : PlanValue) (bookings : List Booking) (next party j number : ℕ) → answer.Sold number ≡ verdict_of net plan bookings next j party → number ≡ next
sold-next net plan bookings next party j number is = by (find (leg_refuses net plan bookings j party) (product_of net j).legs) (fare_refuses net plan j) is
  where
    by : (refusing : Option ℕ) (refuses : Bool) → answer.Sold number ≡ option_map_or answer.Leg refusing (if refuses then answer.Fare else answer.Sold next) → number ≡ next
    by (Some i) refuses e = cc
    by None true e = cc
    by None false e = cc
