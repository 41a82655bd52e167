-- The bookings of a book load again from their rows.
use Rattle.std.proofs.Common.{ℕ, ◌≡◌, ◌∙◌, ◌+◌, ◌<◌, ◌≤◌, nat_le, true, All, AllPairs, List, [], ◌∷◌, ◌++◌, length, get_or, suc, Some, Ok, refl, sym, ap, subst, arith, append-nil, append_assoc}
use Rattle.std.specs.Int.{IsInRange}
use Rattle.std.specs.List.{list_all}
use Rattle.std.proofs.lemmas.Bool.{le-leb}
use Rattle.std.proofs.lemmas.List.{length-map}
use Rattle.std.proofs.lemmas.List.Elements.{All-head, All-nil, All-push, All-tail}
use Rattle.std.proofs.lemmas.List.Sums.{list_all-from_AllPass, sum_by-append, sum_by-cons}
use Rattle.std.proofs.lemmas.Option.{unwrap_or-slice_get}
use Rattle.nrm_model.specs.declared.leg.Leg.{Leg}
use Rattle.nrm_model.specs.declared.product.Product.{Product}
use Rattle.nrm_model.specs.Inventory.{Inventory, authorised_of, inventory_of, uses_leg}
use Rattle.nrm_model.specs.Limits.{IsNetwork}
use Rattle.nrm_model.specs.Network.{NetworkValue, product_named, product_of}
use Rattle.nrm_model.proofs.Inventories.{legs-are}
use Rattle.nrm_book.specs.declared.booking.Booking.{Booking}
use Rattle.nrm_book.specs.Bookings.{left_on, sold_on}
use Rattle.nrm_book.proofs.Sold.{AreProducts, sold_on-by_booking, taken_on, uses-each}
use Rattle.nrm_dual.proofs.WrittenLines.{found_by_name}
use Rattle.nrm_kept_cli.specs.Laws.{RowsLoadAgain}
use Rattle.nrm_kept_cli.specs.Rows.{Loaded, booking_of, load_behind, next_behind, row_fits, row_of, rows_of}

no_product : Product
no_product = record { name = []; fare = 0; refund = 0; legs = [] }

-- a product of the network is found under its own name
found : (net : NetworkValue) → IsNetwork net → (j : ℕ) → j < length net.products → product_named net (product_of net j).name ≡ Some j
unfolding no_product
found net is j short =
    let at : product_of net j ≡ get_or net.products j no_product = unwrap_or-slice_get net.products j no_product in
    ap (λ (product : Product). product_named net product.name) at
    ∙ found_by_name (λ (product : Product). product.name) net.products no_product j 0 short is.product_names
    ∙ ap Some (omega arith)

-- a front of some bookings leaves the seats of the next one, on each leg of its product that isn't oversold
seats-left : (inventory : Inventory) (front rest : List Booking) (b : Booking) (i : ℕ) → AreProducts inventory (front ++ b ∷ rest) → AreProducts inventory front
    → uses_leg inventory i b.product ≡ true → sold_on inventory (front ++ b ∷ rest) i ≤ authorised_of inventory i → b.party ≤ left_on inventory front i
seats-left inventory front rest b i are those uses within =
    let all = sold_on-by_booking inventory i (front ++ b ∷ rest) are in
    let first = sold_on-by_booking inventory i front those in
    let parts = sum_by-append (taken_on inventory i) front (b ∷ rest) in
    let last = sum_by-cons (taken_on inventory i) b rest in
    let own : taken_on inventory i b ≡ b.party = rw uses refl in
    omega (arith, all, first, parts, last, own, within)

-- what each booking of a book keeps
record IsOne (net : NetworkValue) (b : Booking) : Type 0 where
  product : b.product < length net.products
  party : IsInRange 1 999 b.party
  low : b.number ≤ 99999999999

row-fits : (net : NetworkValue) (front rest : List Booking) (next : ℕ) (b : Booking) → IsOne net b → AreProducts (inventory_of net) (front ++ b ∷ rest) → AreProducts (inventory_of net) front
    → All (λ i. sold_on (inventory_of net) (front ++ b ∷ rest) i ≤ authorised_of (inventory_of net) i) (product_of net b.product).legs → next ≤ b.number
    → row_fits net (record { bookings = front; next = next }) (row_of net b) b.product ≡ true
row-fits net front rest next b is are those within later =
    let seats : list_all (λ i. nat_le b.party (left_on (inventory_of net) front i)) (product_of net b.product).legs ≡ true =
    list_all-from_AllPass (λ i. nat_le b.party (left_on (inventory_of net) front i)) (product_of net b.product).legs (λ k d short.
    let uses = subst (λ (legs : List ℕ). All (λ i. uses_leg (inventory_of net) i b.product ≡ true) legs) (legs-are net b.product) (uses-each (inventory_of net) b.product) in
    le-leb b.party _ (seats-left (inventory_of net) front rest b (get_or (product_of net b.product).legs k d) are those (uses k d short) (within k d short))) in
    let one : nat_le next b.number ≡ true = le-leb next b.number later in
    let two : nat_le b.number 99999999999 ≡ true = le-leb b.number 99999999999 is.low in
    let three : nat_le 1 b.party ≡ true = le-leb 1 b.party is.party.0 in
    let four : nat_le b.party 999 ≡ true = le-leb b.party 999 is.party.1 in
    rw (one, two, three, four) seats

gives : (net : NetworkValue) → IsNetwork net → (l : Loaded) (b : Booking) → b.product < length net.products → row_fits net l (row_of net b) b.product ≡ true → booking_of net l (row_of net b) ≡ Some b
gives net is l b short fits = rw (found net is b.product short, fits) refl

-- the bookings of a network whose legs aren't oversold load one behind another
module _ (net : NetworkValue) (is : IsNetwork net) (all : List Booking) (are : AreProducts (inventory_of net) all)
    (seats : (i : ℕ) → i < length net.legs → sold_on (inventory_of net) all i ≤ authorised_of (inventory_of net) i) where
  on-legs : (j : ℕ) → j < length net.products → All (λ i. sold_on (inventory_of net) all i ≤ authorised_of (inventory_of net) i) (product_of net j).legs
  unfolding no_product
  on-legs j short k d at =
      let here : product_of net j ≡ get_or net.products j no_product = unwrap_or-slice_get net.products j no_product in
      let within : All (λ i. i < length net.legs) (product_of net j).legs = subst (λ (p : Product). All (λ i. i < length net.legs) p.legs) (sym here) (is.products j no_product short).legs in
      seats (get_or (product_of net j).legs k d) (within k d at)

  behind : (front rest : List Booking) (next : ℕ) → all ≡ front ++ rest → AreProducts (inventory_of net) front → All (IsOne net) rest
      → All (λ (b : Booking). next ≤ b.number) rest → AllPairs (λ (earlier later : Booking). earlier.number < later.number) rest
      → load_behind net (record { bookings = front; next = next }) (rows_of net rest) ≡ Ok (record { bookings = front ++ rest; next = next_behind next rest })
  behind front [] next whole those ones later rise = ap (λ (bookings : List Booking). Ok (record { bookings = bookings; next = next })) (sym (append-nil front))
  behind front (b ∷ rest) next whole those ones later rise =
      let one = All-head (IsOne net) b rest ones in
      let fits = row-fits net front rest next b one (subst (AreProducts (inventory_of net)) whole are) those
      (subst (λ (bookings : List Booking). All (λ i. sold_on (inventory_of net) bookings i ≤ authorised_of (inventory_of net) i) (product_of net b.product).legs) whole (on-legs b.product one.product))
      (All-head (λ (b : Booking). next ≤ b.number) b rest later) in
      let first : booking_of net (record { bookings = front; next = next }) (row_of net b) ≡ Some b = gives net is (record { bookings = front; next = next }) b one.product fits in
      let grown : AreProducts (inventory_of net) (front ++ b ∷ []) =
      All-push (λ (b : Booking). b.product < length (inventory_of net).legs) front b those (omega (arith, one.product, length-map net.products (λ (p : Product). p.legs))) in
      let more = behind (front ++ b ∷ []) rest (b.number + 1) (whole ∙ sym (append_assoc front (b ∷ []) rest)) grown (All-tail (IsOne net) b rest ones)
      (λ k d at. omega (arith, rise 0 (suc k) d (omega arith) (omega (arith, at)))) (λ i j d before at. rise (suc i) (suc j) d (omega arith) (omega arith)) in
      rw first (more ∙ ap (λ (bookings : List Booking). Ok (record { bookings = bookings; next = next_behind (b.number + 1) rest })) (append_assoc front (b ∷ []) rest))

pub load-again : RowsLoadAgain
load-again net bookings next is book low =
    behind net is bookings book.products (λ i at. book.seats i (omega (arith, at, length-map net.legs (λ (leg : Leg). leg.authorised)))) [] bookings 1 refl
    (All-nil (λ (b : Booking). b.product < length (inventory_of net).legs))
    (λ k d at. record { product = omega (arith, book.products k d at, length-map net.products (λ (p : Product). p.legs)); party = book.parties k d at; low = low k d at })
    (λ k d at. (book.numbers k d at).0) book.rising
