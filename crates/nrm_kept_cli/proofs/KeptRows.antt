-- The rows of a book: one more, one less, and those of what was loaded.
use Rattle.std.proofs.Common.{ℕ, ◌≡◌, ◌∙◌, ◌+◌, ◌-◌, ◌<◌, ◌≤◌, ◌==◌, suc, Bool, true, false, List, [], ◌∷◌, ◌++◌, All, Option, Some, None, Ok, Err, refl, sym, ap, subst, arith, append-nil, append_assoc, bytes_eq, slice_get, unwrap_or}
use Rattle.std.specs.List.{position_from}
use Rattle.std.proofs.lemmas.List.{map-append}
use Rattle.std.proofs.lemmas.List.Elements.{All-head, All-tail, All-cons}
use Rattle.std.proofs.lemmas.Slice.Eq.{bytes_eq-Decides}
use Rattle.nrm_model.specs.Network.{NetworkValue, product_named, product_of}
use Rattle.nrm_model.specs.declared.product.Product.{Product}
use Rattle.nrm_book.specs.declared.booking.Booking.{Booking}
use Rattle.nrm_book.specs.Bookings.{booking_numbered, without}
use Rattle.nrm_keeper.specs.declared.row.KeptRow.{KeptRow}
use Rattle.nrm_keeper.specs.Rows.{is_kept, without as rows_without}
use Rattle.nrm_kept_cli.specs.Rows.{Loaded, booking_of, load, load_behind, loaded_more, nothing_loaded, row_fits, row_of, rows_of}

-- what is found under a name has the name
named-at : (name : List ℕ) (products : List Product) (i j : ℕ) → position_from (λ (product : Product). bytes_eq product.name name) i products ≡ Some j
    → (product : Product) × (slice_get products (j - i) ≡ Some product) × (i ≤ j) × (product.name ≡ name)
named-at name [] i j found = absurd (let none : None ≡ Some j = found in cc)
named-at name (p ∷ products) i j found = by (bytes_eq p.name name) refl (λ (e : position_from (λ (product : Product). bytes_eq product.name name) (i + 1) products ≡ Some j). named-at name products (i + 1) j e)
  where
    by : (b : Bool) → bytes_eq p.name name ≡ b → (position_from (λ (product : Product). bytes_eq product.name name) (i + 1) products ≡ Some j → (product : Product) × (slice_get products (j - (i + 1)) ≡ Some product) × (i + 1 ≤ j) × (product.name ≡ name))
        → (product : Product) × (slice_get (p ∷ products) (j - i) ≡ Some product) × (i ≤ j) × (product.name ≡ name)
    by true e more =
        let here : Some i ≡ Some j = rw e at found in
        let same : i ≡ j = cc in
        let place : j - i ≡ 0 = omega (arith, same) in
        (p, rw place refl, omega (arith, same), (bytes_eq-Decides p.name name).0 e)
    by false e more =
        let rest : position_from (λ (product : Product). bytes_eq product.name name) (i + 1) products ≡ Some j = rw e at found in
        let (product, at, low, has) = more rest in
        let place : j - i ≡ suc (j - (i + 1)) = omega (arith, low) in
        (product, rw place at, omega (arith, low), has)

-- a product that is found under a name has it
pub product-name : (net : NetworkValue) (name : List ℕ) (j : ℕ) → product_named net name ≡ Some j → (product_of net j).name ≡ name
product-name net name j found =
    let (product, at, low, has) = named-at name net.products 0 j found in
    let place : j - 0 ≡ j = omega arith in
    let there : slice_get net.products j ≡ Some product = subst (λ (k : ℕ). slice_get net.products k ≡ Some product) place at in
    ap (λ (p : Product). p.name) (ap (λ (o : Option Product). unwrap_or o (record { name = []; fare = 0; refund = 0; legs = [] })) there) ∙ has

-- one row more
pub rows-more : (net : NetworkValue) (bookings : List Booking) (b : Booking) → rows_of net (bookings ++ b ∷ []) ≡ rows_of net bookings ++ row_of net b ∷ []
rows-more net bookings b = map-append (row_of net) bookings (b ∷ [])

-- the rows without a number
pub rows-without : (net : NetworkValue) (bookings : List Booking) (number : ℕ) → rows_of net (without bookings number) ≡ rows_without number (rows_of net bookings)
rows-without net [] number = refl
rows-without net (b ∷ bs) number = by (b.number == number) refl (rows-without net bs number)
  where
    by : (test : Bool) → (b.number == number) ≡ test → rows_of net (without bs number) ≡ rows_without number (rows_of net bs) → rows_of net (without (b ∷ bs) number) ≡ rows_without number (rows_of net (b ∷ bs))
    by true e rest = rw e rest
    by false e rest = rw e (ap (λ (rows : List KeptRow). row_of net b ∷ rows) rest)

-- a number that is live has a row
pub live-row : (net : NetworkValue) (bookings : List Booking) (number : ℕ) (b : Booking) → booking_numbered bookings number ≡ Some b → is_kept number (rows_of net bookings) ≡ true
live-row net [] number b found = absurd (let none : None ≡ Some b = found in cc)
live-row net (x ∷ xs) number b found = by (x.number == number) refl (live-row net xs number b)
  where
    by : (test : Bool) → (x.number == number) ≡ test → (booking_numbered xs number ≡ Some b → is_kept number (rows_of net xs) ≡ true) → is_kept number (rows_of net (x ∷ xs)) ≡ true
    by true e more = rw e refl
    by false e more = rw e (more (rw e at found))

-- numbers below another are so in the rows
pub rows-below : (net : NetworkValue) (bookings : List Booking) (number : ℕ) → All (λ (b : Booking). b.number < number) bookings → All (λ (row : KeptRow). row.number < number) (rows_of net bookings)
rows-below net [] number low = λ k d short. absurd (omega (arith, short))
rows-below net (b ∷ bs) number low =
    All-cons (λ (row : KeptRow). row.number < number) (row_of net b) (rows_of net bs) (All-head (λ (b : Booking). b.number < number) b bs low)
    (rows-below net bs number (All-tail (λ (b : Booking). b.number < number) b bs low))

-- what a row gives is that row
booked-row : (net : NetworkValue) (l : Loaded) (row : KeptRow) (b : Booking) → booking_of net l row ≡ Some b → row_of net b ≡ row
booked-row net l row b gives = by (product_named net row.product) refl
  where
    by : (o : Option ℕ) → product_named net row.product ≡ o → row_of net b ≡ row
    by None e = absurd (let none : None ≡ Some b = rw e at gives in cc)
    by (Some j) e = fits (row_fits net l row j) refl
      where
        fits : (test : Bool) → row_fits net l row j ≡ test → row_of net b ≡ row
        fits false f = absurd (let none : None ≡ Some b = rw (e, f) at gives in cc)
        fits true f =
            let is : Some (record { number = row.number; product = j; party = row.party }) ≡ Some b = rw (e, f) at gives in
            let same : record { number = row.number; product = j; party = row.party } ≡ b = cc in
            subst (λ (b : Booking). row_of net b ≡ row) same (λ k. record { number = row.number; product = product-name net row.product j e k; party = row.party })

-- rows that load are the rows of what they give
pub loaded-rows : (net : NetworkValue) (l m : Loaded) (rows : List KeptRow) → load_behind net l rows ≡ Ok m → rows_of net m.bookings ≡ rows_of net l.bookings ++ rows
loaded-rows net l m [] loads = let same : Ok l ≡ Ok m = loads in let is : l ≡ m = cc in sym (append-nil (rows_of net l.bookings) ∙ ap (λ (l : Loaded). rows_of net l.bookings) is)
loaded-rows net l m (row ∷ rows) loads = by (booking_of net l row) refl (λ b. loaded-rows net (loaded_more l b) m rows)
  where
    by : (o : Option Booking) → booking_of net l row ≡ o → ((b : Booking) → load_behind net (loaded_more l b) rows ≡ Ok m → rows_of net m.bookings ≡ rows_of net (loaded_more l b).bookings ++ rows)
        → rows_of net m.bookings ≡ rows_of net l.bookings ++ row ∷ rows
    by None e rest = absurd (let clash : Err row.number ≡ Ok m = rw e at loads in cc)
    by (Some b) e rest =
        rest b (rw e at loads) ∙ ap (λ (front : List KeptRow). front ++ rows) (rows-more net l.bookings b ∙ ap (λ (r : KeptRow). rows_of net l.bookings ++ r ∷ []) (booked-row net l row b e))
        ∙ append_assoc (rows_of net l.bookings) (row ∷ []) rows

pub load-rows : (net : NetworkValue) (m : Loaded) (rows : List KeptRow) → load net rows ≡ Ok m → rows_of net m.bookings ≡ rows
load-rows net m rows loads = loaded-rows net nothing_loaded m rows loads
