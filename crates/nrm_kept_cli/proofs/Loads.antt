-- Rows that are loaded into a controller, one behind another.
use Rattle.std.proofs.Common.{ℕ, ◌≡◌, ◌∙◌, ◌+◌, ◌<◌, ◌≤◌, ◌&&◌, nat_le, Bool, true, false, List, [], ◌∷◌, ◌++◌, length, All, Option, Some, None, Err, refl, sym, ap, subst, arith, unwrap_or, option_map, slice_get}
use Rattle.std.specs.Int.{IsInRange}
use Rattle.std.specs.List.{list_all}
use Rattle.std.proofs.lemmas.Bool.{leb-true}
use Rattle.std.proofs.lemmas.List.{length-map, map-append}
use Rattle.std.proofs.lemmas.Option.{slice_get-map}
use Rattle.std.proofs.lemmas.List.Sums.{AllPass-from_list_all}
use Rattle.nrm_model.specs.Inventory.{inventory_of, legs_of}
use Rattle.nrm_model.specs.Network.{NetworkValue, product_of}
use Rattle.nrm_model.specs.declared.product.Product.{Product}
use Rattle.nrm_book.specs.declared.booking.Booking.{Booking}
use Rattle.nrm_book.specs.Book.{IsLoadable}
use Rattle.nrm_book.specs.Bookings.{left_on}
use Rattle.nrm_hindsight.specs.Requests.{request_of, requests_of}
use Rattle.nrm_control.specs.State.{SeatState, after_answer}
use Rattle.nrm_control.specs.Standing.{ControlValue, IsControl, Represents, book_of, with_answer}
use Rattle.nrm_control.specs.declared.answer.Answer.TheVariants as answer
use Rattle.nrm_keeper.specs.declared.row.KeptRow.{KeptRow}
use Rattle.nrm_kept_cli.specs.Inner.Parts.{loaded_in}
use Rattle.nrm_kept_cli.specs.Rows.{Loaded, booking_of, load_behind, loaded_more, loaded_state, row_fits}

-- ---- a row that loads
both : (a b : Bool) → (a && b) ≡ true → (a ≡ true) × (b ≡ true)
both true b h = (refl, h)
both false b h = absurd (let e : false ≡ true = h in cc)

-- what it fits
pub record Fits (net : NetworkValue) (l : Loaded) (row : KeptRow) (j : ℕ) : Type 0 where
  pub number : l.next ≤ row.number
  pub low : row.number ≤ 99999999999
  pub party : IsInRange 1 999 row.party
  pub seats : All (λ i. row.party ≤ left_on (inventory_of net) l.bookings i) (product_of net j).legs

pub fits-of : (net : NetworkValue) (l : Loaded) (row : KeptRow) (j : ℕ) → row_fits net l row j ≡ true → Fits net l row j
fits-of net l row j is =
    let seats_test = list_all (λ i. nat_le row.party (left_on (inventory_of net) l.bookings i)) (product_of net j).legs in
    let one = both (nat_le l.next row.number) (nat_le row.number 99999999999 && (nat_le 1 row.party && (nat_le row.party 999 && list_all (λ i. nat_le row.party (left_on (inventory_of net) l.bookings i)) (product_of net j).legs))) is in
    let two = both (nat_le row.number 99999999999) (nat_le 1 row.party && (nat_le row.party 999 && list_all (λ i. nat_le row.party (left_on (inventory_of net) l.bookings i)) (product_of net j).legs)) one.1 in
    let three = both (nat_le 1 row.party) (nat_le row.party 999 && list_all (λ i. nat_le row.party (left_on (inventory_of net) l.bookings i)) (product_of net j).legs) two.1 in
    let four = both (nat_le row.party 999) (list_all (λ i. nat_le row.party (left_on (inventory_of net) l.bookings i)) (product_of net j).legs) three.1 in
    let all = AllPass-from_list_all (λ i. nat_le row.party (left_on (inventory_of net) l.bookings i)) (product_of net j).legs four.1 in
    record {
      number = leb-true l.next row.number one.0;
      low = leb-true row.number 99999999999 two.0;
      party = (leb-true 1 row.party three.0, leb-true row.party 999 four.0);
      seats = λ k d short. leb-true row.party _ (all k d short);
    }

-- it can be loaded
pub loadable : (control : ControlValue) (row : KeptRow) (j : ℕ) → j < length (inventory_of control.net).legs → (product_of control.net j).legs ≡ legs_of (inventory_of control.net) j → row_fits control.net (loaded_in control) row j ≡ true
    → IsLoadable (book_of control) (record { number = row.number; product = j; party = row.party })
loadable control row j short own fits =
    let is = fits-of control.net (loaded_in control) row j fits in
    record {
      number = is.number;
      low = omega (arith, is.low);
      product = short;
      party = is.party;
      seats = subst (λ (legs : List ℕ). All (λ i. row.party ≤ left_on (inventory_of control.net) control.bookings i) legs) own is.seats;
    }

-- ---- the loop
-- what is loaded so far, of rows of which these are left
pub record IsLoading (old now : ControlValue) (rest all : List KeptRow) : Type 0 where
  pub network : now.net ≡ old.net
  pub plan : now.plan ≡ old.plan
  pub behind : load_behind old.net (loaded_in old) all ≡ load_behind old.net (loaded_in now) rest
  pub represents : Represents now (loaded_state now.plan (loaded_in now))
  pub sound : IsControl now
  pub low : old.next ≤ 100000000000 → now.next ≤ 100000000000

module _ (old now : ControlValue) (row : KeptRow) (rest all : List KeptRow) (so_far : IsLoading old now (row ∷ rest) all) where
  -- a row that gives a booking
  pub loading-more : (new : ControlValue) (b : Booking) → Some b ≡ booking_of now.net (loaded_in now) row → b.number ≤ 99999999999 → new ≡ with_answer now b.product b.party (answer.Sold b.number)
      → ((s : SeatState) → Represents now s → Represents new (after_answer s b.product b.party (answer.Sold b.number))) → IsControl new → IsLoading old new rest all
  loading-more new b gives low changed state sound =
      let here : booking_of old.net (loaded_in now) row ≡ Some b = ap (λ (net : NetworkValue). booking_of net (loaded_in now) row) (sym so_far.network) ∙ sym gives in
      let step : load_behind old.net (loaded_in now) (row ∷ rest) ≡ load_behind old.net (loaded_more (loaded_in now) b) rest = rw here refl in
      let grown : loaded_in new ≡ loaded_more (loaded_in now) b = ap loaded_in changed in
      let planned : new.plan ≡ now.plan = ap (λ (control : ControlValue). control.plan) changed in
      let asked : requests_of now.bookings ++ request_of b ∷ [] ≡ requests_of (now.bookings ++ b ∷ []) = sym (map-append request_of now.bookings (b ∷ [])) in
      let reached : after_answer (loaded_state now.plan (loaded_in now)) b.product b.party (answer.Sold b.number) ≡ loaded_state now.plan (loaded_more (loaded_in now) b) =
      λ k. record { plan = now.plan; bookings = now.bookings ++ b ∷ []; next = b.number + 1; requests = asked k; withheld = 0 } in
      record {
        network = ap (λ (control : ControlValue). control.net) changed ∙ so_far.network;
        plan = planned ∙ so_far.plan;
        behind = so_far.behind ∙ step ∙ ap (λ (l : Loaded). load_behind old.net l rest) (sym grown);
        represents = subst (λ (s : SeatState). Represents new s) (reached ∙ (λ k. loaded_state (sym planned k) (sym grown k))) (state (loaded_state now.plan (loaded_in now)) so_far.represents);
        sound = sound;
        low = λ was. omega (arith, low, ap (λ (control : ControlValue). control.next) changed);
      }

-- the legs of a product, as the book has them
legs-same : (net : NetworkValue) (j : ℕ) → (product_of net j).legs ≡ legs_of (inventory_of net) j
legs-same net j = by (slice_get net.products j) ∙ sym (ap (λ (o : Option (List ℕ)). unwrap_or o []) (slice_get-map (λ (p : Product). p.legs) net.products j))
  where
    by : (o : Option Product) → (unwrap_or o (record { name = []; fare = 0; refund = 0; legs = [] })).legs ≡ unwrap_or (option_map (λ (p : Product). p.legs) o) []
    by None = refl
    by (Some p) = refl

pub loadable-given : (control : ControlValue) (row : KeptRow) (j : ℕ) → j < length control.net.products → row_fits control.net (loaded_in control) row j ≡ true
    → IsLoadable (book_of control) (record { number = row.number; product = j; party = row.party })
loadable-given control row j short fits =
    loadable control row j (omega (arith, short, length-map control.net.products (λ (p : Product). p.legs))) (legs-same control.net j) fits
