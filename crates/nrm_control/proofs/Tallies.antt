-- The tallies of past requests: one request more, and beside the bookings.
use Rattle.std.proofs.Common.{ℕ, ◌≡◌, ◌≢◌, ◌∙◌, ◌+◌, ◌<◌, ◌≤◌, ◌==◌, Bool, true, false, cond, eqb, not, List, ◌∷◌, [], ◌++◌, length, get_or, filter, min, replicate, set, slice_index, inl, inr, refl, sym, ap, arith}
use Rattle.std.proofs.lemmas.Bool.{cases_eq, ne_eqb}
use Rattle.std.proofs.lemmas.Bool.Decides.{nat_tests}
use Rattle.std.proofs.lemmas.List.{get_or_default, get_or-replicate, get_or-set_other, get_or-set_same, length-replicate, length-set}
use Rattle.std.proofs.lemmas.List.FromFn.{fill_by_all, get_or-map-range_with_len, length-map-range_with_len}
use Rattle.std.proofs.lemmas.List.Sums.{sum_by-cons, sum_by_push}
use Rattle.nrm_model.specs.Inventory.{inventory_of, authorised_of}
use Rattle.nrm_model.specs.Limits.{IsNetwork}
use Rattle.nrm_model.specs.Network.{NetworkValue, least_authorised_of}
use Rattle.nrm_book.specs.declared.booking.Booking.{Booking}
use Rattle.nrm_book.specs.Bookings.{sold_of, sold_on, without}
use Rattle.nrm_book.proofs.BookedCounts.{party_of}
use Rattle.nrm_dlp.specs.Hindsight.{AreTallies}
use Rattle.nrm_dlp.proofs.Hindsights.{least-within}
use Rattle.nrm_hindsight.specs.Requests.{Request, tallies_of, tally_of}
use Rattle.nrm_hindsight.proofs.Asked.{party_for}
use Rattle.nrm_hindsight.proofs.Selections.{sold-within-least}
use Rattle.nrm_hindsight.proofs.Tallies.{tallies-capped}
use Rattle.nrm_control.specs.Standing.{AreTalliesBeside, with_request}

-- the tally that a request changes, and another one
module _ (net : NetworkValue) (tallies : List ℕ) (j party : ℕ) where
  own : j < length tallies → get_or (with_request net tallies j party) j 0 ≡ min (get_or tallies j 0 + party) (least_authorised_of net j)
  own short = get_or-set_same tallies j (min (slice_index tallies j + party) (least_authorised_of net j)) 0 short

  other : (k : ℕ) → k ≢ j → get_or (with_request net tallies j party) k 0 ≡ get_or tallies k 0
  other k apart = get_or-set_other tallies j k (min (slice_index tallies j + party) (least_authorised_of net j)) 0 apart

  as-many : length (with_request net tallies j party) ≡ length tallies
  as-many = length-set tallies j (min (slice_index tallies j + party) (least_authorised_of net j))

-- what a request adds to its own product's tally, and to another's
own-party : (j party : ℕ) → cond (eqb j j) party 0 ≡ party
own-party j party = let same : eqb j j ≡ true = grind (arith, nat_tests) in rw same refl

no-party : (j k party : ℕ) → k ≢ j → cond (eqb j k) party 0 ≡ 0
no-party j k party apart = let different = ne_eqb j k (λ e. apart (sym e)) in rw different refl

-- the tallies of one request more
pub tallies-after : (net : NetworkValue) (requests : List Request) (j party : ℕ) → j < length net.products
    → tallies_of net (requests ++ record { product = j; party = party } ∷ []) ≡ with_request net (tallies_of net requests) j party
tallies-after net requests j party short =
    sym (fill_by_all (tally_of net (requests ++ record { product = j; party = party } ∷ [])) (with_request net (tallies_of net requests) j party) (length net.products) 0 (as-many net (tallies_of net requests) j party ∙ count) each)
  where
    count : length (tallies_of net requests) ≡ length net.products
    count = length-map-range_with_len (tally_of net requests) 0 (length net.products)

    each : (k : ℕ) → k < length net.products → get_or (with_request net (tallies_of net requests) j party) k 0 ≡ tally_of net (requests ++ record { product = j; party = party } ∷ []) k
    each k few =
        let before = get_or-map-range_with_len (tally_of net requests) 0 (length net.products) k k 0 few (omega arith) in
        let pushed = sum_by_push (party_for k) requests (record { product = j; party = party }) in
        elim (cases_eq k j) [
          | inl e ↦
              let here : get_or (with_request net (tallies_of net requests) j party) k 0 ≡ min (get_or (tallies_of net requests) k 0 + party) (least_authorised_of net k) = rw e (own net (tallies_of net requests) j party (omega (arith, short, count))) in
              let added : cond (eqb j k) party 0 ≡ party = rw e (own-party j party) in
              omega (arith, here, before, pushed, added)
          | inr apart ↦ omega (arith, other net (tallies_of net requests) j party k apart, before, pushed, no-party j k party apart)
        ]

-- beside the same bookings
pub beside-refusal : (net : NetworkValue) (bookings : List Booking) (tallies : List ℕ) (j party : ℕ) → j < length net.products → AreTalliesBeside net bookings tallies → AreTalliesBeside net bookings (with_request net tallies j party)
beside-refusal net bookings tallies j party short are = record {
  capped = record { products = as-many net tallies j party ∙ are.capped.products; seats = λ k few. (each k few).0 };
  booked = λ k few. (each k few).1;
}
  where
    each : (k : ℕ) → k < length net.products → (get_or (with_request net tallies j party) k 0 ≤ least_authorised_of net k) × (sold_of bookings k ≤ get_or (with_request net tallies j party) k 0)
    each k few = elim (cases_eq k j) [
      | inl e ↦
          let here : get_or (with_request net tallies j party) k 0 ≡ min (get_or tallies k 0 + party) (least_authorised_of net k) = rw e (own net tallies j party (omega (arith, short, are.capped.products))) in
          (omega (arith, here), omega (arith, here, are.booked k few, are.capped.seats k few))
      | inr apart ↦
          let there = other net tallies j party k apart in
          (omega (arith, there, are.capped.seats k few), omega (arith, there, are.booked k few))
    ]

-- beside one booking more, which fits the seats
pub beside-sale : (net : NetworkValue) (bookings : List Booking) (tallies : List ℕ) (number j party : ℕ) → IsNetwork net → j < length net.products
    → ((i : ℕ) → i < length net.legs → sold_on (inventory_of net) (bookings ++ record { number = number; product = j; party = party } ∷ []) i ≤ authorised_of (inventory_of net) i)
    → AreTalliesBeside net bookings tallies → AreTalliesBeside net (bookings ++ record { number = number; product = j; party = party } ∷ []) (with_request net tallies j party)
beside-sale net bookings tallies number j party is short fits are = record { capped = (beside-refusal net bookings tallies j party short are).capped; booked = each }
  where
    b : Booking
    b = record { number = number; product = j; party = party }

    each : (k : ℕ) → k < length net.products → sold_of (bookings ++ record { number = number; product = j; party = party } ∷ []) k ≤ get_or (with_request net tallies j party) k 0
    each k few =
        let pushed = sum_by_push (party_of k) bookings b in
        let within = sold-within-least net (bookings ++ record { number = number; product = j; party = party } ∷ []) k is fits few in
        elim (cases_eq k j) [
          | inl e ↦
              let here : get_or (with_request net tallies j party) k 0 ≡ min (get_or tallies k 0 + party) (least_authorised_of net k) = rw e (own net tallies j party (omega (arith, short, are.capped.products))) in
              let added : cond (eqb j k) party 0 ≡ party = rw e (own-party j party) in
              omega (arith, here, pushed, added, within, are.booked k few)
          | inr apart ↦ omega (arith, other net tallies j party k apart, pushed, no-party j k party apart, are.booked k few)
        ]

-- beside one booking less
fewer-sold : (p : Booking → Bool) (bookings : List Booking) (j : ℕ) → sold_of (filter p bookings) j ≤ sold_of bookings j
fewer-sold p [] j = omega arith
fewer-sold p (b ∷ bs) j = by (fewer-sold p bs j) (p b) refl
  where
    by : sold_of (filter p bs) j ≤ sold_of bs j → (kept : Bool) → p b ≡ kept → sold_of (filter p (b ∷ bs)) j ≤ sold_of (b ∷ bs) j
    by rest true e = rw e (omega (arith, rest, sum_by-cons (party_of j) b (filter p bs), sum_by-cons (party_of j) b bs))
    by rest false e = rw e (omega (arith, rest, sum_by-cons (party_of j) b bs))

pub beside-cancellation : (net : NetworkValue) (bookings : List Booking) (tallies : List ℕ) (number : ℕ) → AreTalliesBeside net bookings tallies → AreTalliesBeside net (without bookings number) tallies
beside-cancellation net bookings tallies number are = record {
  capped = are.capped;
  booked = λ k few. omega (arith, fewer-sold (λ booking. not (booking.number == number)) bookings k, are.booked k few);
}

-- before anything was asked
pub beside-nothing : (net : NetworkValue) → AreTalliesBeside net [] (tallies_of net [])
beside-nothing net = record { capped = tallies-capped net []; booked = λ k few. omega arith }

pub none-asked : (net : NetworkValue) → replicate (length net.products) 0 ≡ tallies_of net []
none-asked net = fill_by_all (tally_of net []) (replicate (length net.products) 0) (length net.products) 0 (length-replicate {A = ℕ} (length net.products) 0) (λ k few. let nought = get_or-replicate {A = ℕ} (length net.products) k 0 0 few in omega (arith, nought))

-- ---- as the code reads and writes them
pub tally-read : (tallies : List ℕ) (j read : ℕ) → j < length tallies → read ≡ get_or tallies j read → read ≡ get_or tallies j 0
tally-read tallies j read short is = is ∙ get_or_default tallies j read 0 short

pub tally-written : (net : NetworkValue) (tallies : List ℕ) (j party read after : ℕ) → j < length tallies → read ≡ get_or tallies j read → after ≡ min (read + party) (least_authorised_of net j) → set tallies j after ≡ with_request net tallies j party
tally-written net tallies j party read after short is grown = ap (set tallies j) (grown ∙ ap (λ r. min (r + party) (least_authorised_of net j)) (tally-read tallies j read short is))

pub tally-small : (net : NetworkValue) (tallies : List ℕ) (j read : ℕ) → IsNetwork net → AreTallies net tallies → j < length net.products → read ≡ get_or tallies j read → read ≤ 999
tally-small net tallies j read is are short found =
    let within = are.seats j short in
    let same = tally-read tallies j read (omega (arith, short, are.products)) found in
    omega (arith, within, same, least-within net is j short)
