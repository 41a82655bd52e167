-- Choices of requests: one request more, and fewer bookings.
use Rattle.std.proofs.Common.{◌≡◌, Bool, true, false, List, [], ◌∷◌, ◌++◌, map, filter, refl, subst}
use Rattle.nrm_book.specs.declared.booking.Booking.{Booking}
use Rattle.nrm_hindsight.specs.Requests.{Request, request_of, requests_of}
use Rattle.nrm_hindsight.specs.Selections.{ChosenFrom}
use Rattle.nrm_hindsight.specs.Selections.ChosenFrom.{none, left_out, taken}

-- one more request, which is taken or left out
pub chosen-push : {requests chosen : List Request} (r : Request) → ChosenFrom requests chosen → ChosenFrom (requests ++ r ∷ []) (chosen ++ r ∷ [])
chosen-push r none = taken none
chosen-push r (left_out choice) = left_out (chosen-push r choice)
chosen-push r (taken choice) = taken (chosen-push r choice)

pub left-out-push : {requests chosen : List Request} (r : Request) → ChosenFrom requests chosen → ChosenFrom (requests ++ r ∷ []) chosen
left-out-push r none = left_out none
left-out-push r (left_out choice) = left_out (left-out-push r choice)
left-out-push r (taken choice) = taken (left-out-push r choice)

-- all of them
pub all-chosen : (requests : List Request) → ChosenFrom requests requests
all-chosen [] = none
all-chosen (r ∷ rs) = taken (all-chosen rs)

-- one more booking, which is kept or not
kept-one : (p : Booking → Bool) (r : Request) (rs : List Request) (b : Booking) (bs : List Booking) → request_of b ≡ r → ChosenFrom rs (map request_of (filter p bs)) → ChosenFrom (r ∷ rs) (map request_of (filter p (b ∷ bs)))
kept-one p r rs b bs same rest = go (p b) refl
  where
    go : (t : Bool) → p b ≡ t → ChosenFrom (r ∷ rs) (map request_of (filter p (b ∷ bs)))
    go true e = rw e (subst (λ q. ChosenFrom (q ∷ rs) (map request_of (b ∷ filter p bs))) same (taken rest))
    go false e = rw e (left_out rest)

kept-from : {requests chosen : List Request} (p : Booking → Bool) → ChosenFrom requests chosen → (bookings : List Booking) → map request_of bookings ≡ chosen → ChosenFrom requests (map request_of (filter p bookings))
kept-from p none [] e = none
kept-from p none (b ∷ bs) e = cc
kept-from p (left_out choice) bs e = left_out (kept-from p choice bs e)
kept-from p (taken choice) [] e = cc
kept-from p (taken {request = r} {requests = rs} {chosen = cs} choice) (b ∷ bs) e = kept-one p r rs b bs (cc) (kept-from p choice bs (cc))

-- fewer bookings are still among the requests
pub kept-chosen : {requests : List Request} (p : Booking → Bool) (bookings : List Booking) → ChosenFrom requests (requests_of bookings) → ChosenFrom requests (requests_of (filter p bookings))
kept-chosen p bookings choice = kept-from p choice bookings refl
