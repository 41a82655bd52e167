-- The seats that requests ask for of a product.
use Rattle.std.proofs.Common.{ℕ, ◌≡◌, ◌∙◌, ◌+◌, ◌≤◌, ◌==◌, cond, List, [], ◌∷◌, refl, sym, ap, arith}
use Rattle.std.proofs.lemmas.List.Sums.{sum_by-cons}
use Rattle.nrm_book.specs.declared.booking.Booking.{Booking}
use Rattle.nrm_book.specs.Bookings.{sold_of}
use Rattle.nrm_hindsight.specs.Requests.{Request, asked_for, request_of, requests_of}
use Rattle.nrm_hindsight.specs.Selections.{ChosenFrom}
use Rattle.nrm_hindsight.specs.Selections.ChosenFrom.{none, left_out, taken}

-- the party of a request for a product
abbrev pub party_for : ℕ → Request → ℕ
party_for j request = cond (request.product == j) request.party 0

pub asked-cons : (request : Request) (requests : List Request) (j : ℕ) → asked_for (request ∷ requests) j ≡ party_for j request + asked_for requests j
asked-cons request requests j = sum_by-cons (party_for j) request requests

-- a choice asks no more of a product than all the requests
pub chosen-asks-le : {requests chosen : List Request} → ChosenFrom requests chosen → (j : ℕ) → asked_for chosen j ≤ asked_for requests j
chosen-asks-le none j = omega arith
chosen-asks-le (left_out {request = r} {requests = rs} choice) j = omega (arith, asked-cons r rs j, chosen-asks-le choice j)
chosen-asks-le (taken {request = r} {requests = rs} {chosen = cs} choice) j = omega (arith, asked-cons r rs j, asked-cons r cs j, chosen-asks-le choice j)

-- bookings asked for what was sold
pub asked-is-sold : (bookings : List Booking) (j : ℕ) → asked_for (requests_of bookings) j ≡ sold_of bookings j
asked-is-sold [] j = refl
asked-is-sold (b ∷ bs) j =
    asked-cons (request_of b) (requests_of bs) j
    ∙ ap (λ t. party_for j (request_of b) + t) (asked-is-sold bs j)
    ∙ sym (sum_by-cons (λ (booking : Booking). cond (booking.product == j) booking.party 0) b bs)
