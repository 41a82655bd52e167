-- Tallies that are kept capped stand for lists of requests.
use Rattle.std.proofs.Common.{ℕ, ◌≡◌, ◌∙◌, ◌+◌, ◌-◌, ◌<◌, true, false, cond, eqb, List, [], ◌∷◌, ◌++◌, length, get_or, map, sum_by, inl, inr, refl, sym, ap, arith}
use Rattle.std.specs.List.{range_with_len}
use Rattle.std.proofs.lemmas.Bool.{cases_Bool, eqb-true}
use Rattle.std.proofs.lemmas.Bool.Decides.{nat_tests}
use Rattle.std.proofs.lemmas.List.FromFn.{fill_by_all, get_or-map-range_with_len, length-map-range_with_len}
use Rattle.std.proofs.lemmas.List.Sums.{sum_by-cons, sum_by-append}
use Rattle.nrm_book.proofs.Sums.{sum-same}
use Rattle.nrm_book.specs.Bookings.{sold_of}
use Rattle.nrm_hindsight.specs.Laws.{SomeRequestsStand, TalliesAreCapped}
use Rattle.nrm_hindsight.specs.Requests.{Request, asked_for, requests_of, tally_of}
use Rattle.nrm_hindsight.specs.Selections.{ChosenFrom}
use Rattle.nrm_hindsight.specs.Selections.ChosenFrom.{none, left_out, taken}
use Rattle.nrm_hindsight.proofs.Asked.{asked-cons, asked-is-sold, party_for}
use Rattle.nrm_hindsight.proofs.Sums.{only-one}

pub tallies-capped : TalliesAreCapped
tallies-capped net requests = record {
  products = length-map-range_with_len (tally_of net requests) 0 (length net.products);
  seats = λ j few. omega (arith, get_or-map-range_with_len (tally_of net requests) 0 (length net.products) j j 0 few (omega arith));
}

-- all of some requests, and none of others
none-taken : (others : List Request) → ChosenFrom others []
none-taken [] = none
none-taken (r ∷ rs) = left_out (none-taken rs)

all-taken : (requests others : List Request) → ChosenFrom (requests ++ others) requests
all-taken [] others = none-taken others
all-taken (r ∷ rs) others = taken (all-taken rs others)

-- one request for each product
abbrev wanted : (ℕ → ℕ) → ℕ → Request
wanted rest k = record { product = k; party = rest k }

asked-each : (rest : ℕ → ℕ) (j : ℕ) (ks : List ℕ) → asked_for (map (wanted rest) ks) j ≡ sum_by (λ k. cond (eqb k j) (rest k) 0) ks
asked-each rest j [] = refl
asked-each rest j (k ∷ ks) =
    asked-cons (wanted rest k) (map (wanted rest) ks) j
    ∙ ap (λ t. party_for j (wanted rest k) + t) (asked-each rest j ks)
    ∙ sym (sum_by-cons (λ k. cond (eqb k j) (rest k) 0) k ks)

asked-wanted : (rest : ℕ → ℕ) (n j : ℕ) → j < n → asked_for (map (wanted rest) (range_with_len 0 n)) j ≡ rest j
asked-wanted rest n j few =
    asked-each rest j (range_with_len 0 n)
    ∙ sum-same (λ k. cond (eqb k j) (rest k) 0) (λ k. cond (eqb j k) (rest j) 0) (range_with_len 0 n) turned
    ∙ only-one j (rest j) n few
  where
    turned : (k : ℕ) → cond (eqb k j) (rest k) 0 ≡ cond (eqb j k) (rest j) 0
    turned k = elim (cases_Bool (eqb k j)) [
      | inl e ↦
          let same : k ≡ j = eqb-true k j e in
          let other : eqb j k ≡ true = grind (arith, nat_tests) in
          rw (e, other) (ap rest same)
      | inr e ↦
          let other : eqb j k ≡ false = grind (arith, nat_tests) in
          rw (e, other) refl
    ]

pub requests-stand : SomeRequestsStand
requests-stand net bookings tallies are sold = (requests, sym (fill_by_all (tally_of net requests) tallies (length net.products) 0 are.products each), all-taken (requests_of bookings) (map (wanted rest) (range_with_len 0 (length net.products))))
  where
    rest : ℕ → ℕ
    rest j = get_or tallies j 0 - sold_of bookings j

    requests : List Request
    requests = requests_of bookings ++ map (wanted rest) (range_with_len 0 (length net.products))

    each : (j : ℕ) → j < length net.products → get_or tallies j 0 ≡ tally_of net requests j
    each j few =
        omega (
          arith,
          sum_by-append (party_for j) (requests_of bookings) (map (wanted rest) (range_with_len 0 (length net.products))),
          asked-is-sold bookings j,
          asked-wanted rest (length net.products) j few,
          sold j few,
          are.seats j few,
        )
