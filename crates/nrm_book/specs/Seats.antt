-- The seats sold, counted beside the list of bookings.
use Rattle.std.specs.Prelude.{ℕ, ◌+◌, ◌<◌, ◌≤◌, ◌^◌, List, length, fold, map, slice_index, slice_set}
use Rattle.std.specs.List.{range_with_len}
use Rattle.nrm_model.specs.Inventory.{Inventory}
use Rattle.nrm_book.specs.declared.booking.Booking.{Booking}
use Rattle.nrm_book.specs.Bookings.{sold_of, sold_on}

-- the seats sold of each product, and on each leg
pub record SeatsValue : Type 0 where
  pub by_product : List ℕ
  pub by_leg : List ℕ

-- those of a list of bookings
abbrev pub seats_sold : Inventory → List Booking → SeatsValue
seats_sold inventory bookings = record {
  by_product = map (sold_of bookings) (range_with_len 0 (length inventory.legs));
  by_leg = map (sold_on inventory bookings) (range_with_len 0 (length inventory.authorised));
}

-- with one count changed, with each of some, and with those of a product and of its legs
abbrev pub changed_at : (ℕ → ℕ) → List ℕ → ℕ → List ℕ
changed_at change counts k = slice_set counts k (change (slice_index counts k))

abbrev pub changed_all : (ℕ → ℕ) → List ℕ → List ℕ → List ℕ
changed_all change counts ks = fold (changed_at change) counts ks

abbrev pub changed : (ℕ → ℕ) → SeatsValue → List ℕ → ℕ → SeatsValue
changed change seats legs product = record {
  by_product = changed_at change seats.by_product product;
  by_leg = changed_all change seats.by_leg legs;
}

-- a count can rise by a party, and fall by one
pub record CanRise (counts : List ℕ) (k party : ℕ) : Type 0 where
  pub there : k < length counts
  pub fits : slice_index counts k + party < 2 ^ 16

pub record CanFall (counts : List ℕ) (k party : ℕ) : Type 0 where
  pub there : k < length counts
  pub sold : party ≤ slice_index counts k
