-- What a cancellation takes off the bookings, and what it gives back and withholds.
use Rattle.std.proofs.Common.{ℕ, ◌≡◌, ◌∙◌, ◌+◌, ◌-◌, ◌*◌, ◌/◌, ◌<◌, ◌≤◌, ◌==◌, not, List, ◌∷◌, [], ◌++◌, length, get_or, option_map, sum_by, Option, Some, None}
use Rattle.std.proofs.Common.{inl, inr, refl, sym, ap, subst, arith, length-append}
use Rattle.std.specs.List.{position, remove, slice_get}
use Rattle.std.specs.Option.{option_map_or, unwrap_or}
use Rattle.std.proofs.Math.Nat.{mul-le-mul_left}
use Rattle.std.proofs.lemmas.Bool.{cases_lt}
use Rattle.std.proofs.lemmas.List.{get_or_default}
use Rattle.std.proofs.lemmas.List.Edits.{length-remove}
use Rattle.std.proofs.lemmas.List.Filters.{length-filter_both}
use Rattle.std.proofs.lemmas.List.Quantifiers.{position-Some}
use Rattle.std.proofs.lemmas.List.Sums.{sum_by-remove}
use Rattle.std.proofs.lemmas.Option.{none-some, slice_get_past}
use Rattle.nrm_model.specs.declared.product.Product.{Product}
use Rattle.nrm_model.specs.Inventory.{Inventory, fare_of, inventory_of}
use Rattle.nrm_model.specs.Limits.{IsNetwork}
use Rattle.nrm_model.specs.Network.{NetworkValue, product_of}
use Rattle.nrm_model.proofs.Inventories.{fare_of-product, product_of-found}
use Rattle.nrm_model.proofs.SeatLemmas.{product-within}
use Rattle.nrm_book.specs.declared.booking.Booking.{Booking}
use Rattle.nrm_book.specs.Book.{BookValue, IsBook}
use Rattle.nrm_book.specs.Bookings.{NumbersRise, booking_numbered, without, worth_of}
use Rattle.nrm_book.proofs.Kept.{absent-is, found-is, removed-is}
use Rattle.nrm_control.specs.Refunds.{refund_of, withheld_by, withheld_of}
use Rattle.nrm_control.specs.Standing.{IsWithheld, most_worth}

-- ---- the booking that goes
module _ (bookings : List Booking) (number : ℕ) (b : Booking) (rise : NumbersRise bookings) (live : booking_numbered bookings number ≡ Some b) where
  -- has a place, and the others stay
  pub live-place : (k : ℕ) × (k < length bookings) × (b ≡ get_or bookings k b) × (remove bookings k ≡ without bookings number)
  live-place = by (position (λ (booking : Booking). booking.number == number) bookings) refl
    where
      by : (o : Option ℕ) → position (λ (booking : Booking). booking.number == number) bookings ≡ o
          → (k : ℕ) × (k < length bookings) × (b ≡ get_or bookings k b) × (remove bookings k ≡ without bookings number)
      by None e = absurd (none-some b ((absent-is bookings number e).0 ∙ live))
      by (Some k) e =
          let (short, has, before) = position-Some (λ (booking : Booking). booking.number == number) bookings k b e in
          let found : Some (get_or bookings k b) ≡ Some b = found-is bookings k number (get_or bookings k b) e (get_or_default bookings k b (get_or bookings k b) short) ∙ live in
          let same : b ≡ get_or bookings k b = cc in
          (k, short, same, removed-is bookings k number rise e)

  -- they are one fewer, and of each sum over the bookings its own part is missing
  pub one-fewer : length (without bookings number) + 1 ≡ length bookings
  one-fewer =
      let (k, short, same, gone) = live-place in
      let count = ap (λ (bs : List Booking). length bs) gone in
      omega (arith, count, length-remove bookings k short)

  pub sum-without : (f : Booking → ℕ) → sum_by f (without bookings number) + f b ≡ sum_by f bookings
  sum-without f =
      let (k, short, same, gone) = live-place in
      let rest = ap (sum_by f) gone in
      let own = ap f same in
      omega (arith, rest, own, sum_by-remove f bookings k b short)

-- at most as many as before stay
pub no-more : (bookings : List Booking) (number : ℕ) → length (without bookings number) ≤ length bookings
no-more bookings number = let both = length-filter_both (λ (b : Booking). not (b.number == number)) (λ (b : Booking). not (not (b.number == number))) (λ _. refl) bookings in omega (arith, both)

-- ---- what is given back is no more than it is worth
pub refund-most : (net : NetworkValue) → IsNetwork net → (j : ℕ) → (product_of net j).refund ≤ 100
refund-most net is j = elim (cases_lt j (length net.products)) [
  | inl short ↦ (product-within net is j short).refund
  | inr past ↦
      let none : product_of net j ≡ record { name = []; fare = 0; refund = 0; legs = [] } = ap (λ o. unwrap_or o (record { name = []; fare = 0; refund = 0; legs = [] })) (slice_get_past net.products j (omega (arith, past))) in
      omega (arith, ap (λ (p : Product). p.refund) none)
]

pub part-within : (worth percent : ℕ) → percent ≤ 100 → worth * percent / 100 ≤ worth
part-within worth percent most = let all = mul-le-mul_left worth most in omega (arith, all)

both-parts : (worth refund : ℕ) → refund ≤ worth → refund + (worth - refund) ≡ worth
both-parts worth refund within = omega arith

-- so that it and what is withheld are just that
pub refund-and-rest : (net : NetworkValue) → IsNetwork net → (b : Booking) → refund_of net b + withheld_of net b ≡ worth_of (inventory_of net) b
refund-and-rest net is b =
    both-parts (worth_of (inventory_of net) b) (refund_of net b) (part-within (worth_of (inventory_of net) b) (product_of net b.product).refund (refund-most net is b.product))

-- and that is at most the largest party at the highest fare
worth-le : (party fare : ℕ) → party ≤ 999 → fare ≤ 99999999 → party * fare ≤ most_worth
worth-le party fare sized cheap = omega (arith, mul-le-mul_left party cheap)

pub worth-most : (net : NetworkValue) (book : BookValue) (number : ℕ) (b : Booking) → book.inventory ≡ inventory_of net → IsBook book → booking_numbered book.bookings number ≡ Some b
    → worth_of (inventory_of net) b ≤ most_worth
worth-most net book number b same is live =
    let (k, short, read, gone) = live-place book.bookings number b is.rising live in
    let its = get_or book.bookings k b in
    let priced : its.product < length book.inventory.fares = omega (arith, is.products k b short, is.inventory.fare_count) in
    let most = worth-le its.party (fare_of book.inventory its.product) (is.parties k b short).1 (is.inventory.fares its.product 0 priced) in
    let own : worth_of book.inventory b ≤ most_worth = subst (λ (b : Booking). worth_of book.inventory b ≤ most_worth) (sym read) most in
    subst (λ (v : Inventory). worth_of v b ≤ most_worth) same own

-- ---- the sum withheld: it stays below what the numbers that are gone allow
sold-more : (n more next number withheld : ℕ) → 1 ≤ next → next ≤ number → more ≡ n + 1 → withheld + n * most_worth ≤ (next - 1) * most_worth → withheld + more * most_worth ≤ (number + 1 - 1) * most_worth
sold-more n more next number withheld some later is within = omega (arith, some, later, is, within)

pub withheld-sold : (bookings : List Booking) (b : Booking) (next withheld : ℕ) → 1 ≤ next → next ≤ b.number → IsWithheld bookings next withheld → IsWithheld (bookings ++ b ∷ []) (b.number + 1) withheld
withheld-sold bookings b next withheld some later within = sold-more (length bookings) (length (bookings ++ b ∷ [])) next b.number withheld some later (length-append bookings (b ∷ [])) within

none-gone : (n rest next withheld by : ℕ) → by ≡ 0 → rest ≤ n → withheld + n * most_worth ≤ (next - 1) * most_worth → (withheld + by) + rest * most_worth ≤ (next - 1) * most_worth
none-gone n rest next withheld by is few within = omega (arith, is, few, within)

one-gone : (n rest next withheld by : ℕ) → by ≤ most_worth → rest + 1 ≡ n → withheld + n * most_worth ≤ (next - 1) * most_worth → (withheld + by) + rest * most_worth ≤ (next - 1) * most_worth
one-gone n rest next withheld by is few within = omega (arith, is, few, within)

rest-most : (worth refund : ℕ) → worth ≤ most_worth → worth - refund ≤ most_worth
rest-most worth refund most = omega (arith, most)

pub withheld-cancelled : (net : NetworkValue) (book : BookValue) (withheld number : ℕ) → book.inventory ≡ inventory_of net → IsBook book → IsWithheld book.bookings book.next withheld
    → IsWithheld (without book.bookings number) book.next (withheld + withheld_by net book.bookings number)
withheld-cancelled net book withheld number same is within = by (booking_numbered book.bookings number) refl
  where
    by : (o : Option Booking) → booking_numbered book.bookings number ≡ o → IsWithheld (without book.bookings number) book.next (withheld + withheld_by net book.bookings number)
    by None e =
        none-gone (length book.bookings) (length (without book.bookings number)) book.next withheld (withheld_by net book.bookings number) (ap (λ o. option_map_or (withheld_of net) o 0) e)
        (no-more book.bookings number) within
    by (Some b) e =
        let most : withheld_of net b ≤ most_worth = rest-most (worth_of (inventory_of net) b) (refund_of net b) (worth-most net book number b same is e) in
        let its : withheld_by net book.bookings number ≤ most_worth = subst (λ w. w ≤ most_worth) (sym (ap (λ o. option_map_or (withheld_of net) o 0) e)) most in
        one-gone (length book.bookings) (length (without book.bookings number)) book.next withheld (withheld_by net book.bookings number) its (one-fewer book.bookings number b is.rising e) within

-- ---- as the code works them out
module _ (net : NetworkValue) (bookings : List Booking) (number : ℕ) (b : Booking) (product : Product) (party fare percent : ℕ) (live : Some b ≡ booking_numbered bookings number)
    (found : Some product ≡ slice_get net.products b.product) (its_party : party ≡ b.party) (its_fare : fare ≡ product.fare) (its_percent : percent ≡ product.refund) where
  worth-is : party * fare ≡ worth_of (inventory_of net) b
  worth-is = (λ k. its_party k * its_fare k) ∙ ap (λ f. b.party * f) (fare_of-product net b.product product found)

  own-refund : party * fare * percent / 100 ≡ refund_of net b
  own-refund =
      let same : percent ≡ (product_of net b.product).refund = its_percent ∙ ap (λ (p : Product). p.refund) (sym (product_of-found net b.product product found)) in
      λ k. worth-is k * same k / 100

  pub refund-is : Some (party * fare * percent / 100) ≡ option_map (refund_of net) (booking_numbered bookings number)
  refund-is = ap Some own-refund ∙ ap (option_map (refund_of net)) live

  pub withheld-is : (withheld rest : ℕ) → rest ≡ party * fare - party * fare * percent / 100 → withheld + rest ≡ withheld + withheld_by net bookings number
  withheld-is withheld rest is = (λ k. withheld + is k) ∙ (λ k. withheld + (worth-is k - own-refund k)) ∙ ap (λ o. withheld + option_map_or (withheld_of net) o 0) live
