-- What a controller keeps through its calls.
use Rattle.std.proofs.Common.{ℕ, ◌≡◌, ◌∙◌, ◌+◌, ◌<◌, ◌≤◌, List, [], length, sym, ap, subst, arith}
use Rattle.std.proofs.lemmas.List.{length-map}
use Rattle.nrm_model.specs.declared.leg.Leg.{Leg}
use Rattle.nrm_model.specs.Inventory.{Inventory, inventory_of, authorised_of}
use Rattle.nrm_model.specs.Limits.{IsNetwork}
use Rattle.nrm_model.specs.Network.{NetworkValue}
use Rattle.nrm_book.specs.declared.booking.Booking.{Booking}
use Rattle.nrm_book.specs.Book.{BookValue, IsBook, with_loaded}
use Rattle.nrm_book.specs.Bookings.{sold_on, without}
use Rattle.nrm_hindsight.specs.Requests.{tallies_of}
use Rattle.nrm_plan.specs.Plans.{IsPlanOf, PlanValue}
use Rattle.nrm_control.specs.Refunds.{withheld_by}
use Rattle.nrm_control.specs.Standing.{AreTalliesBeside, IsControl, IsInForce, IsWithheld, with_request}
use Rattle.nrm_control.proofs.Cancellations.{withheld-cancelled, withheld-sold}
use Rattle.nrm_control.proofs.Tallies.{beside-cancellation, beside-nothing, beside-refusal, beside-sale}

-- what callers see of it
pub control-of : (net : NetworkValue) (plan : PlanValue) (book : BookValue) (tallies : List ℕ) (withheld : ℕ) → IsInForce net plan book tallies withheld
    → IsControl (record { net = net; plan = plan; bookings = book.bookings; next = book.next; tallies = tallies; withheld = withheld })
control-of net plan book tallies withheld is = record {
  network = is.network;
  book = subst IsBook (λ k. record { inventory = is.inventory k; bookings = book.bookings; next = book.next }) is.sound;
  planned = is.planned;
  tallied = is.tallied;
  withheld = is.withheld;
}

-- before anything is sold or asked
pub kept-begun : (net : NetworkValue) (plan : PlanValue) (book : BookValue) (tallies : List ℕ) → IsNetwork net → IsPlanOf net plan → book ≡ record { inventory = inventory_of net; bookings = []; next = 1 } → IsBook book → tallies ≡ tallies_of net []
    → IsInForce net plan book tallies 0
kept-begun net plan book tallies is planned empty sound none = record {
  network = is;
  planned = planned;
  inventory = ap (λ (b : BookValue). b.inventory) empty;
  sound = sound;
  tallied =
      subst (λ (bookings : List Booking). AreTalliesBeside net bookings tallies) (sym (ap (λ (b : BookValue). b.bookings) empty))
      (subst (λ (tallies : List ℕ). AreTalliesBeside net [] tallies) (sym none) (beside-nothing net));
  withheld = subst (λ (b : BookValue). IsWithheld b.bookings b.next 0) (sym empty) (omega arith);
}

-- no leg of the network has more seats sold than are authorised
pub fits-of : (net : NetworkValue) (book : BookValue) → book.inventory ≡ inventory_of net → IsBook book → (i : ℕ) → i < length net.legs → sold_on (inventory_of net) book.bookings i ≤ authorised_of (inventory_of net) i
fits-of net book is sound i few =
    let count : length book.inventory.authorised ≡ length net.legs = ap (λ (v : Inventory). length v.authorised) is ∙ length-map net.legs (λ (leg : Leg). leg.authorised) in
    subst (λ (v : Inventory). sold_on v book.bookings i ≤ authorised_of v i) is (sound.seats i (omega (arith, few, count)))

module _ (net : NetworkValue) (plan : PlanValue) (book : BookValue) (tallies : List ℕ) (withheld : ℕ) (is : IsInForce net plan book tallies withheld) where
  -- with a booking more
  pub kept-loaded : (new : BookValue) (b : Booking) → b.product < length net.products → book.next ≤ b.number → new ≡ with_loaded book b → IsBook new
      → IsInForce net plan new (with_request net tallies b.product b.party) withheld
  kept-loaded new b short later added sound =
      let inventory = ap (λ (b : BookValue). b.inventory) added ∙ is.inventory in
      let booked = ap (λ (b : BookValue). b.bookings) added in
      record {
        network = is.network;
        planned = is.planned;
        inventory = inventory;
        sound = sound;
        tallied =
            subst (λ (bookings : List Booking). AreTalliesBeside net bookings (with_request net tallies b.product b.party)) (sym booked)
            (beside-sale net book.bookings tallies b.number b.product b.party is.network short
            (λ i few. subst (λ (bookings : List Booking). sold_on (inventory_of net) bookings i ≤ authorised_of (inventory_of net) i) booked (fits-of net new inventory sound i few)) is.tallied);
        withheld = subst (λ (b : BookValue). IsWithheld b.bookings b.next withheld) (sym added) (withheld-sold book.bookings b book.next withheld is.sound.next.0 later is.withheld);
      }

  -- after a cancellation
  pub kept-cancelled : (new : BookValue) (number : ℕ) → new ≡ record book { bookings = without book.bookings number } → IsBook new → IsInForce net plan new tallies (withheld + withheld_by net book.bookings number)
  kept-cancelled new number removed sound = record {
    network = is.network;
    planned = is.planned;
    inventory = ap (λ (b : BookValue). b.inventory) removed ∙ is.inventory;
    sound = sound;
    tallied = subst (λ (bookings : List Booking). AreTalliesBeside net bookings tallies) (sym (ap (λ (b : BookValue). b.bookings) removed)) (beside-cancellation net book.bookings tallies number is.tallied);
    withheld = subst (λ (b : BookValue). IsWithheld b.bookings b.next (withheld + withheld_by net book.bookings number)) (sym removed) (withheld-cancelled net book withheld number is.inventory is.sound is.withheld);
  }
