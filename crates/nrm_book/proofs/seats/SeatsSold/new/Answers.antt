use Rattle.std.proofs.Common.{ℕ, ◌≡◌, ◌∙◌, [], length, map, refl, ap, sym}
use Rattle.std.specs.List.{range_with_len}
use Rattle.nrm_model.specs.Inventory.{inventory_of, products_on}
use Rattle.nrm_model.proofs.Inventories.{authorised-count, legs-count}
use Rattle.nrm_book.specs.Bookings.{sold_of, sold_on}
use Rattle.nrm_book.proofs.CountChanges.{all-zero}
use Rattle.nrm_book.proofs.Sums.{sum-zero}
use Rattle.nrm_book.proofs.seats.SeatsSold.new.Goals as goal

pub returns : goal.returns
returns c =
    let net = c.args.net.now in
    let inventory = inventory_of net in
    let products : c.product_count.result ≡ length (inventory_of c.args.net.now).legs = c.product_count.ensures.count ∙ sym (legs-count c.args.net.now) in
    let legs : c.leg_count.result ≡ length (inventory_of c.args.net.now).authorised = c.leg_count.ensures.count ∙ sym (authorised-count c.args.net.now) in
    let of = c.in_ok-by_product.ensures.items_if_clones_equal (λ y is. is) ∙ all-zero (sold_of []) 0 c.product_count.result (λ j. refl) ∙ ap (λ (n : ℕ). map (sold_of []) (range_with_len 0 n)) products in
    let on = c.in_ok-by_leg.ensures.items_if_clones_equal (λ y is. is) ∙ all-zero (sold_on inventory []) 0 c.leg_count.result (λ i. sum-zero (products_on inventory i)) ∙ ap (λ (n : ℕ). map (sold_on (inventory_of c.args.net.now) []) (range_with_len 0 n)) legs in
    λ k. record { by_product = of k; by_leg = on k }
