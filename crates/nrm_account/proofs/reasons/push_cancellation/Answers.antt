use Rattle.std.proofs.Common.{ℕ, ◌≡◌, ◌∙◌, ◌++◌, ◌*◌, ◌/◌, ◌-◌, codes, decimal, sym, ap, append_assoc}
use Rattle.std.proofs.lemmas.Result.{on_ok_weaker}
use Rattle.nrm_text.specs.Words.{spaced}
use Rattle.nrm_model.specs.Inventory.{inventory_of}
use Rattle.nrm_model.specs.Network.{product_of}
use Rattle.nrm_model.specs.declared.product.Product.{Product}
use Rattle.nrm_model.proofs.Inventories.{fare_of-product, product_of-found}
use Rattle.nrm_book.specs.Bookings.{worth_of}
use Rattle.nrm_account.specs.Lines.{counted, ended}
use Rattle.nrm_account.specs.Texts.{back_line, booking_line}
use Rattle.nrm_account.proofs.reasons.push_cancellation.Goals as goal

pub returns : goal.returns
returns c =
    let net = c.args.net.now in
    let live = c.args.live.now in
    let product : Product = c.product_at-its.result.now in
    let its : product ≡ product_of net live.product = sym (product_of-found net live.product product c.product_at-its.ensures.product) in
    let worth : live.party * product.fare ≡ worth_of (inventory_of net) live = ap (λ (f : ℕ). live.party * f) (fare_of-product net live.product product c.product_at-its.ensures.product) in
    let cast : c.from.result * c.from-2.result ≡ live.party * product.fare = λ n. c.from.ensures n * c.from-2.ensures n in
    let back : c.from.result * c.from-2.result * c.from-3.result / 100 ≡ worth_of (inventory_of net) live * (product_of net live.product).refund / 100 =
    (λ n. cast n * c.from-3.ensures n / 100) ∙ (λ n. worth n * (its n).refund / 100) in
    let first : c.booking.result ≡ booking_line net live =
    c.booking.ensures
    ∙ (λ n. ended (codes "booking" ++ spaced (decimal live.number) ++ spaced (codes "product") ++ spaced ((its n).name) ++ counted (codes "party") live.party
    ++ counted (codes "fare") ((its n).fare) ++ counted (codes "worth") (worth n) ++ counted (codes "refund") ((its n).refund))) in
    let second : c.back.result ≡ back_line net live =
    c.back.ensures
    ∙ (λ n. ended (codes "back" ++ spaced (decimal (back n)) ++ counted (codes "withheld") ((cast ∙ worth) n - back n))) in
    on_ok_weaker c.push_line-2.result
    (λ pushed. pushed ∙ (λ n. c.in_ok-push_line.ensures n ++ second n) ∙ (λ n. (c.args.text.now.items ++ first n) ++ back_line net live)
    ∙ append_assoc c.args.text.now.items (booking_line net live) (back_line net live)) c.push_line-2.ensures
