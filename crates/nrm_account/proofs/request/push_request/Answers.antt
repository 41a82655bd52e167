use Rattle.std.proofs.Common.{List, ℕ, ◌≡◌, ◌∙◌, ◌++◌, flat_map, sym, ap}
use Rattle.std.proofs.lemmas.Result.{on_ok_weaker}
use Rattle.nrm_model.specs.Network.{product_of}
use Rattle.nrm_model.specs.declared.product.Product.{Product}
use Rattle.nrm_model.proofs.Inventories.{product_of-found}
use Rattle.nrm_control.proofs.Inventories.{own-legs}
use Rattle.nrm_account.specs.Account.{request_account}
use Rattle.nrm_account.specs.Texts.{fare_text_of, largest_line, leg_text, plan_line, product_line}
use Rattle.nrm_account.proofs.Pieces.{five-pieces}
use Rattle.nrm_account.proofs.request.push_request.Goals as goal

pub push_legs-requires-clause-legs : goal.push_legs-requires-clause-legs
push_legs-requires-clause-legs c =
    own-legs c.network-net.result.now c.args.product c.product_at.result.now c.as_slice-legs.result.now c.product_at.ensures.product c.as_slice-legs.ensures c.product_at.ensures.limits.legs

pub returns : goal.returns
returns c =
    let control = c.args.controller.now in
    let product : Product = c.product_at.result.now in
    let net = c.network-net.ensures.network in
    let plan = c.plan-plan.ensures.plan in
    let book = c.book.ensures.book in
    let first : c.plan_line.result ≡ plan_line c.args.planned control.plan = c.plan_line.ensures ∙ ap (plan_line c.args.planned) plan in
    let second : c.product_line.result ≡ product_line control.net c.args.product = c.product_line.ensures ∙ (λ n. product_line (net n) c.args.product) in
    let found = product_of-found c.network-net.result.now c.args.product product c.product_at.ensures.product in
    let own : c.as_slice-legs.result.now ≡ (product_of c.network-net.result.now c.args.product).legs = c.as_slice-legs.ensures ∙ ap (λ (p : Product). p.legs) (sym found) in
    let third : flat_map (leg_text c.network-net.result.now c.plan-plan.result.now c.book.result.now.bookings c.args.product c.args.party) c.as_slice-legs.result.now
    ≡ flat_map (leg_text control.net control.plan control.bookings c.args.product c.args.party) (product_of control.net c.args.product).legs =
    (λ n. flat_map (leg_text c.network-net.result.now c.plan-plan.result.now c.book.result.now.bookings c.args.product c.args.party) (own n))
    ∙ (λ n. flat_map (leg_text (net n) (plan n) ((book n).bookings) c.args.product c.args.party) (product_of (net n) c.args.product).legs) in
    let start : List ℕ = c.args.text.now.items in
    on_ok_weaker c.push_line-3.result
    (λ pushed. five-pieces start c.push_line.new.text.items c.push_line-2.new.text.items c.push_legs.new.text.items c.push_fare.new.text.items c.push_line-3.new.text.items
    (plan_line c.args.planned control.plan) (product_line control.net c.args.product)
    (flat_map (leg_text control.net control.plan control.bookings c.args.product c.args.party) (product_of control.net c.args.product).legs)
    (fare_text_of (request_account control.net control.plan control.bookings control.next c.args.product c.args.party))
    (largest_line control.net control.plan control.bookings control.next c.args.product)
    (c.in_ok-push_line.ensures ∙ (λ n. start ++ first n))
    (c.in_ok-push_line-2.ensures ∙ (λ n. c.push_line.new.text.items ++ second n))
    (c.in_ok-push_legs.ensures ∙ (λ n. c.push_line-2.new.text.items ++ third n))
    c.in_ok-push_fare.ensures
    (pushed ∙ (λ n. c.push_fare.new.text.items ++ c.largest.ensures n)))
    c.push_line-3.ensures
