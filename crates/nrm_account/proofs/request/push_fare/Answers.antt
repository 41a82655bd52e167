use Rattle.std.proofs.Common.{◌≡◌, ◌≢◌, ◌⊎◌, ◌∙◌, ◌++◌, List, ℕ, OnOk, Some, inl, inr, length, sym, ap, subst, append-nil}
use Rattle.nrm_fraction.specs.Large.{size_limit}
use Rattle.nrm_model.specs.Network.{NetworkValue}
use Rattle.nrm_model.specs.declared.mode.Mode.TheVariants as mode
use Rattle.nrm_virtual.proofs.Prices.{prices-of_shape}
use Rattle.nrm_plan.specs.Plans.{PlanValue}
use Rattle.nrm_control.specs.declared.answer.Answer.{Answer}
use Rattle.nrm_control.specs.declared.answer.Answer.TheVariants as answer
use Rattle.nrm_account.specs.Inner.Priced.{priced_text}
use Rattle.nrm_plan.proofs.Plans.{plan-shape}
use Rattle.nrm_account.proofs.Fares.{fare-told, fare-untold}
use Rattle.nrm_account.proofs.request.push_fare.Goals as goal

-- an answer that is the fare's or a sale is no leg's
either : (i : ℕ) (a : Answer) → a ≡ answer.Leg i → (a ≡ answer.Fare) ⊎ ((x : ℕ) × (a ≡ answer.Sold x)) → ⊥
either i a same (inl fare) = let no : answer.Leg i ≡ answer.Fare = sym same ∙ fare in cc
either i a same (inr (x, sold)) = let no : answer.Leg i ≡ answer.Sold x = sym same ∙ sold in cc

pub push_priced-requires : goal.push_priced-requires
push_priced-requires c =
    let control = c.args.controller.now in
    let held : c.plan-plan.result.now.certificate ≡ Some c.in-Bid-Some.certificate.now = search in
    let has : control.plan.certificate ≡ Some c.in-Bid-Some.certificate.now = ap (λ (plan : PlanValue). plan.certificate) (sym c.plan-plan.ensures.plan) ∙ held in
    let kept = c.network-net.ensures.sound in
    rw c.network-net.ensures.network
    (record {
      prices = prices-of_shape size_limit (length control.net.products) (length control.net.legs) c.in-Bid-Some.certificate.now
          (plan-shape control.net control.plan c.in-Bid-Some.certificate.now kept.network kept.planned has);
      product = c.requires;
    })

pub returns-in-Leg : goal.returns-in-Leg
returns-in-Leg c =
    let control = c.args.controller.now in
    let held : c.plan-plan.result.now.certificate ≡ Some c.in-Bid-Some.certificate.now = search in
    let has : control.plan.certificate ≡ Some c.in-Bid-Some.certificate.now = ap (λ (plan : PlanValue). plan.certificate) (sym c.plan-plan.ensures.plan) ∙ held in
    let is : control.plan.mode ≡ mode.Bid = ap (λ (plan : PlanValue). plan.mode) (sym c.plan-plan.ensures.plan) ∙ sym c.in-Bid-Some.ensures in
    let none = fare-untold control.net control.plan control.bookings control.next c.args.product c.args.party c.in-Bid-Some.certificate.now is has c.in-Leg.field-0 c.in-Leg.ensures.answer in
    sym (append-nil c.args.text.now.items) ∙ ap (λ (more : List ℕ). c.args.text.now.items ++ more) (sym none)

pub returns-in-Fare : goal.returns-in-Fare
returns-in-Fare c =
    let control = c.args.controller.now in
    let held : c.plan-plan.result.now.certificate ≡ Some c.in-Bid-Some.certificate.now = search in
    let has : control.plan.certificate ≡ Some c.in-Bid-Some.certificate.now = ap (λ (plan : PlanValue). plan.certificate) (sym c.plan-plan.ensures.plan) ∙ held in
    let is : control.plan.mode ≡ mode.Bid = ap (λ (plan : PlanValue). plan.mode) (sym c.plan-plan.ensures.plan) ∙ sym c.in-Bid-Some.ensures in
    let unlegged : (i : ℕ) → c.verdict.result ≢ answer.Leg i = λ i same. either i c.verdict.result same c.in-Fare.is in
    let told = fare-told control.net control.plan control.bookings control.next c.args.product c.args.party c.in-Bid-Some.certificate.now is has c.verdict.result c.verdict.ensures.answer unlegged in
    let net = c.network-net.ensures.network in
    rw told (subst (λ (net : NetworkValue). OnOk c.push_priced.result (c.push_priced.new.text.items ≡ c.args.text.now.items ++ priced_text net c.in-Bid-Some.certificate.now c.args.product)) net c.push_priced.ensures)
