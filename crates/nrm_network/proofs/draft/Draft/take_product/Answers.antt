-- A product is refused by the first of three checks, or the draft grows by it.
use Rattle.std.proofs.Common.{ℕ, ◌≡◌, ◌∙◌, List, true, false, bytes_eq, map, sym, ap, refl, subst, arith, Option, length}
use Rattle.std.specs.Prelude.{is_some}
use Rattle.std.specs.List.{list_all}
use Rattle.std.proofs.lemmas.List.{length-map}
use Rattle.nrm_model.specs.Limits.{differ}
use Rattle.nrm_model.specs.declared.product.Product.{Product}
use Rattle.nrm_network.specs.Rows.{product_kind, field, leg_rows, product_rows, refund_rows, further, is_named}
use Rattle.nrm_network.specs.File.{number_of_leg}
use Rattle.nrm_network.specs.Inner.Draft.{AddsProduct}
use Rattle.nrm_network.proofs.CheckedRows.{product-checked}
use Rattle.nrm_network.proofs.ChecksAfterShape.{product-twice, product-repeats, product-missing, product-free, word-of}
use Rattle.nrm_network.proofs.DraftGrowth.{all-given-back, product-grows, product-same, few-legs, named-by, place-any}
use Rattle.nrm_network.proofs.draft.Draft.take_product.Goals as goal

pub returns-then-is_some : goal.returns-then-is_some
returns-then-is_some c = λ taken row is read.
    let named = named-by c.number_of.result c.is_some.result c.args.self.now.product_names (product_rows taken) c.args.product.now.name
    (field row 1) c.number_of.ensures c.is_some.ensures is.product_names read.says.0 in
    product-twice taken row read.shape (sym named ∙ c.if-is_some.true)

pub returns-then-not-differ : goal.returns-then-not-differ
returns-then-not-differ c = λ taken row is read.
    let named = named-by c.number_of.result c.is_some.result c.args.self.now.product_names (product_rows taken) c.args.product.now.name
    (field row 1) c.number_of.ensures c.is_some.ensures is.product_names read.says.0 in
    let names : c.deref.result.now ≡ further row = c.deref.ensures.value ∙ read.says.2 in
    product-repeats taken row read.shape (sym named ∙ c.if-is_some.false) (ap (λ (n : List (List ℕ)). differ bytes_eq n) (sym names)
    ∙ sym c.differ.ensures ∙ c.if-not-differ.true)

pub leg_numbers-requires : goal.leg_numbers-requires
leg_numbers-requires c =
    let (taken, row, is, read) = c.requires in
    let few = few-legs taken row product_kind read.shape.order refl is.accepted in
    omega (arith, few, ap length is.leg_names, length-map (leg_rows taken) (λ r. field r 1))

pub returns-in_default : goal.returns-in_default
returns-in_default c = λ taken row is read.
    let named = named-by c.number_of.result c.is_some.result c.args.self.now.product_names (product_rows taken) c.args.product.now.name
    (field row 1) c.number_of.ensures c.is_some.ensures is.product_names read.says.0 in
    let names : c.deref.result.now ≡ further row = c.deref.ensures.value ∙ read.says.2 in
    let names_again : c.deref-2.result.now ≡ further row = c.deref-2.ensures.value ∙ read.says.2 in
    let apart = ap (λ (n : List (List ℕ)). differ bytes_eq n) (sym names) ∙ sym c.differ.ensures ∙ c.if-not-differ.false in
    let found = c.in_ok-legs.ensures (leg_rows taken) is.leg_names in
    product-missing taken row read.shape (sym named ∙ c.if-is_some.false) apart
    (subst (λ (n : List (List ℕ)). list_all (is_named (leg_rows taken)) n ≡ false) names_again (rw c.in_default.is at found))

pub add_product-requires : goal.add_product-requires
add_product-requires c =
    let some : is_some c.number_of.result ≡ false = sym c.is_some.ensures ∙ c.if-is_some.false in
    sym (place-any (λ other. bytes_eq other c.args.product.now.name) 0 c.args.self.now.product_names)
    ∙ sym (ap (λ (p : Option ℕ). is_some p) c.number_of.ensures) ∙ some

pub returns : goal.returns
returns c = λ taken row is read.
    let named = named-by c.number_of.result c.is_some.result c.args.self.now.product_names (product_rows taken) c.args.product.now.name
    (field row 1) c.number_of.ensures c.is_some.ensures is.product_names read.says.0 in
    let names : c.deref.result.now ≡ further row = c.deref.ensures.value ∙ read.says.2 in
    let names_again : c.deref-2.result.now ≡ further row = c.deref-2.ensures.value ∙ read.says.2 in
    let apart = ap (λ (n : List (List ℕ)). differ bytes_eq n) (sym names) ∙ sym c.differ.ensures ∙ c.if-not-differ.false in
    let found = rw c.in-Some.is at (c.in_ok-legs.ensures (leg_rows taken) is.leg_names) in
    let there = subst (λ (n : List (List ℕ)). list_all (is_named (leg_rows taken)) n ≡ true) names_again found.0 in
    let numbers = found.1 ∙ ap (λ (n : List (List ℕ)). map (number_of_leg (leg_rows taken)) n) names_again in
    let free = product-free taken row read.shape (sym named ∙ c.if-is_some.false) apart there in
    let checked = product-checked taken row (word-of taken row product_kind read.shape) free in
    let all = (all-given-back (product_rows taken) (refund_rows taken) (field row 1) checked.fresh is.refunds_named).0 in
    let product = product-same (leg_rows taken) (refund_rows taken) row c.args.product.now.name c.new.result c.args.product.now.fare 100
    read.says.0 read.says.1 (sym all) (c.new.ensures ∙ numbers) in (
      free,
      product-grows c.args.self.now c.add_product.new.self taken row is read.shape free
          (subst (λ (p : Product). AddsProduct c.args.self.now c.add_product.new.self p) product c.in_ok-add_product.ensures),
    )
