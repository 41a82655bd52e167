-- The pieces that were put are the row of the product in the history.
use Rattle.std.proofs.Common.{ℕ, ◌≡◌, ◌∙◌, ◌+◌, ◌-◌, ◌++◌, ◌∷◌, [], List, true, is_ok, map, refl, ap, rules, codes, append_assoc, drop}
use Rattle.std.proofs.Common.{arith, length-drop, Option}
use Rattle.std.specs.Prelude.{decimal, unwrap_or}
use Rattle.std.proofs.lemmas.List.{take_all}
use Rattle.nrm_model.specs.declared.product.Product.{Product}
use Rattle.nrm_model.specs.Network.{product_of}
use Rattle.nrm_model.specs.Demand.{demand_row}
use Rattle.nrm_network.specs.Inner.RowText.{after_commas}
use Rattle.nrm_network.proofs.RowTexts.{row_written}
use Rattle.nrm_network.proofs.writing.push_demand.Goals as goal

-- the numbers and the end of the line, put as one piece
in-one-piece : (s number numbers : List ℕ) → s ++ 44 ∷ (number ++ (numbers ++ 10 ∷ [])) ≡ ((s ++ 44 ∷ number) ++ numbers) ++ 10 ∷ []
in-one-piece s number numbers = simp append_assoc

pub returns : goal.returns
returns c =
    let began : is_ok c.extend_from_slice.result ≡ true = search rules in
    let ended : is_ok c.extend_from_slice-2.result ≡ true = search rules in
    let product : c.product_at.result.now ≡ product_of c.args.net.now c.args.j =
    ap (λ (o : Option Product). unwrap_or o (record { name = []; fare = 0; refund = 0; legs = [] })) c.product_at.ensures.product in
    let number : List ℕ = decimal (c.args.h + 1) in
    let seats : List (List ℕ) = map decimal (demand_row c.args.net.now c.args.j c.args.h) in
    let row : List ℕ = c.write_numbers-from.new.row in
    let from : ℕ = c.write_numbers-from.result in
    let named : List ℕ = c.push_field.new.text.items in
    row_written c.args.text.now.items c.extend_from_slice.new.self.items named (named ++ 44 ∷ number)
    ((named ++ 44 ∷ number) ++ after_commas seats) c.extend_from_slice-2.new.self.items
    (codes "demand") ((product_of c.args.net.now c.args.j).name) number seats
    (rw began at c.extend_from_slice.ensures.items)
    (c.in_ok-push_field.ensures ∙ ap (λ (n : List ℕ). c.extend_from_slice.new.self.items ++ 44 ∷ n) (c.bytes.ensures.bytes
    ∙ ap (λ (p : Product). p.name) product))
    refl refl
    (rw ended at c.extend_from_slice-2.ensures.items
    ∙ ap (λ (numbers : List ℕ). named ++ numbers) (take_all (69 - from) (drop from row) (omega (arith, length-drop from row))
    ∙ c.write_numbers-from.ensures.written) ∙ in-one-piece named number (after_commas seats))
