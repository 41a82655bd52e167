-- The pieces that were put are the row of the product.
use Rattle.std.proofs.Common.{ℕ, ◌≡◌, ◌∙◌, ◌++◌, ◌∷◌, List, true, is_ok, map, ap, rules, codes}
use Rattle.std.specs.Prelude.{decimal}
use Rattle.nrm_model.specs.Network.{leg_of}
use Rattle.nrm_network.specs.Inner.RowText.{after_commas}
use Rattle.nrm_network.proofs.RowTexts.{row_written}
use Rattle.nrm_network.proofs.writing.push_product.Goals as goal

pub returns : goal.returns
returns c =
    let began : is_ok c.extend_from_slice.result ≡ true = search rules in
    let ended : is_ok c.push.result ≡ true = search rules in
    row_written c.args.text.now.items c.extend_from_slice.new.self.items c.push_field.new.text.items c.push_number.new.text.items
    c.push_leg_names.new.text.items c.push.new.self.items (codes "product") (c.args.product.now.name) (decimal c.args.product.now.fare)
    (map (λ (i : ℕ). (leg_of c.args.net.now i).name) c.args.product.now.legs)
    (rw began at c.extend_from_slice.ensures.items)
    (c.in_ok-push_field.ensures ∙ ap (λ (n : List ℕ). c.extend_from_slice.new.self.items ++ 44 ∷ n) (c.bytes.ensures.bytes))
    (c.in_ok-push_number.ensures)
    (c.in_ok-push_leg_names.ensures
    ∙ ap (λ (ns : List ℕ). c.push_number.new.text.items ++ after_commas (map (λ (i : ℕ). (leg_of c.args.net.now i).name) ns))
    c.as_slice.ensures)
    (rw ended at c.push.ensures.items)
