-- The pieces that were put are the row of the leg.
use Rattle.std.proofs.Common.{ℕ, ◌≡◌, ◌∙◌, ◌++◌, ◌∷◌, List, true, is_ok, map, ap, rules, codes, append_assoc}
use Rattle.std.specs.Prelude.{decimal}
use Rattle.nrm_network.specs.Inner.RowText.{after_commas}
use Rattle.nrm_network.proofs.RowTexts.{row_written}
use Rattle.nrm_network.proofs.writing.push_leg.Goals as goal

-- a number, and those after it
more-written : (s0 s1 s2 number : List ℕ) (more : List (List ℕ)) → s1 ≡ s0 ++ 44 ∷ number → s2 ≡ s1 ++ after_commas more
    → s2 ≡ s0 ++ after_commas (number ∷ more)
more-written s0 s1 s2 number more e1 e2 = e2 ∙ ap (λ s. s ++ after_commas more) e1 ∙ append_assoc s0 (44 ∷ number) (after_commas more)

pub returns : goal.returns
returns c =
    let began : is_ok c.extend_from_slice.result ≡ true = search rules in
    let ended : is_ok c.push.result ≡ true = search rules in
    row_written c.args.text.now.items c.extend_from_slice.new.self.items c.push_field.new.text.items c.push_number.new.text.items
    c.push_numbers.new.text.items c.push.new.self.items (codes "leg") (c.args.leg.now.name) (decimal c.args.leg.now.seats)
    (decimal c.args.leg.now.authorised ∷ map decimal c.args.leg.now.cuts)
    (rw began at c.extend_from_slice.ensures.items)
    (c.in_ok-push_field.ensures ∙ ap (λ (n : List ℕ). c.extend_from_slice.new.self.items ++ 44 ∷ n) (c.bytes.ensures.bytes))
    (c.in_ok-push_number.ensures ∙ ap (λ (n : ℕ). c.push_field.new.text.items ++ 44 ∷ decimal n) (c.from.ensures))
    (more-written c.push_number.new.text.items c.push_number-2.new.text.items c.push_numbers.new.text.items (decimal c.args.leg.now.authorised)
    (map decimal c.args.leg.now.cuts)
    (c.in_ok-push_number-2.ensures ∙ ap (λ (n : ℕ). c.push_number.new.text.items ++ 44 ∷ decimal n) c.from-2.ensures)
    (c.in_ok-push_numbers.ensures ∙ ap (λ (ns : List ℕ). c.push_number-2.new.text.items ++ after_commas (map decimal ns)) c.as_slice.ensures))
    (rw ended at c.push.ensures.items)
