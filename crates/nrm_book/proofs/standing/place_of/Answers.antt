-- The numbers of the row rise, and the closure gives a slot's number.
use Rattle.std.proofs.Common.{rules, ◌∙◌}
use Rattle.std.proofs.lemmas.List.Sorted.{answers_always}
use Rattle.nrm_book.specs.declared.slot.Slot.{Slot}
use Rattle.nrm_book.proofs.NumberSearch.{searched}
use Rattle.nrm_book.proofs.standing.place_of.Goals as goal

pub returns : goal.returns
returns c =
    let facts = c.binary_search_by_key.ensures in
    let by_key = facts.position (λ (slot : Slot). slot.number) (answers_always _ _ _ (λ f a r g called. search rules)) in
    c.ok.ensures.value ∙ searched c.args.slots.now c.args.number c.binary_search_by_key.result c.requires facts.bound by_key
