use Rattle.std.proofs.Common.{rules}
use Rattle.std.proofs.lemmas.List.Elements.{filter_from_retain}
use Rattle.nrm_book.specs.Standing.{is_taken}
use Rattle.nrm_book.proofs.standing.pack.Goals as goal

pub returns-clause-items : goal.returns-clause-items
returns-clause-items c = filter_from_retain _ is_taken (λ p x b q called. search rules) _ _ _ c.retain.ensures.filtered
