use Rattle.std.proofs.Common.{ℕ, List, ◌∙◌, ap, bytes_eq}
use Rattle.indexmap.specs.IndexSet.{insert_key}
use Rattle.nrm_model.proofs.NameLemmas.{insert_key-new}
use Rattle.nrm_model.proofs.names.NameTable.add.Goals as goal

pub returns-clause-added : goal.returns-clause-added
returns-clause-added c =
    c.in_ok-insert.ensures.keys ∙ ap (λ (names : List (List ℕ)). insert_key bytes_eq names c.args.name) c.self.view_is
    ∙ insert_key-new c.args.self.now c.args.name c.requires
