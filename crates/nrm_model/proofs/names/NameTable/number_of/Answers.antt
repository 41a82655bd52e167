use Rattle.std.proofs.Common.{◌∙◌, ap, bytes_eq}
use Rattle.std.specs.List.{position_from}
use Rattle.nrm_model.proofs.NameLemmas.{name-position}
use Rattle.nrm_model.proofs.names.NameTable.number_of.Goals as goal

pub returns : goal.returns
returns c = c.get_index_of.ensures.index ∙ name-position c.args.name.now c.self.inside.names.keys ∙ ap (position_from (λ other. bytes_eq other c.args.name.now) 0) c.self.view_is
