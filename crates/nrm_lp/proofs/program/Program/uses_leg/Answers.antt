use Rattle.std.proofs.Common.{◌∙◌, ap, sym, []}
use Rattle.std.proofs.lemmas.Option.{get_or_from_slice_get}
use Rattle.nrm_lp.specs.Program.{names}
use Rattle.nrm_lp.proofs.Named.{names_is}
use Rattle.nrm_lp.proofs.program.Program.uses_leg.Goals as goal

pub returns-clause-uses : goal.returns-clause-uses
returns-clause-uses c =
    let read = get_or_from_slice_get c.args.self.now.legs c.args.product c.legs_of.result.now [] (sym c.legs_of.ensures.legs) in
    c.contains.ensures.value ∙ names_is c.args.leg c.legs_of.result.now ∙ ap (names c.args.leg) (sym read)
