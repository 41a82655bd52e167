use Rattle.std.proofs.Common.{◌∙◌, sym, ap}
use Rattle.std.specs.Option.{option_map}
use Rattle.nrm_dual.specs.Inner.Sheets.{meant}
use Rattle.nrm_dual.proofs.LineWords.{no-place}
use Rattle.nrm_dual.proofs.place.place_named.Goals as goal

pub returns-in_err-name-clause-place : goal.returns-in_err-name-clause-place
returns-in_err-name-clause-place c =
    ap (option_map meant) c.from_residual.ensures
    ∙ sym (no-place c.args.net.now c.args.kind.now c.args.name.now c.requires (sym c.name_of.ensures ∙ c.in_err-name.was))
