use Rattle.std.proofs.Common.{◌==◌, ◌∷◌, ◌∙◌, sym, ap}
use Rattle.std.specs.List.{slice_split}
use Rattle.nrm_dual.specs.Reading.{written_by}
use Rattle.nrm_dual.specs.Inner.Sheets.{fitting}
use Rattle.nrm_stream.proofs.Cuts.{some-parts}
use Rattle.nrm_dual.proofs.LineWords.{too-many-parts}
use Rattle.nrm_dual.proofs.written.written_in.Goals as goal

pub returns-in-Some-split_once : goal.returns-in-Some-split_once
returns-in-Some-split_once c =
    let first = c.in-Some.ensures in
    let second = c.in-Some-split_once.ensures in
    let last = c.in-Some-split_once.field-0 in
    let parts = first.0 ∙ ap (λ more. c.in-Some.num.now ∷ more) second.0 in
    sym (ap (λ words. fitting (written_by words)) parts ∙ ap fitting (too-many-parts c.in-Some.num.now last.0.now (slice_split (λ b. b == 47) last.1.now) (some-parts (λ b. b == 47) last.1.now)))
