-- A line of four words or more asks nothing of the hub itself.
use Rattle.std.proofs.Common.{◌==◌, ◌∷◌, ◌∙◌, sym, ap}
use Rattle.std.specs.List.{slice_split}
use Rattle.nrm_stream.proofs.Cuts.{some-parts}
use Rattle.nrm_hub.specs.Asked.{asked_of_words}
use Rattle.nrm_hub.proofs.AskingWords.{too-many-words}
use Rattle.nrm_hub.proofs.asked.asked_of_words.Goals as goal

pub returns-in-Some-split_once-clause-asked : goal.returns-in-Some-split_once-clause-asked
returns-in-Some-split_once-clause-asked c =
    let first = c.in_ok-first.ensures in
    let second = c.in-Some.ensures in
    let third = c.in-Some-split_once.ensures in
    let last = c.in-Some-split_once.field-0 in
    let words = first.0 ∙ ap (λ more. c.in_ok-first.first.now ∷ more) (second.0 ∙ ap (λ more. c.in-Some.second.now ∷ more) third.0) in
    sym (ap asked_of_words words ∙ too-many-words c.in_ok-first.first.now c.in-Some.second.now last.0.now
    (slice_split (λ b. b == 32) last.1.now) (some-parts (λ b. b == 32) last.1.now))
