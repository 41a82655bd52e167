-- A line of five words or more is no header.
use Rattle.std.proofs.Common.{◌==◌, ◌∷◌, ◌∙◌, sym, ap}
use Rattle.std.specs.List.{slice_split}
use Rattle.nrm_stream.proofs.Cuts.{some-parts}
use Rattle.nrm_frames.specs.Headers.{header_of_words}
use Rattle.nrm_frames.proofs.Words.{too-many-words}
use Rattle.nrm_frames.proofs.header.header_of.Goals as goal

pub returns-in-Some-split_once-3 : goal.returns-in-Some-split_once-3
returns-in-Some-split_once-3 c =
    let first = c.in-Some.first.now in
    let second = c.in-Some-split_once.second.now in
    let third = c.in-Some-split_once-2.third.now in
    let (fourth, rest) = c.in-Some-split_once-3.field-0 in
    let words = c.in-Some.ensures.0
    ∙ ap (λ more. first ∷ more) (c.in-Some-split_once.ensures.0
    ∙ ap (λ more. second ∷ more) (c.in-Some-split_once-2.ensures.0 ∙ ap (λ more. third ∷ more) c.in-Some-split_once-3.ensures.0)) in
    sym (ap header_of_words words ∙ too-many-words first second third fourth.now (slice_split (λ b. b == 32) rest.now)
    (some-parts (λ b. b == 32) rest.now))
