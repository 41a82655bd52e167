-- Two words are the value's, three a product's or a leg's by its name, and any others no entry.
use Rattle.std.proofs.Common.{◌∙◌, sym, ap, ◌≡◌, None}
use Rattle.std.specs.Option.{option_map}
use Rattle.nrm_dual.specs.Reading.{entry_at, written_in, named_place}
use Rattle.nrm_dual.specs.Inner.Sheets.{meant}
use Rattle.nrm_dual.proofs.LineWords.{value-entry, named-entry, many-entry}
use Rattle.nrm_dual.proofs.place.place_in.Goals as goal

pub returns-then-is_word : goal.returns-then-is_word
returns-then-is_word c =
    let first = c.in_ok-kind.ensures in
    (value-entry c.args.net.now c.args.line.now c.without_carriage_return.result.now c.in_ok-kind.kind.now c.in_ok-kind.rest.now c.without_carriage_return.ensures first.0 c.in_default.ensures (sym c.is_word.ensures ∙ c.if-is_word.true), tt)

pub returns-in_err-place_named-in-None : goal.returns-in_err-place_named-in-None
returns-in_err-place_named-in-None c =
    let first = c.in_ok-kind.ensures in
    let second = c.in-Some.ensures in
    let entry = named-entry c.args.net.now c.args.line.now c.without_carriage_return.result.now c.in_ok-kind.kind.now c.in_ok-kind.rest.now c.without_carriage_return.ensures first.0
    c.in-Some.name.now c.in-Some.fraction.now second.0 c.in-None.ensures in
    let unknown : named_place c.args.net.now c.in_ok-kind.kind.now c.in-Some.name.now ≡ None =
    sym c.place_named.ensures.place ∙ ap (option_map meant) c.in_err-place_named-in-None.was in
    rw c.from_residual-in_err-place_named-in-None.ensures (entry ∙ ap (λ place. entry_at place (written_in c.in-Some.fraction.now)) unknown)

pub returns-in_ok-place_named-in-None : goal.returns-in_ok-place_named-in-None
returns-in_ok-place_named-in-None c =
    let first = c.in_ok-kind.ensures in
    let second = c.in-Some.ensures in
    let entry = named-entry c.args.net.now c.args.line.now c.without_carriage_return.result.now c.in_ok-kind.kind.now c.in_ok-kind.rest.now c.without_carriage_return.ensures first.0
    c.in-Some.name.now c.in-Some.fraction.now second.0 c.in-None.ensures in
    (entry ∙ ap (λ place. entry_at place (written_in c.in-Some.fraction.now)) (sym c.in_ok-place_named-in-None.ensures.place), c.in_ok-place_named-in-None.ensures.within)

pub returns-in-Some-split_once : goal.returns-in-Some-split_once
returns-in-Some-split_once c =
    let first = c.in_ok-kind.ensures in
    let second = c.in-Some.ensures in
    let third = c.in-Some-split_once.ensures in
    let last = c.in-Some-split_once.field-0 in
    many-entry c.args.net.now c.args.line.now c.without_carriage_return.result.now c.in_ok-kind.kind.now c.in_ok-kind.rest.now c.without_carriage_return.ensures first.0
    c.in-Some.name.now c.in-Some.fraction.now last.0.now last.1.now second.0 third.0
