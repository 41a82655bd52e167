-- Rows are given again one after another, each with the end of its line.
use Rattle.std.proofs.Common.{ℕ, List, ◌≡◌, ◌+◌, ◌++◌, ◌∷◌, length, sym, subst, take}
use Rattle.std.proofs.lemmas.List.{length-take-le}
use Rattle.std.proofs.lemmas.Result.{err_from_is_err_and}
use Rattle.nrm_hub.specs.Again.{StopsAt, unended}
use Rattle.nrm_hub.specs.declared.again.AgainFault.TheVariants as fault
use Rattle.nrm_hub.proofs.AgainRows.{end-within, first-line, none-yet, one-more, one-part, some-waits, stops-here, stops-there, whole-front, with-end}
use Rattle.nrm_hub.proofs.again.give_again.Goals as goal

pub loop-rest-init : goal.loop-rest-init
loop-rest-init c = none-yet c.args.register.now c.args.payload.now c.requires.given

pub returns-in_default-clause-fails : goal.returns-in_default-clause-fails
returns-in_default-clause-fails c =
    let rest : List ℕ = c.loop-rest.rest.now in
    let stops : StopsAt c.loop-rest.register rest (fault.NoRow (c.rows.result + 1)) =
    subst (λ (n : ℕ). StopsAt c.loop-rest.register rest (fault.NoRow (n + 1))) (sym c.rows.ensures.rows)
    (unended (some-waits rest c.is_empty.result c.is_empty.ensures c.loop-rest-test.true) (one-part rest c.in_default.ensures)) in
    stops-here c.args.register.now c.loop-rest.register c.args.payload.now rest (fault.NoRow (c.rows.result + 1)) c.loop-rest.invariant stops

pub slice_bounds-row_again-end : goal.slice_bounds-row_again-end
slice_bounds-row_again-end c =
    let rest : List ℕ = c.loop-rest.rest.now in
    let line : List ℕ = c.in-Some.line.now in
    let cut : rest ≡ line ++ 10 ∷ c.in-Some.behind.now = first-line rest line c.in-Some.behind.now c.in-Some.ensures.0 in
    sym (length-take-le (length line + 1) rest (end-within rest line c.in-Some.behind.now cut))

pub row_again-requires-clause-line : goal.row_again-requires-clause-line
row_again-requires-clause-line c =
    let rest : List ℕ = c.loop-rest.rest.now in
    let line : List ℕ = c.in-Some.line.now in
    with-end rest line c.in-Some.behind.now (first-line rest line c.in-Some.behind.now c.in-Some.ensures.0)

pub returns-in_err-row_again-clause-fails : goal.returns-in_err-row_again-clause-fails
returns-in_err-row_again-clause-fails c =
    let rest : List ℕ = c.loop-rest.rest.now in
    let line : List ℕ = c.in-Some.line.now in
    let behind : List ℕ = c.in-Some.behind.now in
    let cut : rest ≡ line ++ 10 ∷ behind = first-line rest line behind c.in-Some.ensures.0 in
    let stops : StopsAt c.loop-rest.register rest c.in_err-row_again.field-0.0 =
    stops-there c.loop-rest.register line (take (length line + 1) rest) behind rest c.in_err-row_again.field-0.0 (with-end rest line behind cut)
    (whole-front rest line behind cut) c.in_err-row_again.ensures.fails in
    let p = err_from_is_err_and c.from_residual.result c.from_residual.ensures.1 in
    rw (p.1, p.2) (stops-here c.args.register.now c.loop-rest.register c.args.payload.now rest c.in_err-row_again.field-0.0 c.loop-rest.invariant stops)

pub loop-rest-preserved : goal.loop-rest-preserved
loop-rest-preserved c =
    let rest : List ℕ = c.loop-rest.rest.now in
    let line : List ℕ = c.in-Some.line.now in
    let behind : List ℕ = c.in-Some.behind.now in
    let cut : rest ≡ line ++ 10 ∷ behind = first-line rest line behind c.in-Some.ensures.0 in
    one-more c.args.register.now c.loop-rest.register c.row_again.new.register c.args.payload.now rest (take (length line + 1) rest) behind
    c.loop-rest.invariant c.in_ok-row_again.ensures.again (whole-front rest line behind cut) c.in_ok-row_again.ensures.given
