use Rattle.std.proofs.Common.{◌≡◌, List, ℕ, Bool, [], length, nat_eq, true, arith, sym, subst}
use Rattle.std.proofs.lemmas.Bool.Decides.{nat_tests}
use Rattle.nrm_frames.specs.declared.header.Header.TheVariants as header
use Rattle.nrm_desks_cli.specs.Inner.Handling.{Handles}
use Rattle.nrm_desks_cli.proofs.Frames.{nothing-of, puts-handled}
use Rattle.nrm_desks_cli.proofs.handling.again.Goals as goal

is-empty : (xs : List ℕ) (test : Bool) → test ≡ true → test ≡ nat_eq (length xs) 0 → xs ≡ []
is-empty xs test is are = nothing-of xs (grind (arith, nat_tests))

pub returns-then-is_empty-clause-handles : goal.returns-then-is_empty-clause-handles
returns-then-is_empty-clause-handles g c =
    let held = g.K.Sink.held in
    let faults = g.K.Sink.faults in
    let payload : List ℕ = c.args.payload.now in
    let empty : payload ≡ [] = is-empty payload c.is_empty.result c.if-is_empty.true c.is_empty.ensures in
    subst (λ (p : List ℕ). Handles c.args.hub.now c.ready.new.self (header.Again (length p)) p (held c.args.sink.now) (held c.ready.new.sink)
    (faults c.args.sink.now) (faults c.ready.new.sink) c.outcome_of.result) (sym empty)
    (puts-handled c.args.hub.now c.ready.new.self (header.Again 0) [] (held c.args.sink.now) (held c.ready.new.sink)
    (faults c.args.sink.now) (faults c.ready.new.sink) c.ready.result c.outcome_of.result c.outcome_of.ensures
    c.ready.ensures.puts c.ready.ensures.cut c.ready.ensures.cause)
