-- The seats that were read so far are those of the fields so far.
use Rattle.std.proofs.Common.{ℕ, ◌≡◌, ◌+◌, ◌<◌, List, [], ◌∷◌, ◌++◌, length, take, false, subst, arith, rules, Err}
use Rattle.std.proofs.lemmas.List.{take_more_set, length-set}
use Rattle.nrm_network.specs.Inner.RowFields.{fields_in}
use Rattle.nrm_network.proofs.RowFields.{ReadTo, read-within, read-outside, read-off, read-freely}
use Rattle.nrm_network.proofs.row.seats_in.Goals as goal
use Rattle.nrm_network.proofs.row.seats_in.Goals.{in-Some, in-None}

pub returns-in_err-count : goal.returns-in_err-count
returns-in_err-count c =
    let (places, so_far) = c.loop-i.invariant in
    let short : c.loop-i.i + 3 < length (fields_in c.args.row.now) = omega (arith, places, c.loop-i-test.true) in
    let gives : c.from_residual.result ≡ Err c.in_err-count.field-0.0 = search rules in
    let off = c.in_err-count.ensures in
    rw gives (
      read-off 3 0 999 (fields_in c.args.row.now) (c.loop-i.i + 3) short c.field.result.now
          (take c.loop-i.i c.loop-i.seats) c.loop-i.within c.field.ensures off.0 so_far,
      off.1,
    )

pub loop-i-preserved : goal.loop-i-preserved
loop-i-preserved c =
    let fields : List (List ℕ) = fields_in c.args.row.now in
    let i : ℕ = c.loop-i.i in
    let seats : List ℕ = c.loop-i.seats in
    let (places, so_far) = c.loop-i.invariant in
    let short : i + 3 < length fields = omega (arith, places, c.loop-i-test.true) in
    let next : i + 3 + 1 ≡ i + 1 + 3 = omega arith in
    elim c.match-branch-2.branch [
      | in-Some w ↦
          let number : ℕ = w.in-Some.count in
          let read = read-within 3 0 999 fields (i + 3) short c.field.result.now number (take i seats) c.loop-i.within c.field.ensures
          (rw w.in-Some.is at c.in_ok-count.ensures) so_far in
          let written = take_more_set seats i number (omega (arith, c.loop-i-test.true)) in
          rw (w.seats-is, w.within-is) (
            omega (arith, places, length-set seats i number),
            rw written (subst (λ (n : ℕ). ReadTo 3 0 999 fields n (take i seats ++ number ∷ []) c.loop-i.within) next read),
          )
      | in-None w ↦
          let read = read-outside 3 0 999 fields (i + 3) short c.field.result.now (take i seats) c.loop-i.within c.field.ensures
          (rw w.in-None.is at c.in_ok-count.ensures) so_far in
          rw (w.seats-is, w.within-is) (
            places,
            read-freely 3 0 999 fields (i + 1 + 3) (take i seats) (take (i + 1) seats)
                (subst (λ (n : ℕ). ReadTo 3 0 999 fields n (take i seats) false) next read),
          )
    ]
