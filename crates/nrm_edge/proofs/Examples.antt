-- Counts of faults, and what a fetch may answer, by hand.
use Rattle.std.proofs.Common.{◌≡◌, [], ◌∷◌, length, ap, arith, refl}
use Rattle.std.specs.Prelude.{ℕ, ◌^◌, ◌-◌, List, Some, None, Ok, Err}
use Rattle.nrm_edge.specs.Causes.{HasCause, Rose}
use Rattle.nrm_edge.specs.Fetch.{HasFileCause, IsFetched}
use Rattle.nrm_edge.specs.declared.files.Fetched.{Fetched}
use Rattle.nrm_edge.specs.declared.files.Fetched.TheVariants.{Whole, Longer, Absent}
use Rattle.nrm_edge.specs.declared.files.FileFault.TheVariants as fault

-- a count that stands has not risen, but at the last value of u64 none can rise
stands : Rose 3 3 → ⊥
stands rose = omega (arith, rose)

rises : Rose 3 4
rises = refl

rises_by_two : Rose 3 5 → ⊥
rises_by_two rose = omega (arith, rose)

stands_at_the_last : Rose (2 ^ 64 - 1) (2 ^ 64 - 1)
stands_at_the_last = refl

-- a call that is done counted nothing, and one that failed counted something
counted_though_done : {T E : Type 0} (value : T) → HasCause {T = T} {E = E} 3 4 (Ok value) → ⊥
counted_though_done value cause = omega (arith, cause.done)

failed_without_a_count : {T E : Type 0} (error : E) → HasCause {T = T} {E = E} 3 3 (Err error) → ⊥
failed_without_a_count error cause = omega (arith, cause.failed)

fetched_and_counted : (answer : Fetched) → HasFileCause 3 4 (Ok answer) → ⊥
fetched_and_counted answer cause = omega (arith, cause)

failed_fetch_without_a_count : HasFileCause 3 3 (Err fault.Failed) → ⊥
failed_fetch_without_a_count cause = omega (arith, cause.1)

want_of_memory_counted : HasFileCause 3 4 (Err fault.NoMemory) → ⊥
want_of_memory_counted cause = omega (arith, cause)

-- a file of as many bytes as there is room is fetched whole, and one of a byte more is not
abbrev four : List ℕ
four = 97 ∷ 98 ∷ 99 ∷ 100 ∷ []

too_long : (answer : Fetched) → IsFetched (Some four) 3 answer → answer ≡ Longer
too_long (Whole bytes) (is, fits) =
    let these : four ≡ bytes.items = cc in
    let count = ap length these in
    absurd (omega (arith, count, fits))
too_long Longer found = refl
too_long Absent found = absurd (cc)

just_fits : IsFetched (Some four) 4 Longer → ⊥
just_fits (bytes, is, longer) =
    let these : four ≡ bytes = cc in
    let count = ap length these in
    omega (arith, count, longer)

not_there : IsFetched None 4 Absent
not_there = refl

there : IsFetched (Some four) 4 Absent → ⊥
there absent = cc
