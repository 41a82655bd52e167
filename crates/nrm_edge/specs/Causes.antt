-- When a call may answer that the outside failed.
use Rattle.std.specs.Prelude.{ℕ, Bool, ◌+◌, ◌-◌, ◌^◌, ◌≤◌, ◌≡◌, min, Result, OnOk, OnErr, if◌then◌else◌}

-- one more, but no more than the last value of u64
abbrev pub one_more : ℕ → ℕ
one_more count = min (count + 1) (2 ^ 64 - 1)

-- a count of faults rose by one, or stands at the last value of u64, where no count can rise
abbrev pub Rose : ℕ → ℕ → Type 0
Rose before now = now ≡ one_more before

-- A call leaves the count of faults as it was if it is done, and one that failed counted one fault. So within a call nothing is tried again
-- after a failure: what failed twice would have counted two. The count never falls.
pub record HasCause {T E : Type 0} (before now : ℕ) (result : Result T E) : Type 0 where
  pub later : before ≤ now
  pub done : OnOk result (now ≡ before)
  pub failed : OnErr result (Rose before now)

-- the count after a call that failed, or did not
abbrev pub counted : Bool → ℕ → ℕ
counted failed count = if failed then one_more count else count
