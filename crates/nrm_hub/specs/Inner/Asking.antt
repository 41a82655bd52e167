-- What is asked for is within the limits.
use Rattle.std.specs.Prelude.{ℕ, Option, Some, None, ⊤}
use Rattle.std.specs.Int.{IsInRange}
use Rattle.nrm_stream.specs.Commands.{IsCommand}
use Rattle.nrm_hub.specs.declared.limits.TheConstants.{LAST_SEQUENCE}
use Rattle.nrm_hub.specs.declared.asked.Asked.{Asked}
use Rattle.nrm_hub.specs.declared.asked.Asked.TheVariants as asked

abbrev pub IsNumber : Option ℕ → Type 0
IsNumber None = ⊤
IsNumber (Some number) = IsInRange 1 LAST_SEQUENCE number

abbrev pub IsAsked : Asked → Type 0
IsAsked (asked.Greeting name number) = IsNumber number
IsAsked (asked.Ask product) = ⊤
IsAsked (asked.Says command) = IsCommand command
