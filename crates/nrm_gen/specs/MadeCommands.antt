-- The 10,000 commands that are made after the network.
use Rattle.std.specs.Prelude.{ℕ, zero, suc, ◌+◌, ◌==◌, List, [], ◌∷◌, nat_lt, Option, Some, None, if◌then◌else◌}
use Rattle.nrm_stream.specs.declared.command.Command.{Command}
use Rattle.nrm_stream.specs.declared.command.Command.TheVariants as command
use Rattle.nrm_gen.specs.Draws.{drawn, state_after, stirred}
use Rattle.nrm_gen.specs.MadeNetwork.{leg_name, product_name}

-- by a lot from 0 to 19, at the state after the lot was drawn: a request for a product, drawn first, and a party of 1
-- to 3; a cancellation of one of the numbers 1 to 400; or a leg. With it the state after its draws
abbrev pub by_lot : ℕ → ℕ → Command × ℕ
by_lot lot z =
    if nat_lt lot 15 then (command.Book (product_name (drawn 60 (stirred z))) (1 + drawn 3 (stirred (stirred z))), stirred (stirred z))
    else if nat_lt lot 19 then (command.Cancel (1 + drawn 400 (stirred z)), stirred z)
    else (command.Leg (leg_name (drawn 12 (stirred z))), stirred z)

-- the command of a number, from 1, at the state before it, and the state after it: three optimisations, hindsight at
-- the end, and all others by lot
abbrev pub command_at : ℕ → ℕ → Command × ℕ
command_at n z =
    if n == 2500 then (command.Reoptimise 2, z)
    else if n == 5000 then (command.Reoptimise 3, z)
    else if n == 7500 then (command.Reoptimise 4, z)
    else if n == 10000 then (command.Hindsight, z)
    else by_lot (drawn 20 (stirred z)) (stirred z)

-- so many commands, after the first n, from a state on
unfoldable pub commands_from : ℕ → ℕ → ℕ → List Command
commands_from zero n z = []
commands_from (suc more) n z = (command_at (suc n) z).0 ∷ commands_from more (suc n) (command_at (suc n) z).1

-- how many commands there are
abbrev pub command_count : ℕ
command_count = 10000

-- the network takes the first 1,992 draws
abbrev pub made_commands : ℕ → List Command
made_commands number = commands_from command_count 0 (state_after number 1992)

-- a maker of commands: the state of its draws, and how many commands it has given
pub record Making : Type 0 where
  pub state : ℕ
  pub given : ℕ

-- the command that it gives next, and none after the last
abbrev pub next_of : Making → Option Command
next_of making = if nat_lt making.given command_count then Some (command_at (suc making.given) making.state).0 else None

abbrev pub after_next : Making → Making
after_next making =
    if nat_lt making.given command_count
    then record { state = (command_at (suc making.given) making.state).1; given = suc making.given } else making
