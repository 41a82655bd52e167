-- The commands that a maker gives, one after another, are the made commands.
use Rattle.std.proofs.Common.{ℕ, suc, ◌≡◌, ◌-◌, ◌<◌, ◌≤◌, List, [], ◌∷◌, Some, None, Bool, refl, sym, ap, ◌∙◌, arith, inl, inr}
use Rattle.std.proofs.Common.{if◌then◌else◌}
use Rattle.std.proofs.lemmas.Bool.{cases_lt, lt-ltb, le-ltb}
use Rattle.nrm_stream.specs.declared.command.Command.{Command}
use Rattle.nrm_gen.specs.Draws.{state_after}
use Rattle.nrm_gen.specs.MadeCommands.{Making, after_next, command_at, commands_from, made_commands, next_of}

-- those that a maker still has to give
abbrev pub commands_left : Making → List Command
commands_left making = commands_from (10000 - making.given) making.given making.state

-- at the beginning all
pub left-at-first : (number : ℕ) → commands_left (record { state = state_after number 1992; given = 0 }) ≡ made_commands number
left-at-first number = refl

first-of : (more n z : ℕ) → commands_from (suc more) n z ≡ (command_at (suc n) z).0 ∷ commands_from more (suc n) (command_at (suc n) z).1
unfolding commands_from
first-of more n z = refl

none-of : (n z : ℕ) → commands_from 0 n z ≡ []
unfolding commands_from
none-of n z = refl

left-next : (making : Making) → making.given < 10000
    → (next_of making ≡ Some (command_at (suc making.given) making.state).0)
    × (commands_left making ≡ (command_at (suc making.given) making.state).0 ∷ commands_left (after_next making))
left-next making few =
    let n = making.given in
    let z = making.state in
    let below = lt-ltb n 10000 few in
    let after : Making = record { state = (command_at (suc n) z).1; given = suc n } in
    let left : 10000 - n ≡ suc (10000 - suc n) = omega arith in (
      ap (λ (b : Bool). if b then Some (command_at (suc n) z).0 else None) below,
      ap (λ (more : ℕ). commands_from more n z) left ∙ first-of (10000 - suc n) n z
          ∙ ap (λ (m : Making). (command_at (suc n) z).0 ∷ commands_left m) (sym (ap (λ (b : Bool). if b then after else making) below)),
    )

none-left : (making : Making) → 10000 ≤ making.given → (next_of making ≡ None) × (commands_left making ≡ [])
none-left making all =
    let n = making.given in
    let none : 10000 - n ≡ 0 = omega arith in (
      ap (λ (b : Bool). if b then Some (command_at (suc n) making.state).0 else None) (le-ltb n 10000 all),
      ap (λ (more : ℕ). commands_from more n making.state) none ∙ none-of n making.state,
    )

-- a command that is given is the first of them, and the others are left
pub given-first : (making : Making) (command : Command) → Some command ≡ next_of making
    → commands_left making ≡ command ∷ commands_left (after_next making)
given-first making command given = elim (cases_lt making.given 10000) [
  | inl few ↦
      let (next, left) = left-next making few in
      let same : command ≡ (command_at (suc making.given) making.state).0 = cc in
      left ∙ ap (λ (c : Command). c ∷ commands_left (after_next making)) (sym same)
  | inr all ↦ let next = (none-left making all).0 in cc
]

-- where none is given, none is left
pub given-none : (making : Making) → None ≡ next_of making → commands_left making ≡ []
given-none making given = elim (cases_lt making.given 10000) [
  | inl few ↦ let next = (left-next making few).0 in cc
  | inr all ↦ (none-left making all).1
]
