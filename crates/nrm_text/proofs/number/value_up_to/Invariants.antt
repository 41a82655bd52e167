-- The digits so far have the value so far.
use Rattle.std.proofs.Common.{◌≡◌, ◌≤◌, ◌+◌, ◌-◌, ◌*◌, drop}
use Rattle.std.specs.Prelude.{fold}
use Rattle.std.specs.Char.{is_ascii_digit}
use Rattle.std.specs.List.{list_all}
use Rattle.nrm_text.specs.Numbers.{value_of}
use Rattle.nrm_text.proofs.number.value_up_to.Given as goal

-- the bytes so far are digits; the value so far, gone on with over those to come, is the value of all, and it isn't above the greatest
abbrev pub invariant-loop-c : goal.invariant-loop-c
invariant-loop-c l = record {
  digits : list_all is_ascii_digit l.bytes ≡ list_all is_ascii_digit (drop l.c-index l.bytes);
  so_far : fold (λ value c. value * 10 + (c - 48)) l.value (drop l.c-index l.bytes) ≡ value_of l.bytes;
  within : l.value ≤ l.max;
}
