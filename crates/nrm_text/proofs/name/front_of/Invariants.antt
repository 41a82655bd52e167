-- The bytes so far may stand in a name, and stand before zeros.
use Rattle.std.proofs.Common.{◌≡◌, ◌≤◌, ◌-◌, ◌++◌, replicate, take, true}
use Rattle.std.specs.List.{list_all}
use Rattle.nrm_text.specs.Names.{is_name_byte}
use Rattle.nrm_text.proofs.name.front_of.Given as goal

abbrev pub invariant-loop-len : goal.invariant-loop-len
invariant-loop-len l = record {
  within : l.len ≤ l.most;
  may_stand : list_all is_name_byte (take l.len l.bytes) ≡ true;
  kept : l.kept ≡ take l.len l.bytes ++ replicate (12 - l.len) 0;
}

abbrev pub decreases-loop-len : goal.decreases-loop-len
decreases-loop-len l = l.most - l.len
