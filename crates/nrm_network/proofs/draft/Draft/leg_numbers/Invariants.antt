use Rattle.std.proofs.Common.{◌≡◌, ◌++◌, List, drop, map}
use Rattle.std.specs.List.{list_all}
use Rattle.nrm_network.specs.Rows.{Row, is_named}
use Rattle.nrm_network.specs.File.{number_of_leg}
use Rattle.nrm_network.specs.Inner.Draft.{names_of}
use Rattle.nrm_network.proofs.draft.Draft.leg_numbers.Given as goal

abbrev pub invariant-loop-name : goal.invariant-loop-name
invariant-loop-name l =
    (legs : List Row) → l.self.leg_names ≡ names_of legs
    → (list_all (is_named legs) l.names ≡ list_all (is_named legs) (drop l.name-index l.names))
    × (l.numbers.items ++ map (number_of_leg legs) (drop l.name-index l.names) ≡ map (number_of_leg legs) l.names)
