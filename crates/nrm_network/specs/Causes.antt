-- The causes for which a file is refused, in words.
use Rattle.std.specs.Prelude.{ℕ, List, codes}
use Rattle.nrm_network.specs.declared.fault.Why.{Why}
use Rattle.nrm_network.specs.declared.fault.Why.TheVariants as why

-- the number and the word of a cause
abbrev pub why_text : Why → List ℕ
why_text why.Kind = codes "1 kind"
why_text why.Order = codes "2 order"
why_text why.Fields = codes "3 fields"
why_text why.Many = codes "4 many"
why_text why.Name = codes "5 name"
why_text why.Number = codes "6 number"
why_text why.Range = codes "7 range"
why_text why.Twice = codes "8 twice"
why_text why.Missing = codes "9 missing"
why_text why.Thresholds = codes "10 thresholds"
why_text why.Sum = codes "11 sum"
why_text why.Empty = codes "12 empty"
why_text why.Size = codes "13 size"
