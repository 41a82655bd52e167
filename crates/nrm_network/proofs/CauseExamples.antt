-- The text of each cause once, byte by byte.
use Rattle.std.specs.Prelude.{◌≡◌, [], ◌∷◌, refl}
use Rattle.nrm_network.specs.Causes.{why_text}
use Rattle.nrm_network.specs.declared.fault.Why.TheVariants as why

kind_text : why_text why.Kind ≡ 49 ∷ 32 ∷ 107 ∷ 105 ∷ 110 ∷ 100 ∷ []
kind_text = refl

order_text : why_text why.Order ≡ 50 ∷ 32 ∷ 111 ∷ 114 ∷ 100 ∷ 101 ∷ 114 ∷ []
order_text = refl

fields_text : why_text why.Fields ≡ 51 ∷ 32 ∷ 102 ∷ 105 ∷ 101 ∷ 108 ∷ 100 ∷ 115 ∷ []
fields_text = refl

many_text : why_text why.Many ≡ 52 ∷ 32 ∷ 109 ∷ 97 ∷ 110 ∷ 121 ∷ []
many_text = refl

name_text : why_text why.Name ≡ 53 ∷ 32 ∷ 110 ∷ 97 ∷ 109 ∷ 101 ∷ []
name_text = refl

number_text : why_text why.Number ≡ 54 ∷ 32 ∷ 110 ∷ 117 ∷ 109 ∷ 98 ∷ 101 ∷ 114 ∷ []
number_text = refl

range_text : why_text why.Range ≡ 55 ∷ 32 ∷ 114 ∷ 97 ∷ 110 ∷ 103 ∷ 101 ∷ []
range_text = refl

twice_text : why_text why.Twice ≡ 56 ∷ 32 ∷ 116 ∷ 119 ∷ 105 ∷ 99 ∷ 101 ∷ []
twice_text = refl

missing_text : why_text why.Missing ≡ 57 ∷ 32 ∷ 109 ∷ 105 ∷ 115 ∷ 115 ∷ 105 ∷ 110 ∷ 103 ∷ []
missing_text = refl

thresholds_text : why_text why.Thresholds ≡ 49 ∷ 48 ∷ 32 ∷ 116 ∷ 104 ∷ 114 ∷ 101 ∷ 115 ∷ 104 ∷ 111 ∷ 108 ∷ 100 ∷ 115 ∷ []
thresholds_text = refl

sum_text : why_text why.Sum ≡ 49 ∷ 49 ∷ 32 ∷ 115 ∷ 117 ∷ 109 ∷ []
sum_text = refl

empty_text : why_text why.Empty ≡ 49 ∷ 50 ∷ 32 ∷ 101 ∷ 109 ∷ 112 ∷ 116 ∷ 121 ∷ []
empty_text = refl

size_text : why_text why.Size ≡ 49 ∷ 51 ∷ 32 ∷ 115 ∷ 105 ∷ 122 ∷ 101 ∷ []
size_text = refl
