-- A certificate as a text: the mean value over the histories, the mean allocation of each product and the bid price of each leg.
use Rattle.std.specs.Prelude.{ℕ, List, [], ◌∷◌, ◌++◌, length, flat_map, codes}
use Rattle.std.specs.List.{range_with_len}
use Rattle.nrm_text.specs.Words.{text_line}
use Rattle.nrm_text.specs.Fractions.{fraction_text}
use Rattle.nrm_model.specs.Network.{NetworkValue, leg_of, product_of}
use Rattle.nrm_lp.specs.declared.certificate.Certificate.{Certificate}
use Rattle.nrm_lp.specs.Means.{bid_price, mean_allocation, mean_value}

-- the mean value: a history's share of the value
abbrev pub value_line : NetworkValue → Certificate → List ℕ
value_line net c = text_line (codes "value" ∷ fraction_text (mean_value net.histories c) ∷ [])

-- what a product is allotted in a history, on the mean
abbrev pub product_line : NetworkValue → Certificate → ℕ → List ℕ
product_line net c product =
    text_line (codes "product" ∷ (product_of net product).name ∷ fraction_text (mean_allocation net.histories c product) ∷ [])

-- the bid price of a leg
abbrev pub leg_line : NetworkValue → Certificate → ℕ → List ℕ
leg_line net c leg = text_line (codes "leg" ∷ (leg_of net leg).name ∷ fraction_text (bid_price c leg) ∷ [])

-- the value's line, those of the products, those of the legs
abbrev pub certificate_text : NetworkValue → Certificate → List ℕ
certificate_text net c =
    value_line net c
    ++ flat_map (product_line net c) (range_with_len 0 (length net.products))
    ++ flat_map (leg_line net c) (range_with_len 0 (length net.legs))
