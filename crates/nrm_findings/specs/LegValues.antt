-- What `dp` writes of a leg: its classes, the value of its authorised seats and the protections of its classes.
use Rattle.std.specs.Prelude.{ℕ, pos, ◌≡◌, ◌-◌, ◌^◌, List, [], ◌∷◌, ◌++◌, length, flat_map, map, codes, decimal, Some}
use Rattle.std.specs.Int.{IsInRange, IsOutOfRange}
use Rattle.std.specs.List.{range_with_len}
use Rattle.std.specs.Option.{option_map_or}
use Rattle.nrm_fraction.specs.Fraction.{Fraction, ◌over◌}
use Rattle.nrm_text.specs.Fractions.{fraction_text}
use Rattle.nrm_text.specs.Words.{text_line}
use Rattle.nrm_model.specs.Network.{NetworkValue, leg_named, leg_of, product_of}
use Rattle.nrm_legdp.specs.Classes.{AreClassesOf, ClassesValue, only_on}
use Rattle.nrm_legdp.specs.Policies.{DemandValue, protection, value}
use Rattle.nrm_legdp.specs.Table.{demand_of}
use Rattle.nrm_legdp.specs.declared.limits.TheConstants.{MOST_CLASSES}

-- the product of a class, and its fare
abbrev pub class_line : NetworkValue → ℕ → List ℕ
class_line net product = text_line (codes "class" ∷ (product_of net product).name ∷ decimal (product_of net product).fare ∷ [])

-- the greatest mean revenue of so many seats, for all classes
abbrev pub mean_value : DemandValue → ℕ → Fraction
mean_value c seats = pos (value c (length c.fares) seats) over (c.histories ^ length c.fares)

-- the protection of the first class, of the first two, and so on: of all but the last class together
abbrev pub protections : DemandValue → ℕ → List ℕ
protections c seats = map (protection c seats) (range_with_len 1 (length c.fares - 1))

-- a line for each class, the highest fare first; the value of the seats; the protections
abbrev pub values_text : NetworkValue → List ℕ → ℕ → List ℕ → DemandValue → List ℕ
values_text net leg seats products c =
    flat_map (class_line net) products ++ text_line (codes "value" ∷ leg ∷ fraction_text (mean_value c seats) ∷ [])
    ++ text_line (codes "protect" ∷ leg ∷ map (λ seats. decimal seats) (protections c seats))

-- the demand of these classes
abbrev pub their_demand : NetworkValue → ClassesValue → DemandValue
their_demand net classes = demand_of net.histories classes.fares classes.demands

-- how many products use the leg of this name and no other: none if no leg has the name
abbrev pub class_count : NetworkValue → List ℕ → ℕ
class_count net name = option_map_or (λ leg. length (only_on net leg)) (leg_named net name) 0

-- there are classes, and not too many
abbrev pub HasClasses : NetworkValue → List ℕ → Type 0
HasClasses net leg = IsInRange 1 MOST_CLASSES (class_count net leg)

-- a leg of this name has classes, and not too many, and the text tells the value of its authorised seats
pub record IsValued (net : NetworkValue) (leg : List ℕ) (text : List ℕ) : Type 0 where
  pub number : ℕ
  pub classes : ClassesValue
  pub named : leg_named net leg ≡ Some number
  pub count : HasClasses net leg
  pub classes_of_leg : AreClassesOf net number classes
  pub told : text ≡ values_text net leg (leg_of net number).authorised classes.products (their_demand net classes)

-- there are no classes, or too many
abbrev pub HasNoClasses : NetworkValue → List ℕ → Type 0
HasNoClasses net leg = IsOutOfRange 1 MOST_CLASSES (class_count net leg)

abbrev pub no_classes_line : ℕ → List ℕ
no_classes_line count = text_line (codes "classes" ∷ decimal count ∷ [])
