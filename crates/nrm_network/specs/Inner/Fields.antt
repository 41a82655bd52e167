-- What reading the fields of a row gives.
use Rattle.std.specs.Prelude.{ℕ, ◌≡◌, ◌&&◌, Bool, true, false, List, [], ◌∷◌, drop, map, Option, Some, None, Result, Ok, Err, ⊤, Vec}
use Rattle.std.specs.declared.alloc.Global.{Global}
use Rattle.std.specs.List.{list_all}
use Rattle.nrm_text.specs.Names.{is_name}
use Rattle.nrm_text.specs.Numbers.{is_whole, value_of}
use Rattle.nrm_model.specs.declared.limits.TheConstants.{MOST_DEMAND, MOST_SEATS}
use Rattle.nrm_network.specs.Rows.{Row, authorised_field, field, further, further_numbers, leg_kind, threshold_numbers, version_in}
use Rattle.nrm_network.specs.Checks.{NumberField, is_within, number_fields}
use Rattle.nrm_network.specs.declared.fault.RowRefusal.{RowRefusal}
use Rattle.nrm_network.specs.declared.row.LegFigures.{LegFigures}
use Rattle.nrm_network.specs.declared.fault.RowRefusal.TheVariants as fault
use Rattle.nrm_network.specs.declared.fault.Why.{Why}
use Rattle.nrm_network.specs.declared.fault.Why.TheVariants as why

-- the field is a name, which is given, or none
abbrev pub NameIn : List ℕ → Result (List ℕ) Why → Type 0
NameIn text (Ok name) = (is_name text ≡ true) × (name ≡ text)
NameIn text (Err cause) = (is_name text ≡ false) × (cause ≡ why.Name)

-- the fields from the fourth on are names, or one is none; running out of memory is free
abbrev pub NamesIn : Row → Result (Vec (List ℕ) Global) RowRefusal → Type 0
NamesIn row (Ok names) = (list_all is_name (further row) ≡ true) × (names.items ≡ further row)
NamesIn row (Err (fault.Refused cause)) = (list_all is_name (further row) ≡ false) × (cause ≡ why.Name)
NamesIn row (Err fault.NoMemory) = ⊤

-- the field writes a number within its bounds, which is given, or one outside them, or none
abbrev pub NumberIn : NumberField → Result (Option ℕ) Why → Type 0
NumberIn number (Ok (Some value)) = (is_whole number.0 ≡ true) × (is_within number ≡ true) × (value ≡ value_of number.0)
NumberIn number (Ok None) = (is_whole number.0 ≡ true) × (is_within number ≡ false)
NumberIn number (Err cause) = (is_whole number.0 ≡ false) × (cause ≡ why.Number)

-- two fields write numbers of seats, which are given, or one writes a greater number, or one writes none
abbrev pub TwoCountsIn : List ℕ → List ℕ → Result (Option (ℕ × ℕ)) Why → Type 0
TwoCountsIn first second (Ok (Some counts)) =
    (is_whole first ≡ true) × (is_whole second ≡ true) × (is_within (first, 0, MOST_SEATS) ≡ true) × (is_within (second, 0, MOST_SEATS) ≡ true)
    × (counts.0 ≡ value_of first) × (counts.1 ≡ value_of second)
TwoCountsIn first second (Ok None) =
    (is_whole first ≡ true) × (is_whole second ≡ true)
    × ((is_within (first, 0, MOST_SEATS) && is_within (second, 0, MOST_SEATS)) ≡ false)
TwoCountsIn first second (Err cause) = ((is_whole first && is_whole second) ≡ false) × (cause ≡ why.Number)

-- texts with the same bounds
abbrev pub bounded : ℕ → ℕ → List (List ℕ) → List NumberField
bounded least greatest texts = map (λ text. (text, least, greatest)) texts

abbrev pub are_whole : List NumberField → Bool
are_whole numbers = list_all (λ (number : NumberField). is_whole number.0) numbers

-- the fields from a place on write numbers within these bounds, or one is outside them, or one is none; running out of memory is free
abbrev pub NumbersIn : ℕ → ℕ → ℕ → Row → Result (Option (Vec ℕ Global)) RowRefusal → Type 0
NumbersIn from least greatest row (Ok (Some numbers)) =
    (are_whole (bounded least greatest (drop from row)) ≡ true) × (list_all is_within (bounded least greatest (drop from row)) ≡ true)
    × (numbers.items ≡ map value_of (drop from row))
NumbersIn from least greatest row (Ok None) =
    (are_whole (bounded least greatest (drop from row)) ≡ true) × (list_all is_within (bounded least greatest (drop from row)) ≡ false)
NumbersIn from least greatest row (Err (fault.Refused cause)) =
    (are_whole (bounded least greatest (drop from row)) ≡ false) × (cause ≡ why.Number)
NumbersIn from least greatest row (Err fault.NoMemory) = ⊤

-- the row of a leg writes these numbers, or one is outside its bounds, or one is none; running out of memory is free
abbrev pub LegFiguresIn : ℕ → Row → Result (Option LegFigures) RowRefusal → Type 0
LegFiguresIn version row (Ok (Some numbers)) =
    (are_whole (number_fields version 0 leg_kind row) ≡ true) × (list_all is_within (number_fields version 0 leg_kind row) ≡ true)
    × (numbers.seats ≡ value_of (field row 2)) × (numbers.authorised ≡ value_of (authorised_field version row))
    × (numbers.cuts.items ≡ threshold_numbers version row)
LegFiguresIn version row (Ok None) =
    (are_whole (number_fields version 0 leg_kind row) ≡ true) × (list_all is_within (number_fields version 0 leg_kind row) ≡ false)
LegFiguresIn version row (Err (fault.Refused cause)) = (are_whole (number_fields version 0 leg_kind row) ≡ false) × (cause ≡ why.Number)
LegFiguresIn version row (Err fault.NoMemory) = ⊤

-- a first row has no fourth field, or one that says 2, and this is the file's version; or it says another number, or none
abbrev pub VersionIn : Row → Result (Option ℕ) Why → Type 0
VersionIn row (Ok (Some version)) =
    (are_whole (bounded 2 2 (further row)) ≡ true) × (list_all is_within (bounded 2 2 (further row)) ≡ true)
    × (version ≡ version_in (row ∷ []))
VersionIn row (Ok None) = (are_whole (bounded 2 2 (further row)) ≡ true) × (list_all is_within (bounded 2 2 (further row)) ≡ false)
VersionIn row (Err cause) = (are_whole (bounded 2 2 (further row)) ≡ false) × (cause ≡ why.Number)

-- the fields from the fourth on write these seats, or one writes a number above the most demand, or one writes none
abbrev pub SeatsIn : Row → List ℕ → Result Bool Why → Type 0
SeatsIn row seats (Ok true) =
    (are_whole (bounded 0 MOST_DEMAND (further row)) ≡ true) × (list_all is_within (bounded 0 MOST_DEMAND (further row)) ≡ true)
    × (seats ≡ further_numbers row)
SeatsIn row seats (Ok false) =
    (are_whole (bounded 0 MOST_DEMAND (further row)) ≡ true) × (list_all is_within (bounded 0 MOST_DEMAND (further row)) ≡ false)
SeatsIn row seats (Err cause) = (are_whole (bounded 0 MOST_DEMAND (further row)) ≡ false) × (cause ≡ why.Number)
