-- The eleven checks of a row by their names, both ways: a row that passes them is refused by none, and the other way round.
use Rattle.std.proofs.Common.{◌≡◌, Bool, true, false, List, [], ◌∷◌, length, refl, inl, inr, Some, None}
use Rattle.std.specs.Prelude.{⊤, find, option_map}
use Rattle.std.specs.List.{list_all}
use Rattle.std.proofs.lemmas.Bool.{cases_Bool, not-false, not_from_true}
use Rattle.nrm_text.specs.Names.{is_name}
use Rattle.nrm_text.specs.Numbers.{is_whole}
use Rattle.nrm_network.specs.Rows.{Row, Kind, kind_of, version_in, histories_in, periods_in}
use Rattle.nrm_network.specs.Checks.{NumberField, checks, why_refused, is_within, no_such_kind, out_of_order, miscounted, too_many}
use Rattle.nrm_network.specs.Checks.{name_fields, number_fields, given_twice, missing, unordered, too_much}
use Rattle.nrm_network.specs.declared.fault.Why.{Why}

-- a row passes the checks of a kind
pub record PassesAs (before : List Row) (row : Row) (kind : Kind) : Type 0 where
  pub known : no_such_kind (version_in before) kind ≡ false
  pub order : out_of_order before kind ≡ false
  pub count : miscounted (version_in before) (periods_in before) kind (length row) ≡ false
  pub few : too_many before kind ≡ false
  pub names : list_all is_name (name_fields kind row) ≡ true
  pub numbers : list_all (λ (number : NumberField). is_whole number.0) (number_fields (version_in before) (histories_in before) kind row) ≡ true
  pub range : list_all is_within (number_fields (version_in before) (histories_in before) kind row) ≡ true
  pub once : given_twice before kind row ≡ false
  pub there : missing before kind row ≡ false
  pub falling : unordered (version_in before) kind row ≡ false
  pub total : too_much kind row ≡ false

-- checks of which none holds give no cause
abbrev NoneHolds : List (Bool × Why) → Type 0
NoneHolds [] = ⊤
NoneHolds (check ∷ more) = (check.0 ≡ false) × NoneHolds more

no-cause : (list : List (Bool × Why)) → NoneHolds list
    → option_map (λ (check : Bool × Why). check.1) (find (λ (check : Bool × Why). check.0) list) ≡ None
no-cause [] none = refl
no-cause (check ∷ more) none = let first = none.0 in rw first (no-cause more none.1)

none-holds : (list : List (Bool × Why)) → option_map (λ (check : Bool × Why). check.1) (find (λ (check : Bool × Why). check.0) list) ≡ None
    → NoneHolds list
none-holds [] none = tt
none-holds (check ∷ more) none =
    elim (cases_Bool check.0) [
      | inl e ↦ let some : Some check.1 ≡ None = rw e at none in cc
      | inr e ↦ (e, none-holds more (rw e at none))
    ]

pub not-refused : (before : List Row) (row : Row) → PassesAs before row (kind_of row) → why_refused before row ≡ None
not-refused before row p =
    let names = not_from_true (list_all is_name (name_fields (kind_of row) row)) p.names in
    let numbers = not_from_true (list_all (λ (number : NumberField). is_whole number.0)
    (number_fields (version_in before) (histories_in before) (kind_of row) row)) p.numbers in
    let range = not_from_true (list_all is_within (number_fields (version_in before) (histories_in before) (kind_of row) row)) p.range in
    no-cause (checks before row) (
      p.known,
      (p.order, (p.count, (p.few, (names, (numbers, (range, (p.once, (p.there, (p.falling, (p.total, tt)))))))))),
    )

pub passes : (before : List Row) (row : Row) → why_refused before row ≡ None → PassesAs before row (kind_of row)
passes before row taken =
    let (known, (order, (count, (few, (names, (numbers, (range, (once, (there, (falling, (total, end))))))))))) =
    none-holds (checks before row) taken in
    record {
      known = known;
      order = order;
      count = count;
      few = few;
      names = not-false (list_all is_name (name_fields (kind_of row) row)) names;
      numbers = not-false (list_all (λ (number : NumberField). is_whole number.0) (number_fields (version_in before) (histories_in before) (kind_of row) row))
          numbers;
      range = not-false (list_all is_within (number_fields (version_in before) (histories_in before) (kind_of row) row)) range;
      once = once;
      there = there;
      falling = falling;
      total = total;
    }
