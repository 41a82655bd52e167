-- What a row's shape says of each kind, and what the checks after it decide.
use Rattle.std.proofs.Common.{ℕ, ◌≡◌, ◌∙◌, ◌+◌, ◌≤◌, Bool, true, false, not, ◌==◌, List, [], ◌∷◌, length, map, sum, bytes_eq, codes, refl}
use Rattle.std.proofs.Common.{sym, ap, subst, arith, inl, inr, nat_lt, Option, Some, None, All}
use Rattle.std.specs.Prelude.{⊤, find, option_map}
use Rattle.std.specs.Int.{is_in_range}
use Rattle.std.specs.List.{list_all, list_any}
use Rattle.std.proofs.lemmas.Bool.{cases_Bool, and_parts, not-false, eqb-true}
use Rattle.std.proofs.lemmas.List.{length-drop}
use Rattle.std.proofs.lemmas.List.Sums.{AllPass-from_list_all}
use Rattle.nrm_text.specs.Names.{is_name}
use Rattle.nrm_text.specs.Numbers.{is_whole, value_of}
use Rattle.nrm_model.specs.Limits.{falls, differ}
use Rattle.nrm_network.specs.Rows.{Row, Kind, periods_kind, leg_kind, product_kind, demand_kind, refund_kind, no_kind, field, begins, kind_of}
use Rattle.nrm_network.specs.Rows.{leg_rows, product_rows, demand_rows, refund_rows, version_in, histories_in, periods_in, is_named}
use Rattle.nrm_network.specs.Rows.{further, further_numbers, threshold_numbers, gives_demand}
use Rattle.nrm_network.specs.Checks.{NumberField, why_refused, is_within, no_such_kind, out_of_order, miscounted, too_many, name_fields}
use Rattle.nrm_network.specs.Checks.{number_fields, given_twice, missing, unordered, too_much}
use Rattle.nrm_network.specs.Inner.Entries.{HasShape}
use Rattle.nrm_network.specs.declared.fault.Why.{Why}
use Rattle.nrm_network.specs.declared.fault.Why.TheVariants as why
use Rattle.nrm_network.proofs.CheckedRows.{word-is, in-range, fields-within}
use Rattle.nrm_network.proofs.RowFields.{whole_fields}

-- the word that a kind's rows begin with
abbrev HasWord : Kind → List (List ℕ) → Type 0
HasWord periods_kind row = field row 0 ≡ codes "periods"
HasWord leg_kind row = field row 0 ≡ codes "leg"
HasWord product_kind row = field row 0 ≡ codes "product"
HasWord demand_kind row = field row 0 ≡ codes "demand"
HasWord refund_kind row = field row 0 ≡ codes "refund"
HasWord no_kind row = ⊤

has-word : (row : Row) → HasWord (kind_of row) row
has-word row = elim (cases_Bool (begins (codes "periods") row)) [
  | inl d ↦ rw d (word-is (codes "periods") row d)
  | inr d ↦ elim (cases_Bool (begins (codes "leg") row)) [
    | inl e ↦ rw (d, e) (word-is (codes "leg") row e)
    | inr e ↦ elim (cases_Bool (begins (codes "product") row)) [
      | inl f ↦ rw (d, e, f) (word-is (codes "product") row f)
      | inr f ↦ elim (cases_Bool (begins (codes "demand") row)) [
        | inl g ↦ rw (d, e, f, g) (word-is (codes "demand") row g)
        | inr g ↦ elim (cases_Bool (begins (codes "refund") row)) [
          | inl h ↦ rw (d, e, f, g, h) (word-is (codes "refund") row h)
          | inr h ↦ rw (d, e, f, g, h) tt
        ]
      ]
    ]
  ]
]

pub word-of : (before : List Row) (row : Row) (kind : Kind) → HasShape before row kind → HasWord kind row
word-of before row kind shape = subst (λ (k : Kind). HasWord k row) shape.is_kind (has-word row)

-- the checks after the shape
abbrev late : List Row → Row → Kind → List (Bool × Why)
late before row kind =
    (given_twice before kind row, why.Twice)
    ∷ (missing before kind row, why.Missing)
    ∷ (unordered (version_in before) kind row, why.Thresholds)
    ∷ (too_much kind row, why.Sum)
    ∷ []

abbrev first_of : List (Bool × Why) → Option Why
first_of list = option_map (λ (check : Bool × Why). check.1) (find (λ (check : Bool × Why). check.0) list)

-- all the checks at a kind
abbrev checks_as : List Row → Row → Kind → List (Bool × Why)
checks_as before row kind =
    (no_such_kind (version_in before) kind, why.Kind)
    ∷ (out_of_order before kind, why.Order)
    ∷ (miscounted (version_in before) (periods_in before) kind (length row), why.Fields)
    ∷ (too_many before kind, why.Many)
    ∷ (not (list_all is_name (name_fields kind row)), why.Name)
    ∷ (not (list_all (λ (number : NumberField). is_whole number.0) (number_fields (version_in before) (histories_in before) kind row)), why.Number)
    ∷ (not (list_all is_within (number_fields (version_in before) (histories_in before) kind row)), why.Range)
    ∷ late before row kind

passed : (a b c d : Bool) (n w r : Bool) (p q s t u x y : Why) (rest : List (Bool × Why)) → a ≡ false → b ≡ false → c ≡ false → d ≡ false
    → n ≡ true → w ≡ true → r ≡ true
    → first_of ((a, p) ∷ (b, q) ∷ (c, s) ∷ (d, t) ∷ (not n, u) ∷ (not w, x) ∷ (not r, y) ∷ rest) ≡ first_of rest
passed a b c d n w r p q s t u x y rest e1 e2 e3 e4 e5 e6 e7 = rw (e1, e2, e3, e4, e5, e6, e7) refl

refused-late : (before : List Row) (row : Row) (kind : Kind) → HasShape before row kind
    → why_refused before row ≡ first_of (late before row kind)
refused-late before row kind shape =
    ap (λ (k : Kind). first_of (checks_as before row k)) shape.is_kind
    ∙ passed (no_such_kind (version_in before) kind) (out_of_order before kind)
    (miscounted (version_in before) (periods_in before) kind (length row)) (too_many before kind)
    (list_all is_name (name_fields kind row))
    (list_all (λ (number : NumberField). is_whole number.0) (number_fields (version_in before) (histories_in before) kind row))
    (list_all is_within (number_fields (version_in before) (histories_in before) kind row))
    why.Kind why.Order why.Fields why.Many why.Name why.Number why.Range
    (late before row kind) shape.known shape.order shape.count shape.few shape.names shape.numbers shape.range

-- a first row is taken
pub periods-free : (before : List Row) (row : Row) → HasShape before row periods_kind → why_refused before row ≡ None
periods-free before row shape = refused-late before row periods_kind shape

-- a leg
pub leg-twice : (before : List Row) (row : Row) → HasShape before row leg_kind → is_named (leg_rows before) (field row 1) ≡ true
    → why_refused before row ≡ Some why.Twice
leg-twice before row shape e = refused-late before row leg_kind shape ∙ rw e refl

pub leg-unordered : (before : List Row) (row : Row) → HasShape before row leg_kind → is_named (leg_rows before) (field row 1) ≡ false
    → falls (threshold_numbers (version_in before) row) ≡ false → why_refused before row ≡ Some why.Thresholds
leg-unordered before row shape e f = refused-late before row leg_kind shape ∙ rw (e, f) refl

pub leg-free : (before : List Row) (row : Row) → HasShape before row leg_kind → is_named (leg_rows before) (field row 1) ≡ false
    → falls (threshold_numbers (version_in before) row) ≡ true → why_refused before row ≡ None
leg-free before row shape e f = refused-late before row leg_kind shape ∙ rw (e, f) refl

-- a product
pub product-twice : (before : List Row) (row : Row) → HasShape before row product_kind → is_named (product_rows before) (field row 1) ≡ true
    → why_refused before row ≡ Some why.Twice
product-twice before row shape e = refused-late before row product_kind shape ∙ rw e refl

pub product-repeats : (before : List Row) (row : Row) → HasShape before row product_kind
    → is_named (product_rows before) (field row 1) ≡ false → differ bytes_eq (further row) ≡ false → why_refused before row ≡ Some why.Twice
product-repeats before row shape e f = refused-late before row product_kind shape ∙ rw (e, f) refl

pub product-missing : (before : List Row) (row : Row) → HasShape before row product_kind
    → is_named (product_rows before) (field row 1) ≡ false → differ bytes_eq (further row) ≡ true
    → list_all (is_named (leg_rows before)) (further row) ≡ false
    → why_refused before row ≡ Some why.Missing
product-missing before row shape e f g = refused-late before row product_kind shape ∙ rw (e, f, g) refl

pub product-free : (before : List Row) (row : Row) → HasShape before row product_kind → is_named (product_rows before) (field row 1) ≡ false
    → differ bytes_eq (further row) ≡ true → list_all (is_named (leg_rows before)) (further row) ≡ true
    → why_refused before row ≡ None
product-free before row shape e f g = refused-late before row product_kind shape ∙ rw (e, f, g) refl

-- a demand
pub demand-twice : (before : List Row) (row : Row) → HasShape before row demand_kind
    → list_any (gives_demand (field row 1) (value_of (field row 2))) (demand_rows before) ≡ true → why_refused before row ≡ Some why.Twice
demand-twice before row shape e = refused-late before row demand_kind shape ∙ rw e refl

pub demand-missing : (before : List Row) (row : Row) → HasShape before row demand_kind
    → list_any (gives_demand (field row 1) (value_of (field row 2))) (demand_rows before) ≡ false
    → is_named (product_rows before) (field row 1) ≡ false
    → why_refused before row ≡ Some why.Missing
demand-missing before row shape e f = refused-late before row demand_kind shape ∙ rw (e, f) refl

pub demand-over : (before : List Row) (row : Row) → HasShape before row demand_kind
    → list_any (gives_demand (field row 1) (value_of (field row 2))) (demand_rows before) ≡ false
    → is_named (product_rows before) (field row 1) ≡ true
    → nat_lt 999 (sum (further_numbers row)) ≡ true → why_refused before row ≡ Some why.Sum
demand-over before row shape e f g = refused-late before row demand_kind shape ∙ rw (e, f, g) refl

pub demand-free : (before : List Row) (row : Row) → HasShape before row demand_kind
    → list_any (gives_demand (field row 1) (value_of (field row 2))) (demand_rows before) ≡ false
    → is_named (product_rows before) (field row 1) ≡ true
    → nat_lt 999 (sum (further_numbers row)) ≡ false → why_refused before row ≡ None
demand-free before row shape e f g = refused-late before row demand_kind shape ∙ rw (e, f, g) refl

-- a refund
pub refund-twice : (before : List Row) (row : Row) → HasShape before row refund_kind → is_named (refund_rows before) (field row 1) ≡ true
    → why_refused before row ≡ Some why.Twice
refund-twice before row shape e = refused-late before row refund_kind shape ∙ rw e refl

pub refund-missing : (before : List Row) (row : Row) → HasShape before row refund_kind → is_named (refund_rows before) (field row 1) ≡ false
    → is_named (product_rows before) (field row 1) ≡ false → why_refused before row ≡ Some why.Missing
refund-missing before row shape e f = refused-late before row refund_kind shape ∙ rw (e, f) refl

pub refund-free : (before : List Row) (row : Row) → HasShape before row refund_kind → is_named (refund_rows before) (field row 1) ≡ false
    → is_named (product_rows before) (field row 1) ≡ true → why_refused before row ≡ None
refund-free before row shape e f = refused-late before row refund_kind shape ∙ rw (e, f) refl

-- a number within bounds
pub record Number (text : List ℕ) (least greatest : ℕ) : Type 0 where
  pub whole : is_whole text ≡ true
  pub above : least ≤ value_of text
  pub below : value_of text ≤ greatest

number : (text : List ℕ) (least greatest : ℕ) → is_whole text ≡ true → is_within (text, least, greatest) ≡ true → Number text least greatest
number text least greatest whole within = let (above, below) = in-range least greatest (value_of text) within in
    record { whole = whole; above = above; below = below }

-- the fields from the fourth on, numbers up to a greatest
pub record Further (row : Row) (greatest : ℕ) : Type 0 where
  pub whole : list_all is_whole (further row) ≡ true
  pub small : All (λ n. n ≤ greatest) (further_numbers row)

further-small : (row : Row) (least greatest : ℕ)
    → list_all (λ (number : NumberField). is_whole number.0) (map (λ text. (text, least, greatest)) (further row)) ≡ true
    → list_all is_within (map (λ text. (text, least, greatest)) (further row)) ≡ true → Further row greatest
further-small row least greatest whole within = record {
  whole = sym (whole_fields least greatest (further row)) ∙ whole;
  small = λ k d short. (in-range least greatest _
      (AllPass-from_list_all (is_in_range least greatest) (further_numbers row) (fields-within least greatest (further row) within) k d short)).1;
}

pub record DemandShape (histories periods : ℕ) (row : Row) : Type 0 where
  pub name : is_name (field row 1) ≡ true
  pub history : Number (field row 2) 1 histories
  pub seats : Further row 999
  pub count : length (further row) ≡ periods

pub demand-shape : (before : List Row) (row : Row) → HasShape before row demand_kind
    → DemandShape (histories_in before) (periods_in before) row
demand-shape before row shape =
    let (name, end) = and_parts (is_name (field row 1)) true shape.names in
    let (whole, whole_seats) = and_parts (is_whole (field row 2))
    (list_all (λ (number : NumberField). is_whole number.0) (map (λ demand. (demand, 0, 999)) (further row))) shape.numbers in
    let (range, range_seats) = and_parts (is_within (field row 2, 1, histories_in before))
    (list_all is_within (map (λ demand. (demand, 0, 999)) (further row))) shape.range in
    let count : length row ≡ 3 + periods_in before =
    eqb-true (length row) (3 + periods_in before) (not-false (length row == 3 + periods_in before) shape.count) in
    record {
      name = name;
      history = number (field row 2) 1 (histories_in before) whole range;
      seats = further-small row 0 999 whole_seats range_seats;
      count = omega (arith, count, length-drop 3 row);
    }
