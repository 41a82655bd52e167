-- What the checks say of a row that none of them refuses.
use Rattle.std.proofs.Common.{ℕ, ◌≡◌, ◌∙◌, ◌⊎◌, ◌+◌, ◌<◌, ◌≤◌, Bool, true, false, not, ◌&&◌, ◌==◌, List, [], ◌∷◌, length, map, sum, bytes_eq}
use Rattle.std.proofs.Common.{codes, refl, sym, ap, subst, arith, inl, inr, nat_le, None}
use Rattle.std.specs.Int.{is_in_range}
use Rattle.std.specs.List.{list_all}
use Rattle.std.proofs.lemmas.Bool.{cases_Bool, and_parts, and_from, or_parts, not-false, leb-true, leb-false, le-leb, ltb-false, eqb-true}
use Rattle.std.proofs.lemmas.List.{length-map, length-drop}
use Rattle.std.proofs.lemmas.List.Folds.{list_all-map}
use Rattle.std.proofs.lemmas.Slice.Eq.{bytes_eq-Decides}
use Rattle.nrm_text.specs.Names.{is_name}
use Rattle.nrm_text.specs.Numbers.{value_of}
use Rattle.nrm_model.specs.Limits.{falls, differ}
use Rattle.nrm_model.proofs.Fits.{leg_fits}
use Rattle.nrm_network.specs.Rows.{Row, authorised_field, field, begins, kind_of, leg_rows, product_rows, refund_rows, version_in, periods_in, is_named}
use Rattle.nrm_network.specs.Rows.{further, further_numbers, thresholds, threshold_numbers}
use Rattle.nrm_network.specs.Checks.{why_refused, is_within, no_such_kind, is_periods}
use Rattle.nrm_network.specs.File.{leg_in}
use Rattle.nrm_network.specs.Inner.Entries.{kind_by}
use Rattle.nrm_network.proofs.ChecksByName.{PassesAs, passes}

pub word-is : (word : List ℕ) (row : Row) → begins word row ≡ true → field row 0 ≡ word
word-is word row e = (bytes_eq-Decides (field row 0) word).0 e

pub begins-as : (word other : List ℕ) (row : Row) → field row 0 ≡ word → begins other row ≡ bytes_eq word other
begins-as word other row first = ap (λ (f : List ℕ). bytes_eq f other) first

checked : (before : List Row) (row : Row) (word : List ℕ) → field row 0 ≡ word → why_refused before row ≡ None
    → PassesAs before row (kind_by word)
checked before row word first taken = subst (λ (f : List ℕ). PassesAs before row (kind_by f)) first (passes before row taken)

-- the numbers of some fields are within the bounds
pub fields-within : (low high : ℕ) (fields : List (List ℕ)) → list_all is_within (map (λ text. (text, low, high)) fields) ≡ true
    → list_all (is_in_range low high) (map value_of fields) ≡ true
fields-within low high fields within =
    list_all-map (is_in_range low high) value_of fields ∙ sym (list_all-map is_within (λ text. (text, low, high)) fields) ∙ within

-- a first row gives 1 to 32 histories and 1 to 16 periods
pub record FirstChecked (row : Row) : Type 0 where
  pub histories : (1 ≤ value_of (field row 1)) × (value_of (field row 1) ≤ 32)
  pub periods : (1 ≤ value_of (field row 2)) × (value_of (field row 2) ≤ 16)
  pub word : field row 0 ≡ codes "periods"

pub in-range : (low high n : ℕ) → is_in_range low high n ≡ true → (low ≤ n) × (n ≤ high)
in-range low high n within = let (above, below) = and_parts (nat_le low n) (nat_le n high) within in
    (leb-true low n above, leb-true n high below)

periods-checked : (row : Row) → field row 0 ≡ codes "periods" → why_refused [] row ≡ None → FirstChecked row
periods-checked row first taken =
    let p = checked [] row (codes "periods") first taken in
    let version : Bool = list_all is_within (map (λ text. (text, 2, 2)) (further row)) in
    let (histories, more) = and_parts (is_within (field row 1, 1, 32)) (is_within (field row 2, 1, 16) && version) p.range in
    let (periods, end) = and_parts (is_within (field row 2, 1, 16)) version more in
    record {
      histories = in-range 1 32 (value_of (field row 1)) histories;
      periods = in-range 1 16 (value_of (field row 2)) periods;
      word =
          first;
    }

-- a leg that no check refuses fits
pub record LegChecked (before : List Row) (row : Row) : Type 0 where
  pub few : length (leg_rows before) < 64
  pub fits : leg_fits (leg_in (version_in before) row) ≡ true
  pub fresh : is_named (leg_rows before) (field row 1) ≡ false

pub leg-checked : (before : List Row) (row : Row) → field row 0 ≡ codes "leg" → why_refused before row ≡ None → LegChecked before row
leg-checked before row first taken =
    let p = checked before row (codes "leg") first taken in
    let (name, end) = and_parts (is_name (field row 1)) true p.names in
    let version : ℕ = version_in before in
    let (low, high) = in-range (2 + version) (2 + version + 9) (length row)
    (not-false (is_in_range (2 + version) (2 + version + 9) (length row)) p.count) in
    let cuts_within : Bool = list_all is_within (map (λ cut. (cut, 1, 99999999)) (thresholds version row)) in
    let (seats_within, more) = and_parts (is_within (field row 2, 0, 999))
    (is_within (authorised_field version row, 0, 999) && cuts_within) p.range in
    let (authorised_within, each_cut) = and_parts (is_within (authorised_field version row, 0, 999)) cuts_within more in
    let (none, seats) = in-range 0 999 (value_of (field row 2)) seats_within in
    let (no_fewer, authorised) = in-range 0 999 (value_of (authorised_field version row)) authorised_within in
    let cuts : List ℕ = threshold_numbers version row in
    let count : length cuts ≤ 9 = omega (arith, length-map (thresholds version row) value_of, length-drop (2 + version) row) in
    let named : Bool = is_name (field row 1) in
    let few_seats : Bool = nat_le (value_of (field row 2)) 999 in
    let few_authorised : Bool = nat_le (value_of (authorised_field version row)) 999 in
    record {
      few = leb-false 64 (length (leg_rows before)) p.few;
      fits = and_from (named && few_seats && few_authorised && nat_le (length cuts) 9 && list_all (is_in_range 1 99999999) cuts) (falls cuts)
          (and_from (named && few_seats && few_authorised && nat_le (length cuts) 9) (list_all (is_in_range 1 99999999) cuts)
          (and_from (named && few_seats && few_authorised) (nat_le (length cuts) 9)
          (and_from (named && few_seats) few_authorised
          (and_from named few_seats name (le-leb (value_of (field row 2)) 999 seats))
          (le-leb (value_of (authorised_field version row)) 999 authorised))
          (le-leb (length cuts) 9 count))
          (fields-within 1 99999999 (thresholds version row) each_cut))
          (not-false (falls cuts) p.falling);
      fresh = p.once;
    }

-- a product that no check refuses
pub record ProductFits (row : Row) : Type 0 where
  pub name : is_name (field row 1) ≡ true
  pub fare : (1 ≤ value_of (field row 2)) × (value_of (field row 2) ≤ 99999999)
  pub count : (1 ≤ length (further row)) × (length (further row) ≤ 4)
  pub apart : differ bytes_eq (further row) ≡ true

pub record ProductChecked (before : List Row) (row : Row) : Type 0 where
  pub few : length (product_rows before) < 256
  pub fits : ProductFits row
  pub there : list_all (is_named (leg_rows before)) (further row) ≡ true
  pub fresh : is_named (product_rows before) (field row 1) ≡ false

pub product-checked : (before : List Row) (row : Row) → field row 0 ≡ codes "product" → why_refused before row ≡ None
    → ProductChecked before row
product-checked before row first taken =
    let p = checked before row (codes "product") first taken in
    let (name, end) = and_parts (is_name (field row 1)) (list_all is_name (further row)) p.names in
    let (low, high) = in-range 4 7 (length row) (not-false (is_in_range 4 7 (length row)) p.count) in
    let (fare, fare_end) = and_parts (is_within (field row 2, 1, 99999999)) true p.range in
    let (fresh, apart) = or_parts (is_named (product_rows before) (field row 1)) (not (differ bytes_eq (further row))) p.once in
    record {
      few = leb-false 256 (length (product_rows before)) p.few;
      fits = record {
        name = name;
        fare = in-range 1 99999999 (value_of (field row 2)) fare;
        count = (omega (arith, length-drop 3 row), omega (arith, length-drop 3 row));
        apart = not-false (differ bytes_eq (further row)) apart;
      };
      there = not-false (list_all (is_named (leg_rows before)) (further row)) p.there;
      fresh = fresh;
    }

-- a demand that no check refuses: a number for each period, which add up to 999 at most
pub demand-checked : (before : List Row) (row : Row) → field row 0 ≡ codes "demand" → why_refused before row ≡ None
    → (length (further row) ≡ periods_in before) × (sum (further_numbers row) ≤ 999)
demand-checked before row first taken =
    let p = checked before row (codes "demand") first taken in
    let count : length row ≡ 3 + periods_in before =
    eqb-true (length row) (3 + periods_in before) (not-false (length row == 3 + periods_in before) p.count) in
    (omega (arith, count, length-drop 3 row), ltb-false 999 (sum (further_numbers row)) p.total)

-- a refund that no check refuses: of a product that is there, and of no other's, 100 at most
pub record RefundChecked (before : List Row) (row : Row) : Type 0 where
  pub small : value_of (field row 2) ≤ 100
  pub there : is_named (product_rows before) (field row 1) ≡ true
  pub fresh : is_named (refund_rows before) (field row 1) ≡ false

pub refund-checked : (before : List Row) (row : Row) → field row 0 ≡ codes "refund" → why_refused before row ≡ None
    → RefundChecked before row
refund-checked before row first taken =
    let p = checked before row (codes "refund") first taken in
    let (percentage, end) = and_parts (is_within (field row 2, 0, 100)) true p.range in
    record {
      small = (in-range 0 100 (value_of (field row 2)) percentage).1;
      there = not-false (is_named (product_rows before) (field row 1)) p.there;
      fresh = p.once;
    }

-- the kind of a row that doesn't begin with `periods` is another
not-periods : (row : Row) → begins (codes "periods") row ≡ false → is_periods (kind_of row) ≡ false
not-periods row other = elim (cases_Bool (begins (codes "leg") row)) [
  | inl e ↦ rw (other, e) refl
  | inr e ↦ elim (cases_Bool (begins (codes "product") row)) [
    | inl f ↦ rw (other, e, f) refl
    | inr f ↦ elim (cases_Bool (begins (codes "demand") row)) [
      | inl g ↦ rw (other, e, f, g) refl
      | inr g ↦ elim (cases_Bool (begins (codes "refund") row)) [
        | inl h ↦ rw (other, e, f, g, h) refl
        | inr h ↦ rw (other, e, f, g, h) refl
      ]
    ]
  ]
]

-- the first row is of periods
pub first-checked : (row : Row) → why_refused [] row ≡ None → FirstChecked row
first-checked row taken = elim (cases_Bool (begins (codes "periods") row)) [
  | inl e ↦ periods-checked row (word-is (codes "periods") row e) taken
  | inr e ↦
      let order : not (is_periods (kind_of row)) ≡ false = (passes [] row taken).order in
      let is = not-false (is_periods (kind_of row)) order in
      let no = not-periods row e in
      cc
]

-- and a later row is a leg, a product, a demand or a refund
pub later-kinds : (first row : Row) (more : List Row) → why_refused (first ∷ more) row ≡ None
    → (field row 0 ≡ codes "leg") ⊎ ((field row 0 ≡ codes "product") ⊎ ((field row 0 ≡ codes "demand") ⊎ (field row 0 ≡ codes "refund")))
later-kinds first row more taken =
    let p = passes (first ∷ more) row taken in
    let known : no_such_kind (version_in (first ∷ more)) (kind_of row) ≡ false = p.known in
    let later : is_periods (kind_of row) ≡ false = p.order in
    elim (cases_Bool (begins (codes "periods") row)) [
      | inl d ↦ let no : true ≡ false = rw d at later in cc
      | inr d ↦ elim (cases_Bool (begins (codes "leg") row)) [
        | inl e ↦ inl (word-is (codes "leg") row e)
        | inr e ↦ elim (cases_Bool (begins (codes "product") row)) [
          | inl f ↦ inr (inl (word-is (codes "product") row f))
          | inr f ↦ elim (cases_Bool (begins (codes "demand") row)) [
            | inl g ↦ inr (inr (inl (word-is (codes "demand") row g)))
            | inr g ↦ elim (cases_Bool (begins (codes "refund") row)) [
              | inl h ↦ inr (inr (inr (word-is (codes "refund") row h)))
              | inr h ↦ let no : true ≡ false = rw (d, e, f, g, h) at known in cc
            ]
          ]
        ]
      ]
    ]
