-- A row as the code reads it, and what the checks before the look-ups say of it.
use Rattle.std.specs.Prelude.{ℕ, ◌≡◌, ◌==◌, Bool, true, false, if◌then◌else◌, List, [], ◌∷◌, length, bytes_eq, codes}
use Rattle.std.specs.Prelude.{Option, Some, None, Result, Ok, Err}
use Rattle.std.specs.List.{list_all}
use Rattle.nrm_text.specs.Names.{is_name}
use Rattle.nrm_text.specs.Numbers.{is_whole, value_of}
use Rattle.nrm_network.specs.Rows.{Row, Kind, periods_kind, leg_kind, product_kind, demand_kind, refund_kind, no_kind, kind_of, field}
use Rattle.nrm_network.specs.Rows.{further, further_numbers, leg_rows, product_rows, version_in, histories_in, periods_in}
use Rattle.nrm_network.specs.Checks.{NumberField, is_within, no_such_kind, out_of_order, miscounted, too_many, name_fields, number_fields}
use Rattle.nrm_network.specs.Inner.Faults.{Refuses}
use Rattle.nrm_network.specs.File.{leg_in}
use Rattle.nrm_network.specs.declared.fault.RowRefusal.{RowRefusal}
use Rattle.nrm_network.specs.declared.fault.Why.{Why}
use Rattle.nrm_network.specs.declared.fault.Why.TheVariants as why
use Rattle.nrm_network.specs.declared.entry.RowKind.{RowKind}
use Rattle.nrm_network.specs.declared.entry.RowKind.TheVariants as seen
use Rattle.nrm_network.specs.declared.entry.Entry.{Entry}
use Rattle.nrm_network.specs.declared.entry.Entry.TheVariants as is
use Rattle.nrm_network.specs.declared.entry.Counts.{Counts}

-- the kind that a value of the code stands for
abbrev pub kind_seen : RowKind → Kind
kind_seen seen.Periods = periods_kind
kind_seen seen.Leg = leg_kind
kind_seen seen.Product = product_kind
kind_seen seen.Demand = demand_kind
kind_seen seen.Refund = refund_kind
kind_seen seen.Unknown = no_kind

-- the kind of the rows that begin with this word
abbrev pub kind_by : List ℕ → Kind
kind_by word =
    if bytes_eq word (codes "periods") then periods_kind
    else if bytes_eq word (codes "leg") then leg_kind
    else if bytes_eq word (codes "product") then product_kind
    else if bytes_eq word (codes "demand") then demand_kind
    else if bytes_eq word (codes "refund") then refund_kind
    else no_kind

-- a row of this kind passes the checks that need no look-up
pub record HasShape (before : List Row) (row : Row) (kind : Kind) : Type 0 where
  pub is_kind : kind_of row ≡ kind
  pub known : no_such_kind (version_in before) kind ≡ false
  pub order : out_of_order before kind ≡ false
  pub count : miscounted (version_in before) (periods_in before) kind (length row) ≡ false
  pub few : too_many before kind ≡ false
  pub names : list_all is_name (name_fields kind row) ≡ true
  pub numbers : list_all (λ (number : NumberField). is_whole number.0) (number_fields (version_in before) (histories_in before) kind row) ≡ true
  pub range : list_all is_within (number_fields (version_in before) (histories_in before) kind row) ≡ true

-- the counts are those of the rows before
pub record Counted (counts : Counts) (before : List Row) : Type 0 where
  pub first : (counts.histories == 0) ≡ (length before == 0)
  pub version : counts.version ≡ version_in before
  pub histories : counts.histories ≡ histories_in before
  pub periods : counts.periods ≡ periods_in before
  pub legs : counts.legs ≡ length (leg_rows before)
  pub products : counts.products ≡ length (product_rows before)

-- the first of these three checks that refuses a row
abbrev pub first_refusal : Bool → Bool → Bool → Option Why
first_refusal unordered miscounted crowded =
    if unordered then Some why.Order else if miscounted then Some why.Fields else if crowded then Some why.Many else None

-- the kind of the rows that say this
abbrev pub kind_said : Entry → Kind
kind_said (is.Periods version histories periods) = periods_kind
kind_said (is.Leg leg) = leg_kind
kind_said (is.Product product) = product_kind
kind_said (is.Demand demand) = demand_kind
kind_said (is.Refund refund) = refund_kind

-- the fields of a row say this, in a file of this version
abbrev pub Says : ℕ → Entry → Row → Type 0
Says before (is.Periods version histories periods) row =
    (version ≡ version_in (row ∷ [])) × (histories ≡ value_of (field row 1)) × (periods ≡ value_of (field row 2))
Says version (is.Leg leg) row = leg ≡ leg_in version row
Says version (is.Product product) row =
    (product.name ≡ field row 1) × (product.fare ≡ value_of (field row 2)) × (product.legs.items ≡ further row)
Says version (is.Demand demand) row =
    (demand.product ≡ field row 1) × (demand.history ≡ value_of (field row 2)) × (demand.seats.now ≡ further_numbers row)
Says version (is.Refund refund) row = (refund.product ≡ field row 1) × (refund.percentage ≡ value_of (field row 2))

-- a row passes the checks that need no look-up, and says this
pub record IsRead (before : List Row) (row : Row) (entry : Entry) : Type 0 where
  pub shape : HasShape before row (kind_said entry)
  pub says : Says (version_in before) entry row

-- what reading a row after those before it gives
abbrev pub Reads : List Row → Row → Result Entry RowRefusal → Type 0
Reads before row (Ok entry) = IsRead before row entry
Reads before row (Err fault) = Refuses before row fault

-- whatever rows the counts are of
abbrev pub ReadsRow : Counts → Row → Result Entry RowRefusal → Type 0
ReadsRow counts row result = (before : List Row) → Counted counts before → Reads before row result

-- and where the row is of this kind
abbrev pub ReadsAs : Kind → Counts → Row → Result Entry RowRefusal → Type 0
ReadsAs kind counts row result = kind_of row ≡ kind → ReadsRow counts row result
